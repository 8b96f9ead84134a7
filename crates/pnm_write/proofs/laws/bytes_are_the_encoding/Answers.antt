use Rattle.pnm_write.proofs.MessageLaws.{bytes_of_stream}
use Rattle.pnm_write.proofs.laws.bytes_are_the_encoding.Goals as goal

pub returns : goal.returns
returns c = λ form is are. bytes_of_stream form is
