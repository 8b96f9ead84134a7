use Rattle.pnm_write.proofs.Words.{Between}
use Rattle.pnm_write.proofs.MessageLaws.{bytes_of_more}
use Rattle.pnm_write.proofs.laws.messages_add_their_bytes.Goals as goal

pub returns : goal.returns
returns c = λ form. bytes_of_more form Between
