use Rattle.pnm_write.proofs.FormLaws.{stream_fault}
use Rattle.pnm_write.proofs.laws.refused_streams_are_of_images.Goals as goal

pub returns : goal.returns
returns c = stream_fault
