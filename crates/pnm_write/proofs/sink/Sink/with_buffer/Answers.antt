use Rattle.pnm_write.proofs.Words.{refl}
use Rattle.pnm_write.proofs.sink.Sink.with_buffer.Goals as goal

pub returns-clause-sound : goal.returns-clause-sound
returns-clause-sound g c = refl
