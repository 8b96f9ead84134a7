use Rattle.pnm_write.proofs.Words.{refl}
use Rattle.pnm_write.proofs.write_buffer.WriteBuffer.new.Goals as goal

pub returns : goal.returns
returns c = refl
