use Rattle.pnm_serial.proofs.ReadAgain.{encoding_spells}
use Rattle.pnm_serial.proofs.laws.written_is_read_again.Goals as goal

pub returns : goal.returns
returns c = encoding_spells
