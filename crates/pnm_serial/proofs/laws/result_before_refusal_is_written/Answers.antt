use Rattle.pnm_serial.proofs.RefusalExample.{result_is_written}
use Rattle.pnm_serial.proofs.laws.result_before_refusal_is_written.Goals as goal

pub returns : goal.returns
returns c = result_is_written
