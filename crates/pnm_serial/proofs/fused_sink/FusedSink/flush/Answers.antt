use Rattle.pnm_serial.proofs.Words.{arith, rules, common_steps}
use Rattle.pnm_serial.proofs.fused_sink.FusedSink.flush.Goals as goal

pub returns-clause-written : goal.returns-clause-written
returns-clause-written g c = search rules

pub returns-clause-output : goal.returns-clause-output
returns-clause-output g c = grind (arith, common_steps)
