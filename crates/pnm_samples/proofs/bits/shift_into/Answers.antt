use Rattle.pnm_samples.proofs.Words.{arith}
use Rattle.pnm_samples.proofs.PixelLaws.{shift_step}
use Rattle.pnm_samples.proofs.bits.shift_into.Goals as goal

pub loop-i-preserved : goal.loop-i-preserved
loop-i-preserved c = shift_step c.loop-i.buffer c.args.part.now c.loop-i.i c.args.skipped c.window.result (omega arith) (omega arith) c.requires.skipped
    c.loop-i.invariant c.window.ensures
