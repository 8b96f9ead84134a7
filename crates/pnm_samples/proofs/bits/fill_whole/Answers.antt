use Rattle.pnm_samples.proofs.Words.{◌∙◌, ap, arith, length, all_pixels}
use Rattle.pnm_samples.proofs.PixelLaws.{aligned_run, shifted_run}
use Rattle.pnm_samples.proofs.bits.fill_whole.Goals as goal

pub returns-then-start-eq0 : goal.returns-then-start-eq0
returns-then-start-eq0 c = ap all_pixels c.copy_from_slice.ensures.after
    ∙ aligned_run c.args.from.now c.args.start (length c.args.buffer.now) _ c.if-start-eq0.true (omega arith)

pub returns-else-start-eq0 : goal.returns-else-start-eq0
returns-else-start-eq0 c = c.shift_into.ensures ∙ shifted_run c.args.from.now c.args.start (length c.args.buffer.now) _ (omega arith)
