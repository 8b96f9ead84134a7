use Rattle.pnm_samples.proofs.PixelLaws.{placed_after_bytes}
use Rattle.pnm_samples.proofs.bits.place_run.Goals as goal

pub returns-then-held-eq0 : goal.returns-then-held-eq0
returns-then-held-eq0 c = placed_after_bytes c.args.buffer.now c.args.from.now c.fill_run.new.buffer c.args.held c.args.start c.args.count c.if-held-eq0.true
    c.requires.buffer c.fill_run.ensures
