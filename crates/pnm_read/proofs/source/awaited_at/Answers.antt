use Rattle.pnm_read.proofs.Words.{refl, sym, arith, ◌∙◌}
use Rattle.pnm_read.proofs.AwaitedSteps.{plain_image_ends, raw_image_ends}
use Rattle.pnm_read.proofs.source.awaited_at.Goals as goal

pub returns-then-raster-clause-due : goal.returns-then-raster-clause-due
returns-then-raster-clause-due c = λ _. refl

pub returns-then-raster-clause-row : goal.returns-then-raster-clause-row
returns-then-raster-clause-row c = c.if-raster.true

pub returns-then-is_plain-clause-due : goal.returns-then-is_plain-clause-due
returns-then-is_plain-clause-due c = λ text.
    plain_image_ends c.args.raster text (omega (arith, c.if-raster.false)) (sym c.is_plain.ensures ∙ c.if-is_plain.true)

pub returns-else-is_plain-clause-due : goal.returns-else-is_plain-clause-due
returns-else-is_plain-clause-due c = λ text.
    raw_image_ends c.args.raster text (omega (arith, c.if-raster.false)) (sym c.is_plain.ensures ∙ c.if-is_plain.false)
