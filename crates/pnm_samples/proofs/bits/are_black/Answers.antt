use Rattle.pnm_samples.proofs.Words.{rules, refl, arith, length-take, all_pixels}
use Rattle.pnm_samples.proofs.PixelLaws.{length-all_pixels}
use Rattle.pnm_samples.proofs.PixelRowLaws.{black_from_looks, not_black}
use Rattle.pnm_samples.proofs.bits.are_black.Goals as goal

pub returns-then-at-bytes : goal.returns-then-at-bytes
returns-then-at-bytes c = (
  λ _. black_from_looks c.args.count c.loop-at.at c.args.bytes.now
      (omega (arith, length-take c.args.count (all_pixels c.args.bytes.now), length-all_pixels c.args.bytes.now)) c.loop-at.invariant,
  λ _. refl,
)

pub returns-then-pixel_of-gt0 : goal.returns-then-pixel_of-gt0
returns-then-pixel_of-gt0 c = (
  λ e. search rules,
  λ all. absurd (not_black c.args.count c.loop-at.at c.args.bytes.now (omega arith) (omega arith) c.pixel_of.ensures (omega arith) all),
)

pub returns : goal.returns
returns c = (
  λ _. black_from_looks c.args.count c.loop-at.at c.args.bytes.now (omega (arith, length-take c.args.count (all_pixels c.args.bytes.now)))
      c.loop-at.invariant,
  λ _. refl,
)
