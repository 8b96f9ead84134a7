use Rattle.pnm_samples.proofs.Words.{rules, ◌≤◌, ◌↔◌, All, IsTrue, take, sym, subst, arith, all_pixels, slice_samples}
use Rattle.pnm_samples.proofs.PixelRowLaws.{byte_pixels_within}
use Rattle.pnm_samples.proofs.samples.SampleSlice.are_within.Goals as goal

pub returns-then-most-gt0 : goal.returns-then-most-gt0
returns-then-most-gt0 c = (
  λ _. subst (λ s. All (λ sample. sample ≤ c.args.most) (slice_samples s)) (sym c.in-Bits.is)
      (byte_pixels_within c.in-Bits.count c.args.most c.in-Bits.bytes.now (omega arith)),
  λ _. search rules,
)

pub returns-else-most-gt0 : goal.returns-else-most-gt0
returns-else-most-gt0 c =
    let pixels = take c.in-Bits.count (all_pixels c.in-Bits.bytes.now) in
    let _asked : IsTrue c.are_black.result ↔ All (λ sample. sample ≤ 0) pixels = c.are_black.ensures in search rules
