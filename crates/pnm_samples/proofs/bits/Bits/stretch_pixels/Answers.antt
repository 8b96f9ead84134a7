use Rattle.pnm_samples.proofs.Words.{◌≡◌, ◌*◌, ◌∙◌, ℕ, List, take, ap₂, arith, common_steps, with_items, all_pixels}
use Rattle.pnm_samples.proofs.StretchLaws.{stretched_view}
use Rattle.pnm_samples.proofs.bits.Bits.stretch_pixels.Goals as goal

pub returns : goal.returns
returns c =
    let count = c.self.inside.count in
    let buffer = c.fill.new.buffer in
    let last : (with_items c.in_ok-bytes.bytes buffer).items ≡ buffer = grind (arith, common_steps) in
    let size : c.in-Some-Some.count ≡ count * c.args.times = omega (arith, c.in-Some-Some.ensures) in
    c.new.ensures ∙ ap₂ (λ (k : ℕ) (l : List ℕ). take k (all_pixels l)) size last
    ∙ stretched_view c.args.times count c.self.inside.bytes.items buffer (omega (arith, c.self.invariant.enough))
    (rw c.as_slice.ensures.value at c.in_ok-fill.ensures) c.self.view_is
