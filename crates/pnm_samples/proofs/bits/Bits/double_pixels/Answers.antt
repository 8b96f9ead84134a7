use Rattle.pnm_samples.proofs.Words.{◌≡◌, ◌*◌, ◌∙◌, ℕ, List, take, ap, ap₂, arith, common_steps, with_items, all_pixels}
use Rattle.pnm_samples.proofs.RepeatLaws.{repeated, repeated_view}
use Rattle.pnm_samples.proofs.bits.Bits.double_pixels.Goals as goal

pub returns : goal.returns
returns c =
    let count = c.self.inside.count in
    let buffer = c.fill_doubled.new.buffer in
    let last : (with_items c.resize.new.self buffer).items ≡ buffer = grind (arith, common_steps) in
    let size : c.in-Some.count ≡ count * 2 = omega (arith, c.in-Some.ensures) in
    c.new.ensures ∙ ap₂ (λ (k : ℕ) (l : List ℕ). take k (all_pixels l)) size last
    ∙ ap (take (count * 2)) (c.fill_doubled.ensures ∙ ap (λ l. repeated 2 (all_pixels l)) c.as_slice.ensures.value)
    ∙ repeated_view 2 count c.self.inside.bytes.items c.self.view_is
