use Rattle.pnm_samples.proofs.Words.{◌∙◌, ℕ, List, ap, subst, sym, take, all_pixels, ArePacked}
use Rattle.pnm_samples.proofs.bits.Bits.copy.Goals as goal

pub invariant_of-result : goal.invariant_of-result
invariant_of-result c =
    subst (ArePacked c.self.inside.count) (sym (c.in_ok-from_slice.ensures.items ∙ c.as_slice.ensures.value)) c.self.invariant

pub returns : goal.returns
returns c =
    ap (λ (bytes : List ℕ). take c.self.inside.count (all_pixels bytes)) (c.in_ok-from_slice.ensures.items ∙ c.as_slice.ensures.value) ∙ c.self.view_is
