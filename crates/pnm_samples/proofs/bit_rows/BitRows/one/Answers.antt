use Rattle.pnm_samples.proofs.Words.{◌∙◌, ◌∷◌, [], ℕ, List, take, sym, ap, subst, all_pixels, ArePacked}
use Rattle.pnm_samples.proofs.BitRowLaws.{one_is_packed}
use Rattle.pnm_samples.proofs.bit_rows.BitRows.one.Goals as goal

pub invariant_of-result : goal.invariant_of-result
invariant_of-result c =
    let items = c.into_bytes.result.items in
    one_is_packed c.len-each.result items (subst (λ (k : ℕ). ArePacked k items) (sym c.len-each.ensures) c.into_bytes.ensures.packed)

pub returns : goal.returns
returns c =
    let items = c.into_bytes.result.items in
    ap (λ (l : List ℕ). l ∷ []) (ap (λ (k : ℕ). take k (all_pixels items)) c.len-each.ensures ∙ sym c.into_bytes.ensures.pixels)
