use Rattle.pnm_samples.proofs.Words.{◌≡◌, ◌-◌, ◌∙◌, ℕ, List, map, ap, arith, common_steps, with_items, rows_of_bytes, all_pixels}
use Rattle.pnm_samples.proofs.BitRowLaws.{rows_inverted}
use Rattle.pnm_samples.proofs.bit_rows.BitRows.invert.Goals as goal

pub returns : goal.returns
returns c =
    let x = c.self.inside in
    let last : (with_items x.bytes c.clear_spare_of_each.new.bytes).items ≡ c.clear_spare_of_each.new.bytes = grind (arith, common_steps) in
    ap (rows_of_bytes x.count x.each) last ∙ c.clear_spare_of_each.ensures.same
    ∙ rows_inverted x.count x.each x.bytes.items c.complement.new.bytes
    (c.complement.ensures ∙ ap (λ (l : List ℕ). map (λ s. 1 - s) (all_pixels l)) c.as_mut_slice-bytes.ensures.value)
    ∙ ap (map (map (λ s. 1 - s))) c.self.view_is
