use Rattle.pnm_samples.proofs.Words.{◌≡◌, ◌∙◌, List, ℕ, map, reverse, ap, sym, subst, arith, common_steps, with_items, ArePackedRows, rows_of_bytes}
use Rattle.pnm_samples.proofs.bit_rows.BitRows.mirror.Goals as goal

pub mirror_each-requires : goal.mirror_each-requires
mirror_each-requires c = subst (ArePackedRows c.self.inside.count c.self.inside.each) (sym c.as_mut_slice.ensures.value) c.self.invariant

pub invariant_of-self : goal.invariant_of-self
invariant_of-self c =
    let last : (with_items c.self.inside.bytes c.mirror_each.new.bytes).items ≡ c.mirror_each.new.bytes = grind (arith, common_steps) in
    subst (ArePackedRows c.self.inside.count c.self.inside.each) (sym last) c.mirror_each.ensures.packed

pub returns : goal.returns
returns c =
    let count = c.self.inside.count in
    let each = c.self.inside.each in
    let last : (with_items c.self.inside.bytes c.mirror_each.new.bytes).items ≡ c.mirror_each.new.bytes = grind (arith, common_steps) in
    ap (rows_of_bytes count each) last ∙ c.mirror_each.ensures.turned
    ∙ ap (λ (l : List ℕ). map reverse (rows_of_bytes count each l)) c.as_mut_slice.ensures.value ∙ ap (map reverse) c.self.view_is
