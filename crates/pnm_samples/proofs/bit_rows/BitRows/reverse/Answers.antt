use Rattle.pnm_samples.proofs.Words.{◌≡◌, ◌*◌, ◌∙◌, ℕ, List, length, reverse, ap, ap₂, sym, subst, arith, common_steps, with_items, ArePackedRows, last_first}
use Rattle.pnm_samples.proofs.Words.{bytes_for, rows_of_bytes}
use Rattle.pnm_samples.proofs.BitRowsMade.{reversed_are_packed, rows_reversed}
use Rattle.pnm_samples.proofs.bit_rows.BitRows.reverse.Goals as goal

pub reverse_rows-requires : goal.reverse_rows-requires
reverse_rows-requires c =
    let x = c.self.inside in
    let size : bytes_for x.each ≡ c.div_ceil-size.result = omega (arith, c.div_ceil-size.ensures) in
    omega (arith, ap length c.as_mut_slice.ensures.value, c.self.invariant.enough, ap (λ (k : ℕ). x.count * k) size)

pub invariant_of-self : goal.invariant_of-self
invariant_of-self c =
    let x = c.self.inside in
    let size : c.div_ceil-size.result ≡ bytes_for x.each = omega (arith, c.div_ceil-size.ensures) in
    let last : (with_items x.bytes c.reverse_rows.new.samples).items ≡ c.reverse_rows.new.samples = grind (arith, common_steps) in
    let made = c.reverse_rows.ensures ∙ ap₂ (last_first x.count) size c.as_mut_slice.ensures.value in
    subst (ArePackedRows x.count x.each) (sym last) (reversed_are_packed x.count x.each x.bytes.items c.reverse_rows.new.samples c.self.invariant made)

pub returns : goal.returns
returns c =
    let x = c.self.inside in
    let size : c.div_ceil-size.result ≡ bytes_for x.each = omega (arith, c.div_ceil-size.ensures) in
    let last : (with_items x.bytes c.reverse_rows.new.samples).items ≡ c.reverse_rows.new.samples = grind (arith, common_steps) in
    let made = c.reverse_rows.ensures ∙ ap₂ (last_first x.count) size c.as_mut_slice.ensures.value in
    ap (rows_of_bytes x.count x.each) last ∙ rows_reversed x.count x.each x.bytes.items c.reverse_rows.new.samples c.self.invariant made
    ∙ ap (λ (rows : List (List ℕ)). reverse rows) c.self.view_is
