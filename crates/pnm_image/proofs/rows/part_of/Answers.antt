use Rattle.std.proofs.Common.{◌≡◌, ◌+◌, ◌-◌, ◌*◌, ◌∙◌, ℕ, List, All, length, take, drop, refl, ap, ap₂, sym, subst, arith}
use Rattle.pnm_samples.specs.Cuts.{cut_rows}
use Rattle.pnm_image.specs.declared.rows.RowVec.{RowVec}
use Rattle.pnm_image.specs.HeldRows.{AreRows, row_lists}
use Rattle.pnm_image.proofs.HeldRowLaws.{all_of_part, length_of_part, part_of_cut, part_places, whole_rows}
use Rattle.pnm_image.proofs.rows.part_of.Goals as goal

pub slice_bounds-from_slice-end : goal.slice_bounds-from_slice-end
slice_bounds-from_slice-end c =
    let many = c.requires.0 in
    let bytes = c.in-Bytes.bytes.items in
    let long : length bytes ≡ many * c.args.each = subst (AreRows many c.args.each) c.in-Bytes.is c.requires.1 in
    let places = part_places many c.args.each c.args.top c.args.many (length bytes) long c.requires.2 in
    omega (arith, places, ap length c.deref.ensures.value)

pub slice_bounds-from_slice-end-in-Words : goal.slice_bounds-from_slice-end-in-Words
slice_bounds-from_slice-end-in-Words c =
    let many = c.requires.0 in
    let words = c.in-Words.words.items in
    let long : length words ≡ many * c.args.each = subst (AreRows many c.args.each) c.in-Words.is c.requires.1 in
    let places = part_places many c.args.each c.args.top c.args.many (length words) long c.requires.2 in
    omega (arith, places, ap length c.deref-in-Words.ensures.value)

pub returns-in_ok-part-in-Bits-clause-whole : goal.returns-in_ok-part-in-Bits-clause-whole
returns-in_ok-part-in-Bits-clause-whole c =
    let rows = c.in-Bits.rows in
    let P : List ℕ → Type 0 = λ row. length row ≡ c.args.each in
    let known = subst (AreRows c.requires.0 c.args.each) c.in-Bits.is c.requires.1 in
    let those = take c.args.many (drop c.args.top rows) in
    let whole : All P those = all_of_part P c.args.top c.args.many rows those refl known.1 in
    let is : c.in_ok-part-in-Bits.part ≡ those = c.in_ok-part-in-Bits.ensures ∙ whole_rows c.args.each those whole in (
      ap length is ∙ length_of_part c.requires.0 c.args.top c.args.many rows known.0 c.requires.2,
      subst (All P) (sym is) whole,
    )

pub returns-in_ok-part-in-Bits-clause-rows : goal.returns-in_ok-part-in-Bits-clause-rows
returns-in_ok-part-in-Bits-clause-rows c = λ count are within.
    let rows = c.in-Bits.rows in
    let P : List ℕ → Type 0 = λ row. length row ≡ c.args.each in
    let known = subst (AreRows count c.args.each) c.in-Bits.is are in
    let those = take c.args.many (drop c.args.top rows) in
    let whole : All P those = all_of_part P c.args.top c.args.many rows those refl known.1 in
    c.in_ok-part-in-Bits.ensures ∙ whole_rows c.args.each those whole
    ∙ ap (λ (held : RowVec). take c.args.many (drop c.args.top (row_lists count c.args.each held))) (sym c.in-Bits.is)

pub returns-in_ok-part-in-Bytes-clause-rows : goal.returns-in_ok-part-in-Bytes-clause-rows
returns-in_ok-part-in-Bytes-clause-rows c = λ count are within.
    let bytes = c.in-Bytes.bytes.items in
    let start = c.args.top * c.args.each in
    let size = c.args.many * c.args.each in
    let long : (start + size) - start ≡ size = omega arith in
    ap (cut_rows c.args.many c.args.each)
    (c.in_ok-part-in-Bytes.ensures.items ∙ ap₂ (λ (n : ℕ) (l : List ℕ). take n (drop start l)) long c.deref.ensures.value)
    ∙ part_of_cut count c.args.each c.args.top c.args.many bytes within
    ∙ ap (λ (held : RowVec). take c.args.many (drop c.args.top (row_lists count c.args.each held))) (sym c.in-Bytes.is)

pub returns-in_ok-part-in-Words-clause-rows : goal.returns-in_ok-part-in-Words-clause-rows
returns-in_ok-part-in-Words-clause-rows c = λ count are within.
    let words = c.in-Words.words.items in
    let start = c.args.top * c.args.each in
    let size = c.args.many * c.args.each in
    let long : (start + size) - start ≡ size = omega arith in
    ap (cut_rows c.args.many c.args.each)
    (c.in_ok-part-in-Words.ensures.items ∙ ap₂ (λ (n : ℕ) (l : List ℕ). take n (drop start l)) long c.deref-in-Words.ensures.value)
    ∙ part_of_cut count c.args.each c.args.top c.args.many words within
    ∙ ap (λ (held : RowVec). take c.args.many (drop c.args.top (row_lists count c.args.each held))) (sym c.in-Words.is)
