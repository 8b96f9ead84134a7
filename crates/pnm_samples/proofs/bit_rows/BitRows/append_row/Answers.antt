use Rattle.pnm_samples.proofs.Words.{◌≡◌, ◌+◌, ◌++◌, ◌∷◌, [], ◌∙◌, ℕ, List, ap₂, subst, sym, arith, take, ArePacked, ArePackedRows, all_pixels, rows_of_bytes}
use Rattle.pnm_samples.proofs.BitRowLaws.{one_is_packed, packed_behind}
use Rattle.pnm_samples.proofs.PixelRowsLaws.{rows_behind}
use Rattle.pnm_samples.proofs.bit_rows.BitRows.append_row.Goals as goal

pub invariant_of-self-then-each-self : goal.invariant_of-self-then-each-self
invariant_of-self-then-each-self c =
    let x = c.self.inside in
    let row = c.args.row.now in
    let alike : c.args.each ≡ x.each = omega arith in
    let count : c.in-Some.count ≡ x.count + 1 = omega (arith, c.in-Some.ensures) in
    subst (λ (l : List ℕ). ArePackedRows c.in-Some.count x.each l) (sym c.in_ok-extend_from_slice.ensures.items)
    (subst (λ (k : ℕ). ArePackedRows k x.each (x.bytes.items ++ row)) (sym count)
    (packed_behind x.count 1 x.each x.bytes.items row c.self.invariant
    (one_is_packed x.each row (subst (λ (k : ℕ). ArePacked k row) alike c.requires))))

pub returns-then-each-self-clause-added : goal.returns-then-each-self-clause-added
returns-then-each-self-clause-added c _ =
    let x = c.self.inside in
    let row = c.args.row.now in
    let alike : c.args.each ≡ x.each = omega arith in
    let count : c.in-Some.count ≡ x.count + 1 = omega (arith, c.in-Some.ensures) in
    ap₂ (λ (k : ℕ) (l : List ℕ). rows_of_bytes k x.each l) count c.in_ok-extend_from_slice.ensures.items
    ∙ rows_behind x.count 1 x.each x.bytes.items row c.self.invariant.enough
    ∙ ap₂ (λ (l : List (List ℕ)) (k : ℕ). l ++ take k (all_pixels row) ∷ []) c.self.view_is (sym alike)
