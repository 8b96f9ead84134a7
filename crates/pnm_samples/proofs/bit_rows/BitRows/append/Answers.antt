use Rattle.pnm_samples.proofs.Words.{◌≡◌, ◌+◌, ◌++◌, ◌∙◌, ℕ, List, sym, ap, ap₂, subst, arith, ArePackedRows, rows_of_bytes}
use Rattle.pnm_samples.proofs.BitRowLaws.{packed_behind}
use Rattle.pnm_samples.proofs.BitRowsMade.{row_of_rows}
use Rattle.pnm_samples.proofs.PixelRowsLaws.{rows_behind}
use Rattle.pnm_samples.proofs.bit_rows.BitRows.append.Goals as goal

pub invariant_of-self-2 : goal.invariant_of-self-2
invariant_of-self-2 c =
    let x = c.self.inside in
    let y = c.more.inside in
    let alike : y.each ≡ x.each = omega arith in
    let items : c.extend_from_slice.new.self.items ≡ x.bytes.items ++ y.bytes.items =
    c.in_ok-extend_from_slice.ensures.items ∙ ap (λ (l : List ℕ). x.bytes.items ++ l) c.as_slice.ensures.value in
    let count : c.in-Some.count ≡ x.count + y.count = omega (arith, c.in-Some.ensures) in
    subst (λ (l : List ℕ). ArePackedRows c.in-Some.count x.each l) (sym items)
    (subst (λ (k : ℕ). ArePackedRows k x.each (x.bytes.items ++ y.bytes.items)) (sym count)
    (packed_behind x.count y.count x.each x.bytes.items y.bytes.items c.self.invariant
    (subst (λ (k : ℕ). ArePackedRows y.count k y.bytes.items) alike c.more.invariant)))

pub returns-clause-added : goal.returns-clause-added
returns-clause-added c _ =
    let x = c.self.inside in
    let y = c.more.inside in
    let alike : y.each ≡ x.each = omega arith in
    let items : c.extend_from_slice.new.self.items ≡ x.bytes.items ++ y.bytes.items =
    c.in_ok-extend_from_slice.ensures.items ∙ ap (λ (l : List ℕ). x.bytes.items ++ l) c.as_slice.ensures.value in
    let count : c.in-Some.count ≡ x.count + y.count = omega (arith, c.in-Some.ensures) in
    ap₂ (λ (k : ℕ) (l : List ℕ). rows_of_bytes k x.each l) count items
    ∙ rows_behind x.count y.count x.each x.bytes.items y.bytes.items c.self.invariant.enough
    ∙ ap₂ (λ (a b : List (List ℕ)). a ++ b) c.self.view_is
    (ap (λ (k : ℕ). rows_of_bytes y.count k y.bytes.items) (sym alike) ∙ c.more.view_is)

pub returns-then-more-self-clause-unlike : goal.returns-then-more-self-clause-unlike
returns-then-more-self-clause-unlike c = λ no some also alike.
    let x = c.self.inside in
    let y = c.more.inside in
    let first = row_of_rows x.count x.each 0 x.bytes.items c.args.self.now c.self.view_is c.self.invariant.enough some in
    let second = row_of_rows y.count y.each 0 y.bytes.items c.args.more.now c.more.view_is c.more.invariant.enough also in
    grind (arith, first.1, second.1, alike)
