-- Rows that are added to those of one width of samples.
use Rattle.pnm_transpose.proofs.Words.{◌≡◌, ℕ, List, ◌++◌, length, Bool, true, false, Result, Ok, sym, ap, ap₂, subst, ◌∙◌, IsTrue, IfOk, RowSlice, slice_lists}
use Rattle.pnm_transpose.proofs.Words.{cut_rows, SampleRows, rows_in, row_lists}
use Rattle.pnm_transpose.proofs.FlatRowsLaws.{rows_are_cut}

-- rows that were added as they are held
pub rows_are_added : {E : Type 0} {r : Result Bool E} (old new : SampleRows) {kept value more rows : List (List ℕ)} → r ≡ Ok true → row_lists old ≡ kept
    → row_lists new ≡ value → more ≡ rows → value ≡ kept ++ more → IfOk r (λ done. IsTrue done → row_lists new ≡ row_lists old ++ rows)
rows_are_added old new {rows} is was now same added =
    subst (λ x. IfOk x (λ done. IsTrue done → row_lists new ≡ row_lists old ++ rows)) (sym is)
    (λ yes. now ∙ added ∙ ap₂ (λ (a b : List (List ℕ)). a ++ b) (sym was) same)

-- and where none was
pub none_is_added : {E : Type 0} {r : Result Bool E} (P : Type 0) → r ≡ Ok false → IfOk r (λ done. IsTrue done → P)
none_is_added P is = subst (λ x. IfOk x (λ done. IsTrue done → P)) (sym is) (λ yes. absurd (cc))

-- rows that are held one after another, as they are lent
pub rows_are_lent : {count : ℕ} (each : ℕ) (samples : List ℕ) {held slice : RowSlice} {rows : List (List ℕ)} → count ≡ length rows → held ≡ slice
    → slice_lists (length rows) each slice ≡ cut_rows (length rows) each samples → slice_lists (length rows) each held ≡ rows
    → rows_in count each samples ≡ rows
rows_are_lent {count} each samples {rows} many is cut are =
    rows_are_cut count each samples ∙ ap (λ (n : ℕ). cut_rows n each samples) many ∙ sym cut ∙ ap (slice_lists (length rows) each) (sym is) ∙ are
