-- Samples cut into rows.
use Rattle.pnm_samples.proofs.Words.{◌≡◌, ℕ, zero, suc, ◌+◌, ◌*◌, ◌<◌, List, [], get_or, length, take, drop, refl, sym, ap, ◌∙◌, arith, suc-mul, zero-mul}
use Rattle.pnm_samples.proofs.Words.{drop-drop, cut_rows}

-- as many rows are cut as were asked for
pub length-cut_rows : (count each : ℕ) (samples : List ℕ) → length (cut_rows count each samples) ≡ count
length-cut_rows zero each samples = refl
length-cut_rows (suc count) each samples = ap suc (length-cut_rows count each (drop each samples))

-- a row of those that are cut
pub row_of_cut : (count each at : ℕ) (samples : List ℕ) → at < count → take each (drop (at * each) samples) ≡ get_or (cut_rows count each samples) at []
row_of_cut zero each at samples lt = absurd (omega (arith, lt))
row_of_cut (suc count) each zero samples lt =
    let none : 0 * each ≡ 0 = omega (arith, zero-mul each) in
    ap (λ (n : ℕ). take each (drop n samples)) none
row_of_cut (suc count) each (suc at) samples lt =
    let place : suc at * each ≡ each + at * each = omega (arith, suc-mul at each) in
    ap (λ (n : ℕ). take each (drop n samples)) place ∙ ap (take each) (sym (drop-drop (at * each) each samples))
    ∙ row_of_cut count each at (drop each samples) (omega (arith, lt))
