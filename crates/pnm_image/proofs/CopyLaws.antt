-- Copies of rows, as they are held.
use Rattle.std.proofs.Common.{◌≡◌, ℕ, zero, suc, ◌+◌, ◌*◌, List, [], ◌++◌, All, length, sym, ap, subst, ◌∙◌, arith}
use Rattle.pnm_samples.specs.Cuts.{cut_rows}
use Rattle.pnm_samples.specs.PixelRows.{bytes_for, rows_of_bytes}
use Rattle.pnm_samples.proofs.PixelRowsLaws.{rows_behind}
use Rattle.pnm_image.specs.Repeats.{repeated}
use Rattle.pnm_image.proofs.HeldRowLaws.{cut_both}
use Rattle.pnm_image.proofs.RepeatLaws.{all_of_repeated, length_of_repeated, repeated_more}

-- a copy more
pub one_copy_more : {A : Type 0} (n : ℕ) (run before now : List A) → before ≡ repeated n run → now ≡ before ++ run → now ≡ repeated (n + 1) run
one_copy_more {A = A} n run before now was is =
    let more : suc n ≡ n + 1 = omega arith in
    is ∙ ap (λ (l : List A). l ++ run) was ∙ repeated_more n run ∙ ap (λ (k : ℕ). repeated k run) more

-- how many samples, or bytes, all copies have
pub length_of_copies : (times count each : ℕ) (samples copies : List ℕ) → length samples ≡ count * each → copies ≡ repeated times samples
    → length copies ≡ count * times * each
length_of_copies times count each samples copies long is =
    ap length is ∙ length_of_repeated times samples ∙ ap (λ (n : ℕ). n * times) long ∙ omega arith

-- copies of samples, cut into rows
cut_repeated : (times count each : ℕ) (samples : List ℕ) → length samples ≡ count * each
    → cut_rows (count * times) each (repeated times samples) ≡ repeated times (cut_rows count each samples)
cut_repeated zero count each samples long =
    let none : count * zero ≡ zero = omega arith in
    ap (λ (n : ℕ). cut_rows n each []) none
cut_repeated (suc times) count each samples long =
    let more : count * suc times ≡ count + count * times = omega arith in
    ap (λ (n : ℕ). cut_rows n each (samples ++ repeated times samples)) more
    ∙ cut_both count (count * times) each samples (repeated times samples) long
    ∙ ap (λ (l : List (List ℕ)). cut_rows count each samples ++ l) (cut_repeated times count each samples long)

pub copied_samples : (times count each : ℕ) (samples copies : List ℕ) → length samples ≡ count * each → copies ≡ repeated times samples
    → cut_rows (count * times) each copies ≡ repeated times (cut_rows count each samples)
copied_samples times count each samples copies long is =
    ap (cut_rows (count * times) each) is ∙ cut_repeated times count each samples long

-- the rows of bytes that repeat
bits_repeated : (times count each : ℕ) (bytes : List ℕ) → length bytes ≡ count * bytes_for each
    → rows_of_bytes (count * times) each (repeated times bytes) ≡ repeated times (rows_of_bytes count each bytes)
bits_repeated zero count each bytes long =
    let none : count * zero ≡ zero = omega arith in
    ap (λ (n : ℕ). rows_of_bytes n each []) none
bits_repeated (suc times) count each bytes long =
    let more : count * suc times ≡ count + count * times = omega arith in
    ap (λ (n : ℕ). rows_of_bytes n each (bytes ++ repeated times bytes)) more
    ∙ rows_behind count (count * times) each bytes (repeated times bytes) long
    ∙ ap (λ (l : List (List ℕ)). rows_of_bytes count each bytes ++ l) (bits_repeated times count each bytes long)

pub copied_bits : (times count each : ℕ) (bytes copies : List ℕ) (rows new : List (List ℕ)) → length bytes ≡ count * bytes_for each
    → rows_of_bytes count each bytes ≡ rows → copies ≡ repeated times bytes → new ≡ rows_of_bytes (count * times) each copies → new ≡ repeated times rows
copied_bits times count each bytes copies rows new long are is made =
    made ∙ ap (rows_of_bytes (count * times) each) is ∙ bits_repeated times count each bytes long ∙ ap (repeated times) are

-- as many, and as long
pub are_rows_repeated : (times count each : ℕ) (rows copies : List (List ℕ)) → copies ≡ repeated times rows
    → (length rows ≡ count) × All (λ row. length row ≡ each) rows → (length copies ≡ count * times) × All (λ row. length row ≡ each) copies
are_rows_repeated times count each rows copies is are = (
  ap length is ∙ length_of_repeated times rows ∙ ap (λ (n : ℕ). n * times) are.0,
  subst (λ (l : List (List ℕ)). All (λ (row : List ℕ). length row ≡ each) l) (sym is)
      (all_of_repeated (λ (row : List ℕ). length row ≡ each) times rows are.1),
)
