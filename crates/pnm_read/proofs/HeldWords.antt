-- Rows of samples of two bytes that are held whole, and are taken together.
use Rattle.pnm_read.proofs.Words.{◌≡◌, ℕ, zero, suc, ◌+◌, ◌-◌, ◌*◌, ◌<◌, ◌≤◌, min, List, [], ◌∷◌, ◌++◌, All, length, take, drop, Result, Ok, refl, sym, ap, ap₂}
use Rattle.pnm_read.proofs.Words.{subst, ◌∙◌, append_assoc, arith, zero-mul, suc-mul, zero-add, suc-add, mul_assoc, concat, take_all, take_at, drop_at}
use Rattle.pnm_read.proofs.Words.{take-append-drop, length-take-le, length-drop, nil_from_length, All-take, All-drop, Shape, Words, sample_width_of, row_length}
use Rattle.pnm_read.proofs.Words.{cut_rows, InputFault, Raster, ◌>>=◌, in_turn, units_in_row, AreHeldWide, TakesRows}
use Rattle.pnm_read.specs.Rasters.{wide_samples}
use Rattle.pnm_read.specs.Said.{raw_row}
use Rattle.pnm_read.proofs.UnitLaws.{items_of, words_are_units}
use Rattle.pnm_read.proofs.RawSteps.{units_as}
use Rattle.pnm_read.proofs.RowsTogether.{row_done, row_before, no_rows}

-- two bytes are a sample
pub length-wide : (n : ℕ) (bytes : List ℕ) → length bytes ≡ n * 2 → length (wide_samples bytes) ≡ n
unfolding wide_samples
length-wide zero [] size = refl
length-wide zero (b ∷ bytes) size = absurd (omega arith)
length-wide (suc n) [] size = absurd (omega (arith, zero-add, suc-add, suc-mul n 2))
length-wide (suc n) (b ∷ []) size = absurd (omega (arith, zero-add, suc-add, suc-mul n 2))
length-wide (suc n) (b ∷ c ∷ bytes) size = ap suc (length-wide n bytes (omega (arith, zero-add, suc-add, suc-mul n 2)))

-- those of whole pairs, and then the others
wide-append : (n : ℕ) (a b : List ℕ) → length a ≡ n * 2 → wide_samples (a ++ b) ≡ wide_samples a ++ wide_samples b
unfolding wide_samples
wide-append zero [] b size = refl
wide-append zero (x ∷ a) b size = absurd (omega arith)
wide-append (suc n) [] b size = absurd (omega (arith, zero-add, suc-add, suc-mul n 2))
wide-append (suc n) (x ∷ []) b size = absurd (omega (arith, zero-add, suc-add, suc-mul n 2))
wide-append (suc n) (x ∷ y ∷ a) b size = ap (λ (l : List ℕ). (256 * x + y) ∷ l) (wide-append n a b (omega (arith, zero-add, suc-add, suc-mul n 2)))

-- the row that so many bytes are
first_wide_row : (s : Shape) (bytes rest : List ℕ) → Words ≡ sample_width_of s.kind s.maxval → length bytes ≡ row_length s * 2
    → All (λ sample. sample ≤ s.maxval) (wide_samples bytes) → raw_row s (bytes ++ rest) ≡ Ok (wide_samples bytes, rest)
unfolding raw_row
first_wide_row s bytes rest is_width size within =
    let found = words_are_units s.maxval (row_length s) bytes [] (wide_samples bytes) rest size (refl, within) in
    ap (λ (r : Result (List (List ℕ) × List ℕ) InputFault). r >>= λ units. row_done (take (row_length s) (concat units.0)) units.1)
    (units_as s (bytes ++ rest) is_width refl ∙ found.2)
    ∙ ap (λ (l : List ℕ). row_done l rest)
    (ap (take (row_length s)) (sym found.1) ∙ take_all (row_length s) (wide_samples bytes) (omega (arith, length-wide (row_length s) bytes size)))

-- bytes of so many rows are these rows in turn
pub wide_rows_in_turn : (s : Shape) (count : ℕ) (bytes rest : List ℕ) → Words ≡ sample_width_of s.kind s.maxval → length bytes ≡ count * row_length s * 2
    → All (λ sample. sample ≤ s.maxval) (wide_samples bytes)
    → in_turn (raw_row s) count (bytes ++ rest) ≡ Ok (cut_rows count (row_length s) (wide_samples bytes), rest)
wide_rows_in_turn s zero bytes rest is_width size within = no_rows (raw_row s) rest (nil_from_length bytes (omega (arith, size, zero-mul (row_length s))))
wide_rows_in_turn s (suc count) bytes rest is_width size within =
    let each : ℕ = row_length s in
    let most : ℕ → Type 0 = λ (sample : ℕ). sample ≤ s.maxval in
    let total : length bytes ≡ count * each * 2 + each * 2 = omega (arith, size, suc-mul count each) in
    let first : List ℕ = take (each * 2) bytes in
    let later : List ℕ = drop (each * 2) bytes in
    let size_first : length first ≡ each * 2 = length-take-le (each * 2) bytes (omega (arith, total)) in
    let size_later : length later ≡ count * each * 2 = omega (arith, length-drop (each * 2) bytes, total) in
    let row : List ℕ = wide_samples first in
    let others : List ℕ = wide_samples later in
    let long : length row ≡ each = length-wide each first size_first in
    let both : wide_samples bytes ≡ row ++ others = ap wide_samples (sym (take-append-drop (each * 2) bytes)) ∙ wide-append each first later size_first in
    let within_both : All most (row ++ others) = subst (All most) both within in
    let within_row : All most row = subst (All most) (take_at row others each long) (All-take most each (row ++ others) within_both) in
    let within_others : All most others = subst (All most) (drop_at row others each long) (All-drop most each (row ++ others) within_both) in
    let text : bytes ++ rest ≡ first ++ (later ++ rest) =
    ap (λ (l : List ℕ). l ++ rest) (sym (take-append-drop (each * 2) bytes)) ∙ append_assoc first later rest in
    ap (in_turn (raw_row s) (suc count)) text
    ∙ row_before (raw_row s) count (first ++ (later ++ rest)) (later ++ rest) rest row (cut_rows count each others)
    (first_wide_row s first (later ++ rest) is_width size_first within_row)
    (wide_rows_in_turn s count later rest is_width size_later within_others)
    ∙ ap₂ (λ (row : List ℕ) (l : List ℕ). items_of (row ∷ cut_rows count each l) rest) (sym (take_at row others each long)) (sym (drop_at row others each long))
    ∙ ap (λ (l : List ℕ). items_of (cut_rows (suc count) each l) rest) (sym both)

-- so many rows lie in the bytes, where the size of one doesn't go past what can be counted
pub wide_lie : (count units : ℕ) {size : ℕ} (most : ℕ) (bytes : List ℕ) → size ≡ min (units * 2) (most - 1) → length bytes < most - 1
    → count * size ≤ length bytes → count * units * 2 ≤ length bytes
wide_lie zero units most bytes is few lie = omega (arith, zero-mul units)
wide_lie (suc count) units {size} most bytes is few lie =
    let two : size ≡ units * 2 = omega (arith, suc-mul count size) in
    let all : suc count * units * 2 ≡ suc count * size = mul_assoc (suc count) units 2 ∙ ap (λ (n : ℕ). suc count * n) (sym two) in
    omega (arith, all)

-- the bytes of rows that are held
abbrev pub wide_held : Raster → ℕ → List ℕ → List ℕ
wide_held raster count held = take (count * raster.units * 2) held

units_of : {raster : Raster} {count : ℕ} {held : List ℕ} → AreHeldWide raster count held → raster.units ≡ row_length raster.shape
units_of {raster} h = raster.count ∙ ap (λ p. units_in_row p raster.shape) h.sample_width

pub samples_of_held : {raster : Raster} {count : ℕ} {held samples : List ℕ} → AreHeldWide raster count held
    → samples ≡ wide_samples (wide_held raster count held) → length samples ≡ count * raster.units
samples_of_held {raster} {count} {held} h is =
    ap length is ∙ length-wide (count * raster.units) (wide_held raster count held) (length-take-le (count * raster.units * 2) held h.long)

-- they are taken
pub wide_rows_taken : {raster : Raster} {count : ℕ} {held after samples : List ℕ} {rows : List (List ℕ)} → AreHeldWide raster count held
    → samples ≡ wide_samples (wide_held raster count held) → All (λ sample. sample ≤ raster.shape.maxval) (wide_samples (wide_held raster count held))
    → rows ≡ cut_rows count raster.units samples → after ≡ drop (count * raster.units * 2) held → TakesRows raster.shape count rows held after
wide_rows_taken {raster} {count} {held} {after} h is within cut left = λ rest.
    let bytes : List ℕ = wide_held raster count held in
    let units : raster.units ≡ row_length raster.shape = units_of h in
    let size : length bytes ≡ count * row_length raster.shape * 2 =
    length-take-le (count * raster.units * 2) held h.long ∙ ap (λ (n : ℕ). count * n * 2) units in
    let text : held ++ rest ≡ bytes ++ (after ++ rest) =
    ap (λ (l : List ℕ). l ++ rest) (sym (take-append-drop (count * raster.units * 2) held) ∙ ap (λ (l : List ℕ). bytes ++ l) (sym left))
    ∙ append_assoc bytes after rest in
    ap (in_turn (raw_row raster.shape) count) text
    ∙ wide_rows_in_turn raster.shape count bytes (after ++ rest) (sym h.sample_width ∙ raster.samples) size within
    ∙ ap (λ (l : List (List ℕ)). items_of l (after ++ rest)) (ap₂ (λ (n : ℕ) (l : List ℕ). cut_rows count n l) (sym units) (sym is) ∙ sym cut)
