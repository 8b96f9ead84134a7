-- Every one of a list from one on, and rows that are picked so.
use Rattle.std.proofs.Common.{◌≡◌, ℕ, zero, suc, ◌-◌, ◌*◌, ◌+◌, ◌/◌, ◌%◌, min, ◌≤◌, ◌<◌, List, [], ◌∷◌, ◌++◌, get_or, length, take, drop, All}
use Rattle.std.proofs.Common.{refl, sym, ap, subst, ◌∙◌, arith, zero-mul, suc-mul, mul-le-mul_right, inl, inr}
use Rattle.std.proofs.lemmas.Bool.{cases_lt}
use Rattle.std.proofs.lemmas.Grind.{div_ceil_times}
use Rattle.std.proofs.lemmas.List.{drop_at, drop-append-le, ext_get_or, length-append, length-drop, take_all, take-append-le}
use Rattle.std.proofs.lemmas.List.Elements.{All-cons, All-head, All-tail}
use Rattle.pnm_samples.proofs.BitRowLaws.{pixels_of_row}
use Rattle.pnm_samples.proofs.CutLaws.{length-cut_rows, row_of_cut}
use Rattle.pnm_samples.proofs.PixelRowsLaws.{length_of_rows}
use Rattle.pnm_samples.specs.Cuts.{cut_rows}
use Rattle.pnm_samples.specs.PixelRows.{bytes_for, rows_of_bytes}
use Rattle.pnm_samples.specs.Pixels.{all_pixels}
use Rattle.pnm_image.specs.Internal.PickedRows.{AreEvery, HasPicked}
use Rattle.pnm_image.specs.Rows.{every}
use Rattle.pnm_image.proofs.RowLaws.{row_ends_within}

-- ---- every one of a list

-- one of them
get_or-every : {X : Type 0} (d : X) (skip gap k : ℕ) (xs : List X) → get_or (every skip gap xs) k d ≡ get_or xs (skip + k * (gap + 1)) d
get_or-every d skip gap k [] = refl
get_or-every d zero gap zero (x ∷ xs) =
    let first : zero + zero * (gap + 1) ≡ zero = omega (arith, zero-mul (gap + 1)) in
    sym (ap (λ (n : ℕ). get_or (x ∷ xs) n d) first)
get_or-every d zero gap (suc k) (x ∷ xs) =
    let place : zero + suc k * (gap + 1) ≡ suc (gap + k * (gap + 1)) = omega (arith, suc-mul k (gap + 1)) in
    get_or-every d gap gap k xs ∙ sym (ap (λ (n : ℕ). get_or (x ∷ xs) n d) place)
get_or-every d (suc skip) gap k (x ∷ xs) =
    let place : suc skip + k * (gap + 1) ≡ suc (skip + k * (gap + 1)) = omega arith in
    get_or-every d skip gap k xs ∙ sym (ap (λ (n : ℕ). get_or (x ∷ xs) n d) place)

-- they are as many
length-every : {X : Type 0} (skip gap many : ℕ) (xs : List X) → ((at : ℕ) → at < many → skip + at * (gap + 1) < length xs)
    → length xs ≤ skip + many * (gap + 1) → length (every skip gap xs) ≡ many
length-every skip gap zero [] within all = refl
length-every skip gap (suc many) [] within all = absurd (omega (arith, within 0 (omega arith)))
length-every zero gap zero (x ∷ xs) within all = absurd (omega (arith, all, zero-mul (gap + 1)))
length-every zero gap (suc many) (x ∷ xs) within all =
    ap suc (length-every gap gap many xs (λ at lt. omega (arith, within (suc at) (omega (arith, lt)), suc-mul at (gap + 1)))
    (omega (arith, all, suc-mul many (gap + 1))))
length-every (suc skip) gap many (x ∷ xs) within all =
    length-every skip gap many xs (λ at lt. omega (arith, within at lt)) (omega (arith, all))

pub length_of_every : {X : Type 0} (from step many : ℕ) (xs : List X) → AreEvery (length xs) from step many → length (every from (step - 1) xs) ≡ many
length_of_every from step many xs h =
    let next : step - 1 + 1 ≡ step = omega (arith, h.apart) in
    length-every from (step - 1) many xs
    (λ at lt. let below = h.within at lt in omega (arith, below, ap (λ (n : ℕ). at * n) next))
    (omega (arith, h.all, ap (λ (n : ℕ). many * n) next))

-- what holds of all holds of them
pub all_of_every : {X : Type 0} (P : X → Type 0) (skip gap : ℕ) (xs : List X) → All P xs → All P (every skip gap xs)
all_of_every P skip gap [] all = all
all_of_every P zero gap (x ∷ xs) all = All-cons P x (every gap gap xs) (All-head P x xs all) (all_of_every P gap gap xs (All-tail P x xs all))
all_of_every P (suc skip) gap (x ∷ xs) all = all_of_every P skip gap xs (All-tail P x xs all)

-- these are those
picked_are : {X : Type 0} (d : X) (from step many : ℕ) (xs picked : List X) → AreEvery (length xs) from step many → length picked ≡ many
    → ((at : ℕ) → at < many → get_or picked at d ≡ get_or xs (from + at * step) d) → picked ≡ every from (step - 1) xs
picked_are d from step many xs picked h long is =
    let next : step - 1 + 1 ≡ step = omega (arith, h.apart) in
    ext_get_or d picked (every from (step - 1) xs) (long ∙ sym (length_of_every from step many xs h)) (λ at lt.
    is at (omega (arith, lt, long)) ∙ ap (λ (n : ℕ). get_or xs (from + at * n) d) (sym next) ∙ sym (get_or-every d from (step - 1) at xs))

-- ---- runs that are picked

-- none yet
pub none_picked : {X : Type 0} (each from step : ℕ) (runs picked : List X) → picked ≡ [] → HasPicked 0 each from step runs picked
none_picked each from step runs picked none = record {
  long = ap length none ∙ sym (zero-mul each);
  same = λ at lt. absurd (omega (arith, lt));
}

-- one more
pub one_more_picked : {X : Type 0} (passed each from step : ℕ) (runs picked part new : List X) → HasPicked passed each from step runs picked
    → new ≡ picked ++ part → part ≡ take each (drop ((from + passed * step) * each) runs) → length part ≡ each
    → HasPicked (passed + 1) each from step runs new
one_more_picked passed each from step runs picked part new h is made long = record {
  long = ap length is ∙ length-append picked part ∙ omega (arith, h.long, long);
  same = λ at lt. elim (cases_lt at passed) [
    | inl before ↦
        let within : at * each + each ≤ length picked = omega (arith, row_ends_within passed each at before, h.long) in
        ap (λ (l : List _). take each (drop (at * each) l)) is ∙ ap (take each) (drop-append-le (at * each) picked part (omega (arith, within)))
        ∙ take-append-le each (drop (at * each) picked) part (omega (arith, within, length-drop (at * each) picked)) ∙ h.same at before
    | inr after ↦
        let last : passed ≡ at = omega (arith, lt, after) in
        subst (λ (j : ℕ). take each (drop (j * each) new) ≡ take each (drop ((from + j * step) * each) runs)) last
        (ap (λ (l : List _). take each (drop (passed * each) l)) is ∙ ap (take each) (drop_at picked part (passed * each) h.long)
        ∙ take_all each part (omega (arith, long)) ∙ made)
  ];
}

-- where a run lies
pub run_within : (count each from step many at long : ℕ) → AreEvery count from step many → long ≡ count * each → at < many
    → (from + at * step) * each + each ≤ long
run_within count each from step many at long h is lt = omega (arith, row_ends_within count each (from + at * step) (h.within at lt), is)

-- they take no more room than those of which they are picked
pub runs_within : (count each from step many long : ℕ) → AreEvery count from step many → long ≡ count * each → many * each ≤ long
runs_within count each from step zero long h is = omega (arith, zero-mul each)
runs_within count each from step (suc many) long h is =
    let last = h.within many (omega arith) in
    let more : 1 * many ≤ step * many = mul-le-mul_right many h.apart in
    let fewer : suc many ≤ count = omega (arith, last, more) in
    omega (arith, mul-le-mul_right each fewer, is)

-- ---- rows that are picked

pub rows_picked : (count each from step many : ℕ) (samples picked : List ℕ) → AreEvery count from step many → HasPicked many each from step samples picked
    → cut_rows many each picked ≡ every from (step - 1) (cut_rows count each samples)
rows_picked count each from step many samples picked h are =
    let all = cut_rows count each samples in
    let known : AreEvery (length all) from step many = subst (λ (n : ℕ). AreEvery n from step many) (sym (length-cut_rows count each samples)) h in
    picked_are [] from step many all (cut_rows many each picked) known (length-cut_rows many each picked) (λ at lt.
    sym (row_of_cut many each at picked lt) ∙ are.same at lt ∙ row_of_cut count each (from + at * step) samples (h.within at lt))

pub bits_picked : (count each from step many : ℕ) (bytes picked : List ℕ) (rows : List (List ℕ)) → AreEvery count from step many
    → HasPicked many (bytes_for each) from step bytes picked → rows_of_bytes count each bytes ≡ rows
    → rows_of_bytes many each picked ≡ every from (step - 1) rows
bits_picked count each from step many bytes picked rows h are is =
    let all = rows_of_bytes count each bytes in
    let known : AreEvery (length all) from step many = subst (λ (n : ℕ). AreEvery n from step many) (sym (length_of_rows count each bytes)) h in
    picked_are [] from step many all (rows_of_bytes many each picked) known (length_of_rows many each picked) (λ at lt.
    sym (pixels_of_row many each at picked lt) ∙ ap (λ (l : List ℕ). take each (all_pixels l)) (are.same at lt)
    ∙ pixels_of_row count each (from + at * step) bytes (h.within at lt))
    ∙ ap (every from (step - 1)) is

-- as many as a quotient that is rounded up
pub every_by_quotient : (count from step many : ℕ) → from < count → 1 ≤ step → many ≡ (count - from) / step + min 1 ((count - from) % step)
    → AreEvery count from step many
every_by_quotient count from step many lt some is =
    let bounds = div_ceil_times (count - from) step (omega (arith, some)) in
    let all : many * step ≡ ((count - from) / step + min 1 ((count - from) % step)) * step = ap (λ (n : ℕ). n * step) is in
    record {
      apart = some;
      within = λ at below.
          let next : suc at ≤ many = omega (arith, below) in
          omega (arith, mul-le-mul_right step next, suc-mul at step, bounds.1, all, lt);
      all = omega (arith, bounds.0, all, lt);
    }

-- at least one
pub some_picked : (count from step many : ℕ) → from < count → AreEvery count from step many → 1 ≤ many
some_picked count from step zero lt h = absurd (omega (arith, lt, h.all, zero-mul step))
some_picked count from step (suc many) lt h = omega arith

-- rows of one length, as many
pub are_rows_picked : (count each from step many : ℕ) (rows picked : List (List ℕ)) → (length rows ≡ count) × All (λ row. length row ≡ each) rows
    → AreEvery count from step many → picked ≡ every from (step - 1) rows → (length picked ≡ many) × All (λ row. length row ≡ each) picked
are_rows_picked count each from step many rows picked are h is =
    let P : List ℕ → Type 0 = λ row. length row ≡ each in (
      ap length is ∙ length_of_every from step many rows (subst (λ (n : ℕ). AreEvery n from step many) (sym are.0) h),
      subst (All P) (sym is) (all_of_every P from (step - 1) rows are.1),
    )
