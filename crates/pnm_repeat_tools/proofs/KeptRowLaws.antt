-- Rows that are kept, as they are held.
use Rattle.pnm_repeat_tools.proofs.Words.{◌≡◌, ℕ, zero, suc, ◌+◌, ◌-◌, ◌*◌, ◌≤◌, ◌<◌, List, [], ◌++◌, length, get_or, map, take, drop, All, Result, Ok, Err}
use Rattle.pnm_repeat_tools.proofs.Words.{OnErr, inl, inr, ◌⊎◌, sym, ap, ap₂, subst, ◌∙◌, arith, suc-mul, zero-mul, mul-le-mul_right, take-add, length-map}
use Rattle.pnm_repeat_tools.proofs.Words.{length-take-le, nil_from_length, All-map, All-take, cases_lt, RowVec, Bits, Bytes, Words, AreRows, HoldsRows}
use Rattle.pnm_repeat_tools.proofs.Words.{row_lists, cut_rows, cut_behind, length_of_lists, lengths_of_lists, one_length, fronts_in}
use Rattle.pnm_repeat_tools.proofs.TileRowsLaws.{cut_of_more, fronts_cut, fronts_long}

-- what is known anyway
pub known_on_err : {T E P : Type 0} (r : Result T E) → P → OnErr r P
known_on_err (Ok x) p = tt
known_on_err (Err e) p = p

-- no row is as long as any
pub none_held : {count : ℕ} (each : ℕ) (held : RowVec) → AreRows count each held → count ≡ 0 → row_lists count each held ≡ []
none_held {count} each held are none = nil_from_length (row_lists count each held) (length_of_lists count each held are ∙ none)

-- and they are of any length
none_of_length : {count : ℕ} (each other : ℕ) (held : RowVec) → AreRows count each held → count ≡ 0 → AreRows count other held
none_of_length each other (Bits rows) are none = (are.0, λ k d lt. absurd (omega (arith, lt, are.0, none)))
none_of_length each other (Bytes bytes) are none = are ∙ ap (λ (n : ℕ). n * each) none ∙ zero-mul each ∙ sym (ap (λ (n : ℕ). n * other) none ∙ zero-mul other)
none_of_length each other (Words words) are none = are ∙ ap (λ (n : ℕ). n * each) none ∙ zero-mul each ∙ sym (ap (λ (n : ℕ). n * other) none ∙ zero-mul other)

-- ---- the length of rows that are held

module _ (count each other : ℕ) (held : RowVec) {rows : List (List ℕ)} where
  -- it is that of any of them
  pub held_length : AreRows count each held → row_lists count each held ≡ rows → 0 < count → All (λ row. length row ≡ other) rows → other ≡ each
  held_length are is some long =
      let many : length rows ≡ count = ap length (sym is) ∙ length_of_lists count each held are in
      one_length each other rows (omega (arith, many, some)) (subst (All (λ (row : List ℕ). length row ≡ each)) is (lengths_of_lists count each held are)) long

  -- rows that are all of one length are held so
  lent : AreRows count each held → row_lists count each held ≡ rows → All (λ row. length row ≡ other) rows → (0 < count) ⊎ (count ≤ 0)
      → (row_lists count other held ≡ rows) × AreRows count other held
  lent are is long (inl some) =
      let same : each ≡ other = sym (held_length are is some long) in (
        ap (λ (n : ℕ). row_lists count n held) (sym same) ∙ is,
        subst (λ (n : ℕ). AreRows count n held) same are,
      )
  lent are is long (inr none) =
      let no_rows : count ≡ 0 = omega (arith, none) in
      let here = none_of_length each other held are no_rows in
      (none_held other held here no_rows ∙ sym (none_held each held are no_rows) ∙ is, here)

  pub lent_rows : AreRows count each held → row_lists count each held ≡ rows → All (λ row. length row ≡ other) rows → row_lists count other held ≡ rows
  lent_rows are is long = (lent are is long (cases_lt 0 count)).0

  pub lent_whole : AreRows count each held → row_lists count each held ≡ rows → All (λ row. length row ≡ other) rows → AreRows count other held
  lent_whole are is long = (lent are is long (cases_lt 0 count)).1

-- ---- fronts of rows

-- where they are whole rows
pub fronts_are_all : {X : Type 0} (shown count : ℕ) (samples : List X) → fronts_in shown count shown samples ≡ take (count * shown) samples
fronts_are_all {X = X} shown zero samples = ap (λ (n : ℕ). take n samples) (sym (zero-mul shown))
fronts_are_all {X = X} shown (suc count) samples =
    let size : suc count * shown ≡ shown + count * shown = omega (arith, suc-mul count shown) in
    ap (λ (l : List X). take shown samples ++ l) (fronts_are_all shown count (drop shown samples))
    ∙ sym (take-add shown (count * shown) samples) ∙ ap (λ (n : ℕ). take n samples) (sym size)

-- they are as many, and as long
pub fronts_alike : (shown count : ℕ) (rows : List (List ℕ)) {fronts : List (List ℕ)} → fronts ≡ map (take shown) (take count rows) → count ≤ length rows
    → All (λ row. shown ≤ length row) rows → (length fronts ≡ count) × All (λ row. length row ≡ shown) fronts
fronts_alike shown count rows is few within =
    let P : List ℕ → Type 0 = λ row. length row ≡ shown in
    let those = take count rows in (
      ap length is ∙ length-map those (take shown) ∙ length-take-le count rows few,
      subst (All P) (sym is) (All-map P (take shown) those
          (λ k d lt. length-take-le shown (get_or those k d) (All-take (λ row. shown ≤ length row) count rows within k d lt))),
    )

-- those of rows that are held one after another
pub fronts_of_cut : (shown each count : ℕ) (samples : List ℕ) {fronts : List ℕ} {rows : List (List ℕ)} → All (λ row. length row ≡ each) rows
    → 1 ≤ length rows → cut_rows (length rows) each samples ≡ rows → length samples ≡ length rows * each → count ≤ length rows
    → All (λ row. shown ≤ length row) rows → fronts ≡ fronts_in shown count each samples
    → (length fronts ≡ count * shown) × (cut_rows count shown fronts ≡ map (take shown) (take count rows))
fronts_of_cut shown each count samples {rows} long some are size few within is =
    let there : 0 < length rows = omega (arith, some) in
    let shorter : shown ≤ each = omega (arith, within 0 [] there, long 0 [] there) in
    let enough : count * each ≤ length samples = omega (arith, mul-le-mul_right {m = count} {n = length rows} each few, size) in
    let all : length rows ≡ count + (length rows - count) = omega (arith, few) in (
      ap length is ∙ fronts_long shown each count samples enough shorter,
      ap (cut_rows count shown) is ∙ fronts_cut shown each count samples enough shorter
          ∙ ap (map (take shown)) (sym (cut_of_more count (length rows - count) each samples)
          ∙ ap (λ (n : ℕ). take count (cut_rows n each samples)) (sym all) ∙ ap (take count) are),
    )

-- ---- rows as words

-- words behind others
pub words_behind : (count more each : ℕ) (words behind : List ℕ) {new : List ℕ} {first second : List (List ℕ)} → length words ≡ count * each
    → length behind ≡ more * each → cut_rows count each words ≡ first → cut_rows more each behind ≡ second → new ≡ words ++ behind
    → (cut_rows (count + more) each new ≡ first ++ second) × (length new ≡ (count + more) * each)
words_behind count more each words behind {new} size more_size are others is =
    let both = cut_behind count more each words behind new is size more_size in
    (both.0 ∙ ap₂ (λ (a b : List (List ℕ)). a ++ b) are others, both.1)

-- ---- rows that are kept behind others

-- as long as they are held
pub held_as_long : (count each shown : ℕ) (rows wanted : List (List ℕ)) (held : RowVec) → shown ≡ each → HoldsRows count shown rows held → rows ≡ wanted
    → (row_lists count each held ≡ wanted) × AreRows count each held
held_as_long count each shown rows wanted held same holds is = (
  ap (λ (n : ℕ). row_lists count n held) (sym same) ∙ holds.0 ∙ is,
  subst (λ (n : ℕ). AreRows count n held) same holds.1,
)
