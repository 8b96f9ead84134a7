-- Rows of a raw raster that are held whole, and are taken together.
use Rattle.pnm_read.proofs.Words.{is_plain_form, ◌≡◌, ℕ, zero, suc, ◌+◌, ◌-◌, ◌*◌, ◌<◌, ◌≤◌, List, [], ◌∷◌, ◌++◌, length, take, drop, Option, Result, Ok, Err}
use Rattle.pnm_read.proofs.Words.{refl, sym, ap, ap₂, subst, ◌∙◌, false, append_assoc, arith, zero-mul, suc-mul, concat, take-append-drop, take-take}
use Rattle.pnm_read.proofs.Words.{length-take-le, length-drop, nil_from_length, All, ◌⊎◌, inl, inr, All-take, All-drop, All-nil, All-cons, bytes_for}
use Rattle.pnm_read.proofs.Words.{rows_of_bytes, byte_pixels_within, AreRowsWithin, all_pixels, take-all_pixels, Shape, Format, SampleWidth, Bits, Bytes, Words}
use Rattle.pnm_read.proofs.Words.{sample_width_of, row_length, cut_rows, row_messages, InputFault, ◌>>=◌, Said, units_in_row, rows_said, later_said}
use Rattle.pnm_read.proofs.Words.{after_messages, samples_of_bytes, AreBytesWithin, Raster, FitsBytes, AreHeld, TakesRows, FindsRows, rows_held, ReadFailed}
use Rattle.pnm_read.proofs.Words.{BufferedReader, ReadCall, Fills, Finds}
use Rattle.pnm_read.specs.Said.{in_turn, raw_row}
use Rattle.pnm_read.proofs.ReadCalls.{no_fault, call_ok_so, call_err_so, call_then}
use Rattle.pnm_read.proofs.PieceLaws.{bind_ok}
use Rattle.pnm_read.proofs.UnitLaws.{items_of, bytes_are_units}
use Rattle.pnm_read.proofs.RawSteps.{units_as}
use Rattle.pnm_read.proofs.RawLaws.{row_at_raw}
use Rattle.pnm_read.proofs.RowsInTurn.{RowsRead, read_rows_are_said, fault_is_said}

-- ---- samples of bytes

within-take : (p : SampleWidth) (maxval n : ℕ) (bytes : List ℕ) → AreBytesWithin p maxval bytes → AreBytesWithin p maxval (take n bytes)
within-take Bits maxval n bytes h = tt
within-take Bytes maxval n bytes h = All-take (λ sample. sample ≤ maxval) n bytes h
within-take Words maxval n bytes h = All-take (λ sample. sample ≤ maxval) n bytes h

within-drop : (p : SampleWidth) (maxval n : ℕ) (bytes : List ℕ) → AreBytesWithin p maxval bytes → AreBytesWithin p maxval (drop n bytes)
within-drop Bits maxval n bytes h = tt
within-drop Bytes maxval n bytes h = All-drop (λ sample. sample ≤ maxval) n bytes h
within-drop Words maxval n bytes h = All-drop (λ sample. sample ≤ maxval) n bytes h

-- no bytes are samples of two
not_wide : (p : SampleWidth) (s : Shape) → FitsBytes p s → p ≡ Words → ⊥
not_wide Bits s fits e = cc
not_wide Bytes s fits e = cc
not_wide Words s fits e = fits

-- the others that fit are bytes
pub are_bytes : (p : SampleWidth) (s : Shape) → FitsBytes p s → (p ≡ Bytes) ⊎ (p ≡ Words) → p ≡ Bytes
are_bytes p s fits which = elim which [ inl bytes ↦ bytes | inr words ↦ absurd (subst (λ (q : SampleWidth). FitsBytes q s) words fits) ]

-- ---- rows in turn

-- a row, and what is left of the text
abbrev pub row_done : List ℕ → List ℕ → Result (List ℕ × List ℕ) InputFault
row_done row rest = Ok (row, rest)

-- the row that so many bytes are
first_row : {p : SampleWidth} (s : Shape) (bytes rest : List ℕ) → p ≡ sample_width_of s.kind s.maxval → FitsBytes p s → length bytes ≡ units_in_row p s
    → AreBytesWithin p s.maxval bytes → raw_row s (bytes ++ rest) ≡ Ok (take (row_length s) (samples_of_bytes p bytes), rest)
unfolding raw_row
first_row {p} s bytes rest is_width fits count within =
    let found = bytes_are_units p s.maxval bytes rest (not_wide p s fits) within in
    ap (λ (r : Result (List (List ℕ) × List ℕ) InputFault). r >>= λ units. row_done (take (row_length s) (concat units.0)) units.1)
    (units_as s (bytes ++ rest) is_width count ∙ found.2)
    ∙ ap (λ (l : List ℕ). row_done l rest) (ap (take (row_length s)) (sym found.1))

-- a row before others
pub row_before : (item : List ℕ → Result (List ℕ × List ℕ) InputFault) (n : ℕ) (text left rest row : List ℕ) (rows : List (List ℕ)) → item text ≡ Ok (row, left)
    → in_turn item n left ≡ Ok (rows, rest) → in_turn item (suc n) text ≡ Ok (row ∷ rows, rest)
unfolding in_turn
row_before item n text left rest row rows first others =
    ap (λ (r : Result (List ℕ × List ℕ) InputFault). r >>= λ one. in_turn item n one.1 >>= λ more. items_of (one.0 ∷ more.0) more.1) first
    ∙ ap (λ (r : Result (List (List ℕ) × List ℕ) InputFault). r >>= λ more. items_of (row ∷ more.0) more.1) others

pub no_rows : (item : List ℕ → Result (List ℕ × List ℕ) InputFault) {bytes : List ℕ} (rest : List ℕ) → bytes ≡ []
    → in_turn item zero (bytes ++ rest) ≡ Ok ([], rest)
unfolding in_turn
no_rows item rest none = ap (λ (l : List ℕ). items_of [] (l ++ rest)) none

-- bytes of so many rows are these rows in turn
pub rows_in_turn : {p : SampleWidth} (s : Shape) (count : ℕ) (bytes rest : List ℕ) → p ≡ sample_width_of s.kind s.maxval → FitsBytes p s
    → length bytes ≡ count * units_in_row p s → AreBytesWithin p s.maxval bytes
    → in_turn (raw_row s) count (bytes ++ rest) ≡ Ok (rows_held p s count bytes, rest)
rows_in_turn {p} s zero bytes rest is_width fits size within = no_rows (raw_row s) rest (nil_from_length bytes (size ∙ zero-mul (units_in_row p s)))
rows_in_turn {p} s (suc count) bytes rest is_width fits size within =
    let each : ℕ = units_in_row p s in
    let total : length bytes ≡ count * each + each = size ∙ suc-mul count each in
    let first : List ℕ = take each bytes in
    let later : List ℕ = drop each bytes in
    let size_first : length first ≡ each = length-take-le each bytes (omega (arith, total)) in
    let size_later : length later ≡ count * each = omega (arith, length-drop each bytes, total) in
    let row : List ℕ = take (row_length s) (samples_of_bytes p first) in
    let text : bytes ++ rest ≡ first ++ (later ++ rest) =
    ap (λ (l : List ℕ). l ++ rest) (sym (take-append-drop each bytes)) ∙ append_assoc first later rest in
    ap (in_turn (raw_row s) (suc count)) text
    ∙ row_before (raw_row s) count (first ++ (later ++ rest)) (later ++ rest) rest row (rows_held p s count later)
    (first_row s first (later ++ rest) is_width fits size_first (within-take p s.maxval each bytes within))
    (rows_in_turn s count later rest is_width fits size_later (within-drop p s.maxval each bytes within))

-- ---- rows of bits, and of bytes

-- rows that lie in bytes each from a byte's start on
pub bits_are_rows : (s : Shape) (count : ℕ) (bytes : List ℕ) → FitsBytes Bits s → rows_of_bytes count (row_length s) bytes ≡ rows_held Bits s count bytes
bits_are_rows s zero bytes fits = refl
bits_are_rows s (suc count) bytes fits =
    let each : ℕ = row_length s in
    let units : ℕ = units_in_row Bits s in
    let row : take each (all_pixels bytes) ≡ take each (all_pixels (take units bytes)) =
    sym (take-take each (8 * units) (all_pixels bytes) (omega (arith, fits))) ∙ ap (take each) (take-all_pixels units bytes) in
    ap₂ (λ (r : List ℕ) (l : List (List ℕ)). r ∷ l) row
    (ap (λ (n : ℕ). rows_of_bytes count each (drop n bytes)) fits ∙ bits_are_rows s count (drop units bytes) fits)

pub bits_within : (count each : ℕ) (bytes : List ℕ) → AreRowsWithin 1 (rows_of_bytes count each bytes)
bits_within zero each bytes = All-nil (λ (row : List ℕ). All (λ sample. sample ≤ 1) row)
bits_within (suc count) each bytes =
    All-cons (λ (row : List ℕ). All (λ sample. sample ≤ 1) row) (take each (all_pixels bytes)) (rows_of_bytes count each (drop (bytes_for each) bytes))
    (byte_pixels_within each 1 bytes (omega arith)) (bits_within count each (drop (bytes_for each) bytes))

pub bytes_are_rows : (s : Shape) (count : ℕ) (bytes : List ℕ) → cut_rows count (row_length s) bytes ≡ rows_held Bytes s count bytes
bytes_are_rows s zero bytes = refl
bytes_are_rows s (suc count) bytes =
    ap₂ (λ (r : List ℕ) (l : List (List ℕ)). r ∷ l) (sym (take-take (row_length s) (row_length s) bytes (omega arith)))
    (bytes_are_rows s count (drop (row_length s) bytes))

pub cut_within : (count each most : ℕ) (samples : List ℕ) → All (λ sample. sample ≤ most) samples → AreRowsWithin most (cut_rows count each samples)
cut_within zero each most samples h = All-nil (λ (row : List ℕ). All (λ sample. sample ≤ most) row)
cut_within (suc count) each most samples h =
    All-cons (λ (row : List ℕ). All (λ sample. sample ≤ most) row) (take each samples) (cut_rows count each (drop each samples))
    (All-take (λ sample. sample ≤ most) each samples h) (cut_within count each most (drop each samples) (All-drop (λ sample. sample ≤ most) each samples h))

-- ---- rows that are held

-- the bytes of rows that are held
abbrev pub bytes_held : Raster → ℕ → List ℕ → List ℕ
bytes_held raster count held = take (count * raster.units) held

size_held : {raster : Raster} {count : ℕ} {held : List ℕ} → AreHeld raster count held
    → length (bytes_held raster count held) ≡ count * units_in_row raster.sample_width raster.shape
size_held {raster} {count} {held} h = length-take-le (count * raster.units) held h.long ∙ ap (λ (n : ℕ). count * n) raster.count

pub length-rows_held : (p : SampleWidth) (s : Shape) (count : ℕ) (bytes : List ℕ) → length (rows_held p s count bytes) ≡ count
length-rows_held p s zero bytes = refl
length-rows_held p s (suc count) bytes = ap suc (length-rows_held p s count (drop (units_in_row p s) bytes))

-- they are taken
pub rows_taken : {raster : Raster} {count : ℕ} {held after : List ℕ} {rows : List (List ℕ)} → AreHeld raster count held
    → rows ≡ rows_held raster.sample_width raster.shape count (bytes_held raster count held) → after ≡ drop (count * raster.units) held
    → TakesRows raster.shape count rows held after
rows_taken {raster} {count} {held} {after} h is left = λ rest.
    let bytes : List ℕ = bytes_held raster count held in
    let text : held ++ rest ≡ bytes ++ (after ++ rest) =
    ap (λ (l : List ℕ). l ++ rest) (sym (take-append-drop (count * raster.units) held) ∙ ap (λ (l : List ℕ). bytes ++ l) (sym left))
    ∙ append_assoc bytes after rest in
    ap (in_turn (raw_row raster.shape) count) text
    ∙ rows_in_turn raster.shape count bytes (after ++ rest) raster.samples h.fits (size_held h) h.within
    ∙ ap (λ (l : List (List ℕ)). items_of l (after ++ rest)) (sym is)

-- ---- what is said of rows in turn

-- rows in turn of a raw raster are read
rows_read : (format : Format) (s : Shape) (count n more : ℕ) (text : List ℕ) (found : List (List ℕ) × List ℕ) → is_plain_form format.form ≡ false
    → n ≡ count + more → in_turn (raw_row s) count text ≡ Ok found → RowsRead format s found.0 n text more found.1
unfolding in_turn
rows_read format s zero n more text found raw all e =
    let same : n ≡ more = omega (arith, all) in
    let rows : [] ≡ found.0 = cc in
    let rest : text ≡ found.1 = cc in
    subst (λ (rows : List (List ℕ)). RowsRead format s rows n text more found.1) rows (same, rest)
rows_read format s (suc count) zero more text found raw all e = absurd (omega (arith, all))
rows_read format s (suc count) (suc n) more text found raw all e =
    let first = bind_ok (raw_row s text) (λ one. in_turn (raw_row s) count one.1 >>= λ more. items_of (one.0 ∷ more.0) more.1) e in
    let others = bind_ok (in_turn (raw_row s) count first.0.1) (λ more. items_of (first.0.0 ∷ more.0) more.1) first.2 in
    let rows : first.0.0 ∷ others.0.0 ≡ found.0 = cc in
    let rest : others.0.1 ≡ found.1 = cc in
    let read : RowsRead format s (first.0.0 ∷ others.0.0) (suc n) text more others.0.1 = (
      first.0.1,
      row_at_raw format s n text raw ∙ first.1,
      rows_read format s count n more first.0.1 others.0 raw (omega (arith, all)) others.1,
    ) in
    subst (λ (rows : List (List ℕ)). RowsRead format s rows (suc n) text more found.1) rows
    (subst (λ (rest : List ℕ). RowsRead format s (first.0.0 ∷ others.0.0) (suc n) text more rest) rest read)

-- they are said, and then what is said of the rest
pub rows_are_said : (later : List ℕ → Said) (format : Format) (s : Shape) (count n more : ℕ) (text rest : List ℕ) (rows : List (List ℕ))
    → is_plain_form format.form ≡ false → n ≡ count + more → in_turn (raw_row s) count text ≡ Ok (rows, rest)
    → rows_said later format s n text ≡ after_messages (row_messages rows) (rows_said later format s more rest)
rows_are_said later format s count n more text rest rows raw all e =
    read_rows_are_said later format s rows n text more rest (rows_read format s count n more text (rows, rest) raw all e)

-- ---- what a call finds

-- rows that were taken come next of the raster
pub rows_found : (raster : Raster) (rows : List (List ℕ)) (b a : List ℕ) → is_plain_form raster.format.form ≡ false → 1 ≤ length rows
    → length rows ≤ raster.shape.height - raster.y → in_turn (raw_row raster.shape) (length rows) b ≡ Ok (rows, a) → FindsRows raster (Ok rows) b a
rows_found raster rows b a raw some left e =
    let n : ℕ = raster.shape.height - raster.y in
    let all : n ≡ length rows + (n - length rows) = omega (arith, left) in
    (some, left, rows_are_said later_said raster.format raster.shape (length rows) n (n - length rows) b a rows raw all e)

-- so does a row that was read
row_comes : (raster : Raster) (row : List ℕ) {b m : List ℕ} (a : List ℕ) → is_plain_form raster.format.form ≡ false → raster.y < raster.shape.height → b ≡ m
    → Finds (raw_row raster.shape) (Ok row) m a → FindsRows raster (Ok (row ∷ [])) b a
row_comes raster row {b} a raw lt is e =
    rows_found raster (row ∷ []) b a raw (omega arith) (omega (arith, lt))
    (row_before (raw_row raster.shape) zero b a a row [] (ap (raw_row raster.shape) is ∙ e) (no_rows (raw_row raster.shape) a refl))

-- a row at fault
row_stops : (raster : Raster) (k : InputFault) {b m : List ℕ} (a : List ℕ) → is_plain_form raster.format.form ≡ false → raster.y < raster.shape.height
    → b ≡ m → Finds (raw_row raster.shape) (Err k) m a → FindsRows raster (Err k) b a
row_stops raster k {b} a raw lt is (inl e) =
    let s : Shape = raster.shape in
    let more : ℕ = s.height - raster.y - 1 in
    inl (fault_is_said later_said raster.format s (s.height - raster.y) more b (omega (arith, lt))
    (row_at_raw raster.format s more b raw ∙ ap (raw_row s) is ∙ e))
row_stops raster k a raw lt is (inr o) = inr o

module _ {R : Type 0} {left : R → Option (List ℕ)} {failures : R → ℕ} {same : R → R → Type 0} {old mid now new : BufferedReader R} (raster : Raster) where
  -- a row was read, behind bytes that were
  pub row_read : {row : List ℕ} {rows : List (List ℕ)} → ((a b c : R) → same a b → same b c → same a c) → is_plain_form raster.format.form ≡ false
      → raster.y < raster.shape.height → now ≡ mid → rows ≡ row ∷ [] → ReadCall {A = Unit {0}} left failures same old mid (Ok tt) (Fills (Ok tt))
      → ReadCall {A = List ℕ} left failures same now new (Ok row) (Finds (raw_row raster.shape) (Ok row))
      → ReadCall {A = List (List ℕ)} left failures same old new (Ok rows) (FindsRows raster (Ok rows))
  row_read {row} {rows} later raw lt kept is s t =
      let then : ReadCall {A = List ℕ} left failures same mid new (Ok row) (Finds (raw_row raster.shape) (Ok row)) = rw (← kept) t in
      call_ok_so {A = List ℕ} (Ok rows) (no_fault rows ReadFailed)
      (λ b a o. subst (λ (rows : List (List ℕ)). FindsRows raster (Ok rows) b a) (sym is) (row_comes raster row a raw lt o.1 o.2)) (call_then tt later s then)

  pub row_unread : {k : InputFault} → ((a b c : R) → same a b → same b c → same a c) → is_plain_form raster.format.form ≡ false
      → raster.y < raster.shape.height → now ≡ mid → ReadCall {A = Unit {0}} left failures same old mid (Ok tt) (Fills (Ok tt))
      → ReadCall {A = List ℕ} left failures same now new (Err k) (Finds (raw_row raster.shape) (Err k))
      → ReadCall {A = List (List ℕ)} left failures same old new (Err k) (FindsRows raster (Err k))
  row_unread {k} later raw lt kept s t =
      let then : ReadCall {A = List ℕ} left failures same mid new (Err k) (Finds (raw_row raster.shape) (Err k)) = rw (← kept) t in
      call_err_so (λ b a o. row_stops raster k a raw lt o.1 o.2) (call_then tt later s then)
