-- Rows of a plain raster that are read together.
use Rattle.pnm_read.proofs.Words.{is_plain_form, ◌≡◌, ℕ, zero, suc, ◌+◌, ◌-◌, ◌*◌, ◌<◌, ◌≤◌, true, List, [], ◌++◌, length, drop, All, Option, Result, Ok, Err}
use Rattle.pnm_read.proofs.Words.{inl, inr, refl, sym, ap, subst, ◌∙◌, append_assoc, append-nil, arith, zero-mul, suc-mul, nat_lt, take_at, drop_at, ltb-true}
use Rattle.pnm_read.proofs.Words.{All-append, All-weaker, length-cut_rows, Format, Shape, Kind, Bit, Gray, Color, Pam, SampleWidth, Bits, Bytes, Words}
use Rattle.pnm_read.proofs.Words.{sample_width_of, row_length, row_messages, InputFault, ReadFailed, Memory, BufferedReader, Raster, ◌>>=◌, TakesSamples}
use Rattle.pnm_read.proofs.Words.{FindsRows, TakesPlain, greatest_in, after_messages, later_said, row_in_form, rows_said, held_of, ReadCall, Finds}
use Rattle.std.proofs.Common.{IfOk, IfErr}
use Rattle.std.proofs.Common.{length-append}
use Rattle.std.specs.Prelude.{Bool, false, if◌then◌else◌}
use Rattle.pnm_samples.specs.Cuts.{cut_rows}
use Rattle.pnm_read.specs.Said.{in_turn, plain_row}
use Rattle.pnm_read.proofs.PieceLaws.{bind_ok, done, ok_is}
use Rattle.pnm_read.proofs.PlainLaws.{plain_row_is_read, read_row, read_samples_are_spelled, row_at_plain}
use Rattle.pnm_read.proofs.PlainSteps.{earlier_row, sample_of}
use Rattle.pnm_read.proofs.ReadCalls.{no_fault, call_ok_so, call_err_so, call_held}
use Rattle.pnm_read.proofs.RowsInTurn.{RowsRead, read_rows_are_said, rows_count, fault_is_said}
use Rattle.pnm_read.proofs.UnitLaws.{and_items, in_turn-add, items_of}

-- ---- samples in turn

-- so many samples, and then others
both_in_turn : {A : Type 0} (item : List ℕ → Result (A × List ℕ) InputFault) (a b : ℕ) (text mid rest : List ℕ) (xs ys : List A)
    → in_turn item a text ≡ Ok (xs, mid) → in_turn item b mid ≡ Ok (ys, rest) → in_turn item (a + b) text ≡ Ok (xs ++ ys, rest)
both_in_turn item a b text mid rest xs ys e f =
    in_turn-add item a b text ∙ ap (λ r. r >>= λ items. and_items item b items.0 items.1) e ∙ ap (λ r. r >>= λ more. items_of (xs ++ more.0) more.1) f

in_two_parts : {A : Type 0} (item : List ℕ → Result (A × List ℕ) InputFault) (a b : ℕ) (text : List ℕ) {found : List A × List ℕ}
    → in_turn item (a + b) text ≡ Ok found
    → (first : List A × List ℕ) × (others : List A × List ℕ) × (in_turn item a text ≡ Ok first) × (in_turn item b first.1 ≡ Ok others) × ((
      first.0 ++
          others.0,
      others.1,
    ) ≡ found)
in_two_parts item a b text {found} e =
    let x = bind_ok (in_turn item a text) (λ items. and_items item b items.0 items.1) (sym (in_turn-add item a b text) ∙ e) in
    let y = bind_ok (in_turn item b x.0.1) (λ more. items_of (x.0.0 ++ more.0) more.1) x.2 in
    (x.0, y.0, x.1, y.1, ok_is (x.0.0 ++ y.0.0, y.0.1) found y.2)

-- ---- rows that are taken of what is held

pub taken_none : (s : Shape) (held samples : List ℕ) → TakesPlain s 0 held held samples samples
unfolding in_turn
taken_none s held samples = record {
  samples = [];
  appended = sym (append-nil samples);
  read = λ rest. ap (λ (k : ℕ). in_turn (sample_of s) k (held ++ rest)) (zero-mul (row_length s));
}

-- one more
pub taken_row : {s : Shape} {count taken : ℕ} {before mid after old now new bytes : List ℕ} → TakesPlain s count before mid old now
    → TakesSamples (sample_of s) bytes now new taken → bytes ≡ mid → after ≡ drop taken mid → length new ≡ length now + row_length s
    → TakesPlain s (count + 1) before after old new
taken_row {s} {count} {taken} {before} {mid} {after} {old} {now} u t held left long =
    let each : length t.samples ≡ row_length s = omega (arith, long, ap (λ (l : List ℕ). length l) t.appended, length-append now t.samples) in
    let size : count * row_length s + length t.samples ≡ (count + 1) * row_length s = omega (arith, each, suc-mul count (row_length s)) in
    record {
      samples = u.samples ++ t.samples;
      appended = t.appended ∙ ap (λ (l : List ℕ). l ++ t.samples) u.appended ∙ append_assoc old u.samples t.samples;
      read = λ rest. ap (λ (k : ℕ). in_turn (sample_of s) k (before ++ rest)) (sym size)
          ∙ both_in_turn (sample_of s) (count * row_length s) (length t.samples) (before ++ rest) (mid ++ rest) (after ++ rest) u.samples t.samples
          (u.read rest) (ap (λ (l : List ℕ). in_turn (sample_of s) (length t.samples) (l ++ rest)) (sym held) ∙ t.read rest
          ∙ ap (λ (l : List ℕ). items_of t.samples (l ++ rest)) (ap (drop taken) held ∙ sym left));
    }

-- ---- samples of rows

-- so many rows, none of their samples above the greatest
pub record ArePlain (s : Shape) (count : ℕ) (samples : List ℕ) : Type 0 where
  pub size : length samples ≡ count * row_length s
  pub within : All (λ sample. sample ≤ greatest_in s.kind s.maxval) samples

pub first_is_plain : {R : Type 0} {left : R → Option (List ℕ)} {failures : R → ℕ} {same : R → R → Type 0} {old new : BufferedReader R} {s : Shape}
    {row : List ℕ} → ReadCall {A = List ℕ} left failures same old new (Ok row) (Finds (plain_row s) (Ok row)) → ArePlain s 1 row
first_is_plain {old = old} {s} t =
    let r = read_row s (t.told [] (λ e. refl)) in record {
      size = omega (arith, r.count);
      within = r.range;
    }

pub others_are_plain : {s : Shape} {count : ℕ} {before after row new : List ℕ} → ArePlain s 1 row → TakesPlain s count before after row new
    → ArePlain s (count + 1) new
others_are_plain {s} {count} {before} {after} {row} h t =
    let r = read_samples_are_spelled (count * row_length s) (before ++ []) (t.samples, after ++ []) (t.read []) in record {
      size = omega (arith, ap (λ (l : List ℕ). length l) t.appended, length-append row t.samples, h.size, r.count, suc-mul count (row_length s));
      within = subst (All (λ sample. sample ≤ greatest_in s.kind s.maxval)) (sym t.appended)
          (All-append (λ sample. sample ≤ greatest_in s.kind s.maxval) row t.samples h.within r.range);
    }

-- ---- samples in turn are rows

-- a row before others
row_before : (format : Format) (s : Shape) (count n more : ℕ) (text left rest row others : List ℕ) {samples : List ℕ} → is_plain_form format.form ≡ true
    → row_in_form true s n text ≡ Ok (row, left) → samples ≡ row ++ others → RowsRead format s (cut_rows count (row_length s) others) n left more rest
    → RowsRead format s (cut_rows (suc count) (row_length s) samples) (suc n) text more rest
row_before format s count n more text left rest row others plain e is read =
    let long = (plain_row_is_read s n e).0.count in
    subst (λ (l : List ℕ). RowsRead format s (cut_rows (suc count) (row_length s) l) (suc n) text more rest) (sym is) (
      left,
      row_at_plain format s n text plain ∙ e ∙ ap (λ (l : List ℕ). done (l, left)) (sym (take_at row others (row_length s) long)),
      subst (λ (l : List ℕ). RowsRead format s (cut_rows count (row_length s) l) n left more rest) (sym (drop_at row others (row_length s) long)) read,
    )

-- rows before the last one
rows_before_last : (format : Format) (s : Shape) (count n more : ℕ) (text : List ℕ) (found : List ℕ × List ℕ) → is_plain_form format.form ≡ true
    → n ≡ count + more → 0 < more → in_turn (sample_of s) (count * row_length s) text ≡ Ok found
    → RowsRead format s (cut_rows count (row_length s) found.0) n text more found.1
unfolding in_turn plain_row
rows_before_last format s zero n more text found plain all some e =
    let none : done ([], text) ≡ done found = ap (λ (k : ℕ). in_turn (sample_of s) k text) (sym (zero-mul (row_length s))) ∙ e in
    (omega (arith, all), ap (λ (f : List ℕ × List ℕ). f.1) (ok_is ([], text) found none))
rows_before_last format s (suc count) zero more text found plain all some e = absurd (omega (arith, all))
rows_before_last format s (suc count) (suc n) more text found plain all some e =
    let each : ℕ = row_length s in
    let size : each + count * each ≡ suc count * each = omega (arith, suc-mul count each) in
    let x = in_two_parts (sample_of s) each (count * each) text (ap (λ (k : ℕ). in_turn (sample_of s) k text) size ∙ e) in
    let row : row_in_form true s n text ≡ Ok x.0 = earlier_row s n text (omega (arith, all, some)) ∙ x.2 in
    let others = rows_before_last format s count n more x.0.1 x.1 plain (omega (arith, all)) some x.3 in
    subst (λ (f : List ℕ × List ℕ). RowsRead format s (cut_rows (suc count) each f.0) (suc n) text more f.1) x.4
    (row_before format s count n more text x.0.1 x.1.1 x.0.0 x.1.0 plain row refl others)

-- ---- what a call found

-- so many rows of these samples come next of the raster, and then the text goes on so
abbrev NextRows : Raster → ℕ → List ℕ → List ℕ → List ℕ → Type 0
NextRows raster count samples b a = (more : ℕ)
    × RowsRead raster.format raster.shape (cut_rows count (row_length raster.shape) samples) (raster.shape.height - raster.y) b more a

rows_told : (raster : Raster) (count : ℕ) (samples : List ℕ) {rows : List (List ℕ)} (b a : List ℕ) → 1 ≤ count
    → rows ≡ cut_rows count (row_length raster.shape) samples → NextRows raster count samples b a → FindsRows raster (Ok rows) b a
rows_told raster count samples {rows} b a some is next =
    let s : Shape = raster.shape in
    let n : ℕ = s.height - raster.y in
    let read = subst (λ (l : List (List ℕ)). RowsRead raster.format s l n b next.0 a) (sym is) next.1 in
    let long : length rows ≡ count = ap (λ (l : List (List ℕ)). length l) is ∙ length-cut_rows count (row_length s) samples in
    let all : n ≡ length rows + next.0 = rows_count raster.format s rows n b next.0 a read in
    let left : next.0 ≡ n - length rows = omega (arith, all) in (
      omega (arith, some, long),
      omega (arith, all),
      read_rows_are_said later_said raster.format s rows n b next.0 a read
          ∙ ap (λ (k : ℕ). after_messages (row_messages rows) (rows_said later_said raster.format s k a)) left,
    )

fault_told : (raster : Raster) {more : ℕ} (k : InputFault) (b a : List ℕ) → is_plain_form raster.format.form ≡ true
    → raster.shape.height - raster.y ≡ suc more → Finds (row_in_form true raster.shape more) (Err k) b a → FindsRows raster (Err k) b a
fault_told raster {more} k b a plain all (inl e) =
    inl (fault_is_said later_said raster.format raster.shape (raster.shape.height - raster.y) more b all
    (row_at_plain raster.format raster.shape more b plain ∙ e))
fault_told raster k b a plain all (inr outside) = inr outside

module _ {R : Type 0} {left : R → Option (List ℕ)} {failures : R → ℕ} {same : R → R → Type 0} {old new : BufferedReader R} (raster : Raster) where
  rows_found : (count : ℕ) (samples : List ℕ) (result : Result (List (List ℕ)) InputFault) → 1 ≤ count
      → IfOk result (λ rows. rows ≡ cut_rows count (row_length raster.shape) samples) → IfErr result (λ fault. fault ≡ Memory)
      → ReadCall {A = Unit {0}} left failures same old new (Ok tt) (NextRows raster count samples)
      → ReadCall left failures same old new result (FindsRows raster result)
  rows_found count samples (Ok rows) some is none t =
      call_ok_so {A = Unit {0}} {B = List (List ℕ)} (Ok rows) (no_fault rows ReadFailed) (λ b a o. rows_told raster count samples b a some is o) t
  rows_found count samples (Err k) some is none t =
      call_ok_so {A = Unit {0}} {B = List (List ℕ)} (Err k) (λ e. let same : Err Memory ≡ Err ReadFailed = ap (λ (k : InputFault). Err k) (sym none) ∙ e in
      absurd cc) (λ b a o. inr (inr none)) t

  -- the last row
  pub last_found : (more : ℕ) {row : List ℕ} {result : Result (List (List ℕ)) InputFault} → is_plain_form raster.format.form ≡ true
      → raster.shape.height - raster.y ≡ suc more → more ≡ 0 → IfOk result (λ rows. rows ≡ cut_rows 1 (row_length raster.shape) row)
      → IfErr result (λ fault. fault ≡ Memory) → ReadCall {A = List ℕ} left failures same old new (Ok row)
      (Finds (row_in_form true raster.shape more) (Ok row)) → ReadCall left failures same old new result (FindsRows raster result)
  last_found more {row} {result} plain all last is none t =
      rows_found 1 row result (omega arith) is none (call_ok_so {A = List ℕ} {B = Unit {0}} (Ok tt) (no_fault tt ReadFailed) (λ b a o. (
        more,
        subst (λ (n : ℕ). RowsRead raster.format raster.shape (cut_rows 1 (row_length raster.shape) row) n b more a) (sym all)
            (row_before raster.format raster.shape 0 more more b a a row [] plain o (sym (append-nil row)) (refl, refl)),
      )) t)

  -- a row, and others that were held
  pub more_found : {mid : BufferedReader R} (more : ℕ) {count : ℕ} {row samples : List ℕ} {result : Result (List (List ℕ)) InputFault}
      → is_plain_form raster.format.form ≡ true → raster.shape.height - raster.y ≡ suc more → count < more → TakesPlain raster.shape count (held_of mid)
      (held_of new) row samples → new.reader ≡ mid.reader → new.ended ≡ mid.ended
      → IfOk result (λ rows. rows ≡ cut_rows (count + 1) (row_length raster.shape) samples) → IfErr result (λ fault. fault ≡ Memory)
      → ReadCall {A = List ℕ} left failures same old mid (Ok row) (Finds (plain_row raster.shape) (Ok row))
      → ReadCall left failures same old new result (FindsRows raster result)
  more_found {mid = mid} more {count} {row} {samples} {result} plain all fewer taken reader ended is none t =
      let s : Shape = raster.shape in
      rows_found (count + 1) samples result (omega arith) is none
      (call_held {A = List ℕ} {B = Unit {0}} row (Ok tt) (no_fault tt ReadFailed) reader ended (λ b rest c o.
      let left : more ≡ count + (more - count) = omega (arith, fewer) in
      let others = rows_before_last raster.format s count more (more - count) (held_of mid ++ rest) (taken.samples, held_of new ++ rest) plain left
      (omega (arith, fewer)) (taken.read rest) in
      let one : suc count ≡ count + 1 = omega arith in (
        more - count,
        subst (λ (n : ℕ). RowsRead raster.format s (cut_rows (count + 1) (row_length s) samples) n b (more - count) (held_of new ++ rest)) (sym all)
            (subst (λ (k : ℕ). RowsRead raster.format s (cut_rows k (row_length s) samples) (suc more) b (more - count) (held_of new ++ rest)) one
            (row_before raster.format s count more (more - count) b (held_of mid ++ rest) (held_of new ++ rest) row taken.samples plain
            (earlier_row s more b (omega (arith, fewer)) ∙ o) taken.appended others)),
      )) t)

  -- a row at fault
  pub fault_found : {A : Type 0} (more : ℕ) {k : InputFault} → is_plain_form raster.format.form ≡ true → raster.shape.height - raster.y ≡ suc more
      → ReadCall {A = A} left failures same old new (Err k) (Finds (row_in_form true raster.shape more) (Err k))
      → ReadCall {A = List (List ℕ)} left failures same old new (Err k) (FindsRows raster (Err k))
  fault_found more {k} plain all t = call_err_so (λ b a o. fault_told raster k b a plain all o) t

-- ---- how rows are held

-- the greatest sample of rows that are held so
abbrev pub Greatest : SampleWidth → Kind → ℕ → Type 0
Greatest Bits kind maxval = greatest_in kind maxval ≡ 1
Greatest Bytes kind maxval = (greatest_in kind maxval ≡ maxval) × (maxval ≤ 255)
Greatest Words kind maxval = greatest_in kind maxval ≡ maxval

byte_or_word : (kind : Kind) {maxval : ℕ} → greatest_in kind maxval ≡ maxval → (small : Bool) → nat_lt maxval 256 ≡ small
    → Greatest (if small then Bytes else Words) kind maxval
byte_or_word kind {maxval} is true small = (is, let lt : maxval < 256 = ltb-true maxval 256 small in omega (arith, lt))
byte_or_word kind is false small = is

greatest_by : (kind : Kind) (maxval : ℕ) → Greatest (sample_width_of kind maxval) kind maxval
greatest_by Bit maxval = refl
greatest_by Gray maxval = byte_or_word Gray refl (nat_lt maxval 256) refl
greatest_by Color maxval = byte_or_word Color refl (nat_lt maxval 256) refl
greatest_by Pam maxval = byte_or_word Pam refl (nat_lt maxval 256) refl

-- samples up to the greatest are up to what they are held with
pub samples_fit : {p width : SampleWidth} (kind : Kind) (maxval most : ℕ) (samples : List ℕ) → p ≡ width → p ≡ sample_width_of kind maxval
    → (Greatest width kind maxval → greatest_in kind maxval ≤ most) → All (λ sample. sample ≤ greatest_in kind maxval) samples
    → All (λ sample. sample ≤ most) samples
samples_fit {p} kind maxval most samples is of fits within =
    let greatest = fits (subst (λ (p : SampleWidth). Greatest p kind maxval) (sym of ∙ is) (greatest_by kind maxval)) in
    All-weaker (λ sample. sample ≤ greatest_in kind maxval) (λ sample. sample ≤ most) (λ sample le. omega (arith, le, greatest)) samples within
