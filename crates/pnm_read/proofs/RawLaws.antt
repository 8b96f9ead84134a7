-- Raw rasters: the rows that one spells are said, and what is said without a fault is spelled.
use Rattle.pnm_read.proofs.Words.{is_plain_form, ◌≡◌, ℕ, zero, suc, ◌+◌, ◌*◌, ◌/◌, ◌<◌, ◌≤◌, Bool, true, false, leb, if◌then◌else◌, List, [], ◌∷◌, ◌++◌, length}
use Rattle.pnm_read.proofs.Words.{get_or, take, drop, map, flat_map, All, None, Result, Ok, refl, sym, ap, append_assoc, ◌∙◌, ap₂, subst, arith, zero-mul}
use Rattle.pnm_read.proofs.Words.{suc-mul, concat, take_all, take_at, drop_at, take-append-le, drop-append-le, take-append-drop, length-take, length-take-le}
use Rattle.pnm_read.proofs.Words.{length-drop, length-append, nil_from_length, All-nil, All-append, All-take, All-map, Shape, Kind, Bit, Gray, Color, Pam, Row}
use Rattle.pnm_read.proofs.Words.{ImageEnd, HeadValue, IsHead, Suits, row_length, Image, cut_rows, rows_of, IsRowOf, AreRowsOf, image_of, IsImage-image_of}
use Rattle.pnm_read.proofs.Words.{rows_of-image_of, AreRowsOf-rows_of, InputFault, Format, SampleWidth, Bits, Bytes, Words, bytes_in_row, pixel_at, raw_samples}
use Rattle.pnm_read.proofs.Words.{SpellsRaw, sample_width_of, ◌>>=◌, units_in_row, units_at, row_in_form, row_at, Said, then_said, after_messages}
use Rattle.std.proofs.Common.{nat_lt}
use Rattle.pnm_read.specs.Rasters.{pixels, wide_samples}
use Rattle.pnm_read.specs.Items.{raw_item}
use Rattle.pnm_read.specs.Said.{in_turn, raw_row, rows_said}
use Rattle.pnm_read.proofs.EndSaid.{end_said}
use Rattle.pnm_read.proofs.PieceLaws.{bind_ok}
use Rattle.pnm_read.proofs.UnitLaws.{unit_bytes, ItemsRead, single, concat_singles, concat_pixels, are_within, are_within_all, all_are_within, unit_if}
use Rattle.pnm_read.proofs.UnitLaws.{units_if}
use Rattle.pnm_read.proofs.UnitLaws.{packed_units, narrow_units, wide_units}
use Rattle.pnm_read.proofs.RowsInTurn.{RowsRead, rows_count, read_rows_are_said, ended_fault, all_read, no_more_to_come}

-- ---- the bytes of a row

-- a row, and what is left of the text
abbrev pub Read : Type 0
Read = Result (List ℕ × List ℕ) InputFault

-- the bytes of a row, by the width of its samples
abbrev bytes_by : SampleWidth → Shape → ℕ
bytes_by p s = elim p [
  | Bits ↦ (s.width + 7) / 8
  | Bytes ↦ row_length s
  | Words ↦ 2 * row_length s
]

-- the samples in the bytes of a row, by the width of its samples
abbrev samples_by : SampleWidth → Shape → List ℕ → List ℕ
samples_by p s bytes = elim p [
  | Bits ↦ take s.width (flat_map pixels bytes)
  | Bytes ↦ bytes
  | Words ↦ wide_samples bytes
]

-- a raw row, by the width of its samples
abbrev row_in : SampleWidth → Shape → List ℕ → Read
row_in p s text = in_turn (raw_item p s.maxval) (units_in_row p s) text >>= λ units. Ok (take (row_length s) (concat units.0), units.1)

abbrev row_done : List ℕ → List ℕ → Read
row_done row rest = Ok (row, rest)

abbrev items_done : List (List ℕ) → List ℕ → ItemsRead
items_done units rest = Ok (units, rest)

-- a row has one sample a pixel where eight pixels are packed in a byte, and its maxval isn't 0
pub record IsPackable (p : SampleWidth) (s : Shape) : Type 0 where
  pub one : p ≡ Bits → s.depth ≡ 1
  pub maxval_low : 0 < s.maxval

length-pixels : (bytes : List ℕ) → length (flat_map pixels bytes) ≡ length bytes * 8
unfolding pixels
length-pixels [] = refl
length-pixels (b ∷ bytes) = omega (arith, length-pixels bytes, length-append (pixels b) (flat_map pixels bytes), suc-mul (length bytes) 8)

-- a pixel is at most 1
pixel_le : (maxval bit byte : ℕ) → 0 < maxval → pixel_at bit byte ≤ maxval
pixel_le maxval bit byte low = omega arith

-- the bits of a byte, the most significant first
abbrev bits : List ℕ
bits = 7 ∷ 6 ∷ 5 ∷ 4 ∷ 3 ∷ 2 ∷ 1 ∷ 0 ∷ []

pixels_within : (maxval byte : ℕ) → 0 < maxval → All (λ sample. sample ≤ maxval) (pixels byte)
unfolding pixels
pixels_within maxval b low = All-map (λ sample. sample ≤ maxval) (λ bit. pixel_at bit b) bits (λ k d lt. pixel_le maxval (get_or bits k d) b low)

all_pixels_within : (maxval : ℕ) (bytes : List ℕ) → 0 < maxval → All (λ sample. sample ≤ maxval) (flat_map pixels bytes)
all_pixels_within maxval [] low = All-nil (λ sample. sample ≤ maxval)
all_pixels_within maxval (b ∷ bytes) low = All-append (λ sample. sample ≤ maxval) (pixels b) (flat_map pixels bytes) (pixels_within maxval b low)
    (all_pixels_within maxval bytes low)

length-wide_samples : (n : ℕ) (bytes : List ℕ) → length bytes ≡ 2 * n → length (wide_samples bytes) ≡ n
unfolding wide_samples
length-wide_samples zero [] e = refl
length-wide_samples zero (b ∷ bytes) e = absurd (omega arith)
length-wide_samples (suc n) [] e = absurd (omega arith)
length-wide_samples (suc n) (b ∷ []) e = absurd (omega arith)
length-wide_samples (suc n) (b ∷ c ∷ bytes) e = ap suc (length-wide_samples n bytes (omega arith))

-- so many bytes hold a whole row of samples
length-samples_by : (p : SampleWidth) {s : Shape} (bytes : List ℕ) → IsPackable p s → length bytes ≡ bytes_by p s
    → length (samples_by p s bytes) ≡ row_length s
length-samples_by Bits {s} bytes h e =
    let one : s.depth ≡ 1 = h.one refl in
    omega (arith, length-take s.width (flat_map pixels bytes), length-pixels bytes, ap (λ (d : ℕ). s.width * d) one)
length-samples_by Bytes bytes h e = e
length-samples_by Words {s} bytes h e = length-wide_samples (row_length s) bytes e

-- what units in turn give as a row
after_units : (n : ℕ) (within : Bool) (units : List (List ℕ)) (rest : List ℕ) {r : ItemsRead} → r ≡ units_if within units rest
    → (r >>= λ found. row_done (take n (concat found.0)) found.1) ≡ unit_if within (take n (concat units)) rest
after_units n true units rest e = rw e refl
after_units n false units rest e = rw e refl

-- what the first so many bytes of a text give, by the width of its samples
row_read_by : (p : SampleWidth) {s : Shape} (bytes rest : List ℕ) → IsPackable p s → length bytes ≡ bytes_by p s
    → row_in p s (bytes ++ rest) ≡ unit_if (are_within s.maxval (samples_by p s bytes)) (samples_by p s bytes) rest
row_read_by Bits {s} bytes rest h e =
    let units : in_turn (raw_item Bits s.maxval) ((s.width + 7) / 8) (bytes ++ rest) ≡ units_if true (map pixels bytes) rest =
    ap (λ (n : ℕ). in_turn (raw_item Bits s.maxval) n (bytes ++ rest)) (sym e) ∙ packed_units s.maxval bytes rest in
    let within : are_within s.maxval (take s.width (flat_map pixels bytes)) ≡ true =
    are_within_all s.maxval (take s.width (flat_map pixels bytes))
    (All-take (λ sample. sample ≤ s.maxval) s.width (flat_map pixels bytes) (all_pixels_within s.maxval bytes h.maxval_low)) in
    let long : row_length s ≡ s.width = omega (arith, ap (λ (d : ℕ). s.width * d) (h.one refl)) in
    after_units (row_length s) true (map pixels bytes) rest units
    ∙ ap₂ (λ (n : ℕ) (l : List ℕ). row_done (take n l) rest) long (concat_pixels bytes)
    ∙ ap (λ (t : Bool). unit_if t (take s.width (flat_map pixels bytes)) rest) (sym within)
row_read_by Bytes {s} bytes rest h e =
    let units = ap (λ (n : ℕ). in_turn (raw_item Bytes s.maxval) n (bytes ++ rest)) (sym e) ∙ narrow_units s.maxval bytes rest in
    after_units (row_length s) (are_within s.maxval bytes) (map single bytes) rest units
    ∙ ap (λ (l : List ℕ). unit_if (are_within s.maxval bytes) l rest) (ap (take (row_length s)) (concat_singles bytes)
    ∙ take_all (row_length s) bytes (omega arith))
row_read_by Words {s} bytes rest h e =
    let units = wide_units s.maxval (row_length s) bytes rest (omega arith) in
    let samples : List ℕ = wide_samples bytes in
    let count : length samples ≡ row_length s = length-wide_samples (row_length s) bytes e in
    after_units (row_length s) (are_within s.maxval samples) (map single samples) rest units
    ∙ ap (λ (l : List ℕ). unit_if (are_within s.maxval samples) l rest) (ap (take (row_length s)) (concat_singles samples)
    ∙ take_all (row_length s) samples (omega arith))

-- what passed a test is left as it is
pub row_if_ok : (t : Bool) (row rest : List ℕ) {found : List ℕ × List ℕ} → unit_if t row rest ≡ Ok found → (t ≡ true) × (found.1 ≡ rest)
row_if_ok true row rest e = (refl, cc)
row_if_ok false row rest e = absurd cc

-- a unit that was read has its bytes
unit_length : (p : SampleWidth) (maxval : ℕ) (text : List ℕ) {found : List ℕ × List ℕ} → raw_item p maxval text ≡ Ok found
    → length text ≡ unit_bytes p + length found.1
unfolding raw_item
unit_length Bits maxval [] e = absurd cc
unit_length Bits maxval (b ∷ text) {found} e = let left : text ≡ found.1 = cc in omega (arith, ap length left)
unit_length Bytes maxval [] e = absurd cc
unit_length Bytes maxval (b ∷ text) e = let left = sym (row_if_ok (leb b maxval) (single b) text e).1 in omega (arith, ap length left)
unit_length Words maxval [] e = absurd cc
unit_length Words maxval (b ∷ []) e = absurd cc
unit_length Words maxval (b ∷ c ∷ text) e = let left = sym (row_if_ok (leb (256 * b + c) maxval) (single (256 * b + c)) text e).1 in
    omega (arith, ap length left)

-- units that were read in turn have their bytes
units_length : (p : SampleWidth) (maxval n : ℕ) (text : List ℕ) (found : List (List ℕ) × List ℕ) → in_turn (raw_item p maxval) n text ≡ Ok found
    → length text ≡ n * unit_bytes p + length found.1
unfolding in_turn
units_length p maxval zero text found e = let left : text ≡ found.1 = cc in omega (arith, ap length left, zero-mul (unit_bytes p))
units_length p maxval (suc n) text found e =
    let first = bind_ok (raw_item p maxval text) (λ one. in_turn (raw_item p maxval) n one.1 >>= λ more. items_done (one.0 ∷ more.0) more.1) e in
    let others = bind_ok (in_turn (raw_item p maxval) n first.0.1) (λ more. items_done (first.0.0 ∷ more.0) more.1) first.2 in
    let left : others.0.1 ≡ found.1 = cc in
    omega (arith, unit_length p maxval text first.1, units_length p maxval n first.0.1 others.0 others.1, ap length left, suc-mul n (unit_bytes p))

-- the bytes of the units of a row are the row's
bytes_of_units : (p : SampleWidth) (s : Shape) → units_in_row p s * unit_bytes p ≡ bytes_by p s
bytes_of_units Bits s = omega arith
bytes_of_units Bytes s = omega arith
bytes_of_units Words s = omega arith

-- a row that was read has its bytes
row_length_by : (p : SampleWidth) (s : Shape) (text : List ℕ) {found : List ℕ × List ℕ} → row_in p s text ≡ Ok found → bytes_by p s ≤ length text
row_length_by p s text e =
    let units = bind_ok (in_turn (raw_item p s.maxval) (units_in_row p s) text) (λ units. row_done (take (row_length s) (concat units.0)) units.1) e in
    let count = units_length p s.maxval (units_in_row p s) text units.0 units.1 in
    omega (arith, count, bytes_of_units p s)

-- ---- rows

-- a number of bytes a sample is no byte of pixels
not_packed : (t : Bool) → (if t then Bytes else Words) ≡ Bits → ⊥
not_packed true e = cc
not_packed false e = cc

-- what a header says of its shape's rows
packable_by : (kind : Kind) (depth maxval m : ℕ) (tuple_type : List ℕ) → Suits kind depth maxval tuple_type → sample_width_of kind m ≡ Bits → depth ≡ 1
packable_by Bit depth maxval m tuple_type h e = h.0
packable_by Gray depth maxval m tuple_type h e = absurd (not_packed (nat_lt m 256) e)
packable_by Color depth maxval m tuple_type h e = absurd (not_packed (nat_lt m 256) e)
packable_by Pam depth maxval m tuple_type h e = absurd (not_packed (nat_lt m 256) e)

abbrev pub sample_width_in : Shape → SampleWidth
sample_width_in s = sample_width_of s.kind s.maxval

pub packable : (head : HeadValue) → IsHead head → IsPackable (sample_width_in head.shape) head.shape
packable head h = record {
  one = packable_by head.shape.kind head.shape.depth head.shape.maxval head.shape.maxval head.tuple_type h.suits;
  maxval_low = h.limits.maxval_low;
}

-- the first row of a text that is long enough
pub row_read : {s : Shape} (text : List ℕ) → IsPackable (sample_width_in s) s → bytes_in_row s ≤ length text
    → raw_row s text ≡ unit_if (are_within s.maxval (raw_samples s (take (bytes_in_row s) text))) (raw_samples s (take (bytes_in_row s) text))
    (drop (bytes_in_row s) text)
unfolding raw_row
row_read {s} text h long =
    ap (row_in (sample_width_in s) s) (sym (take-append-drop (bytes_in_row s) text))
    ∙ row_read_by (sample_width_in s) (take (bytes_in_row s) text) (drop (bytes_in_row s) text) h (length-take-le (bytes_in_row s) text long)

-- a row that was read is long enough
pub row_long : (s : Shape) (text : List ℕ) {found : List ℕ × List ℕ} → raw_row s text ≡ Ok found → bytes_in_row s ≤ length text
unfolding raw_row
row_long s text e = row_length_by (sample_width_in s) s text e

-- the rows of samples in the rows of bytes
abbrev pub raw_rows : Shape → ℕ → List ℕ → List (List ℕ)
raw_rows s count text = map (raw_samples s) (cut_rows count (bytes_in_row s) text)

-- the messages of rows and of the image's end, and then what is said
abbrev pub rows_then : List (List ℕ) → Said → Said
rows_then rows s = record { messages = map Row rows ++ ImageEnd ∷ s.messages; fault = s.fault }

-- a row of a raw format is a raw row
pub row_at_raw : (format : Format) (s : Shape) (more : ℕ) (text : List ℕ) → is_plain_form format.form ≡ false → row_at format s more text ≡ raw_row s text
row_at_raw format s more text plain = ap (λ (b : Bool). row_in_form b s more text) plain

-- a row that a longer text begins with
pub row_in_prefix : {s : Shape} (text rest : List ℕ) → IsPackable (sample_width_in s) s → bytes_in_row s ≤ length text
    → are_within s.maxval (raw_samples s (take (bytes_in_row s) text)) ≡ true
    → raw_row s (text ++ rest) ≡ unit_if true (raw_samples s (take (bytes_in_row s) text)) (drop (bytes_in_row s) text ++ rest)
row_in_prefix {s} text rest h long within =
    let each : ℕ = bytes_in_row s in
    let prefix : take each (text ++ rest) ≡ take each text = take-append-le each text rest long in
    let back : drop each (text ++ rest) ≡ drop each text ++ rest = drop-append-le each text rest long in
    row_read (text ++ rest) h (omega (arith, length-append text rest))
    ∙ ap (λ (l : List ℕ). unit_if (are_within s.maxval (raw_samples s l)) (raw_samples s l) (drop each (text ++ rest))) prefix
    ∙ ap (λ (l : List ℕ). unit_if (are_within s.maxval (raw_samples s (take each text))) (raw_samples s (take each text)) l) back
    ∙ ap (λ (t : Bool). unit_if t (raw_samples s (take each text)) (drop each text ++ rest)) within

-- a row that was read is the row that its test passed
pub row_if_row : (t : Bool) (row rest : List ℕ) {found : List ℕ × List ℕ} → unit_if t row rest ≡ Ok found → row ≡ found.0
row_if_row true row rest e = cc
row_if_row false row rest e = absurd cc

-- a raw row that was read is a row of the head's shape
pub raw_row_is_row : {head : HeadValue} (text : List ℕ) {found : List ℕ × List ℕ} → IsHead head → raw_row head.shape text ≡ Ok found
    → IsRowOf head.shape found.0
raw_row_is_row {head} text {found} h e =
    let s : Shape = head.shape in
    let each : ℕ = bytes_in_row s in
    let row : List ℕ = raw_samples s (take each text) in
    let long : each ≤ length text = row_long s text e in
    let test : unit_if (are_within s.maxval row) row (drop each text) ≡ Ok found = sym (row_read text (packable head h) long) ∙ e in
    let is : IsRowOf s row = record {
      count = length-samples_by (sample_width_in s) (take each text) (packable head h) (length-take-le each text long);
      range = all_are_within s.maxval row (row_if_ok (are_within s.maxval row) row (drop each text) test).0;
    } in
    subst (IsRowOf s) (row_if_row (are_within s.maxval row) row (drop each text) test) is

-- the rows of bytes in which rows of samples are
pub record RawBytes (s : Shape) (rows : List (List ℕ)) (text rest : List ℕ) : Type 0 where
  pub bytes : List ℕ
  pub whole : text ≡ bytes ++ rest
  pub count : length bytes ≡ length rows * bytes_in_row s
  pub rows_are : raw_rows s (length rows) bytes ≡ rows
  pub are : AreRowsOf s rows

-- a row of bytes before others
bytes_before : {s : Shape} {row : List ℕ} {rows : List (List ℕ)} {text left rest : List ℕ} → bytes_in_row s ≤ length text
    → raw_samples s (take (bytes_in_row s) text) ≡ row → left ≡ drop (bytes_in_row s) text → IsRowOf s row → RawBytes s rows left rest
    → RawBytes s (row ∷ rows) text rest
bytes_before {s} {rows} {text} {rest} long same after is others =
    let each : ℕ = bytes_in_row s in
    let first : List ℕ = take each text in
    let size : length first ≡ each = length-take-le each text long in
    let prefix : take each (first ++ others.bytes) ≡ first = take_at first others.bytes each size in
    let back : drop each (first ++ others.bytes) ≡ others.bytes = drop_at first others.bytes each size in
    record {
      bytes = first ++ others.bytes;
      whole = sym (take-append-drop each text) ∙ ap (λ (l : List ℕ). first ++ l) (sym after ∙ others.whole) ∙ sym (append_assoc first others.bytes rest);
      count = omega (arith, length-append first others.bytes, size, others.count, suc-mul (length rows) each);
      rows_are = ap₂ (λ (x : List ℕ) (xs : List (List ℕ)). x ∷ xs) (ap (raw_samples s) prefix ∙ same) (ap (raw_rows s (length rows)) back ∙ others.rows_are);
      are = (is, others.are);
    }

pub raw_rows_have_bytes : (format : Format) {head : HeadValue} (rows : List (List ℕ)) (n : ℕ) (text : List ℕ) (more : ℕ) {rest : List ℕ}
    → is_plain_form format.form ≡ false → IsHead head → RowsRead format head.shape rows n text more rest → RawBytes head.shape rows text rest
raw_rows_have_bytes format {head} [] n text more raw h read =
    record { bytes = []; whole = read.1; count = sym (zero-mul (bytes_in_row head.shape)); rows_are = refl; are = tt }
raw_rows_have_bytes format (row ∷ rows) zero text more raw h read = absurd read
raw_rows_have_bytes format {head} (row ∷ rows) (suc n) text more raw h read =
    let s : Shape = head.shape in
    let each : ℕ = bytes_in_row s in
    let samples : List ℕ = raw_samples s (take each text) in
    let found : raw_row s text ≡ Ok (row, read.0) = sym (row_at_raw format s n text raw) ∙ read.1 in
    let long : each ≤ length text = row_long s text found in
    let test : unit_if (are_within s.maxval samples) samples (drop each text) ≡ Ok (row, read.0) = sym (row_read text (packable head h) long) ∙ found in
    bytes_before long (row_if_row (are_within s.maxval samples) samples (drop each text) test)
    (row_if_ok (are_within s.maxval samples) samples (drop each text) test).1 (raw_row_is_row text h found)
    (raw_rows_have_bytes format rows n read.0 more raw h read.2)

-- rows that are spelled are read in turn
pub raw_rows_are_read : (format : Format) {s : Shape} (rows n : ℕ) (text : List ℕ) (more : ℕ) (rest : List ℕ) → is_plain_form format.form ≡ false
    → IsPackable (sample_width_in s) s → n ≡ rows + more → length text ≡ rows * bytes_in_row s → AreRowsOf s (raw_rows s rows text)
    → RowsRead format s (raw_rows s rows text) n (text ++ rest) more rest
raw_rows_are_read format {s} zero n text more rest raw h count size are =
    let nothing : text ≡ [] = nil_from_length text (size ∙ zero-mul (bytes_in_row s)) in
    (omega arith, ap (λ (t : List ℕ). t ++ rest) nothing)
raw_rows_are_read format (suc rows) zero text more rest raw h count size are = absurd (omega arith)
raw_rows_are_read format {s} (suc rows) (suc n) text more rest raw h count size are =
    let each : ℕ = bytes_in_row s in
    let total : length text ≡ rows * each + each = size ∙ suc-mul rows each in
    let within = are_within_all s.maxval (raw_samples s (take each text)) are.0.range in
    let left : length (drop each text) ≡ rows * each = omega (arith, length-drop each text) in (
      drop each text ++ rest,
      row_at_raw format s n (text ++ rest) raw ∙ row_in_prefix text rest h (omega arith) within,
      raw_rows_are_read format rows n (drop each text) more rest raw h (omega arith) left are.1,
    )

-- a row that was read leaves no more than there was
pub raw_row_shorter : (s : Shape) (text : List ℕ) {found : List ℕ × List ℕ} → raw_row s text ≡ Ok found → length found.1 ≤ length text
unfolding raw_row
raw_row_shorter s text {found} e =
    let units = bind_ok (units_at s text) (λ units. row_done (take (row_length s) (concat units.0)) units.1) e in
    let count = units_length (sample_width_in s) s.maxval (units_in_row (sample_width_in s) s) text units.0 units.1 in
    let left : units.0.1 ≡ found.1 = cc in
    omega (arith, count, ap length left)

-- ---- images

-- after all rows come the image's end and what follows
after_rows : (later : List ℕ → Said) (format : Format) (s : Shape) (rows : List (List ℕ)) (rest : List ℕ) → is_plain_form format.form ≡ false
    → after_messages (map Row rows) (rows_said later format s zero rest) ≡ rows_then rows (later rest)
unfolding rows_said
after_rows later format s [] rest raw = ap (λ (p : Bool). then_said ImageEnd (end_said later p rest)) raw
after_rows later format s (row ∷ rows) rest raw = ap (then_said (Row row)) (after_rows later format s rows rest raw)

-- of a raster that spells an image the rows are said, the image's end, and what follows
pub spelled_raw_is_said : (later : List ℕ → Said) (format : Format) {raster : List ℕ} (rest : List ℕ) {image : Image} → is_plain_form format.form ≡ false
    → SpellsRaw raster image → rows_said later format image.head.shape image.head.shape.height (raster ++ rest) ≡ rows_then (rows_of image) (later rest)
spelled_raw_is_said later format {raster} rest {image} raw h =
    let s : Shape = image.head.shape in
    let rows : List (List ℕ) = raw_rows s s.height raster in
    let read = raw_rows_are_read format s.height s.height raster zero rest raw (packable image.head h.sound.head) (omega arith) h.count
    (subst (AreRowsOf s) h.rows (AreRowsOf-rows_of image h.sound)) in
    read_rows_are_said later format s rows s.height (raster ++ rest) zero rest read ∙ after_rows later format s rows rest raw
    ∙ ap (λ (l : List (List ℕ)). rows_then l (later rest)) (sym h.rows)

-- the fault after all rows of a raw image is that of what follows it
raw_end_fault : (later : List ℕ → Said) (format : Format) (rest : List ℕ) → is_plain_form format.form ≡ false
    → (end_said later (is_plain_form format.form) rest).fault ≡ (later rest).fault
raw_end_fault later format rest raw = ap (λ (p : Bool). (end_said later p rest).fault) raw

-- a raster whose rows are said without a fault spells an image, and what follows has no fault
pub said_raw_is_spelled : (later : List ℕ → Said) (format : Format) {head : HeadValue} (text : List ℕ) → is_plain_form format.form ≡ false → IsHead head
    → (rows_said later format head.shape head.shape.height text).fault ≡ None
    → (image : Image) × (raster : List ℕ) × (rest : List ℕ) × (text ≡ raster ++ rest) × (image.head ≡ head) × SpellsRaw raster image × ((later rest).fault ≡
    None)
said_raw_is_spelled later format {head} text raw h e =
    let s : Shape = head.shape in
    let r = all_read format s.height text in
    let none : r.more ≡ zero = no_more_to_come later format s r.rows s.height text r.more r.rest r.read r.stop e in
    let read = subst (λ (k : ℕ). RowsRead format s r.rows s.height text k r.rest) none r.read in
    let found = raw_rows_have_bytes format r.rows s.height text zero raw h read in
    let count : length r.rows ≡ s.height = omega (arith, rows_count format s r.rows s.height text zero r.rest read) in
    let rows = rows_of-image_of head r.rows count found.are ∙ sym found.rows_are ∙ ap (λ (n : ℕ). raw_rows s n found.bytes) count in (
      image_of head r.rows,
      found.bytes,
      r.rest,
      found.whole,
      refl,
      record { sound = IsImage-image_of head r.rows h count found.are; count = found.count ∙ ap (λ (n : ℕ). n * bytes_in_row s) count; rows = rows },
      sym (ended_fault later format s r.rows s.height text r.rest read ∙ raw_end_fault later format r.rest raw) ∙ e,
    )
