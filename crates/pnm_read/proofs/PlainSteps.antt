-- How the samples of a plain raster are read from an input.
use Rattle.pnm_read.proofs.Words.{◌≡◌, ℕ, zero, suc, ◌-◌, ◌<◌, ◌≤◌, Bool, true, false, if◌then◌else◌, List, [], ◌∷◌, ◌++◌, Option, Some, None, Result, Ok, Err}
use Rattle.pnm_read.proofs.Words.{inl, inr, refl, sym, ap, ap₂, subst, ◌∙◌, arith, Vec, le-leb, lt-leb, MAX_MAXVAL, Shape, row_length, InputFault, ReadFailed}
use Rattle.pnm_read.proofs.Words.{Memory, SampleAboveMaxval, BadSample, BufferedReader, DecimalScanner, PixelScanner, is_apart, begins_apart, number_in}
use Rattle.pnm_read.proofs.Words.{saturate_u32, ◌>>=◌, pixel_item, pixel_end, pixel_in, decimal_item, decimal_end, sample_item, plain_sample, in_turn}
use Rattle.pnm_read.proofs.Words.{row_in_form, Scans, ScansAfter, IsPixelAfter, IsPixelWhole, IsDecimalAfter, IsDecimalWhole, held_of, ReadCall, Finds}
use Rattle.pnm_read.proofs.Words.{FindsWords, Fills, Passes, HoldsEnough}
use Rattle.std.specs.Prelude.{slice_get}
use Rattle.pnm_read.specs.Items.{plain_pixel, plain_decimal}
use Rattle.pnm_read.specs.Items.{after_last_item}
use Rattle.pnm_read.specs.Said.{plain_row, last_plain_row}
use Rattle.pnm_read.proofs.UnitLaws.{and_items}
use Rattle.pnm_read.proofs.PartLaws.{all_are_left, part_is_read, part_fails, none_are_left, one_is_read, one_fails}
use Rattle.pnm_read.proofs.ReadCalls.{no_fault, call_then, call_ok_so, call_err_so, call_taken, call_seen, nothing_left}
use Rattle.pnm_read.proofs.EndSteps.{none_held, end_seen}

-- a sample, and what is left of the text
abbrev sample_done : ℕ → List ℕ → Result (ℕ × List ℕ) InputFault
sample_done sample rest = Ok (sample, rest)

-- a piece, and what is left of the text
abbrev Piece : Type 0
Piece = Result (List ℕ × List ℕ) InputFault

-- ---- pixels

abbrev pixel_of : Piece → Result (ℕ × List ℕ) InputFault
pixel_of found = found >>= λ piece. sample_done (pixel_in piece.0) piece.1

no_pixel : (k : InputFault) (is_whole : List ℕ → Type 0) (b a : List ℕ) → ScansAfter pixel_item pixel_end is_whole (Err k) [] b a
    → Finds plain_pixel (Err k) b a
unfolding plain_pixel
no_pixel k is_whole b a (inl e) = inl (ap pixel_of e)
no_pixel k is_whole b a (inr outside) = inr outside

-- ---- numbers

abbrev number_of : ℕ → Piece → Result (ℕ × List ℕ) InputFault
number_of maxval found = found >>= λ piece. sample_item maxval (number_in piece.0) >>= λ sample. sample_done sample piece.1

-- a number up to the maxval, or the fault of one above it
abbrev number_if : Bool → ℕ → Result ℕ InputFault
number_if within n = if within then Ok n else Err SampleAboveMaxval

number_within : (maxval n : ℕ) {value : ℕ} → maxval ≤ MAX_MAXVAL → value ≡ saturate_u32 n → value ≤ maxval → sample_item maxval n ≡ Ok value
number_within maxval n {value} most is_value le =
    let same : n ≡ value = omega arith in
    ap (sample_item maxval) same ∙ ap (λ (t : Bool). number_if t value) (le-leb value maxval le)

number_above : (maxval n : ℕ) {value : ℕ} → value ≡ saturate_u32 n → maxval < value → sample_item maxval n ≡ Err SampleAboveMaxval
number_above maxval n is_value above = ap (λ (t : Bool). number_if t n) (lt-leb n maxval (omega arith))

no_number : (maxval : ℕ) (k : InputFault) (is_whole : List ℕ → Type 0) (b a : List ℕ) → ScansAfter decimal_item decimal_end is_whole (Err k) [] b a
    → Finds (plain_decimal maxval) (Err k) b a
unfolding plain_decimal
no_number maxval k is_whole b a (inl e) = inl (ap (number_of maxval) e)
no_number maxval k is_whole b a (inr outside) = inr outside

-- ---- the end

-- the text after the last sample, by whether it may go on so
abbrev end_if : Bool → List ℕ → Result (List ℕ) InputFault
end_if apart text = if apart then Ok text else Err BadSample

-- what begins with this byte
begins_by : {byte : ℕ} (bytes rest : List ℕ) → Some byte ≡ slice_get bytes 0 → begins_apart (bytes ++ rest) ≡ is_apart byte
begins_by [] rest e = absurd cc
begins_by {byte} (b ∷ bytes) rest e = let first : b ≡ byte = cc in ap is_apart first

-- ---- the samples of a row

-- a sample of the shape's kind
abbrev pub sample_of : Shape → List ℕ → Result (ℕ × List ℕ) InputFault
sample_of s = plain_sample s.kind s.maxval

-- These samples were read, and so many are left.
abbrev SamplesFrom : Shape → ℕ → ℕ → List ℕ → List ℕ → List ℕ → Type 0
SamplesFrom s all more samples text left = in_turn (sample_of s) all text ≡ and_items (sample_of s) more samples left

pub record ReadingSamples {R : Type 0} (left : R → Option (List ℕ)) (failures : R → ℕ) (same : R → R → Type 0) (s : Shape) (all more : ℕ) (samples : List ℕ)
    (old now : BufferedReader R) : Type 0 where
  pub call : ReadCall {A = Unit {0}} left failures same old now (Ok tt) (SamplesFrom s all more samples)

pub samples_begin : {R : Type 0} {left : R → Option (List ℕ)} {failures : R → ℕ} {same : R → R → Type 0} (s : Shape) (all more : ℕ) (samples : List ℕ)
    (input : BufferedReader R) → ((a : R) → same a a) → more ≡ all → samples ≡ []
    → ReadingSamples left failures same s all more samples input input
samples_begin s all more samples input at_once is_all none = record {
  call = call_ok_so {A = Unit {0}} {B = Unit {0}} (Ok tt) (no_fault tt ReadFailed)
      (λ b a e. ap (in_turn (sample_of s) all) e ∙ all_are_left (sample_of s) all a ∙ ap₂ (λ (n : ℕ) (l : List ℕ). and_items (sample_of s) n l a) (sym is_all)
      (sym none))
      (call_taken {A = Unit {0}} {result = Ok tt} [] at_once (no_fault tt ReadFailed) refl refl refl);
}

no_sample : (s : Shape) (more : ℕ) (samples : List ℕ) (k : InputFault) (b m a : List ℕ) → 0 < more → SamplesFrom s (row_length s) more samples b m
    → Finds (sample_of s) (Err k) m a
    → FindsWords (plain_row s) (Err k) b a
unfolding plain_row
no_sample s more samples k b m a some known (inl e) = inl (part_fails (sample_of s) (row_length s) more 1 samples b m some (one_fails (sample_of s) m e) known)
no_sample s more samples k b m a some known (inr outside) = inr outside

-- a sample more was read
pub samples_more : {R : Type 0} {left : R → Option (List ℕ)} {failures : R → ℕ} {same : R → R → Type 0} {s : Shape} {all more : ℕ} {samples : List ℕ}
    {old now new : BufferedReader R}
    (sample fewer : ℕ) (others : List ℕ) → ((a b c : R) → same a b → same b c → same a c) → ReadingSamples left failures same s all more samples old now
    → 0 < more → fewer ≡ more - 1 → others ≡ samples ++ sample ∷ []
    → ReadCall {A = ℕ} left failures same now new (Ok sample) (Finds (sample_of s) (Ok sample))
    → ReadingSamples left failures same s all fewer others old new
samples_more {s = s} {all = all} {more = more} {samples = samples} sample fewer others later r some is_fewer are_others t = record {
  call = call_ok_so {A = ℕ} {B = Unit {0}} (Ok tt) (no_fault tt ReadFailed) (λ b a o.
      part_is_read (sample_of s) all more 1 samples (sample ∷ []) b o.0 a some (one_is_read (sample_of s) sample o.0 a o.2) o.1
      ∙ ap₂ (λ (n : ℕ) (l : List ℕ). and_items (sample_of s) n l a) (sym is_fewer) (sym are_others))
      (call_then {A = Unit {0}} {B = ℕ} tt later r.call t);
}

-- ---- a row, and the end after the last one

-- a row, and what is left of the text
abbrev Row : Type 0
Row = Result (List ℕ × List ℕ) InputFault

abbrev row_done : List ℕ → List ℕ → Row
row_done row rest = Ok (row, rest)

-- the row with the end after it
abbrev row_then : List ℕ → Result (List ℕ) InputFault → Row
row_then row end = end >>= λ rest. row_done row rest

abbrev last_of : Row → Row
last_of found = found >>= λ row. row_then row.0 (after_last_item row.1)

-- the last row is followed by the end
last_row : (s : Shape) (more : ℕ) (text : List ℕ) → more ≡ 0 → row_in_form true s more text ≡ last_of (plain_row s text)
unfolding last_plain_row
last_row s zero text none = refl
last_row s (suc more) text none = absurd (omega arith)

pub earlier_row : (s : Shape) (more : ℕ) (text : List ℕ) → 0 < more → row_in_form true s more text ≡ plain_row s text
earlier_row s zero text some = absurd (omega arith)
earlier_row s (suc more) text some = refl

-- a row at fault is so wherever it stands
no_row : (s : Shape) (more : ℕ) (k : InputFault) (b a : List ℕ) → Finds (plain_row s) (Err k) b a → Finds (row_in_form true s more) (Err k) b a
no_row s zero k b a (inl e) = inl (last_row s zero b refl ∙ ap last_of e)
no_row s (suc more) k b a (inl e) = inl e
no_row s more k b a (inr outside) = inr outside

no_end : (s : Shape) {more : ℕ} (row : List ℕ) (k : InputFault) (b m a : List ℕ) → more ≡ 0 → plain_row s b ≡ row_done row m
    → Passes after_last_item (Err k) m a → Finds (row_in_form true s more) (Err k) b a
no_end s {more} row k b m a none found (inl e) = inl (last_row s more b none ∙ ap last_of found ∙ ap (row_then row) e)
no_end s row k b m a none found (inr outside) = inr outside

module _ {R : Type 0} {left : R → Option (List ℕ)} {failures : R → ℕ} {same : R → R → Type 0} {old : BufferedReader R} where
  pub pixel_found : {new : BufferedReader R} {fresh : PixelScanner} (now : PixelScanner) {sample : ℕ} → IsPixelAfter fresh [] → sample ≡ now.pixel
      → ReadCall {A = Unit {0}} left failures same old new (Ok tt) (Scans pixel_item pixel_end (IsPixelAfter fresh) (IsPixelWhole now) (Ok tt))
      → ReadCall {A = ℕ} left failures same old new (Ok sample) (Finds plain_pixel (Ok sample))
  unfolding plain_pixel
  pixel_found now {sample} is_fresh is_pixel t =
      call_ok_so {A = Unit {0}} {B = ℕ} (Ok sample) (no_fault sample ReadFailed)
      (λ b a o. let piece = o [] is_fresh in ap pixel_of piece.2 ∙ ap (λ (n : ℕ). sample_done n a) (sym (is_pixel ∙ piece.1))) t

  pub pixel_fault : {new : BufferedReader R} {fresh : PixelScanner} (is_whole : List ℕ → Type 0) {k : InputFault} → IsPixelAfter fresh []
      → ReadCall {A = Unit {0}} left failures same old new (Err k) (Scans pixel_item pixel_end (IsPixelAfter fresh) is_whole (Err k))
      → ReadCall {A = ℕ} left failures same old new (Err k) (Finds plain_pixel (Err k))
  pixel_fault is_whole {k} is_fresh t = call_err_so {A = Unit {0}} {B = ℕ} (λ b a o. no_pixel k is_whole b a (o [] is_fresh)) t

  pub number_found : {new : BufferedReader R} {fresh : DecimalScanner} (now : DecimalScanner) (maxval : ℕ) {sample : ℕ} → IsDecimalAfter fresh []
      → sample ≡ now.value → maxval ≤ MAX_MAXVAL → sample ≤ maxval → ReadCall {A = Unit {0}} left failures same old new (Ok tt)
      (Scans decimal_item decimal_end (IsDecimalAfter fresh) (IsDecimalWhole now) (Ok tt)) → ReadCall {A = ℕ} left failures same old new (Ok sample)
      (Finds (plain_decimal maxval) (Ok sample))
  unfolding plain_decimal
  number_found now maxval {sample} is_fresh is_value most le t =
      call_ok_so {A = Unit {0}} {B = ℕ} (Ok sample) (no_fault sample ReadFailed) (λ b a o.
      let piece = o [] is_fresh in
      ap (number_of maxval) piece.2
      ∙ ap (λ (r : Result ℕ InputFault). r >>= λ n. sample_done n a) (number_within maxval (number_in piece.0) most (is_value ∙ piece.1) le)) t

  pub number_too_great : {new : BufferedReader R} {fresh : DecimalScanner} (now : DecimalScanner) (maxval : ℕ) {value : ℕ} → IsDecimalAfter fresh []
      → value ≡ now.value → maxval < value → ReadCall {A = Unit {0}} left failures same old new (Ok tt)
      (Scans decimal_item decimal_end (IsDecimalAfter fresh) (IsDecimalWhole now) (Ok tt))
      → ReadCall {A = ℕ} left failures same old new (Err SampleAboveMaxval) (Finds (plain_decimal maxval) (Err SampleAboveMaxval))
  unfolding plain_decimal
  number_too_great now maxval is_fresh is_value above t =
      call_ok_so {A = Unit {0}} {B = ℕ} (Err SampleAboveMaxval) (λ e. absurd cc) (λ b a o.
      let piece = o [] is_fresh in
      inl (ap (number_of maxval) piece.2
      ∙ ap (λ (r : Result ℕ InputFault). r >>= λ n. sample_done n a) (number_above maxval (number_in piece.0) (is_value ∙ piece.1) above))) t

  pub number_fault : {new : BufferedReader R} {fresh : DecimalScanner} (is_whole : List ℕ → Type 0) (maxval : ℕ) {k : InputFault} → IsDecimalAfter fresh []
      → ReadCall {A = Unit {0}} left failures same old new (Err k) (Scans decimal_item decimal_end (IsDecimalAfter fresh) is_whole (Err k))
      → ReadCall {A = ℕ} left failures same old new (Err k) (Finds (plain_decimal maxval) (Err k))
  number_fault is_whole maxval {k} is_fresh t = call_err_so {A = Unit {0}} {B = ℕ} (λ b a o. no_number maxval k is_whole b a (o [] is_fresh)) t

  pub end_goes_on : {mid : BufferedReader R} {byte : ℕ} {bytes : List ℕ} → bytes ≡ held_of mid → Some byte ≡ slice_get bytes 0 → is_apart byte ≡ true
      → ReadCall {A = Unit {0}} left failures same old mid (Ok tt) (Fills (Ok tt)) → ReadCall {A = Unit {0}} left failures same old mid (Ok tt)
      (Passes after_last_item (Ok tt))
  unfolding after_last_item
  end_goes_on {mid = mid} {bytes} held first apart t =
      call_ok_so {A = Unit {0}} {B = Unit {0}} (Ok tt) (no_fault tt ReadFailed) (λ b a o.
      let whole : b ≡ bytes ++ o.1.0 = o.0 ∙ o.1.2 ∙ ap (λ (l : List ℕ). l ++ o.1.0) (sym held) in
      ap (λ (t : Bool). end_if t b) (ap begins_apart whole ∙ begins_by bytes o.1.0 first ∙ apart) ∙ ap (λ (l : List ℕ). Ok l) o.0) (call_seen t)

  pub end_is_bad : {mid : BufferedReader R} {byte : ℕ} {bytes : List ℕ} → bytes ≡ held_of mid → Some byte ≡ slice_get bytes 0 → is_apart byte ≡ false
      → ReadCall {A = Unit {0}} left failures same old mid (Ok tt) (Fills (Ok tt)) → ReadCall {A = Unit {0}} left failures same old mid (Err BadSample)
      (Passes after_last_item (Err BadSample))
  unfolding after_last_item
  end_is_bad {mid = mid} {bytes} held first apart t =
      call_ok_so {A = Unit {0}} {B = Unit {0}} (Err BadSample) (λ e. absurd cc) (λ b a o.
      let whole : b ≡ bytes ++ o.1.0 = o.0 ∙ o.1.2 ∙ ap (λ (l : List ℕ). l ++ o.1.0) (sym held) in
      inl (ap (λ (t : Bool). end_if t b) (ap begins_apart whole ∙ begins_by bytes o.1.0 first ∙ apart))) (call_seen t)

  -- no byte comes after the last sample
  pub end_is_there : {mid : BufferedReader R} {bytes : List ℕ} → bytes ≡ held_of mid → None ≡ slice_get bytes 0 → HoldsEnough 1 mid
      → ReadCall {A = Unit {0}} left failures same old mid (Ok tt) (Fills (Ok tt)) → ReadCall {A = Unit {0}} left failures same old mid (Ok tt)
      (Passes after_last_item (Ok tt))
  unfolding after_last_item
  end_is_there {mid = mid} {bytes} held none enough t =
      let empty = none_held bytes held none in
      call_ok_so {A = Unit {0}} {B = Unit {0}} (Ok tt) (no_fault tt ReadFailed) (λ b a o.
      let last = nothing_left mid a empty (end_seen mid enough empty) o.1 in
      ap after_last_item (o.0 ∙ last) ∙ ap (λ (l : List ℕ). Ok l) (sym last)) (call_seen t)

  -- a sample is at fault, or can't be read
  pub samples_fault : {s : Shape} {all more : ℕ} {samples : List ℕ} {now new : BufferedReader R} {k : InputFault}
      → ((a b c : R) → same a b → same b c → same a c) → ReadingSamples left failures same s all more samples old now → all ≡ row_length s → 0 < more
      → ReadCall {A = ℕ} left failures same now new (Err k) (Finds (sample_of s) (Err k)) → ReadCall {A = Vec ℕ} left failures same old new (Err k)
      (FindsWords (plain_row s) (Err k))
  samples_fault {s = s} {more = more} {samples = samples} {k} later r is_all some t =
      call_err_so {A = ℕ} {B = Vec ℕ} (λ b a o. no_sample s more samples k b o.0 a some (subst (λ (n : ℕ). SamplesFrom s n more samples b o.0) is_all o.1) o.2)
      (call_then {A = Unit {0}} {B = ℕ} tt later r.call t)

  -- memory ran out
  pub samples_no_memory : {s : Shape} {all more : ℕ} {samples : List ℕ} {now new : BufferedReader R} {sample : ℕ}
      → ((a b c : R) → same a b → same b c → same a c) → ReadingSamples left failures same s all more samples old now
      → ReadCall {A = ℕ} left failures same now new (Ok sample) (Finds (sample_of s) (Ok sample))
      → ReadCall {A = Vec ℕ} left failures same old new (Err Memory) (FindsWords (plain_row s) (Err Memory))
  samples_no_memory later r t = call_ok_so {A = ℕ} {B = Vec ℕ} (Err Memory) (λ e. absurd cc) (λ b a o. inr (inr refl))
      (call_then {A = Unit {0}} {B = ℕ} tt later r.call t)

  -- all samples were read
  pub samples_read : {s : Shape} {all more : ℕ} {samples : List ℕ} {now : BufferedReader R} {row : Vec ℕ}
      → ReadingSamples left failures same s all more samples old now → all ≡ row_length s → more ≡ 0 → row.items ≡ samples
      → ReadCall {A = Vec ℕ} left failures same old now (Ok row) (FindsWords (plain_row s) (Ok row))
  unfolding plain_row
  samples_read {s = s} {row} r is_all none is_row =
      call_ok_so {A = Unit {0}} {B = Vec ℕ} (Ok row) (no_fault row ReadFailed) (λ b a o.
      ap (λ (n : ℕ). in_turn (sample_of s) n b) (sym is_all) ∙ o ∙ ap₂ (λ (n : ℕ) (l : List ℕ). and_items (sample_of s) n l a) none (sym is_row)
      ∙ none_are_left (sample_of s) row.items a) r.call

  pub row_fault : {new : BufferedReader R} (s : Shape) (more : ℕ) {k : InputFault} → ReadCall {A = Vec ℕ} left failures same old new (Err k)
      (FindsWords (plain_row s) (Err k)) → ReadCall {A = List ℕ} left failures same old new (Err k) (Finds (row_in_form true s more) (Err k))
  row_fault s more {k} t = call_err_so {A = Vec ℕ} {B = List ℕ} (no_row s more k) t

  -- a row as words
  pub words_found : {new : BufferedReader R} {reading : List ℕ → Result (List ℕ × List ℕ) InputFault} {words : Vec ℕ}
      → ReadCall {A = Vec ℕ} left failures same old new (Ok words) (FindsWords reading (Ok words))
      → ReadCall {A = List ℕ} left failures same old new (Ok words.items) (Finds reading (Ok words.items))
  words_found {words} t = call_ok_so {A = Vec ℕ} {B = List ℕ} (Ok words.items) (no_fault words.items ReadFailed) (λ b a o. o) t

  -- what comes after the last row is at fault, or can't be read
  pub end_fault : {mid new : BufferedReader R} (s : Shape) (more : ℕ) {row : List ℕ} {k : InputFault} → ((a b c : R) → same a b → same b c → same a c)
      → more ≡ 0 → ReadCall {A = List ℕ} left failures same old mid (Ok row) (Finds (plain_row s) (Ok row))
      → ReadCall {A = Unit {0}} left failures same mid new (Err k) (Passes after_last_item (Err k))
      → ReadCall {A = List ℕ} left failures same old new (Err k) (Finds (row_in_form true s more) (Err k))
  end_fault s more {row} {k} later none r t =
      call_err_so {A = Unit {0}} {B = List ℕ} (λ b a o. no_end s row k b o.0 a none o.1 o.2) (call_then {A = List ℕ} {B = Unit {0}} row later r t)

  pub last_row_found : {mid new : BufferedReader R} (s : Shape) (more : ℕ) {row : List ℕ} → ((a b c : R) → same a b → same b c → same a c) → more ≡ 0
      → ReadCall {A = List ℕ} left failures same old mid (Ok row) (Finds (plain_row s) (Ok row)) → ReadCall {A = Unit {0}} left failures same mid new (Ok tt)
      (Passes after_last_item (Ok tt)) → ReadCall {A = List ℕ} left failures same old new (Ok row) (Finds (row_in_form true s more) (Ok row))
  last_row_found s more {row} later none r t =
      call_ok_so {A = Unit {0}} {B = List ℕ} (Ok row) (no_fault row ReadFailed) (λ b a o. last_row s more b none ∙ ap last_of o.1 ∙ ap (row_then row) o.2)
      (call_then {A = List ℕ} {B = Unit {0}} row later r t)
