-- How a part of a raw row is read.
use Rattle.pnm_read.proofs.Words.{◌≡◌, ℕ, ◌+◌, ◌*◌, ◌/◌, ◌<◌, ◌≤◌, min, List, [], ◌++◌, length, take, drop, Option, Ok, Err, inl, inr, refl, sym, ap, ap₂}
use Rattle.pnm_read.proofs.Words.{subst, ◌∙◌, arith, append_assoc, length-append, length-take-le, take-append-le, take-append-drop, All-nil, All-append}
use Rattle.pnm_read.proofs.Words.{flat_map-append, take-append-add, SampleWidth, Bits, Bytes, Words, InputFault, ReadFailed, RasterCut, SampleAboveMaxval}
use Rattle.pnm_read.proofs.Words.{Memory, BufferedReader, raw_item, in_turn, held_of, ReadCall, Fills, Reads, HoldsEnough, AppendsWide, FindsPart}
use Rattle.pnm_read.proofs.Words.{samples_of_bytes, AreBytesWithin}
use Rattle.pnm_samples.specs.Pixels.{pixels}
use Rattle.pnm_read.proofs.UnitLaws.{unit_bytes, bytes_are_units, bytes_are_at_fault, words_are_units, words_are_at_fault}
use Rattle.pnm_read.proofs.RawSteps.{cut_at_first}
use Rattle.pnm_read.proofs.ReadCalls.{no_fault, IsLeft, call_ok_so, call_seen, call_advance}

-- ---- bytes that are units

-- no bytes have no samples, and none of them is above the maxval
pub no_bytes : (p : SampleWidth) → samples_of_bytes p [] ≡ []
no_bytes Bits = refl
no_bytes Bytes = refl
no_bytes Words = refl

pub no_bytes_within : (p : SampleWidth) (maxval : ℕ) → AreBytesWithin p maxval []
no_bytes_within Bits maxval = tt
no_bytes_within Bytes maxval = All-nil (λ sample. sample ≤ maxval)
no_bytes_within Words maxval = All-nil (λ sample. sample ≤ maxval)

-- bytes after others
pub samples_of_both : (p : SampleWidth) (bytes more : List ℕ) → samples_of_bytes p (bytes ++ more) ≡ samples_of_bytes p bytes ++ samples_of_bytes p more
samples_of_both Bits bytes more = flat_map-append pixels bytes more
samples_of_both Bytes bytes more = refl
samples_of_both Words bytes more = refl

pub both_within : (p : SampleWidth) (maxval : ℕ) (bytes more : List ℕ) → AreBytesWithin p maxval bytes → AreBytesWithin p maxval more
    → AreBytesWithin p maxval (bytes ++ more)
both_within Bits maxval bytes more h k = tt
both_within Bytes maxval bytes more h k = All-append (λ sample. sample ≤ maxval) bytes more h k
both_within Words maxval bytes more h k = All-append (λ sample. sample ≤ maxval) bytes more h k

-- the prefix of a row after a part of it was read
pub prefix_grown : (bytes target post : List ℕ) (filled count : ℕ) → filled ≤ length bytes → count ≤ length target
    → take (filled + count) (take filled bytes ++ (target ++ post)) ≡ take filled bytes ++ take count target
prefix_grown bytes target post filled count within few =
    let prefix : length (take filled bytes) ≡ filled = length-take-le filled bytes within in
    ap (λ (n : ℕ). take (n + count) (take filled bytes ++ (target ++ post))) (sym prefix) ∙ take-append-add (take filled bytes) (target ++ post) count
    ∙ ap (λ (l : List ℕ). take filled bytes ++ l) (take-append-le count target post few)

-- a unit has some bytes
some_bytes : (p : SampleWidth) → 0 < unit_bytes p
some_bytes Bits = omega arith
some_bytes Bytes = omega arith
some_bytes Words = omega arith

-- ---- samples of two bytes

-- all that is left is too short for one
short_left : {R : Type 0} (input : BufferedReader R) (text : List ℕ) → HoldsEnough 2 input → length (held_of input) < 2 → IsLeft input text → length text < 2
short_left input text (inl enough) lt l = absurd (omega arith)
short_left input text (inr ended) lt l =
    omega (arith, length-append (held_of input) l.0, ap (λ (t : List ℕ). length t) l.2, ap (λ (t : List ℕ). length t) (l.1 ended))

-- the first bytes of what is left
parts_left : {R : Type 0} (count : ℕ) (input : BufferedReader R) {text : List ℕ} (rest : List ℕ) → text ≡ held_of input ++ rest
    → text ≡ take count (held_of input) ++ (drop count (held_of input) ++ rest)
parts_left count input rest e = e ∙ ap (λ (l : List ℕ). l ++ rest) (sym (take-append-drop count (held_of input)))
    ∙ append_assoc (take count (held_of input)) (drop count (held_of input)) rest

module _ {R : Type 0} {left : R → Option (List ℕ)} {failures : R → ℕ} {same : R → R → Type 0} {old : BufferedReader R} where
  pub bytes_cut : {new : BufferedReader R} (p : SampleWidth) (maxval most : ℕ) {count : ℕ} (target part : List ℕ) (samples : ℕ → List ℕ)
      → ReadCall {A = ℕ} left failures same old new (Ok count) (Reads target (Ok count)) → count ≡ 0 → 0 < most
      → ReadCall {A = ℕ} left failures same old new (Err RasterCut) (FindsPart p maxval most part samples (Err RasterCut))
  bytes_cut p maxval most {count} target part samples t none some =
      call_ok_so {A = ℕ} {B = ℕ} (Err RasterCut) (λ e. absurd cc) (λ b a o.
      let prefix : take count target ≡ [] = ap (λ (n : ℕ). take n target) none in
      let empty : b ≡ [] = o.0 ∙ ap₂ (λ (x y : List ℕ). x ++ y) prefix (o.2 none) in
      inl (1, omega arith, cut_at_first p maxval b (omega (arith, some_bytes p, ap (λ (l : List ℕ). length l) empty)))) t

  pub bytes_above : {new : BufferedReader R} (p : SampleWidth) (maxval : ℕ) {most count : ℕ} (target part : List ℕ) (samples : ℕ → List ℕ)
      → ReadCall {A = ℕ} left failures same old new (Ok count) (Reads target (Ok count)) → length target ≡ most → (p ≡ Words → ⊥)
      → (AreBytesWithin p maxval (take count target) → ⊥) → ReadCall {A = ℕ} left failures same old new (Err SampleAboveMaxval)
      (FindsPart p maxval most part samples (Err SampleAboveMaxval))
  bytes_above p maxval {most} {count} target part samples t size n above =
      call_ok_so {A = ℕ} {B = ℕ} (Err SampleAboveMaxval) (λ e. absurd cc) (λ b a o.
      let fits : count ≤ most = omega (arith, o.1) in
      let prefix : length (take count target) ≡ count = length-take-le count target o.1 in
      inl (
        count,
        fits,
        ap (in_turn (raw_item p maxval) count) o.0 ∙ ap (λ (k : ℕ). in_turn (raw_item p maxval) k (take count target ++ a)) (sym prefix)
            ∙ bytes_are_at_fault p maxval (take count target) a n above,
      )) t

  pub bytes_read : {new : BufferedReader R} (p : SampleWidth) (maxval : ℕ) {most count : ℕ} (target : List ℕ) (samples : ℕ → List ℕ)
      → ReadCall {A = ℕ} left failures same old new (Ok count) (Reads target (Ok count)) → length target ≡ most → (p ≡ Words → ⊥)
      → AreBytesWithin p maxval (take count target) → samples count ≡ samples_of_bytes p (take count target)
      → ReadCall {A = ℕ} left failures same old new (Ok count) (FindsPart p maxval most [] samples (Ok count))
  bytes_read p maxval {count} target samples t size n within are =
      call_ok_so {A = ℕ} {B = ℕ} (Ok count) (no_fault count ReadFailed) (λ b a o.
      let prefix : length (take count target) ≡ count = length-take-le count target o.1 in
      let units = bytes_are_units p maxval (take count target) a n within in (
        units.0,
        are ∙ units.1,
        omega (arith, o.1),
        ap (in_turn (raw_item p maxval) count) o.0 ∙ ap (λ (k : ℕ). in_turn (raw_item p maxval) k (take count target ++ a)) (sym prefix) ∙ units.2,
      )) t

  pub words_cut : {mid : BufferedReader R} (maxval most : ℕ) {bytes : List ℕ} (part : List ℕ) (samples : ℕ → List ℕ)
      → ReadCall {A = Unit {0}} left failures same old mid (Ok tt) (Fills (Ok tt)) → HoldsEnough 2 mid → bytes ≡ held_of mid
      → min (length bytes / 2) most ≡ 0 → 0 < most → ReadCall {A = ℕ} left failures same old mid (Err RasterCut)
      (FindsPart Words maxval most part samples (Err RasterCut))
  words_cut {mid = mid} maxval most part samples t enough is_held none some =
      let lt : length (held_of mid) < 2 = omega (arith, ap (λ (l : List ℕ). length l) is_held) in
      call_ok_so {A = Unit {0}} {B = ℕ} (Err RasterCut) (λ e. absurd cc)
      (λ b a o. inl (1, omega arith, cut_at_first Words maxval b (subst (λ (l : List ℕ). length l < 2) (sym o.0) (short_left mid a enough lt o.1))))
      (call_seen t)

  pub words_fail : {mid : BufferedReader R} (maxval most n : ℕ) {k : InputFault} (row grown part : List ℕ) (samples : ℕ → List ℕ)
      → ReadCall {A = Unit {0}} left failures same old mid (Ok tt) (Fills (Ok tt)) → n ≤ most → n * 2 ≤ length (held_of mid)
      → AppendsWide maxval (take (n * 2) (held_of mid)) row grown (Err k) → ReadCall {A = ℕ} left failures same old mid (Err k)
      (FindsPart Words maxval most part samples (Err k))
  words_fail maxval most n {k} row grown part samples t le fits (inl memory) =
      call_ok_so {A = Unit {0}} {B = ℕ} (Err k) (λ e. absurd (let read : k ≡ ReadFailed = cc in let other : ReadFailed ≡ Memory = sym read ∙ memory in cc))
      (λ b a o. inr (inr memory)) t
  words_fail {mid = mid} maxval most n {k} row grown part samples t le fits (inr above) =
      call_ok_so {A = Unit {0}} {B = ℕ} (Err k)
      (λ e. absurd (let read : k ≡ ReadFailed = cc in let other : ReadFailed ≡ SampleAboveMaxval = sym read ∙ above.0 in cc)) (λ b a o.
      let count : length (take (n * 2) (held_of mid)) ≡ n * 2 = length-take-le (n * 2) (held_of mid) fits in
      inl (
        n,
        le,
        ap (in_turn (raw_item Words maxval) n) (parts_left (n * 2) mid o.1.0 (o.0 ∙ o.1.2))
            ∙ words_are_at_fault maxval n (take (n * 2) (held_of mid)) (drop (n * 2) (held_of mid) ++ o.1.0) count above.1
            ∙ ap (λ (f : InputFault). Err f) (sym above.0),
      )) (call_seen t)

  pub words_read : {mid new : BufferedReader R} (maxval most : ℕ) {n : ℕ} (row grown : List ℕ) → ReadCall {A = Unit {0}} left failures same old mid (Ok tt)
      (Fills (Ok tt)) → n ≤ most → n * 2 ≤ length (held_of mid) → AppendsWide maxval (take (n * 2) (held_of mid)) row grown (Ok tt) → new.reader ≡ mid.reader
      → new.ended ≡ mid.ended → held_of new ≡ drop (n * 2) (held_of mid) → ReadCall {A = ℕ} left failures same old new (Ok n)
      (FindsPart Words maxval most row (λ _. grown) (Ok n))
  words_read {mid = mid} maxval most {n} row grown t le fits appends reader ended held =
      let count : length (take (n * 2) (held_of mid)) ≡ n * 2 = length-take-le (n * 2) (held_of mid) fits in
      call_advance {A = Unit {0}} {B = ℕ} (n * 2) (no_fault n ReadFailed) reader ended held (λ b rest c o.
      let units = words_are_units maxval n (take (n * 2) (held_of mid)) row grown (drop (n * 2) (held_of mid) ++ rest) count appends in (
        units.0,
        units.1,
        le,
        ap (in_turn (raw_item Words maxval) n) (parts_left (n * 2) mid rest o) ∙ units.2,
      )) t
