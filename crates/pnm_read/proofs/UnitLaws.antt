-- The units of a raw row in turn: what so many bytes give.
use Rattle.pnm_read.proofs.Words.{◌≡◌, ℕ, zero, suc, ◌+◌, ◌*◌, ◌≤◌, Bool, true, false, leb, ◌&&◌, if◌then◌else◌, List, [], ◌∷◌, ◌++◌, length, map, flat_map}
use Rattle.pnm_read.proofs.Words.{All, Result, Ok, Err, refl, sym, ap, ◌∙◌, arith, zero-add, suc-add, suc-mul, append_assoc, concat, list_all, leb-true, le-leb}
use Rattle.pnm_read.proofs.Words.{All-weaker, AllPass-from_list_all, list_all-from_AllPass, InputFault, SampleAboveMaxval, SampleWidth, Bits, Bytes, Words}
use Rattle.pnm_read.proofs.Words.{pixels, ◌>>=◌, AppendsWide, samples_of_bytes, AreBytesWithin}
use Rattle.pnm_read.specs.Rasters.{wide_samples}
use Rattle.pnm_read.specs.Items.{raw_item}
use Rattle.pnm_read.specs.Said.{in_turn}

-- items in turn, and what is left
abbrev pub ItemsRead : Type 0
ItemsRead = Result (List (List ℕ) × List ℕ) InputFault

abbrev pub fails : InputFault → ItemsRead
fails fault = Err fault

-- the bytes of a unit
abbrev pub unit_bytes : SampleWidth → ℕ
unit_bytes Bits = 1
unit_bytes Bytes = 1
unit_bytes Words = 2

-- the unit of one sample
abbrev pub single : ℕ → List ℕ
single sample = sample ∷ []

-- the samples of units of one sample are these samples
pub concat_singles : (samples : List ℕ) → concat (map single samples) ≡ samples
concat_singles [] = refl
concat_singles (x ∷ samples) = ap (λ (l : List ℕ). x ∷ l) (concat_singles samples)

-- the samples of bytes of eight pixels are their pixels
pub concat_pixels : (bytes : List ℕ) → concat (map pixels bytes) ≡ flat_map pixels bytes
concat_pixels [] = refl
concat_pixels (b ∷ bytes) = ap (λ (l : List ℕ). pixels b ++ l) (concat_pixels bytes)

-- ---- items in two parts

-- items that were read, and what is left
abbrev pub items_of : {A : Type 0} → List A → List ℕ → Result (List A × List ℕ) InputFault
items_of items rest = Ok (items, rest)

-- more items after these
abbrev pub and_items : {A : Type 0} → (List ℕ → Result (A × List ℕ) InputFault) → ℕ → List A → List ℕ → Result (List A × List ℕ) InputFault
and_items item n items text = in_turn item n text >>= λ more. items_of (items ++ more.0) more.1

-- no items before others
pub none_before : {A : Type 0} (r : Result (List A × List ℕ) InputFault) → r ≡ (r >>= λ more. items_of more.0 more.1)
none_before (Ok x) = refl
none_before (Err fault) = refl

-- an item before items that others follow
pub after_both : {A : Type 0} (items found : List A) (r : Result (List A × List ℕ) InputFault)
    → ((r >>= λ more. items_of (found ++ more.0) more.1) >>= λ more. items_of (items ++ more.0) more.1) ≡ (r >>= λ more. items_of ((items ++ found) ++ more.0)
    more.1)
after_both items found (Ok x) = ap (λ l. items_of l x.1) (sym (append_assoc items found x.0))
after_both items found (Err fault) = refl

-- an item before items in two parts
one_before : {A : Type 0} (item : List ℕ → Result (A × List ℕ) InputFault) (b : ℕ) (first : A) (r : Result (List A × List ℕ) InputFault)
    → ((r >>= λ items. and_items item b items.0 items.1) >>= λ all. items_of (first ∷ all.0) all.1)
    ≡ ((r >>= λ items. items_of (first ∷ items.0) items.1) >>= λ items. and_items item b items.0 items.1)
one_before item b first (Ok x) = after_both (first ∷ []) x.0 (in_turn item b x.1)
one_before item b first (Err fault) = refl

-- items in turn are so many, and then the others
first_before : {A : Type 0} (item : List ℕ → Result (A × List ℕ) InputFault) (a b : ℕ) (r : Result (A × List ℕ) InputFault)
    → ((text : List ℕ) → in_turn item (a + b) text ≡ (in_turn item a text >>= λ items. and_items item b items.0 items.1))
    → (r >>= λ first. in_turn item (a + b) first.1 >>= λ more. items_of (first.0 ∷ more.0) more.1)
    ≡ ((r >>= λ first. in_turn item a first.1 >>= λ more. items_of (first.0 ∷ more.0) more.1) >>= λ items. and_items item b items.0 items.1)
first_before item a b (Ok x) known = rw (known x.1) (one_before item b x.0 (in_turn item a x.1))
first_before item a b (Err fault) known = refl

pub in_turn-add : {A : Type 0} (item : List ℕ → Result (A × List ℕ) InputFault) (a b : ℕ) (text : List ℕ)
    → in_turn item (a + b) text ≡ (in_turn item a text >>= λ items. and_items item b items.0 items.1)
unfolding in_turn
in_turn-add item zero b text = ap (λ (n : ℕ). in_turn item n text) (zero-add b) ∙ none_before (in_turn item b text)
in_turn-add item (suc a) b text = ap (λ (n : ℕ). in_turn item n text) (suc-add a b) ∙ first_before item a b (item text) (in_turn-add item a b)

-- ---- samples and the maxval

-- no sample is above the maxval
abbrev pub are_within : ℕ → List ℕ → Bool
are_within maxval samples = list_all (λ sample. leb sample maxval) samples

pub are_within_all : (maxval : ℕ) (samples : List ℕ) → All (λ sample. sample ≤ maxval) samples → are_within maxval samples ≡ true
are_within_all maxval samples h =
    list_all-from_AllPass (λ sample. leb sample maxval) samples
    (All-weaker (λ sample. sample ≤ maxval) (λ sample. leb sample maxval ≡ true) (λ sample le. le-leb sample maxval le) samples h)

pub all_are_within : (maxval : ℕ) (samples : List ℕ) → are_within maxval samples ≡ true → All (λ sample. sample ≤ maxval) samples
all_are_within maxval samples e = All-weaker (λ sample. leb sample maxval ≡ true) (λ sample. sample ≤ maxval) (λ sample t. leb-true sample maxval t) samples
    (AllPass-from_list_all (λ sample. leb sample maxval) samples e)

-- these units, or the fault of a sample above the maxval
abbrev pub units_if : Bool → List (List ℕ) → List ℕ → ItemsRead
units_if within units rest = if within then Ok (units, rest) else Err SampleAboveMaxval

-- this unit, or the fault of a sample above the maxval
abbrev pub unit_if : Bool → List ℕ → List ℕ → Result (List ℕ × List ℕ) InputFault
unit_if within unit rest = if within then Ok (unit, rest) else Err SampleAboveMaxval

-- a sample before others that were read in turn
after_first : (within : Bool) (unit : List ℕ) (units : List (List ℕ)) (rest : List ℕ)
    → (units_if within units rest >>= λ others. Ok (unit ∷ others.0, others.1)) ≡ units_if within (unit ∷ units) rest
after_first true unit units rest = refl
after_first false unit units rest = refl

first_by : (item : List ℕ → Result (List ℕ × List ℕ) InputFault) (n : ℕ) (first within : Bool) (unit : List ℕ) (units : List (List ℕ)) (more rest : List ℕ)
    → in_turn item n more ≡ units_if within units rest
    → (unit_if first unit more >>= λ found. in_turn item n found.1 >>= λ others. Ok (found.0 ∷ others.0, others.1)) ≡ units_if (first && within) (unit ∷ units)
    rest
first_by item n true within unit units more rest e = rw e (after_first within unit units rest)
first_by item n false within unit units more rest e = refl

-- a byte of eight pixels each
pub packed_units : (maxval : ℕ) (bytes rest : List ℕ) → in_turn (raw_item Bits maxval) (length bytes) (bytes ++ rest) ≡ Ok (map pixels bytes, rest)
unfolding in_turn raw_item
packed_units maxval [] rest = refl
packed_units maxval (b ∷ bytes) rest = rw (packed_units maxval bytes rest) refl

-- a byte a sample
pub narrow_units : (maxval : ℕ) (bytes rest : List ℕ) → in_turn (raw_item Bytes maxval) (length bytes) (bytes ++ rest) ≡ units_if (are_within maxval bytes)
    (map single bytes) rest
unfolding in_turn raw_item
narrow_units maxval [] rest = refl
narrow_units maxval (b ∷ bytes) rest = first_by (raw_item Bytes maxval) (length bytes) (leb b maxval) (are_within maxval bytes) (single b) (map single bytes)
    (bytes ++ rest) rest (narrow_units maxval bytes rest)

-- two bytes a sample
pub wide_units : (maxval n : ℕ) (bytes rest : List ℕ) → length bytes ≡ n * 2
    → in_turn (raw_item Words maxval) n (bytes ++ rest) ≡ units_if (are_within maxval (wide_samples bytes)) (map single (wide_samples bytes)) rest
unfolding in_turn raw_item wide_samples
wide_units maxval zero [] rest count = refl
wide_units maxval zero (b ∷ bytes) rest count = absurd (omega arith)
wide_units maxval (suc n) [] rest count = absurd (omega (arith, zero-add, suc-add, suc-mul n 2))
wide_units maxval (suc n) (b ∷ []) rest count = absurd (omega (arith, zero-add, suc-add, suc-mul n 2))
wide_units maxval (suc n) (b ∷ c ∷ bytes) rest count =
    first_by (raw_item Words maxval) n (leb (256 * b + c) maxval) (are_within maxval (wide_samples bytes)) (single (256 * b + c))
    (map single (wide_samples bytes)) (bytes ++ rest) rest
    (wide_units maxval n bytes rest (omega (arith, zero-add, suc-add, suc-mul n 2)))

-- ---- units of a byte each

-- samples that are not all up to the maxval don't pass its test
not_within : (maxval : ℕ) (samples : List ℕ) (t : Bool) → are_within maxval samples ≡ t → (All (λ sample. sample ≤ maxval) samples → ⊥) → t ≡ false
not_within maxval samples true e h = absurd (h (all_are_within maxval samples e))
not_within maxval samples false e h = refl

pub bytes_are_units : (p : SampleWidth) (maxval : ℕ) (bytes rest : List ℕ) → (p ≡ Words → ⊥) → AreBytesWithin p maxval bytes
    → (units : List (List ℕ)) × (samples_of_bytes p bytes ≡ concat units) × (in_turn (raw_item p maxval) (length bytes) (bytes ++ rest) ≡ Ok (units, rest))
bytes_are_units Bits maxval bytes rest n h = (map pixels bytes, sym (concat_pixels bytes), packed_units maxval bytes rest)
bytes_are_units Bytes maxval bytes rest n h = (
  map single bytes,
  sym (concat_singles bytes),
  narrow_units maxval bytes rest
      ∙ ap (λ (t : Bool). units_if t (map single bytes) rest) (are_within_all maxval bytes h),
)
bytes_are_units Words maxval bytes rest n h = absurd (n refl)

pub bytes_are_at_fault : (p : SampleWidth) (maxval : ℕ) (bytes rest : List ℕ) → (p ≡ Words → ⊥) → (AreBytesWithin p maxval bytes → ⊥)
    → in_turn (raw_item p maxval) (length bytes) (bytes ++ rest) ≡ fails SampleAboveMaxval
bytes_are_at_fault Bits maxval bytes rest n h = absurd (h tt)
bytes_are_at_fault Bytes maxval bytes rest n h =
    narrow_units maxval bytes rest ∙ ap (λ (t : Bool). units_if t (map single bytes) rest) (not_within maxval bytes (are_within maxval bytes) refl h)
bytes_are_at_fault Words maxval bytes rest n h = absurd (n refl)

-- ---- samples of two bytes

pub words_are_units : (maxval n : ℕ) (bytes old new rest : List ℕ) → length bytes ≡ n * 2 → AppendsWide maxval bytes old new (Ok tt)
    → (units : List (List ℕ)) × (new ≡ old ++ concat units) × (in_turn (raw_item Words maxval) n (bytes ++ rest) ≡ Ok (units, rest))
words_are_units maxval n bytes old new rest count h = (
  map single (wide_samples bytes),
  h.0 ∙ ap (λ (l : List ℕ). old ++ l) (sym (concat_singles (wide_samples bytes))),
  wide_units maxval n bytes rest count ∙ ap (λ (t : Bool). units_if t (map single (wide_samples bytes)) rest) (are_within_all maxval (wide_samples bytes) h.1),
)

pub words_are_at_fault : (maxval n : ℕ) (bytes rest : List ℕ) → length bytes ≡ n * 2 → (All (λ sample. sample ≤ maxval) (wide_samples bytes) → ⊥)
    → in_turn (raw_item Words maxval) n (bytes ++ rest) ≡ fails SampleAboveMaxval
words_are_at_fault maxval n bytes rest count h =
    wide_units maxval n bytes rest count ∙ ap (λ (t : Bool). units_if t (map single (wide_samples bytes)) rest)
    (not_within maxval (wide_samples bytes) (are_within maxval (wide_samples bytes)) refl h)
