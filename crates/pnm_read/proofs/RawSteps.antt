-- How the units of a raw row are read part by part.
use Rattle.pnm_read.proofs.Words.{◌≡◌, ℕ, zero, suc, ◌+◌, ◌-◌, ◌*◌, ◌<◌, ◌≤◌, Bool, true, false, leb, List, [], ◌∷◌, ◌++◌, length, take, Option, Result, Ok}
use Rattle.pnm_read.proofs.Words.{Err, ◌⊎◌, inl, inr, refl, sym, ap, ◌∙◌, ap₂, arith, concat, concat-append, Shape, row_length, InputFault, ReadFailed}
use Rattle.pnm_read.proofs.Words.{RasterCut, BufferedReader, SampleWidth, Bits, Bytes, Words, sample_width_of, ◌>>=◌, units_in_row, units_at, FindsUnits}
use Rattle.pnm_read.proofs.Words.{FindsPart, IsOutsideFault, ReadCall, Finds}
use Rattle.pnm_read.specs.Items.{raw_item}
use Rattle.pnm_read.specs.Said.{in_turn, raw_row}
use Rattle.pnm_read.proofs.UnitLaws.{unit_bytes, unit_if, items_of, and_items}
use Rattle.pnm_read.proofs.PartLaws.{all_are_left, part_fails, part_is_read, none_are_left, one_fails}
use Rattle.pnm_read.proofs.ReadCalls.{no_fault, call_then, call_ok_so, call_err_so, call_taken}

-- ---- units of a text

-- a text of fewer bytes than a unit has
cut_unit : (p : SampleWidth) (maxval : ℕ) (text : List ℕ) → length text < unit_bytes p → raw_item p maxval text ≡ Err RasterCut
unfolding raw_item
cut_unit Bits maxval [] lt = refl
cut_unit Bits maxval (b ∷ text) lt = absurd (omega arith)
cut_unit Bytes maxval [] lt = refl
cut_unit Bytes maxval (b ∷ text) lt = absurd (omega arith)
cut_unit Words maxval [] lt = refl
cut_unit Words maxval (b ∷ []) lt = refl
cut_unit Words maxval (b ∷ c ∷ text) lt = absurd (omega arith)

pub cut_at_first : (p : SampleWidth) (maxval : ℕ) (text : List ℕ) → length text < unit_bytes p → in_turn (raw_item p maxval) 1 text ≡ Err RasterCut
cut_at_first p maxval text lt = one_fails (raw_item p maxval) text (cut_unit p maxval text lt)

-- no unit's fault is that of a reader
unit_if_found : (t : Bool) (unit rest : List ℕ) → unit_if t unit rest ≡ Err ReadFailed → ⊥
unit_if_found true unit rest e = cc
unit_if_found false unit rest e = cc

unit_found : (p : SampleWidth) (maxval : ℕ) (text : List ℕ) → raw_item p maxval text ≡ Err ReadFailed → ⊥
unfolding raw_item
unit_found Bits maxval [] e = cc
unit_found Bits maxval (b ∷ text) e = cc
unit_found Bytes maxval [] e = cc
unit_found Bytes maxval (b ∷ text) e = unit_if_found (leb b maxval) (b ∷ []) text e
unit_found Words maxval [] e = cc
unit_found Words maxval (b ∷ []) e = cc
unit_found Words maxval (b ∷ c ∷ text) e = unit_if_found (leb (256 * b + c) maxval) ((256 * b + c) ∷ []) text e

others_found : (first : List ℕ) (r : Result (List (List ℕ) × List ℕ) InputFault) → (r ≡ Err ReadFailed → ⊥)
    → (r >>= λ more. items_of (first ∷ more.0) more.1) ≡ Err ReadFailed → ⊥
others_found first (Ok x) h e = cc
others_found first (Err k) h e = h cc

first_found : (item : List ℕ → Result (List ℕ × List ℕ) InputFault) (n : ℕ) (r : Result (List ℕ × List ℕ) InputFault) → (r ≡ Err ReadFailed → ⊥)
    → ((text : List ℕ) → in_turn item n text ≡ Err ReadFailed → ⊥)
    → (r >>= λ first. in_turn item n first.1 >>= λ more. items_of (first.0 ∷ more.0) more.1) ≡ Err ReadFailed → ⊥
first_found item n (Ok x) h others e = others_found x.0 (in_turn item n x.1) (others x.1) e
first_found item n (Err k) h others e = h cc

units_found : (p : SampleWidth) (maxval n : ℕ) (text : List ℕ) → in_turn (raw_item p maxval) n text ≡ Err ReadFailed → ⊥
unfolding in_turn
units_found p maxval zero text e = cc
units_found p maxval (suc n) text e = first_found (raw_item p maxval) n (raw_item p maxval text) (unit_found p maxval text) (units_found p maxval n) e

-- the units of a row, by the width of its samples and how many they are
pub units_as : (s : Shape) {p : SampleWidth} {all : ℕ} (text : List ℕ) → p ≡ sample_width_of s.kind s.maxval → all ≡ units_in_row p s
    → units_at s text ≡ in_turn (raw_item p s.maxval) all text
units_as s text is_width is_all =
    sym (ap₂ (λ (q : SampleWidth) (n : ℕ). in_turn (raw_item q s.maxval) n text) is_width (is_all ∙ ap (λ (q : SampleWidth). units_in_row q s) is_width))

-- ---- steps

-- These are the samples of the units that were read, and so many units are left.
abbrev pub UnitsFrom : SampleWidth → ℕ → ℕ → ℕ → List ℕ → List ℕ → List ℕ → Type 0
UnitsFrom p maxval all more samples text left =
    (units : List (List ℕ)) × (samples ≡ concat units) × (in_turn (raw_item p maxval) all text ≡ and_items (raw_item p maxval) more units left)

pub record ReadingUnits {R : Type 0} (left : R → Option (List ℕ)) (failures : R → ℕ) (same : R → R → Type 0) (p : SampleWidth) (maxval all more : ℕ)
    (samples : List ℕ) (old now : BufferedReader R) : Type 0 where
  pub call : ReadCall {A = Unit {0}} left failures same old now (Ok tt) (UnitsFrom p maxval all more samples)

pub units_begin : {R : Type 0} {left : R → Option (List ℕ)} {failures : R → ℕ} {same : R → R → Type 0} (p : SampleWidth) (maxval all : ℕ) (samples : List ℕ)
    (input : BufferedReader R) → ((a : R) → same a a) → samples ≡ []
    → ReadingUnits left failures same p maxval all all samples input input
units_begin {left = left} {failures = failures} {same = same} p maxval all samples input at_once none = record {
  call = call_ok_so {A = Unit {0}} {B = Unit {0}} (Ok tt) (no_fault tt ReadFailed)
      (λ b a e. ([], none, ap (in_turn (raw_item p maxval) all) e ∙ all_are_left (raw_item p maxval) all a))
      (call_taken {A = Unit {0}} {result = Ok tt} [] at_once (no_fault tt ReadFailed) refl refl refl);
}

-- a part of the units that are left was read
pub part_read : {R : Type 0} {left : R → Option (List ℕ)} {failures : R → ℕ} {same : R → R → Type 0} {p : SampleWidth} {maxval all more : ℕ} {samples : List ℕ}
    {old now mid : BufferedReader R}
    (most : ℕ) (part : List ℕ) (new : ℕ → List ℕ) (count : ℕ) (others : List ℕ) → ((a b c : R) → same a b → same b c → same a c)
    → ReadingUnits left failures same p maxval all more samples old now
    → ReadCall {A = ℕ} left failures same now mid (Ok count) (FindsPart p maxval most part new (Ok count))
    → most ≤ more → ((units : List (List ℕ)) → new count ≡ part ++ concat units → others ≡ samples ++ concat units)
    → ReadingUnits left failures same p maxval all (more - count) others old mid
part_read {p = p} {maxval = maxval} {all = all} {more = more} {samples = samples} most part new count others later r t le f = record {
  call = call_ok_so {A = ℕ} {B = Unit {0}} (Ok tt) (no_fault tt ReadFailed) (λ b a o.
      let fits : count ≤ more = omega (arith, o.2.2, le) in (
        o.1.0 ++ o.2.0,
        f o.2.0 o.2.1 ∙ ap (λ (l : List ℕ). l ++ concat o.2.0) o.1.1 ∙ sym (concat-append o.1.0 o.2.0),
        part_is_read (raw_item p maxval) all more count o.1.0 o.2.0 b o.0 a fits o.2.3 o.1.2,
      ))
      (call_then {A = Unit {0}} {B = ℕ} tt later r.call t);
}

-- no unit's fault in a part is that of a reader
part_fault_so : {p : SampleWidth} {maxval all : ℕ} (more most : ℕ) (samples part : List ℕ) (new : ℕ → List ℕ) (s : Shape) (k : InputFault)
    → p ≡ sample_width_of s.kind s.maxval → all ≡ units_in_row p s → maxval ≡ s.maxval → most ≤ more → (b m a : List ℕ)
    → UnitsFrom p maxval all more samples b m → FindsPart p maxval most part new (Err k) m a → (units_at s b ≡ Err k) ⊎ IsOutsideFault k
part_fault_so {p} {maxval} {all} more most samples part new s k is_width is_all is_maxval le b m a from (inl found) =
    let fits : found.0 ≤ more = omega (arith, found.1, le) in
    inl (units_as s b is_width is_all ∙ ap (λ (n : ℕ). in_turn (raw_item p n) all b) (sym is_maxval)
    ∙ part_fails (raw_item p maxval) all more found.0 from.0 b m fits found.2 from.2)
part_fault_so more most samples part new s k is_width is_all is_maxval le b m a from (inr outside) = inr outside

-- ---- a row of units

-- a row, and what is left of the text
abbrev row_done : List ℕ → List ℕ → Result (List ℕ × List ℕ) InputFault
row_done row rest = Ok (row, rest)

-- the row of these units
abbrev row_of_units : Shape → Result (List (List ℕ) × List ℕ) InputFault → Result (List ℕ × List ℕ) InputFault
row_of_units s units = units >>= λ found. row_done (take (row_length s) (concat found.0)) found.1

fault_of_units : {A : Type 0} (view : A → List ℕ) (s : Shape) (k : InputFault) (b a : List ℕ) → FindsUnits view s (Err k) b a → Finds (raw_row s) (Err k) b a
unfolding raw_row
fault_of_units view s k b a (inl e) = inl (ap (row_of_units s) e)
fault_of_units view s k b a (inr outside) = inr outside

module _ {R : Type 0} {left : R → Option (List ℕ)} {failures : R → ℕ} {same : R → R → Type 0} {old : BufferedReader R} where
  pub part_fault : {B : Type 0} {p : SampleWidth} {all more : ℕ} {samples : List ℕ} {now mid : BufferedReader R} (most : ℕ) (part : List ℕ)
      (new : ℕ → List ℕ) (view : B → List ℕ) (s : Shape) {k : InputFault} → ((a b c : R) → same a b → same b c → same a c)
      → ReadingUnits left failures same p s.maxval all more samples old now → ReadCall {A = ℕ} left failures same now mid (Err k)
      (FindsPart p s.maxval most part new (Err k)) → p ≡ sample_width_of s.kind s.maxval → all ≡ units_in_row p s → most ≤ more
      → ReadCall {A = B} left failures same old mid (Err k) (FindsUnits view s (Err k))
  part_fault {B = B} {p = p} {all = all} {more = more} {samples = samples} most part new view s {k} later r t is_width is_all le =
      call_err_so {A = ℕ} {B = B} (λ b a o. part_fault_so more most samples part new s k is_width is_all refl le b o.0 a o.1 o.2)
      (call_then {A = Unit {0}} {B = ℕ} tt later r.call t)

  -- all units were read
  pub units_read : {B : Type 0} {p : SampleWidth} {all more : ℕ} {samples : List ℕ} {now : BufferedReader R} (view : B → List ℕ) (s : Shape) {row : B}
      → ReadingUnits left failures same p s.maxval all more samples old now → p ≡ sample_width_of s.kind s.maxval → all ≡ units_in_row p s → more ≤ 0
      → view row ≡ samples → ReadCall {A = B} left failures same old now (Ok row) (FindsUnits view s (Ok row))
  units_read {B = B} {p = p} {all = all} {more = more} view s {row} r is_width is_all done is_row =
      call_ok_so {A = Unit {0}} {B = B} (Ok row) (no_fault row ReadFailed) (λ b a o.
      let none : more ≡ 0 = omega arith in (
        o.0,
        units_as s b is_width is_all ∙ o.2 ∙ ap (λ (m : ℕ). and_items (raw_item p s.maxval) m o.0 a) none ∙ none_are_left (raw_item p s.maxval) o.0 a,
        is_row ∙ o.1,
      )) r.call

  pub row_found : {A : Type 0} {new : BufferedReader R} (view : A → List ℕ) (s : Shape) {units : A} {row : List ℕ} → row ≡ take (row_length s) (view units)
      → ReadCall {A = A} left failures same old new (Ok units) (FindsUnits view s (Ok units)) → ReadCall {A = List ℕ} left failures same old new (Ok row)
      (Finds (raw_row s) (Ok row))
  unfolding raw_row
  row_found {A = A} view s {row} is_row t =
      call_ok_so {A = A} {B = List ℕ} (Ok row) (no_fault row ReadFailed)
      (λ b a o. ap (row_of_units s) o.1 ∙ ap (λ (l : List ℕ). row_done l a) (ap (take (row_length s)) (sym o.2) ∙ sym is_row)) t

  pub row_fault : {A : Type 0} {new : BufferedReader R} (view : A → List ℕ) (s : Shape) {k : InputFault}
      → ReadCall {A = A} left failures same old new (Err k) (FindsUnits view s (Err k)) → ReadCall {A = List ℕ} left failures same old new (Err k)
      (Finds (raw_row s) (Err k))
  row_fault {A = A} view s {k} t = call_err_so {A = A} {B = List ℕ} (fault_of_units view s k) t
