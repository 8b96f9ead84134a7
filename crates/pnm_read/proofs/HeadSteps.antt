-- The head that the numbers of a header of PBM, PGM or PPM make.
use Rattle.pnm_read.proofs.Words.{◌≡◌, ◌⊎◌, inl, inr, ℕ, ◌+◌, ◌-◌, ◌<◌, ◌≤◌, List, [], length, map, drop, Some, None, Result, Ok, Err, refl, sym, ap, subst}
use Rattle.pnm_read.proofs.Words.{◌∙◌, arith, slice_index, MatchResult, IfOk, OnOk, IfErr, IsErrAnd, get_or-drop, get_or-map, Shape, Kind, Bit, Gray, Color}
use Rattle.pnm_read.proofs.Words.{Pam, HeadFault, HeadValue, head_value, shape_fault, InputFault, ReadFailed, HeaderScanner, numbers_in, number_count, planes}
use Rattle.pnm_read.proofs.Words.{maxval_of, shape_of, ◌>>=◌, piece_from, header_item, header_end, fault_of_head, IsOutsideFault, Finds, ScansAfter, Scans}
use Rattle.pnm_read.proofs.Words.{saturate_u32, IsNumbers, GivesInMemory, IsHeaderFresh, IsHeaderAfter, IsHeaderWhole}
use Rattle.pnm_image.specs.declared.head.HeadFault.TheVariants as heads
use Rattle.pnm_read.specs.Items.{numbers_item}
use Rattle.pnm_read.specs.Said.{pnm_head_at}
use Rattle.pnm_read.proofs.WordLaws.{numbers-white}
use Rattle.pnm_read.proofs.HeaderLaws.{body_is_read, so_far_none, some_numbers, ended}
use Rattle.pnm_read.proofs.HeaderSteps.{header_fresh}
use Rattle.pnm_read.proofs.HeldShapes.{saturated_shape, head_item, head_given, given_of_text}

numbers_item_is : (kind : Kind) (numbers : List ℕ) → numbers_item kind numbers ≡ head_item (shape_of kind numbers) []
unfolding numbers_item
numbers_item_is kind numbers = refl

-- the head that was made of the shape, or what was wrong with it
pub numbers_given : (kind : Kind) (numbers : List ℕ) {shape : Shape} (made : Result HeadValue HeadFault) (result : Result HeadValue InputFault)
    → shape ≡ saturated_shape (shape_of kind numbers) → IfOk made (λ head. head ≡ head_value shape []) → OnOk made (shape_fault shape ≡ None)
    → IfErr made (λ e. (shape_fault shape ≡ Some e) ⊎ ((e ≡ heads.Memory) × (shape_fault shape ≡ None))) → MatchResult made (λ head. result ≡ Ok head)
    (λ e. IsErrAnd result (λ fault. fault ≡ fault_of_head e)) → GivesInMemory result (numbers_item kind numbers)
numbers_given kind numbers made result same is sound refused cases =
    subst (GivesInMemory result) (sym (numbers_item_is kind numbers)) (head_given (shape_of kind numbers) [] made result same is sound refused cases)

-- ---- the numbers that are held

-- a number that is held, by the number that was found
held_is : (k i : ℕ) (held found : List ℕ) → i < length found → drop k held ≡ map saturate_u32 found
    → slice_index held (k + i) ≡ saturate_u32 (slice_index found i)
held_is k i held found lt e = sym (get_or-drop k held i 0) ∙ ap (λ (l : List ℕ). slice_index l i) e ∙ get_or-map saturate_u32 found i 0 0 lt

few_planes : (kind : Kind) → saturate_u32 (planes kind) ≡ planes kind
few_planes Bit = refl
few_planes Gray = refl
few_planes Color = refl
few_planes Pam = refl

shape_by : (kind : Kind) {width height maxval depth : ℕ} (found : List ℕ) → width ≡ saturate_u32 (slice_index found 0)
    → height ≡ saturate_u32 (slice_index found 1) → maxval ≡ saturate_u32 (maxval_of kind found) → depth ≡ planes kind
    → record { kind = kind; width = width; height = height; depth = depth; maxval = maxval } ≡ saturated_shape (shape_of kind found)
shape_by kind found w h m d = rw (w, h, m, d, few_planes kind) refl

-- the shape of these sizes and this maxval
abbrev pub shape_from : Kind → (ℕ × ℕ × ℕ) → ℕ → Shape
shape_from kind sizes depth = record { kind = kind; width = sizes.0; height = sizes.1; depth = depth; maxval = sizes.2 }

-- the shape of the last two numbers that are held
pub shape_of_two : (kind : Kind) {sizes : ℕ × ℕ × ℕ} {depth : ℕ} {held found : List ℕ} → kind ≡ Bit → sizes ≡ (slice_index held 1, slice_index held 2, 1)
    → depth ≡ planes kind → IsNumbers (number_count kind) found held → shape_from kind sizes depth ≡ saturated_shape (shape_of kind found)
shape_of_two Bit {held} {found} e s d n =
    let count : length found ≡ 2 = n.count in
    let last : drop 1 held ≡ map saturate_u32 found = rw count at n.last in
    rw s (shape_by Bit found (held_is 1 0 held found (omega arith) last) (held_is 1 1 held found (omega arith) last) refl d)
shape_of_two Gray e s d n = absurd cc
shape_of_two Color e s d n = absurd cc
shape_of_two Pam e s d n = absurd cc

shape_of_all : (kind : Kind) {depth : ℕ} (held found : List ℕ) → maxval_of kind found ≡ slice_index found 2 → length found ≡ 3 → depth ≡ planes kind
    → drop (3 - length found) held ≡ map saturate_u32 found
    → shape_from kind (slice_index held 0, slice_index held 1, slice_index held 2) depth ≡ saturated_shape (shape_of kind found)
shape_of_all kind held found third count d n =
    let last : drop 0 held ≡ map saturate_u32 found = rw count at n in
    shape_by kind found (held_is 0 0 held found (omega arith) last) (held_is 0 1 held found (omega arith) last)
    (held_is 0 2 held found (omega arith) last ∙ ap saturate_u32 (sym third)) d

-- the shape of the three numbers that are held
pub shape_of_three : (kind : Kind) {sizes : ℕ × ℕ × ℕ} {depth : ℕ} {held found : List ℕ} → (kind ≡ Gray) ⊎ ((kind ≡ Color) ⊎ (kind ≡ Pam))
    → sizes ≡ (slice_index held 0, slice_index held 1, slice_index held 2) → depth ≡ planes kind → IsNumbers (number_count kind) found held
    → shape_from kind sizes depth ≡ saturated_shape (shape_of kind found)
shape_of_three Bit (inl e) s d n = absurd cc
shape_of_three Bit (inr (inl e)) s d n = absurd cc
shape_of_three Bit (inr (inr e)) s d n = absurd cc
shape_of_three Gray {held} {found} e s d n = rw s (shape_of_all Gray held found refl n.count d n.last)
shape_of_three Color {held} {found} e s d n = rw s (shape_of_all Color held found refl n.count d n.last)
shape_of_three Pam {held} {found} e s d n = rw s (shape_of_all Pam held found refl n.count d n.last)

-- ---- the head of a text

-- what the head of a text is after its piece
abbrev pub head_after : Kind → Result (List ℕ × List ℕ) InputFault → Result (HeadValue × List ℕ) InputFault
head_after kind piece = piece >>= λ p. numbers_item kind (numbers_in p.0) >>= λ head. Ok (head, p.1)

pub head_at_is : (kind : Kind) (text : List ℕ) → pnm_head_at kind text ≡ head_after kind (piece_from (header_item (number_count kind)) header_end [] text)
unfolding pnm_head_at
head_at_is kind text = refl

abbrev pub head_with : List ℕ → Result HeadValue InputFault → Result (HeadValue × List ℕ) InputFault
head_with after read = read >>= λ head. Ok (head, after)

-- the head of the numbers of a piece
found_after : (kind : Kind) (result : Result HeadValue InputFault) (piece text after : List ℕ) → piece_from (header_item (number_count kind)) header_end [] text
    ≡ Ok (piece, after)
    → GivesInMemory result (numbers_item kind (numbers_in piece)) → Finds (pnm_head_at kind) result text after
found_after kind (Ok head) piece text after p gives = head_at_is kind text ∙ ap (head_after kind) p ∙ ap (head_with after) gives
found_after kind (Err fault) piece text after p gives =
    elim gives [
      | inl memory ↦ inr (inr memory)
      | inr numbers ↦ inl (head_at_is kind text ∙ ap (head_after kind) p ∙ ap (head_with after) numbers)
    ]

-- the numbers of a header are all there
count_is : (kind : Kind) (text piece rest : List ℕ) → piece_from (header_item (number_count kind)) header_end [] text ≡ Ok (piece, rest)
    → length (numbers_in piece) ≡ number_count kind
count_is kind text piece rest e =
    let body = body_is_read [] text (so_far_none (some_numbers kind)) e in
    let end = ended (number_count kind) body.body body.delimiter body.ends in
    ap (λ (l : List ℕ). length (numbers_in l)) body.piece_is ∙ ap length (numbers-white body.body body.delimiter end.outside end.white) ∙ end.all

pub few_numbers : (kind : Kind) → number_count kind ≤ 3
few_numbers Bit = omega arith
few_numbers Gray = omega arith
few_numbers Color = omega arith
few_numbers Pam = omega arith

-- what a scanner says of the text that it was given from the header's first byte on
fresh_scans : (kind : Kind) {wanted : ℕ} {old : HeaderScanner} (now : HeaderScanner) (result : Result (Unit {0}) InputFault) (text after : List ℕ)
    → IsHeaderFresh wanted old → wanted ≡ number_count kind → length old.numbers ≤ 3 → Scans (header_item old.wanted) header_end (IsHeaderAfter old)
    (IsHeaderWhole now) result text after → ScansAfter (header_item (number_count kind)) header_end (IsHeaderWhole now) result [] text after
fresh_scans kind {wanted} {old} now result text after fresh count three scans =
    let some = some_numbers kind in
    let few = few_numbers kind in
    subst (λ (n : ℕ). ScansAfter (header_item n) header_end (IsHeaderWhole now) result [] text after) (fresh.wanted_is ∙ count)
    (scans [] (header_fresh wanted old fresh (omega arith) (omega arith) three))

-- the numbers that a scanner found
pub numbers_found : (kind : Kind) (now : HeaderScanner) (text piece after : List ℕ) → IsHeaderWhole now piece
    → piece_from (header_item (number_count kind)) header_end [] text ≡ Ok (piece, after) → IsNumbers (number_count kind) (numbers_in piece) now.numbers
numbers_found kind now text piece after whole p = record { count = count_is kind text piece after p; most = few_numbers kind; last = whole.last }

-- a head of these numbers is given
abbrev pub HeadOf : Kind → List ℕ → Result HeadValue InputFault → Type 0
HeadOf kind held result = (found : List ℕ) → IsNumbers (number_count kind) found held → GivesInMemory result (numbers_item kind found)

pub head_found : (kind : Kind) {wanted : ℕ} {old : HeaderScanner} (now : HeaderScanner) (result : Result HeadValue InputFault) (text after : List ℕ)
    → IsHeaderFresh wanted old → wanted ≡ number_count kind → length old.numbers ≤ 3 → HeadOf kind now.numbers result
    → Scans (header_item old.wanted) header_end (IsHeaderAfter old) (IsHeaderWhole now) (Ok tt) text after → Finds (pnm_head_at kind) result text after
head_found kind now result text after fresh count three gives scans =
    let s = fresh_scans kind now (Ok tt) text after fresh count three scans in
    found_after kind result s.0 text after s.2 (gives (numbers_in s.0) (numbers_found kind now text s.0 after s.1 s.2))

-- the numbers' fault is none of the reader's
pub head_of_text : (kind : Kind) {wanted : ℕ} {old : HeaderScanner} (now : HeaderScanner) {result : Result HeadValue InputFault} (text after : List ℕ)
    → IsHeaderFresh wanted old → wanted ≡ number_count kind → length old.numbers ≤ 3 → HeadOf kind now.numbers result
    → Scans (header_item old.wanted) header_end (IsHeaderAfter old) (IsHeaderWhole now) (Ok tt) text after → result ≡ Err ReadFailed → ⊥
head_of_text kind now {result} text after fresh count three gives scans =
    let s = fresh_scans kind now (Ok tt) text after fresh count three scans in
    given_of_text (shape_of kind (numbers_in s.0)) [] result
    (subst (GivesInMemory result) (numbers_item_is kind (numbers_in s.0)) (gives (numbers_in s.0) (numbers_found kind now text s.0 after s.1 s.2)))

-- the header is at fault
pub head_missed : (kind : Kind) {wanted : ℕ} {old : HeaderScanner} (now : HeaderScanner) (fault : InputFault) (text after : List ℕ)
    → IsHeaderFresh wanted old → wanted ≡ number_count kind → length old.numbers ≤ 3 → Scans (header_item old.wanted) header_end (IsHeaderAfter old)
    (IsHeaderWhole now) (Err fault) text after → (pnm_head_at kind text ≡ Err fault) ⊎ IsOutsideFault fault
head_missed kind now fault text after fresh count three scans =
    elim (fresh_scans kind now (Err fault) text after fresh count three scans) [
      | inl text_fault ↦ inl (head_at_is kind text ∙ ap (head_after kind) text_fault)
      | inr outside ↦ inr outside
    ]
