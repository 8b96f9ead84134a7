-- A shape whose numbers are held as u32s, and its head.
use Rattle.pnm_read.proofs.Words.{◌≡◌, ◌⊎◌, inl, inr, ℕ, ◌*◌, ◌<◌, ◌≤◌, true, ◌==◌, List, Option, Some, None, Result, Ok, Err, refl, sym, ap, subst, ◌∙◌, arith}
use Rattle.pnm_read.proofs.Words.{nat_lt, MatchResult, IfOk, OnOk, IfErr, IsErrAnd, mul-le-mul_left, cases_lt, cases_eq, lt-ltb, le-ltb, eq-eqb, ne_eqb, Shape}
use Rattle.pnm_read.proofs.Words.{Kind, HeadFault, HeadValue, head_value, shape_fault, InputFault, ReadFailed, Memory, fault_of_head, saturate_u32}
use Rattle.pnm_read.proofs.Words.{GivesInMemory, MAX_DEPTH, MAX_MAXVAL, MAX_ROW_LENGTH, MAX_SIDE}
use Rattle.pnm_image.specs.declared.head.HeadFault.TheVariants as heads
use Rattle.pnm_read.proofs.ShapeLaws.{head_or_fault, limits_of}

-- a limit below the greatest u32 is passed by a number where it is passed by the u32
saturate_u32-limit : (limit n : ℕ) → limit < 4294967295 → nat_lt limit (saturate_u32 n) ≡ nat_lt limit n
saturate_u32-limit limit n below =
    elim (cases_lt limit n) [
      | inl lt ↦ lt-ltb limit (saturate_u32 n) (omega arith) ∙ sym (lt-ltb limit n lt)
      | inr le ↦ le-ltb limit (saturate_u32 n) (omega arith) ∙ sym (le-ltb limit n le)
    ]

-- a number is 0 where the u32 is
saturate_u32-zero : (n : ℕ) → (saturate_u32 n == 0) ≡ (n == 0)
saturate_u32-zero n =
    elim (cases_eq n 0) [
      | inl is ↦ eq-eqb (saturate_u32 n) 0 (omega arith) ∙ sym (eq-eqb n 0 is)
      | inr not ↦ ne_eqb (saturate_u32 n) 0 (λ is. not (omega arith)) ∙ sym (ne_eqb n 0 not)
    ]

-- a product with a factor that is too great for a u32 is great, unless the other is 0
great_product : (a b : ℕ) → 4294967295 ≤ a → 0 < b → 4294967295 ≤ a * b
great_product a b great some = let more = mul-le-mul_left a some in omega arith

-- a row of such numbers is too long
great_row : (a b : ℕ) → 4294967295 ≤ a → 0 < b → nat_lt MAX_ROW_LENGTH (a * b) ≡ true
great_row a b great some = let high = great_product a b great some in lt-ltb MAX_ROW_LENGTH (a * b) (omega arith)

-- a row is too long where that of the u32s is, if a factor is too great for one
great_rows : (a b : ℕ) → 4294967295 ≤ a → nat_lt MAX_ROW_LENGTH (saturate_u32 a * saturate_u32 b) ≡ nat_lt MAX_ROW_LENGTH (a * b)
great_rows a b great =
    elim (cases_eq b 0) [
      | inl is ↦ ap (λ (k : ℕ). nat_lt MAX_ROW_LENGTH (saturate_u32 a * saturate_u32 k)) is ∙ ap (λ (k : ℕ). nat_lt MAX_ROW_LENGTH k) (omega arith)
          ∙ sym (ap (λ (k : ℕ). nat_lt MAX_ROW_LENGTH (a * k)) is)
      | inr not ↦ let some = low_or_not b not in great_row (saturate_u32 a) (saturate_u32 b) (omega arith) (omega arith) ∙ sym (great_row a b great some)
    ]
  where
    low_or_not : (b : ℕ) → (b ≡ 0 → ⊥) → 0 < b
    low_or_not b not = grind (arith, not)

-- a row is too long where that of the u32s is
saturate_u32-row : (a b : ℕ) → nat_lt MAX_ROW_LENGTH (saturate_u32 a * saturate_u32 b) ≡ nat_lt MAX_ROW_LENGTH (a * b)
saturate_u32-row a b =
    elim (cases_lt a 4294967295) [
      | inr great ↦ great_rows a b great
      | inl few ↦ elim (cases_lt b 4294967295) [
        | inr great ↦ ap (λ (k : ℕ). nat_lt MAX_ROW_LENGTH k) (omega arith) ∙ great_rows b a great ∙ ap (λ (k : ℕ). nat_lt MAX_ROW_LENGTH k) (omega arith)
        | inl less ↦ let same_a : saturate_u32 a ≡ a = omega arith in let same_b : saturate_u32 b ≡ b = omega arith in rw (same_a, same_b) refl
      ]
    ]

-- the shape as its numbers are held
abbrev pub saturated_shape : Shape → Shape
saturated_shape s =
    record { kind = s.kind; width = saturate_u32 s.width; height = saturate_u32 s.height; depth = saturate_u32 s.depth; maxval = saturate_u32 s.maxval }

-- a shape and what is held of it have one fault
same_fault : (s : Shape) → shape_fault (saturated_shape s) ≡ shape_fault s
same_fault s =
    rw (
      saturate_u32-zero s.width,
      saturate_u32-zero s.height,
      saturate_u32-zero s.depth,
      saturate_u32-limit MAX_SIDE s.width (omega arith),
      saturate_u32-limit MAX_SIDE s.height (omega arith),
      saturate_u32-limit MAX_DEPTH s.depth (omega arith),
      saturate_u32-row s.width s.depth,
      saturate_u32-zero s.maxval,
      saturate_u32-limit MAX_MAXVAL s.maxval (omega arith),
    ) refl

-- a small u32 is the number itself
small_is : (n limit : ℕ) → saturate_u32 n ≤ limit → limit < 4294967295 → saturate_u32 n ≡ n
small_is n limit le lt = omega arith

-- the shape of these numbers
abbrev shape_from : Kind → ℕ → ℕ → ℕ → ℕ → Shape
shape_from kind width height depth maxval = record { kind = kind; width = width; height = height; depth = depth; maxval = maxval }

-- where there is no fault, the shape that is held is the shape
same_shape : (s : Shape) → shape_fault (saturated_shape s) ≡ None → saturated_shape s ≡ s
same_shape s e =
    let limits = (limits_of (saturated_shape s) e).0 in
    let width : saturate_u32 s.width ≡ s.width = small_is s.width MAX_SIDE limits.width_high (omega arith) in
    let height : saturate_u32 s.height ≡ s.height = small_is s.height MAX_SIDE limits.height_high (omega arith) in
    let depth : saturate_u32 s.depth ≡ s.depth = small_is s.depth MAX_DEPTH limits.depth_high (omega arith) in
    let maxval : saturate_u32 s.maxval ≡ s.maxval = small_is s.maxval MAX_MAXVAL limits.maxval_high (omega arith) in
    ap (λ (n : ℕ). shape_from s.kind n (saturate_u32 s.height) (saturate_u32 s.depth) (saturate_u32 s.maxval)) width
    ∙ ap (λ (n : ℕ). shape_from s.kind s.width n (saturate_u32 s.depth) (saturate_u32 s.maxval)) height
    ∙ ap (λ (n : ℕ). shape_from s.kind s.width s.height n (saturate_u32 s.maxval)) depth
    ∙ ap (λ (n : ℕ). shape_from s.kind s.width s.height s.depth n) maxval

-- ---- the head of a shape

-- what a shape and a tuple type make
abbrev pub head_item : Shape → List ℕ → Result HeadValue InputFault
head_item s tuple_type = head_or_fault (shape_fault s) (head_value s tuple_type)

-- what a shape makes, by what is wrong with it as it is held
head_as : {held : Shape} (s : Shape) (tuple_type : List ℕ) {fault : Option HeadFault} → held ≡ saturated_shape s → shape_fault held ≡ fault
    → head_item s tuple_type ≡ head_or_fault fault (head_value s tuple_type)
head_as s tuple_type same is = ap (λ (f : Option HeadFault). head_or_fault f (head_value s tuple_type)) (sym (same_fault s) ∙ ap shape_fault (sym same) ∙ is)

-- the head was made
head_made : {held : Shape} (s : Shape) (tuple_type : List ℕ) {head : HeadValue} → held ≡ saturated_shape s → head ≡ head_value held tuple_type
    → shape_fault held ≡ None → head_item s tuple_type ≡ Ok head
head_made s tuple_type same made sound =
    head_as s tuple_type same sound
    ∙ ap (λ (h : HeadValue). Ok h) (ap (λ (s : Shape). head_value s tuple_type) (sym (same ∙ same_shape s (ap shape_fault (sym same) ∙ sound))) ∙ sym made)

-- the head was refused, or memory ran out
head_refused : {held : Shape} (s : Shape) (tuple_type : List ℕ) (e : HeadFault) {fault : InputFault} → held ≡ saturated_shape s → fault ≡ fault_of_head e
    → (shape_fault held ≡ Some e) ⊎ ((e ≡ heads.Memory) × (shape_fault held ≡ None)) → (fault ≡ Memory) ⊎ (head_item s tuple_type ≡ Err fault)
head_refused s tuple_type e same is why =
    elim why [
      | inl h ↦ inr (head_as s tuple_type same h ∙ ap (λ (f : InputFault). Err f) (sym is))
      | inr h ↦ inl (is ∙ ap fault_of_head h.0)
    ]

-- the head that was made of a shape and a tuple type, or what was wrong with it
pub head_given : {held : Shape} (s : Shape) (tuple_type : List ℕ) (made : Result HeadValue HeadFault) (result : Result HeadValue InputFault)
    → held ≡ saturated_shape s → IfOk made (λ head. head ≡ head_value held tuple_type) → OnOk made (shape_fault held ≡ None)
    → IfErr made (λ e. (shape_fault held ≡ Some e) ⊎ ((e ≡ heads.Memory) × (shape_fault held ≡ None))) → MatchResult made (λ head. result ≡ Ok head)
    (λ e. IsErrAnd result (λ fault. fault ≡ fault_of_head e)) → GivesInMemory result (head_item s tuple_type)
head_given s tuple_type (Ok head) result same made sound refused is =
    subst (λ (r : Result HeadValue InputFault). GivesInMemory r (head_item s tuple_type)) (sym is) (head_made s tuple_type same made sound)
head_given s tuple_type (Err e) (Ok head) same made sound refused is = absurd is
head_given s tuple_type (Err e) (Err fault) same made sound refused is = head_refused s tuple_type e same is refused

-- what is wrong with a shape isn't that the reader failed
pub head_item_of_text : (fault : Option HeadFault) (head : HeadValue) → head_or_fault fault head ≡ Err ReadFailed → ⊥
head_item_of_text (Some heads.ZeroSize) head e = absurd cc
head_item_of_text (Some heads.TooLarge) head e = absurd cc
head_item_of_text (Some heads.BadMaxval) head e = absurd cc
head_item_of_text (Some heads.Memory) head e = absurd cc
head_item_of_text None head e = absurd cc

-- nor is it so for what is given in memory
pub given_of_text : (s : Shape) (tuple_type : List ℕ) (result : Result HeadValue InputFault) → GivesInMemory result (head_item s tuple_type)
    → result ≡ Err ReadFailed → ⊥
given_of_text s tuple_type (Ok head) gives e = absurd cc
given_of_text s tuple_type (Err fault) (inl memory) e = absurd cc
given_of_text s tuple_type (Err fault) (inr read) e = head_item_of_text (shape_fault s) (head_value s tuple_type) (read ∙ e)
