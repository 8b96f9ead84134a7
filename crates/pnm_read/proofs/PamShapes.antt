-- The head that the lines of a PAM header make.
use Rattle.pnm_read.proofs.Words.{◌≡◌, ◌⊎◌, inl, inr, ℕ, Bool, true, false, ◌||◌, ◌==◌, if◌then◌else◌, List, [], ◌∷◌, length, Option, Some, None, Result, Ok}
use Rattle.pnm_read.proofs.Words.{Err, refl, sym, ap, subst, ◌∙◌, slice_index, MatchResult, IfOk, OnOk, IfErr, IsErrAnd, Shape, Pam, HeadFault, HeadValue}
use Rattle.pnm_read.proofs.Words.{head_value, shape_fault, InputFault, MissingField, ReadFailed, Fields, Width, Height, Depth, Maxval, field_values}
use Rattle.pnm_read.proofs.Words.{tuple_type_in, fault_of_head, shape_in, GivesInMemory, held_number, IsFields, shape_held}
use Rattle.pnm_image.specs.declared.head.HeadFault.TheVariants as heads
use Rattle.pnm_read.specs.Items.{lines_item}
use Rattle.pnm_read.proofs.FieldSteps.{some_values}
use Rattle.pnm_read.proofs.HeldShapes.{saturated_shape, head_item, head_given, head_item_of_text}

-- the shape of four numbers that may be missing
abbrev shape_by : Option ℕ → Option ℕ → Option ℕ → Option ℕ → Option Shape
shape_by w h d m = elim w [
  | None ↦ None
  | Some width ↦ elim h [
    | None ↦ None
    | Some height ↦ elim d [
      | None ↦ None
      | Some depth ↦ elim m [
        | None ↦ None
        | Some maxval ↦ Some (record { kind = Pam; width = width; height = height; depth = depth; maxval = maxval })
      ]
    ]
  ]
]

-- the shape of the first of these numbers
abbrev shape_of_first : List ℕ → List ℕ → List ℕ → List ℕ → Shape
shape_of_first w h d m = record { kind = Pam; width = slice_index w 0; height = slice_index h 0; depth = slice_index d 0; maxval = slice_index m 0 }

-- one of these numbers is missing
abbrev lacks : List ℕ → List ℕ → List ℕ → List ℕ → Bool
lacks w h d m = (length w == 0) || ((length h == 0) || ((length d == 0) || ((length m == 0) || false)))

-- where no shape is held, a number is missing
lacks_one : (w h d m : List ℕ) → shape_by (held_number w) (held_number h) (held_number d) (held_number m) ≡ None → lacks w h d m ≡ true
lacks_one [] h d m e = refl
lacks_one (v ∷ w) [] d m e = rw (some_values v w) refl
lacks_one (v ∷ w) (x ∷ h) [] m e = rw (some_values v w, some_values x h) refl
lacks_one (v ∷ w) (x ∷ h) (y ∷ d) [] e = rw (some_values v w, some_values x h, some_values y d) refl
lacks_one (v ∷ w) (x ∷ h) (y ∷ d) (z ∷ m) e = absurd cc

-- where a shape is held, no number is missing, and the shape is that of the numbers
has_all : (w h d m : List ℕ) {s : Shape} → shape_by (held_number w) (held_number h) (held_number d) (held_number m) ≡ Some s
    → (lacks w h d m ≡ false) × (s ≡ saturated_shape (shape_of_first w h d m))
has_all [] h d m e = absurd cc
has_all (v ∷ w) [] d m e = absurd cc
has_all (v ∷ w) (x ∷ h) [] m e = absurd cc
has_all (v ∷ w) (x ∷ h) (y ∷ d) [] e = absurd cc
has_all (v ∷ w) (x ∷ h) (y ∷ d) (z ∷ m) e = (rw (some_values v w, some_values x h, some_values y d, some_values z m) refl, cc)

-- the shape that is held, by the numbers of the lines
held_is : {fields : Fields} {lines : List (List ℕ)} → IsFields fields lines → shape_held fields ≡ shape_by (held_number (field_values Width lines))
    (held_number (field_values Height lines)) (held_number (field_values Depth lines)) (held_number (field_values Maxval lines))
held_is {fields} {lines} f =
    ap (λ (o : Option ℕ). shape_by o fields.height fields.depth fields.maxval) f.width
    ∙ ap (λ (o : Option ℕ). shape_by (held_number (field_values Width lines)) o fields.depth fields.maxval) f.height
    ∙ ap (λ (o : Option ℕ). shape_by (held_number (field_values Width lines)) (held_number (field_values Height lines)) o fields.maxval) f.depth
    ∙ ap (λ (o : Option ℕ). shape_by (held_number (field_values Width lines)) (held_number (field_values Height lines)) (held_number (field_values Depth lines))
    o) f.maxval

-- one of the four numbers is missing
abbrev is_incomplete : List (List ℕ) → Bool
is_incomplete lines = lacks (field_values Width lines) (field_values Height lines) (field_values Depth lines) (field_values Maxval lines)

-- the head of lines, where a number may be missing
abbrev lines_as : Bool → List (List ℕ) → Result HeadValue InputFault
lines_as incomplete lines = if incomplete then Err MissingField else head_item (shape_in lines) (tuple_type_in lines)

-- what lines are, by whether a number is missing
lines_item_is : (lines : List (List ℕ)) → lines_item lines ≡ lines_as (is_incomplete lines) lines
unfolding lines_item
lines_item_is lines = refl

-- a number is missing
pub lines_missing : {fields : Fields} {lines : List (List ℕ)} {found : Option Shape} → found ≡ shape_held fields → found ≡ None → IsFields fields lines
    → lines_item lines ≡ Err MissingField
lines_missing {lines} is none f =
    let lacks = lacks_one (field_values Width lines) (field_values Height lines) (field_values Depth lines) (field_values Maxval lines)
    (sym (held_is f) ∙ sym is ∙ none) in
    lines_item_is lines ∙ ap (λ (t : Bool). lines_as t lines) lacks

-- the head that was made of the shape and the tuple type, or what was wrong with it
pub lines_given : {fields : Fields} {lines : List (List ℕ)} {found : Option Shape} {shape : Shape} {tuple_type : List ℕ} (made : Result HeadValue HeadFault)
    (result : Result HeadValue InputFault) → found ≡ shape_held fields → found ≡ Some shape → tuple_type ≡ fields.tuple_type.items → IsFields fields lines
    → IfOk made (λ head. head ≡ head_value shape tuple_type) → OnOk made (shape_fault shape ≡ None)
    → IfErr made (λ e. (shape_fault shape ≡ Some e) ⊎ ((e ≡ heads.Memory) × (shape_fault shape ≡ None))) → MatchResult made (λ head. result ≡ Ok head)
    (λ e. IsErrAnd result (λ fault. fault ≡ fault_of_head e)) → GivesInMemory result (lines_item lines)
lines_given {lines} {tuple_type} made result is some type f head sound refused cases =
    let all = has_all (field_values Width lines) (field_values Height lines) (field_values Depth lines) (field_values Maxval lines)
    (sym (held_is f) ∙ sym is ∙ some) in
    let item : lines_item lines ≡ head_item (shape_in lines) tuple_type =
    lines_item_is lines ∙ ap (λ (t : Bool). lines_as t lines) all.0 ∙ ap (head_item (shape_in lines)) (sym (type ∙ f.tuple_type)) in
    subst (GivesInMemory result) (sym item) (head_given (shape_in lines) tuple_type made result all.1 head sound refused cases)

-- their fault is none of the reader's
lines_as_of_text : (incomplete : Bool) (lines : List (List ℕ)) → lines_as incomplete lines ≡ Err ReadFailed → ⊥
lines_as_of_text true lines e = absurd cc
lines_as_of_text false lines e = head_item_of_text (shape_fault (shape_in lines)) (head_value (shape_in lines) (tuple_type_in lines)) e

-- what is wrong with lines isn't that the reader failed
pub lines_of_text : (lines : List (List ℕ)) (result : Result HeadValue InputFault) → GivesInMemory result (lines_item lines) → result ≡ Err ReadFailed → ⊥
lines_of_text lines (Ok head) gives e = absurd cc
lines_of_text lines (Err fault) (inl memory) e = absurd cc
lines_of_text lines (Err fault) (inr read) e = lines_as_of_text (is_incomplete lines) lines (sym (lines_item_is lines) ∙ read ∙ e)
