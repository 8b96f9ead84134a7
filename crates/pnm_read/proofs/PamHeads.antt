-- The head that the lines of a PAM header make together.
use Rattle.pnm_read.proofs.Words.{◌≡◌, ℕ, ◌<◌, ◌≤◌, Bool, true, false, ◌==◌, ◌||◌, if◌then◌else◌, List, [], ◌∷◌, ◌++◌, length, Option, Result, Ok, Err, refl}
use Rattle.pnm_read.proofs.Words.{sym, ap, subst, ◌∙◌, arith, slice_index, AllByRecursion, Shape, Kind, Pam, HeadFault, HeadValue, IsHead, head_value}
use Rattle.pnm_read.proofs.Words.{shape_fault, InputFault, MissingField, Width, Height, Depth, Maxval, End, line_kind, field_values, tuple_type_in, IsOneLine}
use Rattle.pnm_read.proofs.Words.{shape_in}
use Rattle.pnm_read.specs.Items.{lines_item}
use Rattle.pnm_read.proofs.ShapeLaws.{head_or_fault, head_or_fault_ok, limits_of, no_shape_fault}
use Rattle.pnm_read.proofs.TupleTypeLaws.{tuple_type_in-is}
use Rattle.pnm_read.proofs.PamLineLaws.{values-end, tuple_type-end, StatusValue}

missing_by : (w h d m : Bool) (made : Result HeadValue InputFault) {head : HeadValue}
    → (if w || (h || (d || (m || false))) then Err MissingField else made) ≡ Ok head
    → (w ≡ false) × (h ≡ false) × (d ≡ false) × (m ≡ false) × (made ≡ Ok head)
missing_by true h d m made e = absurd cc
missing_by false true d m made e = absurd cc
missing_by false false true m made e = absurd cc
missing_by false false false true made e = absurd cc
missing_by false false false false made e = (refl, refl, refl, refl, e)

-- a field with some number, and no two
one_value : (values : List ℕ) → (length values == 0) ≡ false → length values ≤ 1 → values ≡ slice_index values 0 ∷ []
one_value [] some single = absurd cc
one_value (a ∷ []) some single = refl
one_value (a ∷ b ∷ values) some single = absurd (omega arith)

-- lines that make a head
pub record MadeOf (lines : List (List ℕ)) (head : HeadValue) : Type 0 where
  pub width : field_values Width lines ≡ head.shape.width ∷ []
  pub height : field_values Height lines ≡ head.shape.height ∷ []
  pub depth : field_values Depth lines ≡ head.shape.depth ∷ []
  pub maxval : field_values Maxval lines ≡ head.shape.maxval ∷ []
  pub tuple_type : tuple_type_in lines ≡ head.tuple_type
  pub kind : head.shape.kind ≡ Pam
  pub sound : IsHead head
  pub rows : 0 < head.shape.height

pub lines_make_head : {lines : List (List ℕ)} {head : HeadValue} → StatusValue lines → AllByRecursion IsOneLine lines → lines_item lines ≡ Ok head
    → MadeOf lines head
unfolding lines_item
lines_make_head {lines} j one e =
    let parts = missing_by (length (field_values Width lines) == 0) (length (field_values Height lines) == 0) (length (field_values Depth lines) == 0)
    (length (field_values Maxval lines) == 0) (head_or_fault (shape_fault (shape_in lines)) (head_value (shape_in lines) (tuple_type_in lines))) e in
    let good = head_or_fault_ok (shape_fault (shape_in lines)) (head_value (shape_in lines) (tuple_type_in lines)) parts.4 in
    let limits = limits_of (shape_in lines) good.0 in
    let made : MadeOf lines (head_value (shape_in lines) (tuple_type_in lines)) = record {
      width = one_value (field_values Width lines) parts.0 (j.single Width);
      height = one_value (field_values Height lines) parts.1 (j.single Height);
      depth = one_value (field_values Depth lines) parts.2 (j.single Depth);
      maxval = one_value (field_values Maxval lines) parts.3 (j.single Maxval);
      tuple_type = refl;
      kind = refl;
      sound = record { limits = limits.0; suits = tuple_type_in-is lines one j.short };
      rows = limits.1;
    } in
    subst (MadeOf lines) good.1 made

-- what the numbers of the four fields and a tuple type make
abbrev made_by : List ℕ → List ℕ → List ℕ → List ℕ → List ℕ → Result HeadValue InputFault
made_by w h d m tuple_type =
    let s : Shape = record { kind = Pam; width = slice_index w 0; height = slice_index h 0; depth = slice_index d 0; maxval = slice_index m 0 } in
    if (length w == 0) || ((length h == 0) || ((length d == 0) || ((length m == 0) || false))) then Err MissingField else head_or_fault (shape_fault s)
    (head_value s tuple_type)

lines_item_is : (lines : List (List ℕ)) → lines_item lines ≡ made_by (field_values Width lines) (field_values Height lines) (field_values Depth lines)
    (field_values Maxval lines) (tuple_type_in lines)
unfolding lines_item
lines_item_is lines = refl

-- lines that have the same make the same
same_made : (lines : List (List ℕ)) {w h d m tuple_type : List ℕ} → field_values Width lines ≡ w → field_values Height lines ≡ h
    → field_values Depth lines ≡ d → field_values Maxval lines ≡ m → tuple_type_in lines ≡ tuple_type → lines_item lines ≡ made_by w h d m tuple_type
same_made lines {w} {h} {d} {m} width height depth maxval text =
    lines_item_is lines
    ∙ ap (λ (x : List ℕ). made_by x (field_values Height lines) (field_values Depth lines) (field_values Maxval lines) (tuple_type_in lines)) width
    ∙ ap (λ (x : List ℕ). made_by w x (field_values Depth lines) (field_values Maxval lines) (tuple_type_in lines)) height
    ∙ ap (λ (x : List ℕ). made_by w h x (field_values Maxval lines) (tuple_type_in lines)) depth
    ∙ ap (λ (x : List ℕ). made_by w h d x (tuple_type_in lines)) maxval
    ∙ ap (λ (x : List ℕ). made_by w h d m x) text

-- the head of PAM that a shape and a tuple type make
pam_head_of : {head : HeadValue} {kind : Kind} → head.shape.kind ≡ kind → IsHead head → 0 < head.shape.height
    → (let s : Shape = record { kind = kind; width = head.shape.width; height = head.shape.height; depth = head.shape.depth; maxval = head.shape.maxval } in
    head_or_fault (shape_fault s) (head_value s head.tuple_type)) ≡ Ok head
pam_head_of {head} {kind} k sound rows =
    ap (λ (x : Kind). let s : Shape =
    record { kind = x; width = head.shape.width; height = head.shape.height; depth = head.shape.depth; maxval = head.shape.maxval } in
    head_or_fault (shape_fault s) (head_value s head.tuple_type)) (sym k)
    ∙ ap (λ (f : Option HeadFault). head_or_fault f head) (no_shape_fault sound.limits rows)

-- such lines are read as the head
pub made_is_found : {lines : List (List ℕ)} {head : HeadValue} → MadeOf lines head → lines_item lines ≡ Ok head
made_is_found {lines} m = same_made lines m.width m.height m.depth m.maxval m.tuple_type ∙ pam_head_of m.kind m.sound m.rows

-- ENDHDR makes no difference
pub lines_item-end : (lines : List (List ℕ)) (last : List ℕ) → line_kind last ≡ End → lines_item (lines ++ last ∷ []) ≡ lines_item lines
lines_item-end lines last k =
    same_made (lines ++ last ∷ [])
    (values-end Width lines last k) (values-end Height lines last k) (values-end Depth lines last k) (values-end Maxval lines last k)
    (tuple_type-end lines last k)
    ∙ sym (lines_item_is lines)
