-- The fields of a header, line by line.
use Rattle.pnm_read.proofs.Words.{◌≡◌, ◌⊎◌, inl, inr, ℕ, ◌≤◌, Bool, true, false, not, ◌==◌, if◌then◌else◌, List, [], ◌∷◌, ◌++◌, length, Option, Some, None}
use Rattle.pnm_read.proofs.Words.{refl, sym, ap, subst, ◌∙◌, arith, list_all, ltb-false, ne_eqb, MAX_TUPLE_TYPE_LENGTH, BadPamLine, BadNumber, DuplicateField}
use Rattle.pnm_read.proofs.Words.{TooLong, Memory, ScanStatus, GoesOn, EndsWith, Fails, Fields, Field, Width, Height, Depth, Maxval, Nothing, Number, TupleType}
use Rattle.pnm_read.proofs.Words.{End, is_digit, decimal_value, saturate_u32, second_token, value_of, line_kind, tuple_type_in, after_first, joined_with}
use Rattle.pnm_read.proofs.Words.{line_item, number_item, is_type_too_long, tuple_type_item, number_of, held_number, IsFields, TakesLine, JudgesLine}
use Rattle.pnm_read.proofs.Words.{field_number, with_number, SetsNumber, IsWithTupleType, SetsTupleType, AddsTupleType}
use Rattle.pnm_read.specs.PamLines.{field_values}
use Rattle.pnm_read.proofs.LineKinds.{is_number, is_type, values_same, values_first, type_same, type_joined}
use Rattle.pnm_read.proofs.PamLineLaws.{line_is_judged}
use Rattle.pnm_read.proofs.WalkLaws.{second_token_is, tuple_type_in-nil}

-- no line so far
pub no_fields : (s : Fields) → s.width ≡ None → s.height ≡ None → s.depth ≡ None → s.maxval ≡ None → s.tuple_type.items ≡ [] → IsFields s []
unfolding field_values
no_fields s w h d m t = record {
  width = w;
  height = h;
  depth = d;
  maxval = m;
  tuple_type = t ∙ sym tuple_type_in-nil;
  short = let none = ap (λ (l : List ℕ). length l) tuple_type_in-nil in omega arith;
}

-- ---- a line that says nothing, and the last

-- a line that has neither a number nor a part of the tuple type leaves the fields
fields_same : (s : Fields) (lines : List (List ℕ)) (line : List ℕ) → ((field : Field) → is_number field (line_kind line) ≡ false)
    → is_type (line_kind line) ≡ false → IsFields s lines → IsFields s (lines ++ line ∷ [])
fields_same s lines line number type f = record {
  width = f.width ∙ ap held_number (sym (values_same Width lines line (number Width)));
  height = f.height ∙ ap held_number (sym (values_same Height lines line (number Height)));
  depth = f.depth ∙ ap held_number (sym (values_same Depth lines line (number Depth)));
  maxval = f.maxval ∙ ap held_number (sym (values_same Maxval lines line (number Maxval)));
  tuple_type = f.tuple_type ∙ sym (type_same lines line type);
  short = subst (λ (l : List ℕ). length l ≤ MAX_TUPLE_TYPE_LENGTH) (sym (type_same lines line type)) f.short;
}

-- a line that says nothing, or is the last, has no number
nothing_number : (field : Field) → is_number field Nothing ≡ false
nothing_number Width = refl
nothing_number Height = refl
nothing_number Depth = refl
nothing_number Maxval = refl

end_number : (field : Field) → is_number field End ≡ false
end_number Width = refl
end_number Height = refl
end_number Depth = refl
end_number Maxval = refl

-- a line was judged, and what it says was taken
judges_so : (s : Fields) (lines : List (List ℕ)) (line : List ℕ) {j k : ScanStatus} → line_item lines line ≡ k → j ≡ k → TakesLine s k (lines ++ line ∷ [])
    → ((j ≡ line_item lines line) × TakesLine s j (lines ++ line ∷ [])) ⊎ (j ≡ Fails Memory)
judges_so s lines line {k} item is t = inl (is ∙ sym item, subst (λ (k : ScanStatus). TakesLine s k (lines ++ line ∷ [])) (sym is) t)

-- a line that says nothing
pub line_of_nothing : (s : Fields) (line : List ℕ) → line_kind line ≡ Nothing → JudgesLine s line s GoesOn
line_of_nothing s line e lines f =
    judges_so s lines line (line_is_judged lines line e) refl
    (fields_same s lines line (λ field. ap (is_number field) e ∙ nothing_number field) (ap is_type e) f)

-- the last line
pub line_of_end : (s : Fields) (line : List ℕ) → line_kind line ≡ End → JudgesLine s line s EndsWith
line_of_end s line e lines f =
    judges_so s lines line (line_is_judged lines line e) refl (fields_same s lines line (λ field. ap (is_number field) e ∙ end_number field) (ap is_type e) f)

-- ---- a number

-- the number of a field that is held
held_is : (field : Field) {s : Fields} {lines : List (List ℕ)} → IsFields s lines → field_number field s ≡ held_number (field_values field lines)
held_is Width f = f.width
held_is Height f = f.height
held_is Depth f = f.depth
held_is Maxval f = f.maxval

-- the fields of the lines with one more, which has the first number of a field
with_width : (old : Fields) (lines : List (List ℕ)) (line : List ℕ) → line_kind line ≡ Number Width → field_values Width lines ≡ [] → IsFields old lines
    → IsFields (with_number Width (saturate_u32 (decimal_value (second_token line))) old) (lines ++ line ∷ [])
with_width old lines line e none f = record {
  width = ap held_number (sym (values_first Width lines line (ap (is_number Width) e) none));
  height = f.height ∙ ap held_number (sym (values_same Height lines line (ap (is_number Height) e)));
  depth = f.depth ∙ ap held_number (sym (values_same Depth lines line (ap (is_number Depth) e)));
  maxval = f.maxval ∙ ap held_number (sym (values_same Maxval lines line (ap (is_number Maxval) e)));
  tuple_type = f.tuple_type ∙ sym (type_same lines line (ap is_type e));
  short = subst (λ (l : List ℕ). length l ≤ MAX_TUPLE_TYPE_LENGTH) (sym (type_same lines line (ap is_type e))) f.short;
}

with_height : (old : Fields) (lines : List (List ℕ)) (line : List ℕ) → line_kind line ≡ Number Height → field_values Height lines ≡ [] → IsFields old lines
    → IsFields (with_number Height (saturate_u32 (decimal_value (second_token line))) old) (lines ++ line ∷ [])
with_height old lines line e none f = record {
  width = f.width ∙ ap held_number (sym (values_same Width lines line (ap (is_number Width) e)));
  height = ap held_number (sym (values_first Height lines line (ap (is_number Height) e) none));
  depth = f.depth ∙ ap held_number (sym (values_same Depth lines line (ap (is_number Depth) e)));
  maxval = f.maxval ∙ ap held_number (sym (values_same Maxval lines line (ap (is_number Maxval) e)));
  tuple_type = f.tuple_type ∙ sym (type_same lines line (ap is_type e));
  short = subst (λ (l : List ℕ). length l ≤ MAX_TUPLE_TYPE_LENGTH) (sym (type_same lines line (ap is_type e))) f.short;
}

with_depth : (old : Fields) (lines : List (List ℕ)) (line : List ℕ) → line_kind line ≡ Number Depth → field_values Depth lines ≡ [] → IsFields old lines
    → IsFields (with_number Depth (saturate_u32 (decimal_value (second_token line))) old) (lines ++ line ∷ [])
with_depth old lines line e none f = record {
  width = f.width ∙ ap held_number (sym (values_same Width lines line (ap (is_number Width) e)));
  height = f.height ∙ ap held_number (sym (values_same Height lines line (ap (is_number Height) e)));
  depth = ap held_number (sym (values_first Depth lines line (ap (is_number Depth) e) none));
  maxval = f.maxval ∙ ap held_number (sym (values_same Maxval lines line (ap (is_number Maxval) e)));
  tuple_type = f.tuple_type ∙ sym (type_same lines line (ap is_type e));
  short = subst (λ (l : List ℕ). length l ≤ MAX_TUPLE_TYPE_LENGTH) (sym (type_same lines line (ap is_type e))) f.short;
}

with_maxval : (old : Fields) (lines : List (List ℕ)) (line : List ℕ) → line_kind line ≡ Number Maxval → field_values Maxval lines ≡ [] → IsFields old lines
    → IsFields (with_number Maxval (saturate_u32 (decimal_value (second_token line))) old) (lines ++ line ∷ [])
with_maxval old lines line e none f = record {
  width = f.width ∙ ap held_number (sym (values_same Width lines line (ap (is_number Width) e)));
  height = f.height ∙ ap held_number (sym (values_same Height lines line (ap (is_number Height) e)));
  depth = f.depth ∙ ap held_number (sym (values_same Depth lines line (ap (is_number Depth) e)));
  maxval = ap held_number (sym (values_first Maxval lines line (ap (is_number Maxval) e) none));
  tuple_type = f.tuple_type ∙ sym (type_same lines line (ap is_type e));
  short = subst (λ (l : List ℕ). length l ≤ MAX_TUPLE_TYPE_LENGTH) (sym (type_same lines line (ap is_type e))) f.short;
}

-- each field is set so
with_field : (field : Field) (old : Fields) (lines : List (List ℕ)) (line : List ℕ) → line_kind line ≡ Number field → field_values field lines ≡ []
    → IsFields old lines → IsFields (with_number field (saturate_u32 (decimal_value (second_token line))) old) (lines ++ line ∷ [])
with_field Width = with_width
with_field Height = with_height
with_field Depth = with_depth
with_field Maxval = with_maxval

-- how a number is judged and taken, by its token and the numbers of its field before
abbrev Sets : Bool → Option ℕ → Option ℕ → Field → Fields → Fields → ScanStatus → Type 0
Sets empty found held field old new j =
    elim empty [
      | true ↦ j ≡ Fails BadPamLine
      | false ↦ elim found [
        | None ↦ j ≡ Fails BadNumber
        | Some number ↦ elim held [
          | Some other ↦ j ≡ Fails DuplicateField
          | None ↦ (j ≡ GoesOn) × (new ≡ with_number field number old)
        ]
      ]
    ]

-- the judgement of a number's line, by whether the token is empty, the token is decimal and the number is new
abbrev number_as : Bool → Bool → Bool → ScanStatus
number_as empty digits none = if empty then Fails BadPamLine else if not digits then Fails BadNumber else if not none then Fails DuplicateField else GoesOn

-- a list that begins with a number isn't empty
pub some_values : (v : ℕ) (values : List ℕ) → (length (v ∷ values) == 0) ≡ false
some_values v values = ne_eqb (length (v ∷ values)) 0 (λ e. omega arith)

-- a number's line was judged so, and taken
number_by : (empty digits : Bool) (values : List ℕ) (number : ℕ) (field : Field) (old new : Fields) (j : ScanStatus) (lines : List (List ℕ))
    → Sets empty (if digits then Some number else None) (held_number values) field old new j
    → (new ≡ with_number field number old → values ≡ [] → IsFields new lines) → (j ≡ number_as empty digits (length values == 0))
    × TakesLine new (number_as empty digits (length values == 0)) lines
number_by true digits values number field old new j lines s f = (s, tt)
number_by false false values number field old new j lines s f = (s, tt)
number_by false true [] number field old new j lines s f = (s.0, f s.1 refl)
number_by false true (v ∷ values) number field old new j lines s f =
    let twice : number_as false true (length (v ∷ values) == 0) ≡ Fails DuplicateField = ap (number_as false true) (some_values v values) in
    (s ∙ sym twice, subst (λ (k : ScanStatus). TakesLine new k lines) (sym twice) tt)

-- the line of a number
pub line_of_number : {field : Field} (old new : Fields) (line : List ℕ) {rest : List ℕ} (j : ScanStatus) → line_kind line ≡ Number field
    → rest ≡ after_first line → SetsNumber old field rest new j → JudgesLine old line new j
line_of_number {field} old new line j e is s lines f =
    let sets : SetsNumber old field (after_first line) new j = subst (λ (l : List ℕ). SetsNumber old field l new j) is s in
    let of_second : Sets (length (second_token line) == 0) (number_of (second_token line)) (field_number field old) field old new j =
    subst (λ (token : List ℕ). Sets (length token == 0) (number_of token) (field_number field old) field old new j) (sym (second_token_is line)) sets in
    let held : Sets (length (second_token line) == 0) (number_of (second_token line)) (held_number (field_values field lines)) field old new j =
    subst (λ (h : Option ℕ). Sets (length (second_token line) == 0) (number_of (second_token line)) h field old new j) (held_is field f) of_second in
    let p = number_by (length (second_token line) == 0) (list_all is_digit (second_token line)) (field_values field lines)
    (saturate_u32 (decimal_value (second_token line))) field old new j (lines ++ line ∷ []) held
    (λ same none. subst (λ (s : Fields). IsFields s (lines ++ line ∷ [])) (sym same) (with_field field old lines line e none f)) in
    judges_so new lines line (line_is_judged lines line e) p.0 p.1

-- ---- a part of the tuple type

-- the fields of the lines with one more, which has a part of the tuple type
with_type : (old new : Fields) (lines : List (List ℕ)) (line : List ℕ) → line_kind line ≡ TupleType → IsFields old lines
    → IsWithTupleType old new (tuple_type_in (lines ++ line ∷ [])) → length (tuple_type_in (lines ++ line ∷ [])) ≤ MAX_TUPLE_TYPE_LENGTH
    → IsFields new (lines ++ line ∷ [])
with_type old new lines line e f w short = record {
  width = w.width ∙ f.width ∙ ap held_number (sym (values_same Width lines line (ap (is_number Width) e)));
  height = w.height ∙ f.height ∙ ap held_number (sym (values_same Height lines line (ap (is_number Height) e)));
  depth = w.depth ∙ f.depth ∙ ap held_number (sym (values_same Depth lines line (ap (is_number Depth) e)));
  maxval = w.maxval ∙ f.maxval ∙ ap held_number (sym (values_same Maxval lines line (ap (is_number Maxval) e)));
  tuple_type = w.tuple_type_is;
  short = short;
}

-- a line of the tuple type was judged so, and taken
type_by : (long : Bool) (old new : Fields) (tuple_type : List ℕ) (j : ScanStatus) (lines : List (List ℕ)) → SetsTupleType long old tuple_type new j
    → (long ≡ false → IsWithTupleType old new tuple_type → IsFields new lines)
    → (j ≡ (if long then Fails TooLong else GoesOn)) × TakesLine new (if long then Fails TooLong else GoesOn) lines
type_by true old new tuple_type j lines s f = (s, tt)
type_by false old new tuple_type j lines s f = (s.0, f refl s.1)

-- the line of a part of the tuple type
pub line_of_type : (old new : Fields) (line : List ℕ) {text : List ℕ} (j : ScanStatus) → line_kind line ≡ TupleType → text ≡ value_of line
    → AddsTupleType old text new j → JudgesLine old line new j
line_of_type old new line j e is (inr memory) lines f = inr memory
line_of_type old new line {text} j e is (inl s) lines f =
    let all : joined_with old.tuple_type.items text ≡ tuple_type_in (lines ++ line ∷ []) =
    ap (λ (l : List ℕ). joined_with l text) f.tuple_type ∙ ap (joined_with (tuple_type_in lines)) is ∙ sym (type_joined lines line (ap is_type e)) in
    let sets : SetsTupleType (is_type_too_long (tuple_type_in (lines ++ line ∷ []))) old (tuple_type_in (lines ++ line ∷ [])) new j =
    subst (λ (l : List ℕ). SetsTupleType (is_type_too_long l) old l new j) all s in
    let p = type_by (is_type_too_long (tuple_type_in (lines ++ line ∷ []))) old new (tuple_type_in (lines ++ line ∷ [])) j (lines ++ line ∷ []) sets
    (λ short w. with_type old new lines line e f w (ltb-false MAX_TUPLE_TYPE_LENGTH (length (tuple_type_in (lines ++ line ∷ []))) short)) in
    judges_so new lines line (line_is_judged lines line e) p.0 p.1
