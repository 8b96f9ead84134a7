-- What a line of each kind has.
use Rattle.pnm_read.proofs.Words.{◌≡◌, ℕ, Bool, true, false, if◌then◌else◌, ◌==◌, List, [], ◌∷◌, ◌++◌, codes, refl, sym, ap, subst, ◌∙◌, append-nil, bytes_eq}
use Rattle.pnm_read.proofs.Words.{bytes_eq-Decides, Field, Width, Height, Depth, Maxval, LineKind, Nothing, Number, TupleType, End, Unknown, decimal_value}
use Rattle.pnm_read.proofs.Words.{first_token, second_token, value_of, name_of, line_kind, begins_with, joined_with, tuple_type_in}
use Rattle.pnm_read.specs.PamLines.{kind_of_token, field_values}
use Rattle.pnm_read.proofs.LineLaws.{joined_with-nothing, field_values-append, tuple_type_in-append}
use Rattle.pnm_read.proofs.WalkLaws.{tuple_type_in-cons, tuple_type_in-nil}

-- ---- kinds

-- the kind is that of the number
abbrev pub is_number : Field → LineKind → Bool
is_number Width (Number Width) = true
is_number Height (Number Height) = true
is_number Depth (Number Depth) = true
is_number Maxval (Number Maxval) = true
is_number field kind = false

-- the kind is that of a part of the tuple type
abbrev pub is_type : LineKind → Bool
is_type TupleType = true
is_type kind = false

-- the kinds by the tests of a token
abbrev kind_by : Bool → Bool → Bool → Bool → Bool → Bool → Bool → LineKind
kind_by sharp width height depth maxval type end =
    if sharp then Nothing else if width then Number Width else if height then Number Height else if depth then Number Depth else if maxval then Number
    Maxval else if type then TupleType else if end then End else Unknown

-- the kind of a token, by its tests
kind_is : (b : ℕ) (text : List ℕ) → kind_of_token (b ∷ text)
    ≡ kind_by (b == 35) (bytes_eq (name_of Width) (b ∷ text)) (bytes_eq (name_of Height) (b ∷ text)) (bytes_eq (name_of Depth) (b ∷ text))
    (bytes_eq (name_of Maxval) (b ∷ text)) (bytes_eq (codes "TUPLTYPE") (b ∷ text)) (bytes_eq (codes "ENDHDR") (b ∷ text))
unfolding kind_of_token
kind_is b text = refl

-- without its name a token is of another kind
no_width : (s h d m t e : Bool) → is_number Width (kind_by s false h d m t e) ≡ false
no_width true h d m t e = refl
no_width false true d m t e = refl
no_width false false true m t e = refl
no_width false false false true t e = refl
no_width false false false false true e = refl
no_width false false false false false true = refl
no_width false false false false false false = refl

no_height : (s w d m t e : Bool) → is_number Height (kind_by s w false d m t e) ≡ false
no_height true w d m t e = refl
no_height false true d m t e = refl
no_height false false true m t e = refl
no_height false false false true t e = refl
no_height false false false false true e = refl
no_height false false false false false true = refl
no_height false false false false false false = refl

no_depth : (s w h m t e : Bool) → is_number Depth (kind_by s w h false m t e) ≡ false
no_depth true w h m t e = refl
no_depth false true h m t e = refl
no_depth false false true m t e = refl
no_depth false false false true t e = refl
no_depth false false false false true e = refl
no_depth false false false false false true = refl
no_depth false false false false false false = refl

no_maxval : (s w h d t e : Bool) → is_number Maxval (kind_by s w h d false t e) ≡ false
no_maxval true w h d t e = refl
no_maxval false true h d t e = refl
no_maxval false false true d t e = refl
no_maxval false false false true t e = refl
no_maxval false false false false true e = refl
no_maxval false false false false false true = refl
no_maxval false false false false false false = refl

no_type : (s w h d m e : Bool) → is_type (kind_by s w h d m false e) ≡ false
no_type true w h d m e = refl
no_type false true h d m e = refl
no_type false false true d m e = refl
no_type false false false true m e = refl
no_type false false false false true e = refl
no_type false false false false false true = refl
no_type false false false false false false = refl

-- a token that equals a name is the name
same_name : (name token : List ℕ) → bytes_eq name token ≡ true → name ≡ token
same_name name token e = (bytes_eq-Decides name token).0 e

-- a token is this name where it is of its kind
abbrev Names : Field → List ℕ → Type 0
Names field token = bytes_eq (name_of field) token ≡ is_number field (kind_of_token token)

-- the names themselves
named : (field : Field) → Names field (name_of field)
unfolding kind_of_token
named Width = refl
named Height = refl
named Depth = refl
named Maxval = refl

-- an empty token has no name
no_name : (field : Field) → Names field []
unfolding kind_of_token
no_name Width = refl
no_name Height = refl
no_name Depth = refl
no_name Maxval = refl

-- a token that isn't the name is of another kind
other_name : (field : Field) (b : ℕ) (text : List ℕ) → bytes_eq (name_of field) (b ∷ text) ≡ false → is_number field (kind_of_token (b ∷ text)) ≡ false
other_name Width b text e = rw (kind_is b text, e) (no_width _ _ _ _ _ _)
other_name Height b text e = rw (kind_is b text, e) (no_height _ _ _ _ _ _)
other_name Depth b text e = rw (kind_is b text, e) (no_depth _ _ _ _ _ _)
other_name Maxval b text e = rw (kind_is b text, e) (no_maxval _ _ _ _ _ _)

-- any token
names_by : (test : Bool) (field : Field) (token : List ℕ) → bytes_eq (name_of field) token ≡ test → Names field token
names_by true field token e = subst (Names field) (same_name (name_of field) token e) (named field)
names_by false field [] e = no_name field
names_by false field (b ∷ text) e = e ∙ sym (other_name field b text e)

-- a line begins with the name of a number where it is of its kind
begins_is : (field : Field) (line : List ℕ) → begins_with (name_of field) line ≡ is_number field (line_kind line)
begins_is field line = names_by (bytes_eq (name_of field) (first_token line)) field (first_token line) refl

-- the name of the tuple type is of its kind
type_named : bytes_eq (codes "TUPLTYPE") (codes "TUPLTYPE") ≡ is_type (kind_of_token (codes "TUPLTYPE"))
unfolding kind_of_token
type_named = refl

type_by : (test : Bool) (token : List ℕ) → bytes_eq (codes "TUPLTYPE") token ≡ test → bytes_eq (codes "TUPLTYPE") token ≡ is_type (kind_of_token token)
unfolding kind_of_token
type_by true token e = subst (λ (token : List ℕ). bytes_eq (codes "TUPLTYPE") token ≡ is_type (kind_of_token token)) (same_name (codes "TUPLTYPE") token e)
    type_named
type_by false [] e = e
type_by false (b ∷ text) e = e ∙ sym (rw (kind_is b text, e) (no_type _ _ _ _ _ _))

-- a line begins with TUPLTYPE where it is of that kind
begins_type_is : (line : List ℕ) → begins_with (codes "TUPLTYPE") line ≡ is_type (line_kind line)
begins_type_is line = type_by (bytes_eq (codes "TUPLTYPE") (first_token line)) (first_token line) refl

-- ---- one line more

-- the numbers of one line
one_value : (field : Field) (line : List ℕ) {test : Bool} → begins_with (name_of field) line ≡ test
    → field_values field (line ∷ []) ≡ (if test then decimal_value (second_token line) ∷ [] else [])
unfolding field_values
one_value field line e = ap (λ (t : Bool). if t then decimal_value (second_token line) ∷ [] else []) e

-- a line of another kind has no number of the field
pub values_same : (field : Field) (lines : List (List ℕ)) (line : List ℕ) → is_number field (line_kind line) ≡ false
    → field_values field (lines ++ line ∷ []) ≡ field_values field lines
values_same field lines line e =
    field_values-append field lines (line ∷ []) ∙ ap (λ (l : List ℕ). field_values field lines ++ l) (one_value field line (begins_is field line ∙ e))
    ∙ append-nil (field_values field lines)

-- the first number of the field
pub values_first : (field : Field) (lines : List (List ℕ)) (line : List ℕ) → is_number field (line_kind line) ≡ true → field_values field lines ≡ []
    → field_values field (lines ++ line ∷ []) ≡ decimal_value (second_token line) ∷ []
values_first field lines line e none =
    field_values-append field lines (line ∷ []) ∙ ap (λ (l : List ℕ). l ++ field_values field (line ∷ [])) none
    ∙ one_value field line (begins_is field line ∙ e)

-- the tuple type of one line
one_type : (line : List ℕ) {test : Bool} → begins_with (codes "TUPLTYPE") line ≡ test
    → tuple_type_in (line ∷ []) ≡ (if test then joined_with (value_of line) [] else [])
one_type line e =
    tuple_type_in-cons line []
    ∙ ap (λ (l : List ℕ). if begins_with (codes "TUPLTYPE") line then joined_with (value_of line) l else l) tuple_type_in-nil
    ∙ ap (λ (t : Bool). if t then joined_with (value_of line) [] else []) e

-- a line of another kind leaves the tuple type
pub type_same : (lines : List (List ℕ)) (line : List ℕ) → is_type (line_kind line) ≡ false → tuple_type_in (lines ++ line ∷ []) ≡ tuple_type_in lines
type_same lines line e =
    tuple_type_in-append lines (line ∷ []) ∙ ap (joined_with (tuple_type_in lines)) (one_type line (begins_type_is line ∙ e))
    ∙ joined_with-nothing (tuple_type_in lines)

-- a line of the tuple type joins its value to it
pub type_joined : (lines : List (List ℕ)) (line : List ℕ) → is_type (line_kind line) ≡ true
    → tuple_type_in (lines ++ line ∷ []) ≡ joined_with (tuple_type_in lines) (value_of line)
type_joined lines line e =
    tuple_type_in-append lines (line ∷ [])
    ∙ ap (joined_with (tuple_type_in lines)) (one_type line (begins_type_is line ∙ e) ∙ joined_with-nothing (value_of line))
