-- What the scanner of a PAM header holds after the bytes of a piece.
use Rattle.std.specs.Prelude.{◌≡◌, ◌⊎◌, ℕ, ◌≤◌, ◌==◌, Bool, true, false, List, [], ◌∷◌, ◌++◌, length}
use Rattle.std.specs.Prelude.{if◌then◌else◌, Option, Some, None}
use Rattle.std.specs.List.{list_all}
use Rattle.pnm_read.specs.declared.fault.InputFault.TheVariants.{BadPamLine, BadNumber, DuplicateField, TooLong, Memory}
use Rattle.pnm_read.specs.declared.scan_status.ScanStatus.{ScanStatus}
use Rattle.pnm_read.specs.declared.scan_status.ScanStatus.TheVariants.{GoesOn, EndsWith, EndsBefore, Fails}
use Rattle.pnm_image.specs.declared.limits.TheConstants.{MAX_TUPLE_TYPE_LENGTH}
use Rattle.pnm_image.specs.declared.shape.Shape.{Shape}
use Rattle.pnm_image.specs.declared.shape.Kind.TheVariants.{Pam}
use Rattle.pnm_read.specs.declared.line.Field.{Field}
use Rattle.pnm_read.specs.declared.line.Field.TheVariants.{Width, Height, Depth, Maxval}
use Rattle.pnm_read.specs.declared.fields.Fields.{Fields}
use Rattle.pnm_read.specs.declared.pam.PamScanner.{PamScanner}
use Rattle.pnm_image.specs.Texts.{is_digit, decimal_value}
use Rattle.pnm_read.specs.PamLines.{ended_lines, last_line, first_token, field_values, tuple_type_in}
use Rattle.pnm_read.specs.Internal.LineWalks.{joined_with}
use Rattle.pnm_read.specs.Internal.Saturation.{saturate_u32}
use Rattle.pnm_read.specs.Items.{is_type_too_long, line_item}

-- the number that a token spells, as a u32; none where it isn't decimal
abbrev pub number_of : List ℕ → Option ℕ
number_of token = if list_all is_digit token then Some (saturate_u32 (decimal_value token)) else None

-- the number of a field as it is held: the first, as a u32
abbrev pub held_number : List ℕ → Option ℕ
held_number [] = None
held_number (number ∷ numbers) = Some (saturate_u32 number)

-- the fields of these lines
pub record IsFields (fields : Fields) (lines : List (List ℕ)) : Type 0 where
  pub width : fields.width ≡ held_number (field_values Width lines)
  pub height : fields.height ≡ held_number (field_values Height lines)
  pub depth : fields.depth ≡ held_number (field_values Depth lines)
  pub maxval : fields.maxval ≡ held_number (field_values Maxval lines)
  pub tuple_type : fields.tuple_type.items ≡ tuple_type_in lines
  pub short : length (tuple_type_in lines) ≤ MAX_TUPLE_TYPE_LENGTH

-- the fields after a line that was judged so
abbrev pub TakesLine : Fields → ScanStatus → List (List ℕ) → Type 0
TakesLine new GoesOn lines = IsFields new lines
TakesLine new EndsWith lines = IsFields new lines
TakesLine new EndsBefore lines = ⊥
TakesLine new (Fails fault) lines = Unit {0}

-- a line was judged by those before it, and taken, unless memory ran out
abbrev pub JudgesLine : Fields → List ℕ → Fields → ScanStatus → Type 0
JudgesLine old line new scan_status =
    (lines : List (List ℕ)) → IsFields old lines
    → ((scan_status ≡ line_item lines line) × TakesLine new scan_status (lines ++ line ∷ []))
    ⊎ (scan_status ≡ Fails Memory)

-- the shape of the fields; none where a number is missing
abbrev pub shape_held : Fields → Option Shape
shape_held fields = elim fields.width [
  | None ↦ None
  | Some width ↦ elim fields.height [
    | None ↦ None
    | Some height ↦ elim fields.depth [
      | None ↦ None
      | Some depth ↦ elim fields.maxval [
        | None ↦ None
        | Some maxval ↦ Some (record { kind = Pam; width = width; height = height; depth = depth; maxval = maxval })
      ]
    ]
  ]
]

-- the number of a field, as it is held
abbrev pub field_number : Field → Fields → Option ℕ
field_number Width fields = fields.width
field_number Height fields = fields.height
field_number Depth fields = fields.depth
field_number Maxval fields = fields.maxval

-- the fields with this number
abbrev pub with_number : Field → ℕ → Fields → Fields
with_number Width number fields = record fields { width = Some number }
with_number Height number fields = record fields { height = Some number }
with_number Depth number fields = record fields { depth = Some number }
with_number Maxval number fields = record fields { maxval = Some number }

-- a number was put where none was yet
abbrev pub SetsOnce : Option ℕ → ℕ → Option ℕ → ScanStatus → Type 0
SetsOnce (Some other) number new scan_status = scan_status ≡ Fails DuplicateField
SetsOnce None number new scan_status = (scan_status ≡ GoesOn) × (new ≡ Some number)

-- how a number in the rest of a line is judged, and the fields after it
abbrev pub SetsNumber : Fields → Field → List ℕ → Fields → ScanStatus → Type 0
SetsNumber old field text new scan_status =
    elim (length (first_token text) == 0) [
      | true ↦ scan_status ≡ Fails BadPamLine
      | false ↦ elim (number_of (first_token text)) [
        | None ↦ scan_status ≡ Fails BadNumber
        | Some number ↦ elim (field_number field old) [
          | Some other ↦ scan_status ≡ Fails DuplicateField
          | None ↦ (scan_status ≡ GoesOn) × (new ≡ with_number field number old)
        ]
      ]
    ]

-- the fields with another tuple type
pub record IsWithTupleType (old new : Fields) (tuple_type : List ℕ) : Type 0 where
  pub width : new.width ≡ old.width
  pub height : new.height ≡ old.height
  pub depth : new.depth ≡ old.depth
  pub maxval : new.maxval ≡ old.maxval
  pub tuple_type_is : new.tuple_type.items ≡ tuple_type

-- the tuple type was replaced, or is too long, as the test tells
abbrev pub SetsTupleType : Bool → Fields → List ℕ → Fields → ScanStatus → Type 0
SetsTupleType true old tuple_type new scan_status = scan_status ≡ Fails TooLong
SetsTupleType false old tuple_type new scan_status = (scan_status ≡ GoesOn) × IsWithTupleType old new tuple_type

-- a text was joined to the tuple type, unless it is too long or memory ran out
abbrev pub AddsTupleType : Fields → List ℕ → Fields → ScanStatus → Type 0
AddsTupleType old text new scan_status =
    SetsTupleType (is_type_too_long (joined_with old.tuple_type.items text)) old (joined_with old.tuple_type.items text)
    new scan_status ⊎ (scan_status ≡ Fails Memory)

-- these bytes have come after the magic and its LF, and the header goes on
pub record IsPamAfter (s : PamScanner) (before : List ℕ) : Type 0 where
  pub length_is : s.length ≡ length before
  pub line : s.line.items ≡ last_line before
  pub fields : IsFields s.fields (ended_lines before)

-- the header has ended
abbrev pub IsPamWhole : PamScanner → List ℕ → Type 0
IsPamWhole s piece = IsFields s.fields (ended_lines piece)
