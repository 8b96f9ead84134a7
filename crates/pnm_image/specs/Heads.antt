-- Heads: the kind, the sizes and the maxval of an image, and the tuple type of a PAM image.
use Rattle.std.specs.Prelude.{◌≡◌, ◌≢◌, ℕ, ◌*◌, ◌-◌, ◌<◌, ◌≤◌, Bool, false, List, [], length, slice_index, All, Option}
use Rattle.std.specs.Prelude.{Some, None, nat_lt, ◌==◌, ◌||◌, if◌then◌else◌}
use Rattle.std.specs.Str.{byte}
use Rattle.pnm_image.specs.declared.limits.TheConstants.{MAX_DEPTH, MAX_MAXVAL, MAX_ROW_LENGTH, MAX_SIDE}
use Rattle.pnm_image.specs.declared.limits.TheConstants.{MAX_TUPLE_TYPE_LENGTH}
use Rattle.pnm_image.specs.Texts.{is_blank}
use Rattle.pnm_image.specs.declared.shape.Kind.{Kind}
use Rattle.pnm_image.specs.declared.shape.Kind.TheVariants.{Bit, Gray, Color, Pam}
use Rattle.pnm_image.specs.declared.shape.Shape.{Shape}
use Rattle.pnm_image.specs.declared.head.HeadFault.{HeadFault}
use Rattle.pnm_image.specs.declared.head.HeadFault.TheVariants.{ZeroSize, TooLarge, BadMaxval}

-- the value of a head: its shape, and the bytes of its tuple type
pub record HeadValue : Type 0 where
  pub shape : Shape
  pub tuple_type : List ℕ

-- samples in a row
abbrev pub row_length : Shape → ℕ
row_length s = s.width * s.depth

-- a head of these fields
abbrev pub head_value : Shape → List ℕ → HeadValue
head_value shape tuple_type = record { shape = shape; tuple_type = tuple_type }

-- a head with another height
abbrev pub with_height : HeadValue → ℕ → HeadValue
with_height h height = record h { shape = record h.shape { height = height } }

-- the text of TUPLTYPE lines, from pam(5): one line, without white space at its ends
pub record IsTupleType (text : List ℕ) : Type 0 where
  pub short : length text ≤ MAX_TUPLE_TYPE_LENGTH
  pub one_line : All (λ b. b ≢ byte "\n") text
  pub first : 0 < length text → is_blank (slice_index text 0) ≡ false
  pub last : 0 < length text → is_blank (slice_index text (length text - 1)) ≡ false

-- what a kind asks of a head, from pbm(5), pgm(5), ppm(5) and pam(5)
abbrev pub Suits : Kind → ℕ → ℕ → List ℕ → Type 0
Suits Bit depth maxval tuple_type = (depth ≡ 1) × (maxval ≡ 1) × (tuple_type ≡ [])
Suits Gray depth maxval tuple_type = (depth ≡ 1) × (tuple_type ≡ [])
Suits Color depth maxval tuple_type = (depth ≡ 3) × (tuple_type ≡ [])
Suits Pam depth maxval tuple_type = IsTupleType tuple_type

-- the limits on sizes and maxval; a height of 0 occurs inside the program alone
pub record IsWithinLimits (s : Shape) : Type 0 where
  pub width_low : 0 < s.width
  pub width_high : s.width ≤ MAX_SIDE
  pub height_high : s.height ≤ MAX_SIDE
  pub depth_low : 0 < s.depth
  pub depth_high : s.depth ≤ MAX_DEPTH
  pub row_high : row_length s ≤ MAX_ROW_LENGTH
  pub maxval_low : 0 < s.maxval
  pub maxval_high : s.maxval ≤ MAX_MAXVAL

-- what holds of each head
pub record IsHead (h : HeadValue) : Type 0 where
  pub limits : IsWithinLimits h.shape
  pub suits : Suits h.shape.kind h.shape.depth h.shape.maxval h.tuple_type

-- a size is beyond the limits
abbrev pub is_too_large : Shape → Bool
is_too_large s = nat_lt MAX_SIDE s.width || nat_lt MAX_SIDE s.height || nat_lt MAX_DEPTH s.depth || nat_lt
    MAX_ROW_LENGTH (row_length s)

-- what is wrong with a new head's numbers: the first of the faults in their order
abbrev pub shape_fault : Shape → Option HeadFault
shape_fault s =
    if (s.width == 0) || (s.height == 0) || (s.depth == 0) then Some ZeroSize
    else if is_too_large s then Some TooLarge
    else if (s.maxval == 0) || nat_lt MAX_MAXVAL s.maxval then Some BadMaxval
    else None
