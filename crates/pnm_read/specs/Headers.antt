-- How a header is spelled. From pbm(5), pgm(5), ppm(5) and pam(5), 'The layout'.
use Rattle.std.specs.Prelude.{◌≡◌, ℕ, ◌<◌, ◌≤◌, true, false, not, ◌==◌, ◌||◌, List, [], ◌∷◌, ◌++◌, length, flat_map}
use Rattle.std.specs.Prelude.{Some, codes}
use Rattle.std.specs.List.{AllPass, AllByRecursion}
use Rattle.std.specs.Str.{byte}
use Rattle.pnm_image.specs.declared.shape.Kind.{Kind}
use Rattle.pnm_image.specs.declared.shape.Kind.TheVariants.{Bit, Gray, Color, Pam}
use Rattle.pnm_image.specs.Heads.{HeadValue, IsHead}
use Rattle.pnm_image.specs.declared.format.Format.{Format}
use Rattle.pnm_read.specs.declared.line.Field.TheVariants.{Width, Height, Depth, Maxval}
use Rattle.pnm_read.specs.declared.line.LineKind.{LineKind}
use Rattle.pnm_read.specs.declared.line.LineKind.TheVariants.{Nothing, Number, TupleType, End, Unknown}
use Rattle.pnm_read.specs.HeaderTexts.{begins_apart, ends_in_comment, uncommented, ends_in_word, numbers_in}
use Rattle.pnm_image.specs.Texts.{is_white, is_digit}
use Rattle.pnm_image.specs.Formats.{format_of}
use Rattle.pnm_read.specs.HeaderNumbers.{header_numbers}
use Rattle.pnm_read.specs.PamLines.{second_token, line_kind, field_values, tuple_type_in}
use Rattle.pnm_read.specs.declared.header.TheConstants.{MAX_HEADER_LENGTH}

-- PBM, PGM and PPM: the magic, a body, and one byte of white space outside comments, the delimiter. The body begins
-- with white space or a comment; comments cut out, it is the numbers, each after white space (a comment is enough
-- before the first), and ends with the digits of the last.
pub record SpellsPnmHeader (text : List ℕ) (format : Format) (head : HeadValue) : Type 0 where
  pub digit : ℕ
  pub body : List ℕ
  pub delimiter : ℕ
  pub whole : text ≡ byte "P" ∷ digit ∷ (body ++ delimiter ∷ [])
  pub short : length text ≤ MAX_HEADER_LENGTH
  pub format_is : format_of digit ≡ Some format
  pub begins : begins_apart body ≡ true
  pub decimal : AllPass (λ b. is_digit b || is_white b) (uncommented body)
  pub numbers : numbers_in body ≡ header_numbers head.shape
  pub ends : ends_in_word (uncommented body) ≡ true
  pub outside : ends_in_comment body ≡ false
  pub delimiter_is : is_white delimiter ≡ true
  pub kind : head.shape.kind ≡ format.kind
  pub sound : IsHead head
  pub rows : 0 < head.shape.height

-- ---- PAM

-- a line before the last says nothing, or a number or a part of the tuple type
abbrev pub MaySay : LineKind → List ℕ → Type 0
MaySay Nothing line = Unit {0}
MaySay (Number field) line = (0 < length (second_token line)) × AllPass is_digit (second_token line)
MaySay TupleType line = Unit {0}
MaySay End line = ⊥
MaySay Unknown line = ⊥

abbrev pub IsOneLine : List ℕ → Type 0
IsOneLine line = AllPass (λ b. not (b == byte "\n")) line

pub record IsPamLine (line : List ℕ) : Type 0 where
  pub one_line : IsOneLine line
  pub says : MaySay (line_kind line) line

-- The magic and a LF, lines and their LFs, and the line ENDHDR and its LF. Among the lines is exactly one of each
-- number; the tuple type is what the TUPLTYPE lines have, in order.
pub record SpellsPamHeader (text : List ℕ) (format : Format) (head : HeadValue) : Type 0 where
  pub lines : List (List ℕ)
  pub last : List ℕ
  pub whole : text ≡ codes "P7\n" ++ (flat_map (λ line. line ++ byte "\n" ∷ []) lines ++ (last ++ byte "\n" ∷ []))
  pub short : length text ≤ MAX_HEADER_LENGTH
  pub format_is : format_of (byte "7") ≡ Some format
  pub lines_are : AllByRecursion IsPamLine lines
  pub last_one_line : IsOneLine last
  pub last_ends : line_kind last ≡ End
  pub width : field_values Width lines ≡ head.shape.width ∷ []
  pub height : field_values Height lines ≡ head.shape.height ∷ []
  pub depth : field_values Depth lines ≡ head.shape.depth ∷ []
  pub maxval : field_values Maxval lines ≡ head.shape.maxval ∷ []
  pub tuple_type : tuple_type_in lines ≡ head.tuple_type
  pub kind : head.shape.kind ≡ Pam
  pub sound : IsHead head
  pub rows : 0 < head.shape.height

-- ---- a header of any format

abbrev pub SpellsHeaderBy : Kind → List ℕ → Format → HeadValue → Type 0
SpellsHeaderBy Bit text format head = SpellsPnmHeader text format head
SpellsHeaderBy Gray text format head = SpellsPnmHeader text format head
SpellsHeaderBy Color text format head = SpellsPnmHeader text format head
SpellsHeaderBy Pam text format head = SpellsPamHeader text format head

abbrev pub SpellsHeader : List ℕ → Format → HeadValue → Type 0
SpellsHeader text format head = SpellsHeaderBy format.kind text format head
