-- Lines of a PAM header: their tokens, and what a line says. From pam(5), 'The layout'.
use Rattle.std.specs.Prelude.{ℕ, ◌+◌, ◌-◌, ◌==◌, nat_lt, if◌then◌else◌, List, [], ◌∷◌, length, take, drop, map, filter}
use Rattle.std.specs.Prelude.{slice_index_or, slice_range, count_by, codes}
use Rattle.std.specs.List.{slice_split, after_last, prefix_len, suffix_len, join_with_byte}
use Rattle.std.specs.Str.{byte, bytes_eq}
use Rattle.pnm_image.specs.Texts.{is_blank, runs_between, decimal_value}
use Rattle.pnm_read.specs.declared.line.Field.{Field}
use Rattle.pnm_read.specs.declared.line.Field.TheVariants.{Width, Height, Depth, Maxval}
use Rattle.pnm_read.specs.declared.line.LineKind.{LineKind}
use Rattle.pnm_read.specs.declared.line.LineKind.TheVariants.{Nothing, Number, TupleType, End, Unknown}

-- ---- lines: each ends with its LF

-- the lines of a text that have ended, without their LF: as many as it has LFs
unfoldable pub ended_lines : List ℕ → List (List ℕ)
ended_lines text = take (count_by (λ b. b == byte "\n") text) (slice_split (λ b. b == byte "\n") text)

-- the bytes after the last LF
unfoldable pub last_line : List ℕ → List ℕ
last_line text = after_last (λ b. b == byte "\n") text

-- ---- tokens: parted by blank, TAB and CR

-- the first two tokens of a line, each empty where it is missing
unfoldable pub first_token : List ℕ → List ℕ
first_token line = slice_index_or (runs_between is_blank line) 0 []

unfoldable pub second_token : List ℕ → List ℕ
second_token line = slice_index_or (runs_between is_blank line) 1 []

-- a text without the white space at its ends
abbrev pub trimmed : List ℕ → List ℕ
trimmed text = slice_range text (prefix_len is_blank text) (length text - suffix_len is_blank text)

-- the rest of a line after its first token, without white space at its ends
unfoldable pub value_of : List ℕ → List ℕ
value_of line = trimmed (drop (prefix_len is_blank line + length (first_token line)) line)

-- ---- what a line says

abbrev pub name_of : Field → List ℕ
name_of Width = codes "WIDTH"
name_of Height = codes "HEIGHT"
name_of Depth = codes "DEPTH"
name_of Maxval = codes "MAXVAL"

-- what a line whose first token is this one says: nothing without a token and in a comment
unfoldable pub kind_of_token : List ℕ → LineKind
kind_of_token [] = Nothing
kind_of_token (b ∷ text) =
    if b == byte "#" then Nothing
    else if bytes_eq (name_of Width) (b ∷ text) then Number Width
    else if bytes_eq (name_of Height) (b ∷ text) then Number Height
    else if bytes_eq (name_of Depth) (b ∷ text) then Number Depth
    else if bytes_eq (name_of Maxval) (b ∷ text) then Number Maxval
    else if bytes_eq (codes "TUPLTYPE") (b ∷ text) then TupleType
    else if bytes_eq (codes "ENDHDR") (b ∷ text) then End
    else Unknown

abbrev pub line_kind : List ℕ → LineKind
line_kind line = kind_of_token (first_token line)

-- the numbers of a field, in the order of its lines
unfoldable pub field_values : Field → List (List ℕ) → List ℕ
field_values field [] = []
field_values field (line ∷ lines) =
    if bytes_eq (name_of field) (first_token line) then decimal_value (second_token line) ∷ field_values field
    lines else field_values field lines

-- the values of the TUPLTYPE lines, without empty ones, joined in order by one blank each
unfoldable pub tuple_type_in : List (List ℕ) → List ℕ
tuple_type_in lines =
    join_with_byte (byte " ") (filter (λ value. nat_lt 0 (length value))
    (map value_of (filter (λ line. bytes_eq (codes "TUPLTYPE") (first_token line)) lines)))
