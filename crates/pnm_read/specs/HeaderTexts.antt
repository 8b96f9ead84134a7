-- Bytes of a text: white space, digits, comments and words. From pbm(5), 'The layout'.
use Rattle.std.specs.Prelude.{ℕ, Bool, true, false, not, ◌==◌, ◌||◌, if◌then◌else◌, List, [], ◌∷◌, map, filter, fold}
use Rattle.std.specs.Str.{byte}
use Rattle.pnm_image.specs.Texts.{is_white, is_digit, words, decimal_value}

-- CR or LF
abbrev pub is_line_end : ℕ → Bool
is_line_end b = (b == byte "\r") || (b == byte "\n")

-- white space, or # , which begins a comment
abbrev pub is_apart : ℕ → Bool
is_apart b = is_white b || (b == byte "#")

-- the text is empty, or begins with white space or #
abbrev pub begins_apart : List ℕ → Bool
begins_apart [] = true
begins_apart (b ∷ text) = is_apart b

-- the text's last byte passes the test
unfoldable pub ends_by : (ℕ → Bool) → List ℕ → Bool
ends_by test [] = false
ends_by test (b ∷ []) = test b
ends_by test (b ∷ c ∷ text) = ends_by test (c ∷ text)

-- ---- comments: each goes from a # through the next CR or LF

-- whether what follows a byte is inside a comment; inside tells it of the byte
abbrev pub commented : Bool → ℕ → Bool
commented inside b = if inside then not (is_line_end b) else (b == byte "#")

-- whether what follows a text is inside a comment
abbrev pub ends_in_comment : List ℕ → Bool
ends_in_comment text = fold commented false text

-- the text with every comment cut out
unfoldable pub uncommented_from : Bool → List ℕ → List ℕ
uncommented_from inside [] = []
uncommented_from inside (b ∷ text) =
    if inside || (b == byte "#") then uncommented_from (commented inside b) text else b ∷ uncommented_from false text

abbrev pub uncommented : List ℕ → List ℕ
uncommented text = uncommented_from false text

-- ---- words: the longest runs of bytes that aren't white space

-- the text ends with a byte of a word
abbrev pub ends_in_word : List ℕ → Bool
ends_in_word text = ends_by (λ b. not (is_white b)) text

-- ---- numbers: decimal, with any leading zeros and any number of digits

-- the number that the digits of a plain sample's piece spell; they stand together, outside comments, at its end
abbrev pub number_in : List ℕ → ℕ
number_in text = decimal_value (filter is_digit (uncommented text))

-- the numbers that the words of a text spell, comments cut out
abbrev pub numbers_in : List ℕ → List ℕ
numbers_in text = map decimal_value (words (uncommented text))
