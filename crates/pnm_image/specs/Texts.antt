-- Bytes of a text: white space, digits, words and numbers. From pbm(5), 'The layout'.
use Rattle.std.specs.Prelude.{ℕ, Bool, ◌==◌, nat_le, nat_lt, ◌&&◌, ◌||◌, List, length, filter}
use Rattle.std.specs.List.{slice_split}
use Rattle.std.specs.Str.Parse.{digits_value}
use Rattle.std.specs.Str.{byte}

-- blank, TAB or CR: white space that a line can hold
abbrev pub is_blank : ℕ → Bool
is_blank b = (b == byte " ") || (b == byte "\t") || (b == byte "\r")

-- blank, TAB, CR or LF
abbrev pub is_white : ℕ → Bool
is_white b = is_blank b || (b == byte "\n")

abbrev pub is_digit : ℕ → Bool
is_digit b = nat_le (byte "0") b && nat_le b (byte "9")

-- ---- words

-- the longest runs of bytes that don't pass the test
abbrev pub runs_between : (ℕ → Bool) → List ℕ → List (List ℕ)
runs_between test text = filter (λ run. nat_lt 0 (length run)) (slice_split test text)

-- the longest runs of bytes that aren't white space
unfoldable pub words : List ℕ → List (List ℕ)
words text = runs_between is_white text

-- ---- numbers: decimal, with any leading zeros and any number of digits

abbrev pub decimal_value : List ℕ → ℕ
decimal_value digits = digits_value 10 digits
