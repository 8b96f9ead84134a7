-- The text of a part of a plain row, behind a line that has so many bytes: 0 where the row begins.
use Rattle.std.specs.Prelude.{ℕ, ◌+◌, nat_le, ◌==◌, Bool, true, false, if◌then◌else◌, List, [], ◌∷◌, ◌++◌, length, map}
use Rattle.pnm_image.specs.declared.shape.Kind.{Kind}
use Rattle.std.specs.Str.{byte}
use Rattle.pnm_write.specs.PlainRows.{max_line_length, sample_text}

-- whether the word stands in this line, behind a blank
abbrev pub fits_in_line : ℕ → List ℕ → Bool
fits_in_line column word = nat_le (column + 1 + length word) max_line_length

-- what comes before a word
abbrev pub separator : ℕ → List ℕ → List ℕ
separator column word = if column == 0 then [] else if fits_in_line column word then byte " " ∷ [] else byte "\n" ∷ []

-- how many bytes the line has after it
abbrev pub column_after : ℕ → List ℕ → ℕ
column_after column word = if column == 0 then length word else if fits_in_line column word then column + 1 + length
    word else length word

-- a word, and what comes before it
abbrev pub word_in_line : ℕ → List ℕ → List ℕ
word_in_line column word = separator column word ++ word

-- words in turn
abbrev pub text_of_part : ℕ → List (List ℕ) → List ℕ
text_of_part column [] = []
text_of_part column (word ∷ words) = word_in_line column word ++ text_of_part (column_after column word) words

abbrev pub column_after_part : ℕ → List (List ℕ) → ℕ
column_after_part column [] = column
column_after_part column (word ∷ words) = column_after_part (column_after column word) words

-- the words of samples
abbrev pub sample_texts : Kind → List ℕ → List (List ℕ)
sample_texts kind samples = map (sample_text kind) samples

-- the LF at the end of a row
abbrev pub row_end : Bool → List ℕ
row_end true = byte "\n" ∷ []
row_end false = []
