-- The text of a plain row. From pbm(5) 'Plain PBM', pgm(5) 'Plain PGM' and ppm(5) 'Plain PPM': lines of at most 70
-- bytes, which end in LF, with white space between the samples. That a row begins a new line, that there is one blank
-- between samples, also between pixels, and that a line holds as many samples as it can, are own.
use Rattle.std.specs.Prelude.{◌≡◌, ℕ, ◌+◌, ◌-◌, ◌<◌, ◌≤◌, nat_le, if◌then◌else◌, List, [], ◌∷◌, ◌++◌, length, map}
use Rattle.std.specs.Prelude.{flat_map, decimal}
use Rattle.std.specs.List.{AllByRecursion}
use Rattle.std.specs.Str.{byte}
use Rattle.pnm_image.specs.declared.shape.Kind.{Kind}
use Rattle.pnm_image.specs.declared.shape.Kind.TheVariants.{Bit, Gray, Color, Pam}

-- the bytes of a line without its LF, at most
abbrev pub max_line_length : ℕ
max_line_length = 70

-- the text of a sample: of a pixel the character 1 for black, which is sample 0, and else a number in decimal
abbrev pub sample_text : Kind → ℕ → List ℕ
sample_text Bit sample = (byte "1" - sample) ∷ []
sample_text Gray sample = decimal sample
sample_text Color sample = decimal sample
sample_text Pam sample = decimal sample

-- ---- lines of words

-- words with one blank between each two
abbrev pub join_with_blank : List (List ℕ) → List ℕ
join_with_blank [] = []
join_with_blank (word ∷ []) = word
join_with_blank (word ∷ next ∷ words) = word ++ byte " " ∷ join_with_blank (next ∷ words)

-- with a blank and the first word of the next line, the line would be too long; the last one need not be
abbrev pub IsFilled : List (List ℕ) → List (List (List ℕ)) → Type 0
IsFilled line [] = Unit {0}
IsFilled line ([] ∷ lines) = ⊥
IsFilled line ((word ∷ words) ∷ lines) = max_line_length < length (join_with_blank line ++ byte " " ∷ word)

abbrev pub AreFilled : List (List (List ℕ)) → Type 0
AreFilled [] = Unit {0}
AreFilled (line ∷ lines) = IsFilled line lines × AreFilled lines

-- a line has words, and isn't too long
pub record IsLine (line : List (List ℕ)) : Type 0 where
  pub some : 0 < length line
  pub short : length (join_with_blank line) ≤ max_line_length

-- these are the lines of the words: all of them in order, each line as long as it can be
pub record AreLinesOf (words : List (List ℕ)) (lines : List (List (List ℕ))) : Type 0 where
  pub in_order : flat_map (λ line. line) lines ≡ words
  pub each : AllByRecursion IsLine lines
  pub filled : AreFilled lines

-- the text of a line
abbrev pub line_text : List (List ℕ) → List ℕ
line_text line = join_with_blank line ++ byte "\n" ∷ []

-- the text is that of the words in lines
pub record IsSetInLines (words : List (List ℕ)) (text : List ℕ) : Type 0 where
  pub lines : List (List (List ℕ))
  pub are : AreLinesOf words lines
  pub whole : text ≡ flat_map line_text lines

-- ---- the text itself, which is the only one that is so

-- what follows a line that has so many bytes: a word stands in it, after a blank, where there is room, and else begins
-- the next line
abbrev pub words_after : ℕ → List (List ℕ) → List ℕ
words_after column [] = byte "\n" ∷ []
words_after column (word ∷ words) =
    if nat_le (column + 1 + length word) max_line_length then byte " "
    ∷ (word ++ words_after (column + 1 + length word) words)
    else byte "\n" ∷ (word ++ words_after (length word) words)

abbrev pub set_in_lines : List (List ℕ) → List ℕ
set_in_lines [] = []
set_in_lines (word ∷ words) = word ++ words_after (length word) words

-- the text of a row of an image of this kind
abbrev pub plain_row_text : Kind → List ℕ → List ℕ
plain_row_text kind samples = set_in_lines (map (sample_text kind) samples)
