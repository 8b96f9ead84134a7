-- Steps along a text and along a line of a PAM header, as its scanner goes: lines, tokens and values byte by byte.
use Rattle.std.specs.Prelude.{ℕ, ◌==◌, if◌then◌else◌, Bool, List, [], ◌∷◌, ◌++◌}
use Rattle.std.specs.Str.{byte, bytes_eq}
use Rattle.pnm_image.specs.Texts.{is_blank}
use Rattle.pnm_read.specs.PamLines.{first_token}

-- ---- lines

-- the lines of a text that have ended, without their LF; these bytes of the first came before
unfoldable pub ended_after : List ℕ → List ℕ → List (List ℕ)
ended_after line [] = []
ended_after line (b ∷ text) = if b == byte "\n" then line ∷ ended_after [] text else ended_after (line ++ b ∷ []) text

-- the bytes after the last LF; these came before
unfoldable pub last_after : List ℕ → List ℕ → List ℕ
last_after line [] = line
last_after line (b ∷ text) = if b == byte "\n" then last_after [] text else last_after (line ++ b ∷ []) text

-- ---- tokens and values

-- a text without the white space at its start
unfoldable pub trimmed_start : List ℕ → List ℕ
trimmed_start [] = []
trimmed_start (b ∷ text) = if is_blank b then trimmed_start text else b ∷ text

-- the byte before a text without white space at its end
abbrev pub onto_trimmed : ℕ → List ℕ → List ℕ
onto_trimmed b [] = if is_blank b then [] else b ∷ []
onto_trimmed b (c ∷ text) = b ∷ c ∷ text

-- a text without the white space at its end
unfoldable pub trimmed_end : List ℕ → List ℕ
trimmed_end [] = []
trimmed_end (b ∷ text) = onto_trimmed b (trimmed_end text)

-- the bytes before the first white space
unfoldable pub token_of : List ℕ → List ℕ
token_of [] = []
token_of (b ∷ text) = if is_blank b then [] else b ∷ token_of text

-- the bytes from the first white space on
unfoldable pub after_token : List ℕ → List ℕ
after_token [] = []
after_token (b ∷ text) = if is_blank b then b ∷ text else after_token text

-- what follows the first token of a line
abbrev pub after_first : List ℕ → List ℕ
after_first line = after_token (trimmed_start line)

-- the line's first token is this one
abbrev pub begins_with : List ℕ → List ℕ → Bool
begins_with name line = bytes_eq name (first_token line)

-- two texts joined by one blank; an empty one is left out
abbrev pub joined_with : List ℕ → List ℕ → List ℕ
joined_with [] text = text
joined_with (b ∷ first) [] = b ∷ first
joined_with (b ∷ first) (c ∷ text) = (b ∷ first) ++ byte " " ∷ c ∷ text
