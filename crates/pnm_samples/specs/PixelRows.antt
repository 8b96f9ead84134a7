-- Rows of packed pixels that are held one after another, each from a byte's start on.
use Rattle.std.specs.Prelude.{ℕ, zero, suc, ◌+◌, ◌/◌, List, [], ◌∷◌, take, drop, reverse, Bool, if◌then◌else◌}
use Rattle.pnm_samples.specs.Pixels.{all_pixels}

-- how many bytes hold so many pixels
abbrev pub bytes_for : ℕ → ℕ
bytes_for each = (each + 7) / 8

-- so many rows of so many pixels each
abbrev pub rows_of_bytes : ℕ → ℕ → List ℕ → List (List ℕ)
rows_of_bytes zero each bytes = []
rows_of_bytes (suc count) each bytes =
    take each (all_pixels bytes) ∷ rows_of_bytes count each (drop (bytes_for each) bytes)

-- the same, the last one first or not
abbrev pub ordered_rows : Bool → ℕ → ℕ → List ℕ → List (List ℕ)
ordered_rows reversed count each bytes =
    if reversed then reverse (rows_of_bytes count each bytes) else rows_of_bytes count each bytes
