-- Rows of samples that are held one after another.
use Rattle.std.specs.Prelude.{ℕ, zero, suc, List, [], ◌∷◌, take, drop, reverse, Bool, if◌then◌else◌}

-- samples as so many rows of so many samples each
abbrev pub rows_in : {X : Type 0} → ℕ → ℕ → List X → List (List X)
rows_in zero each samples = []
rows_in (suc count) each samples = take each samples ∷ rows_in count each (drop each samples)

-- the same, the last one first or not
abbrev pub ordered_rows_in : {X : Type 0} → Bool → ℕ → ℕ → List X → List (List X)
ordered_rows_in reversed count each samples =
    if reversed then reverse (rows_in count each samples) else rows_in count each samples
