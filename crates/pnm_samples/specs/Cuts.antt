-- Samples cut into rows.
use Rattle.std.specs.Prelude.{ℕ, zero, suc, ◌-◌, ◌*◌, List, [], ◌∷◌, take, drop}
use Rattle.std.specs.List.{flat_map, range_with_len}

-- samples as so many rows of so many samples each
abbrev pub cut_rows : ℕ → ℕ → List ℕ → List (List ℕ)
cut_rows zero each samples = []
cut_rows (suc count) each samples = take each samples ∷ cut_rows count each (drop each samples)

-- so many rows of so many samples each, one after another, the last row first
abbrev pub last_first : {X : Type 0} → ℕ → ℕ → List X → List X
last_first count each samples =
    flat_map (λ y. take each (drop ((count - 1 - y) * each) samples)) (range_with_len 0 count)
