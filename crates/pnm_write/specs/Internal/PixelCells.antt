-- The characters of pixels, with a blank behind each.
use Rattle.std.specs.Prelude.{ℕ, ◌+◌, ◌-◌, ◌/◌, ◌%◌, List, [], ◌∷◌}
use Rattle.std.specs.List.{flat_map}
use Rattle.std.specs.Str.{byte}

abbrev pub cell : ℕ → List ℕ
cell sample = (byte "1" - sample) ∷ byte " " ∷ []

abbrev pub cells : List ℕ → List ℕ
cells samples = flat_map cell samples

-- those of four bits, the most significant leftmost
abbrev pub nibble_cells : ℕ → List ℕ
nibble_cells bits = (48 + bits / 8 % 2) ∷ byte " " ∷ (48 + bits / 4 % 2) ∷ byte " " ∷ (48 + bits / 2 % 2) ∷ byte " "
    ∷ (48 + bits % 2) ∷ byte " " ∷ []
