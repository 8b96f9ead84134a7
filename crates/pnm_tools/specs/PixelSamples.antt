-- Pixels of a row: the samples of one column, a sample of each plane.
use Rattle.std.specs.Prelude.{ℕ, ◌*◌, List, take, drop}

-- the pixel in a column, from 0, of a row of so many planes
abbrev pub pixel_of : {X : Type 0} → ℕ → List X → ℕ → List X
pixel_of depth row x = take depth (drop (x * depth) row)
