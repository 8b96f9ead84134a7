-- Columns of rows of pixels.
use Rattle.std.specs.Prelude.{ℕ, List, get_or, map}

-- the pixels of one column, top to bottom
abbrev pub column_at : List (List ℕ) → ℕ → List ℕ
column_at rows x = map (λ row. get_or row x 0) rows
