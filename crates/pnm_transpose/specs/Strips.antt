-- Rows of an image that are kept in strips: some rows each, with columns and rows exchanged.
use Rattle.std.specs.Prelude.{◌≡◌, ℕ, ◌+◌, ◌*◌, List, ◌++◌, length, All, Bool, if◌then◌else◌}
use Rattle.pnm_transpose.specs.declared.strip.TheConstants.{STRIP_ROWS}
use Rattle.pnm_tools.specs.Flip.{column_of, in_order}

-- how many rows stand in strips and after them
abbrev pub kept_count : {X : Type 0} → List (List X) → List (List X) → ℕ
kept_count strips rows = STRIP_ROWS * length strips + length rows

-- a column of them: its parts in the strips, and its pixels in the rows that came after them, or the latter first
abbrev pub kept_column : {X : Type 0} → Bool → ℕ → List (List X) → List (List X) → ℕ → List X
kept_column rows_first depth strips rows x =
    if rows_first then column_of depth rows x ++ column_of (STRIP_ROWS * depth) strips x
    else column_of (STRIP_ROWS * depth) strips x ++ column_of depth rows x

-- a column of rows that came top to bottom, whose order is to be reversed or not
abbrev pub coming_column : {X : Type 0} → Bool → ℕ → List (List X) → List (List X) → ℕ → List X
coming_column reversed depth strips rows x =
    kept_column reversed depth (in_order reversed strips) (in_order reversed rows) x

-- all of them have so many columns
pub record HaveSizes {X : Type 0} (width depth : ℕ) (strips rows : List (List X)) : Type 0 where
  pub each_strip : All (λ strip. length strip ≡ width * (STRIP_ROWS * depth)) strips
  pub each_row : All (λ row. length row ≡ width * depth) rows
