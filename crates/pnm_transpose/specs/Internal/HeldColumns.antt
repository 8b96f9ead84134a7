-- Columns of a batch that are held together.
use Rattle.std.specs.Prelude.{◌≡◌, ℕ, List, ◌++◌, reverse}
use Rattle.pnm_image.specs.declared.rows.RowVec.{RowVec}
use Rattle.pnm_image.specs.HeldRows.{AreRows, AreRowsWithin, row_lists}

-- so many rows of so many samples are held, none of the samples above this number
abbrev pub HoldsWithin : ℕ → ℕ → ℕ → RowVec → Type 0
HoldsWithin count each bound held = AreRows count each held × AreRowsWithin bound (row_lists count each held)

-- moving columns from the end of a batch to the end of the held ones keeps their order: the held columns, and then the
-- batch reversed, are the same list before and after
abbrev pub HasTaken : ℕ → ℕ → RowVec → List (List ℕ) → ℕ → RowVec → List (List ℕ) → Type 0
HasTaken count each held batch new_count new new_batch =
    row_lists count each held ++ reverse batch ≡ row_lists new_count each new ++ reverse new_batch
