-- Rows that are picked of others, and a row behind others.
use Rattle.std.specs.Prelude.{◌≡◌, ℕ, ◌+◌, ◌*◌, ◌<◌, ◌≤◌, List, ◌++◌, ◌∷◌, [], length, take, drop}
use Rattle.pnm_image.specs.declared.rows.RowVec.{RowVec}
use Rattle.pnm_image.specs.HeldRows.{AreRows, HoldsRows, row_lists}

-- this row stands behind those that were held, however many and long they were
abbrev pub HasAddedRow : RowVec → List ℕ → RowVec → Type 0
HasAddedRow old row new = (count each : ℕ) → AreRows count each old → length row ≡ each
    → HoldsRows (count + 1) each (row_lists count each old ++ row ∷ []) new

-- of so many, those from one on that come so many apart, one or more, are as many
pub record AreEvery (count from step many : ℕ) : Type 0 where
  pub apart : 1 ≤ step
  pub within : (at : ℕ) → at < many → from + at * step < count
  pub all : count ≤ from + many * step

-- runs of so many, each of which is that of the number
pub record HasPicked {X : Type 0} (many each from step : ℕ) (runs picked : List X) : Type 0 where
  pub long : length picked ≡ many * each
  pub same : (at : ℕ) → at < many
      → take each (drop (at * each) picked) ≡ take each (drop ((from + at * step) * each) runs)
