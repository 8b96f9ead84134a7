-- Between functions: what tools that repeat keep while the rows of an image come, and the rows of the result that
-- they still give.
use Rattle.std.specs.Prelude.{◌≡◌, ℕ, zero, suc, ◌*◌, ◌<◌, ◌≤◌, ◌%◌, List, [], ◌++◌}
use Rattle.std.specs.Prelude.{length, take, drop}
use Rattle.std.specs.Prelude.{All}
use Rattle.pnm_image.specs.declared.limits.TheConstants.{MAX_ROW_LENGTH}
use Rattle.pnm_tools.specs.Tile.{tiled_row}
use Rattle.pnm_tools.specs.PixelSamples.{pixel_of}
use Rattle.pnm_repeat_tools.specs.Keeping.{Tiled}

-- ---- pnmtile: what the result shows of the rows, the next one first

-- the first samples, so many of each, of so many rows of so many samples that are held one after another
abbrev pub fronts_in : {X : Type 0} → ℕ → ℕ → ℕ → List X → List X
fronts_in shown zero each samples = []
fronts_in shown (suc count) each samples = take shown samples ++ fronts_in shown count each (drop each samples)

-- there are rows to give, each of the columns that are kept, which are no more than those to fill
pub record HasTiles (w : Tiled) : Type 0 where
  pub some : 0 < length w.rows
  pub lengths : All (λ row. length row ≡ w.image_width * w.depth) w.rows
  pub width : 0 < w.image_width
  pub narrow : w.image_width ≤ w.width
  pub planes : 0 < w.depth
  pub filled : w.width * w.depth ≤ MAX_ROW_LENGTH

-- the same where so many rows are held one after another
abbrev pub row_of_samples : {X : Type 0} → ℕ → ℕ → ℕ → ℕ → List X → ℕ → List X
row_of_samples width image_width depth count samples y =
    tiled_row width image_width depth (pixel_of (image_width * depth) samples (y % count))
