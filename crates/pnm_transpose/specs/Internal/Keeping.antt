-- Between functions: what a transposer keeps while the rows of an image come, and the rows of the result that it
-- still gives.
use Rattle.std.specs.Prelude.{◌≡◌, ◌*◌, ◌<◌, ◌≤◌, ◌%◌, true}
use Rattle.pnm_image.specs.declared.limits.TheConstants.{MAX_DEPTH, MAX_ROW_LENGTH}
use Rattle.pnm_image.specs.declared.sample_width.SampleWidth.TheVariants.{Bits as OfBits}
use Rattle.pnm_tools.specs.Flip.{transform_of}
use Rattle.pnm_transpose.specs.Strips.{kept_count}
use Rattle.pnm_transpose.specs.Internal.Strips.{ReachColumns}
use Rattle.pnm_transpose.specs.Keeping.{Transposed}

-- each row has a pixel of each column, and each strip a part of each; a row of the result is within the limits; packed
-- rows have one plane, and the next column is the first of a byte
pub record HasColumns (w : Transposed) : Type 0 where
  pub way : (transform_of w.way).exchanged ≡ true
  pub reach : ReachColumns w.columns w.depth w.strips w.rows
  pub each : 0 < w.columns → kept_count w.strips w.rows * w.depth ≤ MAX_ROW_LENGTH
  pub depth : w.depth ≤ MAX_DEPTH
  pub made : w.next ≤ w.columns
  pub one_plane : w.sample_width ≡ OfBits → 0 < w.columns → w.depth ≡ 1
  pub at_byte : w.sample_width ≡ OfBits → w.next < w.columns → w.next % 8 ≡ 0
