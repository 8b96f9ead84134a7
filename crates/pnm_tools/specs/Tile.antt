-- The tiled image, from pnmtile(1): the image replicated side by side until so many columns and rows are filled. The
-- first copy lies at the top left, and what doesn't fit is cut off at the right and at the bottom.
use Rattle.std.specs.Prelude.{ℕ, ◌%◌, ◌==◌, List, [], map, slice_index_or, Result, Err, if◌then◌else◌, false}
use Rattle.std.specs.List.{flat_map, range_with_len}
use Rattle.pnm_image.specs.declared.shape.Shape.{Shape}
use Rattle.pnm_image.specs.Heads.{HeadValue}
use Rattle.pnm_image.specs.Images.{Image, sample_at}
use Rattle.pnm_tools.specs.declared.fault.ToolFault.{ToolFault}
use Rattle.pnm_tools.specs.declared.fault.ToolFault.TheVariants.{OutOfOrder}
use Rattle.pnm_tools.specs.ToolLimits.{IsExtent, within_limits}
use Rattle.pnm_tools.specs.PixelSamples.{pixel_of}
use Rattle.pnm_tools.specs.Meaning.{Meaning, RowRule}

abbrev pub tiled_head_value : ℕ → ℕ → HeadValue → HeadValue
tiled_head_value width height head = record head { shape = record head.shape { width = width; height = height } }

-- the tool isn't row-wise, so that a height of 0 is out of order
abbrev pub tiled_head : ℕ → ℕ → HeadValue → Result HeadValue ToolFault
tiled_head width height head =
    if head.shape.height == 0 then Err OutOfOrder else within_limits (tiled_head_value width height head)

abbrev pub tiled_sample : Image → ℕ → ℕ → ℕ → ℕ
tiled_sample i x y p = sample_at i (x % i.head.shape.width) (y % i.head.shape.height) p

-- a row of so many pixels of so many planes, side by side up to so many columns
abbrev pub tiled_row : {X : Type 0} → ℕ → ℕ → ℕ → List X → List X
tiled_row width image_width depth row = flat_map (λ x. pixel_of depth row (x % image_width)) (range_with_len 0 width)

-- the rows that answer the end of an image of this shape and of these rows
abbrev pub tiled_at_end : ℕ → ℕ → Shape → List (List ℕ) → List (List ℕ)
tiled_at_end width height s rows = map (λ y. tiled_row width s.width s.depth (slice_index_or rows (y % s.height) []))
    (range_with_len 0 height)

abbrev pub tiling : ℕ → ℕ → Meaning
tiling width height = record {
  lawful = IsExtent width × IsExtent height;
  row_wise = false;
  head = tiled_head width height;
  sample = tiled_sample;
}

abbrev pub tiled_row_rule : ℕ → ℕ → RowRule
tiled_row_rule width height = record { row_answer = λ s y row. []; end_answer = tiled_at_end width height }
