-- The enlarged image, from pamenlarge(1): each pixel is replicated so many times across and so many times down.
use Rattle.std.specs.Prelude.{ℕ, ◌*◌, ◌/◌, ◌==◌, ◌&&◌, not, List, replicate, Result, Err, if◌then◌else◌, []}
use Rattle.std.specs.List.{flat_map, range_with_len}
use Rattle.pnm_image.specs.declared.shape.Shape.{Shape}
use Rattle.pnm_image.specs.Heads.{HeadValue}
use Rattle.pnm_image.specs.Images.{Image, sample_at}
use Rattle.pnm_tools.specs.declared.fault.ToolFault.{ToolFault}
use Rattle.pnm_tools.specs.declared.fault.ToolFault.TheVariants.{OutOfOrder}
use Rattle.pnm_tools.specs.ToolLimits.{IsExtent, within_limits}
use Rattle.pnm_tools.specs.PixelSamples.{pixel_of}
use Rattle.pnm_tools.specs.Meaning.{Meaning, RowRule}

abbrev pub enlarged_head_value : ℕ → ℕ → HeadValue → HeadValue
enlarged_head_value across down head =
    record head { shape = record head.shape { width = head.shape.width * across; height = head.shape.height * down } }

-- where rows are repeated the tool isn't row-wise, so that a height of 0 is out of order
abbrev pub enlarged_head : ℕ → ℕ → HeadValue → Result HeadValue ToolFault
enlarged_head across down head = if not (down == 1) && (head.shape.height == 0) then Err OutOfOrder else within_limits
    (enlarged_head_value across down head)

abbrev pub enlarged_sample : ℕ → ℕ → Image → ℕ → ℕ → ℕ → ℕ
enlarged_sample across down i x y p = sample_at i (x / across) (y / down) p

-- so many of a list, one after another
abbrev pub copies_of : {X : Type 0} → ℕ → List X → List X
copies_of count samples = flat_map (λ _. samples) (range_with_len 0 count)

-- a row of an image of this shape, each pixel repeated
abbrev pub enlarged_row : {X : Type 0} → ℕ → Shape → List X → List X
enlarged_row across s row = flat_map (λ x. copies_of across (pixel_of s.depth row x)) (range_with_len 0 s.width)

-- the rows that answer a row
abbrev pub enlarged_rows : ℕ → ℕ → Shape → List ℕ → List (List ℕ)
enlarged_rows across down s row = replicate down (enlarged_row across s row)

abbrev pub enlargement : ℕ → ℕ → Meaning
enlargement across down = record {
  lawful = IsExtent across × IsExtent down;
  row_wise = down == 1;
  head = enlarged_head across down;
  sample = enlarged_sample across down;
}

abbrev pub enlarged_row_rule : ℕ → ℕ → RowRule
enlarged_row_rule across down =
    record { row_answer = λ s y row. enlarged_rows across down s row; end_answer = λ s rows. [] }
