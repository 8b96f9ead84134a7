-- The tools: what each of them means, and what that says of images and of their messages.
use Rattle.std.specs.Prelude.{◌≡◌, ℕ, Bool, ◌++◌, List, [], ◌∷◌, Result, Ok, Err}
use Rattle.pnm_image.specs.declared.shape.Shape.{Shape}
use Rattle.pnm_image.specs.declared.message.Message.{Message}
use Rattle.pnm_image.specs.declared.message.Message.TheVariants.{Begin, Row, ImageEnd, StreamEnd, Stop}
use Rattle.pnm_image.specs.Heads.{HeadValue}
use Rattle.pnm_image.specs.Images.{Image, messages_of_image}
use Rattle.pnm_tools.specs.declared.fault.ToolFault.{ToolFault}
use Rattle.pnm_tools.specs.declared.tool.Tool.{Tool}
use Rattle.pnm_tools.specs.declared.tool.Tool.TheVariants.{Invert, Cut, Depth, Channel, Enlarge, Flip, Tile}
use Rattle.pnm_tools.specs.Formulas.{image_by}
use Rattle.pnm_tools.specs.Meaning.{Meaning, RowRule}
use Rattle.pnm_tools.specs.Samplewise.{samplewise_row_rule}
use Rattle.pnm_tools.specs.Invert.{inversion, inverting}
use Rattle.pnm_tools.specs.Cut.{cutting, cut_row_rule}
use Rattle.pnm_tools.specs.Depth.{rescaling, rescaled_by}
use Rattle.pnm_tools.specs.Channel.{picking, picked_row_rule}
use Rattle.pnm_tools.specs.Enlarge.{enlargement, enlarged_row_rule}
use Rattle.pnm_tools.specs.Flip.{flipping, flipped_row_rule}
use Rattle.pnm_tools.specs.Tile.{tiling, tiled_row_rule}

abbrev pub meaning : Tool → Meaning
meaning Invert = inversion
meaning (Cut box) = cutting box
meaning (Depth maxval) = rescaling maxval
meaning (Channel planes) = picking planes
meaning (Enlarge across down) = enlargement across down
meaning (Flip way) = flipping way
meaning (Tile width height) = tiling width height

-- the values of the options are in their ranges
abbrev pub IsLawfulTool : Tool → Type 0
IsLawfulTool tool = (meaning tool).lawful

-- the rows of an image may be dealt to several of the tool, each of which sees an image of its own
abbrev pub is_row_wise : Tool → Bool
is_row_wise tool = (meaning tool).row_wise

-- the head of the result, or the refusal
unfoldable pub result_head : Tool → HeadValue → Result HeadValue ToolFault
result_head tool head = (meaning tool).head head

-- the tool takes an image with this head
abbrev pub TakesHead : Tool → HeadValue → Type 0
TakesHead tool head = (result : HeadValue) × (result_head tool head ≡ Ok result)

-- no image that begins is refused
abbrev pub AreTaken : Tool → List Message → Type 0
AreTaken tool [] = Unit {0}
AreTaken tool (Begin head ∷ ms) = TakesHead tool head × AreTaken tool ms
AreTaken tool (Row row ∷ ms) = AreTaken tool ms
AreTaken tool (ImageEnd ∷ ms) = AreTaken tool ms
AreTaken tool (StreamEnd ∷ ms) = AreTaken tool ms
AreTaken tool (Stop ∷ ms) = AreTaken tool ms

-- the sample of the result in a column, a row and a plane
unfoldable pub result_sample : Tool → Image → ℕ → ℕ → ℕ → ℕ
result_sample tool i x y p = (meaning tool).sample i x y p

-- what the tool makes of an image
abbrev pub applied : Tool → Image → Result Image ToolFault
applied tool i = elim (result_head tool i.head) [
  | Ok head ↦ Ok (image_by head (result_sample tool i))
  | Err fault ↦ Err fault
]

-- the output due for images: the messages of each result before the first image that is refused, and the end of the
-- stream where none is
unfoldable pub output_due : Tool → List Image → List Message
output_due tool [] = StreamEnd ∷ []
output_due tool (i ∷ is) = elim (applied tool i) [
  | Ok j ↦ messages_of_image j ++ output_due tool is
  | Err fault ↦ []
]

-- ---- row by row

abbrev pub row_rule : Tool → RowRule
row_rule Invert = samplewise_row_rule inverting
row_rule (Cut box) = cut_row_rule box
row_rule (Depth maxval) = samplewise_row_rule (rescaled_by maxval)
row_rule (Channel planes) = picked_row_rule planes
row_rule (Enlarge across down) = enlarged_row_rule across down
row_rule (Flip way) = flipped_row_rule way
row_rule (Tile width height) = tiled_row_rule width height

-- the rows that answer row y of an image of this shape, as soon as it comes
unfoldable pub row_answer : Tool → Shape → ℕ → List ℕ → List (List ℕ)
row_answer tool s y row = (row_rule tool).row_answer s y row

-- the rows that answer the end of an image of this shape and of these rows
abbrev pub end_answer : Tool → Shape → List (List ℕ) → List (List ℕ)
end_answer tool s rows = (row_rule tool).end_answer s rows
