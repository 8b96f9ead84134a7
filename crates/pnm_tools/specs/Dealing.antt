-- Dealing the rows of an image to lanes, each of which sees an image of its own: row y goes to the lane whose number is
-- y mod the number of lanes, all counted from 0.
use Rattle.std.specs.Prelude.{◌≡◌, ◌↔◌, ◌<◌, ℕ, zero, suc, ◌+◌, ◌%◌, ◌==◌, if◌then◌else◌, true, List, [], ◌∷◌, ◌++◌}
use Rattle.std.specs.Prelude.{map, Result, Ok, Err}
use Rattle.std.specs.List.{concat}
use Rattle.pnm_image.specs.declared.message.Message.{Message}
use Rattle.pnm_image.specs.declared.message.Message.TheVariants.{Begin, Row, ImageEnd, StreamEnd, Stop}
use Rattle.pnm_image.specs.declared.place.Place.{Place}
use Rattle.pnm_image.specs.declared.place.Place.TheVariants.{Between, Inside, After}
use Rattle.pnm_image.specs.declared.shape.Kind.TheVariants.{Gray}
use Rattle.pnm_image.specs.Heads.{HeadValue, with_height}
use Rattle.pnm_image.specs.Images.{Image, IsImage, rows_of}
use Rattle.pnm_image.specs.Places.{place_after}
use Rattle.pnm_tools.specs.declared.fault.ToolFault.{ToolFault}
use Rattle.pnm_tools.specs.declared.tool.Tool.{Tool}
use Rattle.pnm_tools.specs.Tools.{IsLawfulTool, is_row_wise, applied}

-- ---- images

-- how many of so many rows a lane gets
abbrev pub dealt_height : ℕ → ℕ → ℕ → ℕ
dealt_height lane lanes zero = 0
dealt_height lane lanes (suc y) = dealt_height lane lanes y + (if (y % lanes) == lane then 1 else 0)

-- row y, if the lane gets it
abbrev pub dealt_row : ℕ → ℕ → ℕ → List ℕ → List (List ℕ)
dealt_row lane lanes y row = if (y % lanes) == lane then row ∷ [] else []

-- of rows from row y on those that the lane gets
abbrev pub dealt_rows : ℕ → ℕ → ℕ → List (List ℕ) → List (List ℕ)
dealt_rows lane lanes y [] = []
dealt_rows lane lanes y (row ∷ rows) = dealt_row lane lanes y row ++ dealt_rows lane lanes (y + 1) rows

abbrev pub dealt_head : ℕ → ℕ → HeadValue → HeadValue
dealt_head lane lanes head = with_height head (dealt_height lane lanes head.shape.height)

-- the image that the lane sees
abbrev pub dealt_image : ℕ → ℕ → Image → Image
dealt_image lane lanes i =
    record { head = dealt_head lane lanes i.head; samples = concat (dealt_rows lane lanes 0 (rows_of i)) }

-- ---- messages

-- what the lane gets of a message at a place
abbrev pub dealt_message : ℕ → ℕ → Place → Message → List Message
dealt_message lane lanes place (Begin head) = Begin (dealt_head lane lanes head) ∷ []
dealt_message lane lanes Between (Row row) = []
dealt_message lane lanes (Inside s y) (Row row) = map Row (dealt_row lane lanes y row)
dealt_message lane lanes After (Row row) = []
dealt_message lane lanes place ImageEnd = ImageEnd ∷ []
dealt_message lane lanes place StreamEnd = StreamEnd ∷ []
dealt_message lane lanes place Stop = Stop ∷ []

-- what the lane gets of messages from a place on
abbrev pub dealt_from : ℕ → ℕ → Place → List Message → List Message
dealt_from lane lanes place [] = []
dealt_from lane lanes place (m ∷ ms) =
    dealt_message lane lanes place m ++ dealt_from lane lanes (place_after place m) ms

-- the messages without the rows of the other lanes, each image beginning with the head of the one that the lane sees
abbrev pub dealt : ℕ → ℕ → List Message → List Message
dealt lane lanes l = dealt_from lane lanes Between l

-- ---- tools

-- what the lane gets of a result, or the same refusal
abbrev pub dealt_result : ℕ → ℕ → Result Image ToolFault → Result Image ToolFault
dealt_result lane lanes (Ok i) = Ok (dealt_image lane lanes i)
dealt_result lane lanes (Err fault) = Err fault

-- what the tool makes of the image that a lane sees is what the lane gets of the result; it refuses the one where it
-- refuses the other, and so
abbrev pub IsRowWise : Tool → Type 0
IsRowWise tool = (i : Image) (lane lanes : ℕ) → IsImage i → lane < lanes
    → applied tool (dealt_image lane lanes i) ≡ dealt_result lane lanes (applied tool i)

-- ---- laws

-- the tools that are called row-wise are those that are
abbrev pub RowWiseToolsCommuteWithDealing : Type 0
RowWiseToolsCommuteWithDealing = (tool : Tool) → IsLawfulTool tool → is_row_wise tool ≡ true ↔ IsRowWise tool

-- gray images of one column, and of their messages
abbrev pub column_head : ℕ → HeadValue
column_head height =
    record { shape = record { kind = Gray; width = 1; height = height; depth = 1; maxval = 9 }; tuple_type = [] }

abbrev pub column : ℕ → List ℕ → Image
column height samples = record { head = column_head height; samples = samples }

-- small images and lists, dealt
pub record DealtExamplesHold : Type 0 where
  -- three rows over two lanes
  pub three_first : dealt_image 0 2 (column 3 (1 ∷ 2 ∷ 3 ∷ [])) ≡ column 2 (1 ∷ 3 ∷ [])
  pub three_second : dealt_image 1 2 (column 3 (1 ∷ 2 ∷ 3 ∷ [])) ≡ column 1 (2 ∷ [])
  -- two rows over three lanes: the last lane gets none
  pub two_first : dealt_image 0 3 (column 2 (1 ∷ 2 ∷ [])) ≡ column 1 (1 ∷ [])
  pub two_second : dealt_image 1 3 (column 2 (1 ∷ 2 ∷ [])) ≡ column 1 (2 ∷ [])
  pub two_third : dealt_image 2 3 (column 2 (1 ∷ 2 ∷ [])) ≡ column 0 []
  -- an image of no rows, and one lane, which gets all rows
  pub none : dealt_image 1 2 (column 0 []) ≡ column 0 []
  pub alone : dealt_image 0 1 (column 2 (1 ∷ 2 ∷ [])) ≡ column 2 (1 ∷ 2 ∷ [])
  -- a stream
  pub stream : dealt 1 2 (Begin (column_head 2) ∷ Row (1 ∷ []) ∷ Row (2 ∷ []) ∷ ImageEnd ∷ StreamEnd ∷ [])
      ≡ Begin (column_head 1) ∷ Row (2 ∷ []) ∷ ImageEnd ∷ StreamEnd ∷ []
  -- a list that is broken off inside an image, for the lane whose row hasn't come; and one that stops there
  pub stopped : dealt 1 2 (Begin (column_head 3) ∷ Row (1 ∷ []) ∷ Stop ∷ []) ≡ Begin (column_head 1) ∷ Stop ∷ []
  pub cut : dealt 0 2 (Begin (column_head 3) ∷ Row (1 ∷ []) ∷ []) ≡ Begin (column_head 2) ∷ Row (1 ∷ []) ∷ []
