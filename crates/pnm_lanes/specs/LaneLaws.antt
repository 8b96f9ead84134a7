-- What lanes make of images together: streams, results and what is due, dealt and gathered again.
use Rattle.std.specs.Prelude.{◌≡◌, ◌<◌, ℕ, Bool, true, List, [], ◌∷◌, ◌++◌, Ok, Err}
use Rattle.pnm_image.specs.Images.{Image, AreImages, messages_of_stream}
use Rattle.std.specs.List.{AllByRecursion}
use Rattle.pnm_image.specs.declared.message.Message.{Message}
use Rattle.pnm_image.specs.declared.message.Message.TheVariants.{Begin}
use Rattle.pnm_image.specs.declared.place.Place.TheVariants.{Between}
use Rattle.pnm_image.specs.Heads.{HeadValue}
use Rattle.pnm_image.specs.Messages.{IsMessage, EndsBy}
use Rattle.pnm_image.specs.Places.{place_of}
use Rattle.pnm_tools.specs.declared.fault.ToolFault.{ToolFault}
use Rattle.pnm_image.specs.Completion.{IsPrefixOf}
use Rattle.pnm_tools.specs.declared.tool.Tool.{Tool}
use Rattle.pnm_image.specs.declared.message.Ending.TheVariants.{Whole}
use Rattle.pnm_tools.specs.Answers.{AreResults, images_ended, begun_of, due_so_far}
use Rattle.pnm_tools.specs.Dealing.{dealt_image, dealt}
use Rattle.pnm_tools.specs.Tools.{IsLawfulTool, is_row_wise, result_head, AreTaken, applied, output_due}

-- the images that a lane sees
abbrev pub dealt_images : ℕ → ℕ → List Image → List Image
dealt_images lane lanes [] = []
dealt_images lane lanes (i ∷ is) = dealt_image lane lanes i ∷ dealt_images lane lanes is

-- the results of a tool before the first image that it refuses
abbrev pub results_before : Tool → List Image → List Image
results_before tool [] = []
results_before tool (i ∷ is) = elim (applied tool i) [
  | Ok j ↦ j ∷ results_before tool is
  | Err fault ↦ []
]

-- the messages of a stream, dealt, are those of the images that the lane sees
abbrev pub StreamsAreDealt : Type 0
StreamsAreDealt = (lane lanes : ℕ) (is : List Image) → AreImages is
    → dealt lane lanes (messages_of_stream is) ≡ messages_of_stream (dealt_images lane lanes is)

-- what is due from a row-wise tool for the images that a lane sees is what the lane gets of what is due for all rows
abbrev pub DueIsDealt : Type 0
DueIsDealt = (tool : Tool) (lane lanes : ℕ) (is : List Image) → IsLawfulTool tool → is_row_wise tool ≡ true
    → lane < lanes → AreImages is
    → output_due tool (dealt_images lane lanes is) ≡ dealt lane lanes (output_due tool is)

-- where no image that a lane sees is refused, none is, and the results that the lane makes are what it gets of the
-- results
abbrev pub ResultsAreDealt : Type 0
ResultsAreDealt = (tool : Tool) (lane lanes : ℕ) (is made : List Image) → IsLawfulTool tool → is_row_wise tool ≡ true
    → lane < lanes → AreImages is
    → AreResults tool (dealt_images lane lanes is) made → (results : List Image) × AreResults tool is results
    × (made ≡ dealt_images lane lanes results)

-- where a lane gave a prefix of what it gets of what is due, and what was gathered is a prefix of the stream of the
-- results before the first refused image, whose end came only where that lane gave it, what was gathered is a prefix of
-- what is due
abbrev pub GatheredIsDue : Type 0
GatheredIsDue = (tool : Tool) (lane lanes : ℕ) (is : List Image) (given gathered : List Message)
    → IsPrefixOf given (dealt lane lanes (output_due tool is))
    → IsPrefixOf gathered (messages_of_stream (results_before tool is))
    → (EndsBy Whole gathered → EndsBy Whole given)
    → IsPrefixOf gathered (output_due tool is)

-- the first head that a row-wise tool refuses of what a lane gets is dealt from the first that it refuses, by the same
-- fault
abbrev pub RefusalsAreDealt : Type 0
RefusalsAreDealt = (tool : Tool) (lane lanes : ℕ) (l before : List Message) (part : HeadValue) (after : List Message)
    (fault : ToolFault)
    → IsLawfulTool tool → is_row_wise tool ≡ true → lane < lanes → AllByRecursion IsMessage l
    → dealt lane lanes l ≡ before ++ Begin part ∷ after → AreTaken tool before → result_head tool part ≡ Err fault
    → (prefix : List Message) × (head : HeadValue) × (rest : List Message) × (l ≡ prefix ++ Begin head ∷ rest)
    × AreTaken tool prefix × (result_head tool head ≡ Err fault)

-- what is due from a row-wise tool for the images that a lane sees, of which so many have ended, is what the lane gets
-- of what is due for the images themselves; in what the lane gets as many have ended, and one has begun where it has
pub record DueSoFarIsDealt : Type 0 where
  pub ended : (lane lanes : ℕ) (l : List Message) → images_ended (dealt lane lanes l) ≡ images_ended l
  pub begun : (lane lanes : ℕ) (l : List Message)
      → begun_of (place_of Between (dealt lane lanes l)) ≡ begun_of (place_of Between l)
  pub owes : (tool : Tool) (lane lanes n : ℕ) (b : Bool) (is : List Image) → IsLawfulTool tool → is_row_wise tool ≡ true
      → lane < lanes → AreImages is
      → due_so_far tool n b (dealt_images lane lanes is) ≡ dealt lane lanes (due_so_far tool n b is)
