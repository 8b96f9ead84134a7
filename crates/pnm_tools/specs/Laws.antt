-- The laws of tools and chains.
use Rattle.std.specs.Prelude.{◌≡◌, ◌⊎◌, ◌<◌, ◌≤◌, ℕ, ◌+◌, ◌*◌, false, length, List, Option, Some, None, Result, Ok, Err}
use Rattle.pnm_image.specs.declared.message.Message.{Message}
use Rattle.pnm_image.specs.Heads.{HeadValue, row_length}
use Rattle.pnm_image.specs.Images.{Image, IsImage, AreImages, sample_at, messages_of_stream}
use Rattle.pnm_image.specs.Completion.{IsPrefixOf, Completes}
use Rattle.pnm_tools.specs.declared.fault.ToolFault.{ToolFault}
use Rattle.pnm_tools.specs.declared.cut.CutBox.{CutBox}
use Rattle.pnm_tools.specs.declared.fault.ToolFault.TheVariants.{CutOutside, ChannelOutside, TooLarge, OutOfOrder}
use Rattle.pnm_tools.specs.declared.fault.ToolFault.TheVariants.{Memory}
use Rattle.pnm_tools.specs.declared.flip.FlipWay.{FlipWay}
use Rattle.pnm_tools.specs.declared.flip.FlipWay.TheVariants.{LeftRight, TopBottom, Transpose, Rotate90, Rotate180}
use Rattle.pnm_tools.specs.declared.flip.FlipWay.TheVariants.{Rotate270}
use Rattle.pnm_tools.specs.declared.tool.Tool.{Tool}
use Rattle.pnm_tools.specs.declared.tool.Tool.TheVariants.{Cut, Channel, Flip}
use Rattle.pnm_tools.specs.Channel.{Picks}
use Rattle.pnm_tools.specs.Depth.{nearest_sample}
use Rattle.pnm_tools.specs.Tools.{IsLawfulTool, is_row_wise, result_head, result_sample, applied}
use Rattle.pnm_tools.specs.Chains.{AreLawfulTools, AreResultsInTurn, due_in_turn, refusal_of}
use Rattle.pnm_tools.specs.ChainAnswers.{AreSound, HaveAnswered, AreWell, IsFirstFault}

-- the faults by which a tool may refuse a head; it is out of order only where it has no rows and the tool isn't
-- row-wise
abbrev pub IsFaultOfHead : Tool → HeadValue → ToolFault → Type 0
IsFaultOfHead tool head CutOutside = (box : CutBox) × (tool ≡ Cut box)
IsFaultOfHead tool head ChannelOutside = (planes : Picks) × (tool ≡ Channel planes)
IsFaultOfHead tool head TooLarge = Unit {0}
IsFaultOfHead tool head OutOfOrder = (is_row_wise tool ≡ false) × (head.shape.height ≡ 0)
IsFaultOfHead tool head Memory = ⊥

-- a head is refused by these faults alone, and one of no rows by each tool that isn't row-wise
abbrev pub HeadsAreRefusedByName : Type 0
HeadsAreRefusedByName = (tool : Tool) (head : HeadValue)
    → ((fault : ToolFault) → result_head tool head ≡ Err fault → IsFaultOfHead tool head fault)
    × (is_row_wise tool ≡ false → head.shape.height ≡ 0 → result_head tool head ≡ Err OutOfOrder)

-- the result of an image is an image, and has rows where the image has
abbrev pub ResultsAreImages : Type 0
ResultsAreImages = (tool : Tool) (i j : Image) → IsLawfulTool tool → IsImage i → applied tool i ≡ Ok j
    → IsImage j × (0 < i.head.shape.height → 0 < j.head.shape.height)

-- the samples of an image are those of a formula by column, row and plane, and there are no others
pub record IsByTheFormula (j : Image) (formula : ℕ → ℕ → ℕ → ℕ) : Type 0 where
  pub count : length j.samples ≡ j.head.shape.height * row_length j.head.shape
  pub samples : (x y p : ℕ) → x < j.head.shape.width → y < j.head.shape.height → p < j.head.shape.depth
      → sample_at j x y p ≡ formula x y p

-- the result of an image has the head of its tool's rule and the samples of its tool's formula
abbrev pub SamplesAreByTheFormula : Type 0
SamplesAreByTheFormula = (tool : Tool) (i j : Image) → applied tool i ≡ Ok j → (result_head tool i.head ≡ Ok j.head)
    × IsByTheFormula j (result_sample tool i)

-- what a way makes of what became of an image
abbrev pub then_flipped : FlipWay → Result Image ToolFault → Result Image ToolFault
then_flipped way (Ok i) = applied (Flip way) i
then_flipped way (Err fault) = Err fault

-- where a quarter turn isn't refused, the second one makes the half turn of it, and three quarters after it give the
-- image back; and each turn is two flips, refused where they are
pub record HasQuarterTurns (i : Image) : Type 0 where
  pub twice : (j : Image) → applied (Flip Rotate90) i ≡ Ok j → applied (Flip Rotate90) j ≡ applied (Flip Rotate180) i
  pub back : (j : Image) → applied (Flip Rotate90) i ≡ Ok j → applied (Flip Rotate270) j ≡ Ok i
  pub quarter : applied (Flip Rotate90) i ≡ then_flipped TopBottom (applied (Flip Transpose) i)
  pub half : applied (Flip Rotate180) i ≡ then_flipped TopBottom (applied (Flip LeftRight) i)
  pub three_quarters : applied (Flip Rotate270) i ≡ then_flipped Transpose (applied (Flip TopBottom) i)

-- the turns of an image by quarters add up
abbrev pub QuarterTurnsAddUp : Type 0
QuarterTurnsAddUp = (i : Image) → IsImage i → HasQuarterTurns i

-- a rescaled sample q is the nearest to sample * new / old, halves up
abbrev pub SamplesAreNearest : Type 0
SamplesAreNearest = (new old sample q : ℕ) → 0 < old → q ≡ nearest_sample new old sample
    → (2 * old * q ≤ 2 * sample * new + old) × (2 * sample * new + old < 2 * old * q + 2 * old)

-- where no stage refused, a stream is answered by the stream of its results, and the chain refuses none of its images
abbrev pub StreamsAreAnswered : Type 0
StreamsAreAnswered = (tools : List Tool) (faults : List (Option ToolFault)) (is : List Image) (given : List Message)
    → AreLawfulTools tools → AreImages is → AreWell faults → HaveAnswered tools faults (messages_of_stream is) given
    → (js : List Image) × AreResultsInTurn tools is js × AreImages js × (given ≡ messages_of_stream js)
    × (refusal_of tools is ≡ None)

-- the first fault of the stages that a stream has passed is the refusal of the chain, unless memory ran out
abbrev pub FirstFaultIsTheRefusal : Type 0
FirstFaultIsTheRefusal = (tools : List Tool) (faults : List (Option ToolFault)) (is : List Image) (given : List Message)
    (number : ℕ) (fault : ToolFault) → AreLawfulTools tools → AreImages is → AreSound (messages_of_stream is)
    → HaveAnswered tools faults (messages_of_stream is) given → IsFirstFault 1 faults number fault
    → (fault ≡ Memory) ⊎ (refusal_of tools is ≡ Some (record { number = number; fault = fault }))

-- what was given is a prefix of the output due, whatever images complete what was received; and it is sound as well
abbrev pub AnswersAreDue : Type 0
AnswersAreDue = (tools : List Tool) (faults : List (Option ToolFault)) (received given : List Message)
    → AreLawfulTools tools → AreSound received → HaveAnswered tools faults received given
    → AreSound given × ((is : List Image) → Completes is received → IsPrefixOf given (due_in_turn tools is))
