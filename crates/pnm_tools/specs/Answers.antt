-- What a filter may have given for the messages that it accepted, and what is due.
use Rattle.std.specs.Prelude.{◌≡◌, ◌⊎◌, ◌≤◌, ℕ, zero, suc, Bool, true, false, List, [], ◌∷◌, ◌++◌, length}
use Rattle.std.specs.Prelude.{Result, Ok, Err}
use Rattle.pnm_image.specs.declared.message.Message.{Message}
use Rattle.pnm_image.specs.declared.message.Message.TheVariants.{Begin, Row, ImageEnd, StreamEnd, Stop}
use Rattle.pnm_image.specs.declared.place.Place.{Place}
use Rattle.pnm_image.specs.declared.place.Place.TheVariants.{Between, Inside, After}
use Rattle.pnm_image.specs.Heads.{HeadValue}
use Rattle.pnm_image.specs.Images.{Image, AreImages, messages_of_image, messages_of_stream}
use Rattle.pnm_image.specs.declared.message.Ending.{Ending}
use Rattle.pnm_image.specs.declared.message.Ending.TheVariants.{BrokenOff}
use Rattle.pnm_image.specs.Messages.{without_stop, EndsBy}
use Rattle.pnm_image.specs.Places.{Accepts, IsLawful, IsLawfulFrom, place_of}
use Rattle.pnm_image.specs.Completion.{IsPrefixOf, Completes}
use Rattle.pnm_tools.specs.declared.fault.ToolFault.{ToolFault}
use Rattle.pnm_tools.specs.declared.fault.ToolFault.TheVariants.{CutOutside, ChannelOutside, TooLarge, OutOfOrder}
use Rattle.pnm_tools.specs.declared.fault.ToolFault.TheVariants.{Memory}
use Rattle.pnm_tools.specs.declared.tool.Tool.{Tool}
use Rattle.pnm_tools.specs.Tools.{result_head, TakesHead, AreTaken, applied, output_due}

-- the images that have ended in messages
abbrev pub images_ended : List Message → ℕ
images_ended [] = 0
images_ended (Begin head ∷ ms) = images_ended ms
images_ended (Row row ∷ ms) = images_ended ms
images_ended (ImageEnd ∷ ms) = suc (images_ended ms)
images_ended (StreamEnd ∷ ms) = images_ended ms
images_ended (Stop ∷ ms) = images_ended ms

-- an image that has begun
abbrev pub begun_of : Place → Bool
begun_of Between = false
begun_of (Inside s y) = true
begun_of After = false

abbrev pub begun_in : List Message → Bool
begun_in l = begun_of (place_of Between (without_stop l))

-- what is due once so many images have ended: all of their results, and the head of the next one's where it has begun
unfoldable pub due_so_far : Tool → ℕ → Bool → List Image → List Message
due_so_far tool ended begun [] = []
due_so_far tool zero false (i ∷ is) = []
due_so_far tool zero true (i ∷ is) = elim (result_head tool i.head) [
  | Ok head ↦ Begin head ∷ []
  | Err fault ↦ []
]
due_so_far tool (suc ended) begun (i ∷ is) = elim (applied tool i) [
  | Ok j ↦ messages_of_image j ++ due_so_far tool ended begun is
  | Err fault ↦ []
]

-- what was given for the messages that were accepted: a prefix of the output due, whatever images complete them; it is
-- broken off only where they are
pub record Answers (tool : Tool) (accepted given : List Message) : Type 0 where
  pub lawful : IsLawful accepted
  pub prefix : (is : List Image) → Completes is accepted → IsPrefixOf (without_stop given) (output_due tool is)
  pub stop : (prefix : List Message) → given ≡ prefix ++ Stop ∷ [] → EndsBy BrokenOff accepted

-- and no image was refused, and all that is due was given, with the same end
pub record AnswersInFull (tool : Tool) (accepted given : List Message) : Type 0 where
  pub answers : Answers tool accepted given
  pub taken : AreTaken tool accepted
  pub all : (is : List Image) → Completes is accepted
      → IsPrefixOf (due_so_far tool (images_ended accepted) (begun_in accepted) is) given
  pub ends : (e : Ending) → EndsBy e accepted → EndsBy e given

-- ---- what a message that is fed meets

abbrev pub IfBegin : Message → (HeadValue → Type 0) → Type 0
IfBegin (Begin head) P = P head
IfBegin (Row row) P = Unit {0}
IfBegin ImageEnd P = Unit {0}
IfBegin StreamEnd P = Unit {0}
IfBegin Stop P = Unit {0}

-- the message may come: all was given for the one before, and it is in order
abbrev pub MayCome : Bool → List Message → Message → Type 0
MayCome all_given accepted m = (all_given ≡ true) × Accepts (place_of Between accepted) m

-- messages may come together: all was given for those before, and they are in order
abbrev pub AllMayCome : Bool → List Message → List Message → Type 0
AllMayCome all_given accepted ms = (all_given ≡ true) × IsLawfulFrom (place_of Between accepted) ms

-- the tool takes the image that begins
abbrev pub Begins : Tool → Message → Type 0
Begins tool m = IfBegin m (TakesHead tool)

-- the tool refuses it so
abbrev pub RefusesHead : Tool → Message → ToolFault → Type 0
RefusesHead tool (Begin head) fault = result_head tool head ≡ Err fault
RefusesHead tool (Row row) fault = ⊥
RefusesHead tool ImageEnd fault = ⊥
RefusesHead tool StreamEnd fault = ⊥
RefusesHead tool Stop fault = ⊥

-- how a message is judged after those that were accepted: each refusal comes exactly where it should, but for memory
abbrev pub Judges : Bool → Tool → List Message → Message → Result (Unit {0}) ToolFault → Type 0
Judges all_given tool accepted m (Ok _) = MayCome all_given accepted m × Begins tool m
Judges all_given tool accepted m (Err OutOfOrder) = (MayCome all_given accepted m → ⊥) ⊎ RefusesHead tool m OutOfOrder
Judges all_given tool accepted m (Err Memory) = MayCome all_given accepted m × Begins tool m
Judges all_given tool accepted m (Err CutOutside) = MayCome all_given accepted m × RefusesHead tool m CutOutside
Judges all_given tool accepted m (Err ChannelOutside) = MayCome all_given accepted m × RefusesHead tool m ChannelOutside
Judges all_given tool accepted m (Err TooLarge) = MayCome all_given accepted m × RefusesHead tool m TooLarge

-- how the first of messages is refused after those that were accepted
abbrev pub RefusesFirst : Bool → Tool → List Message → List Message → ToolFault → Type 0
RefusesFirst all_given tool accepted [] fault = ⊥
RefusesFirst all_given tool accepted (m ∷ ms) fault = Judges all_given tool accepted m (Err fault)

-- how messages that are fed together are judged: all of them are taken, or the first is refused; several are refused
-- only if all of them may come
abbrev pub JudgesAll : Bool → Tool → List Message → List Message → Result (Unit {0}) ToolFault → Type 0
JudgesAll all_given tool accepted ms (Ok _) = AllMayCome all_given accepted ms × AreTaken tool ms
JudgesAll all_given tool accepted ms (Err fault) =
    RefusesFirst all_given tool accepted ms fault × (2 ≤ length ms → AllMayCome all_given accepted ms)

-- ---- laws

-- the results of images, none of which is refused
abbrev pub AreResults : Tool → List Image → List Image → Type 0
AreResults tool [] [] = Unit {0}
AreResults tool [] (j ∷ js) = ⊥
AreResults tool (i ∷ is) [] = ⊥
AreResults tool (i ∷ is) (j ∷ js) = (applied tool i ≡ Ok j) × AreResults tool is js

-- a full answer to a stream is the tool's stream
abbrev pub FullAnswerIsTheStream : Type 0
FullAnswerIsTheStream =
    (tool : Tool) (is : List Image) (given : List Message) → AreImages is
    → AnswersInFull tool (messages_of_stream is) given
    → (js : List Image) × AreResults tool is js × (given ≡ messages_of_stream js)
