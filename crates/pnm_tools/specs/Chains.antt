-- What a chain of tools makes of images, and what is due from it.
use Rattle.std.specs.Prelude.{◌≡◌, ◌≤◌, ℕ, ◌+◌, length, List, [], ◌∷◌, ◌++◌, Option, Some, None, Result, Ok, Err}
use Rattle.pnm_image.specs.declared.message.Message.{Message}
use Rattle.pnm_image.specs.declared.message.Message.TheVariants.{StreamEnd}
use Rattle.pnm_image.specs.Images.{Image, messages_of_image}
use Rattle.pnm_tools.specs.declared.limits.TheConstants.{MAX_TOOLS}
use Rattle.pnm_tools.specs.declared.fault.ToolFault.{ToolFault}
use Rattle.pnm_tools.specs.declared.tool.Tool.{Tool}
use Rattle.pnm_tools.specs.Tools.{IsLawfulTool, applied}

-- a chain of lawful tools
abbrev pub AreLawfulTools : List Tool → Type 0
AreLawfulTools [] = Unit {0}
AreLawfulTools (tool ∷ tools) = IsLawfulTool tool × AreLawfulTools tools

-- 1 to MAX_TOOLS tools whose options are in their ranges
pub record IsChain (tools : List Tool) : Type 0 where
  pub some : 1 ≤ length tools
  pub not_many : length tools ≤ MAX_TOOLS
  pub lawful : AreLawfulTools tools

-- what the tools make of an image, one after another; the first refusal of one of them
abbrev pub applied_in_turn : List Tool → Image → Result Image ToolFault
applied_in_turn [] i = Ok i
applied_in_turn (tool ∷ tools) i = elim (applied tool i) [
  | Ok j ↦ applied_in_turn tools j
  | Err fault ↦ Err fault
]

-- the results of images, none of which is refused
abbrev pub AreResultsInTurn : List Tool → List Image → List Image → Type 0
AreResultsInTurn tools [] [] = Unit {0}
AreResultsInTurn tools [] (j ∷ js) = ⊥
AreResultsInTurn tools (i ∷ is) [] = ⊥
AreResultsInTurn tools (i ∷ is) (j ∷ js) = (applied_in_turn tools i ≡ Ok j) × AreResultsInTurn tools is js

-- the output due for images: the messages of each result before the first image that is refused, and the end of the
-- stream where none is
unfoldable pub due_in_turn : List Tool → List Image → List Message
due_in_turn tools [] = StreamEnd ∷ []
due_in_turn tools (i ∷ is) = elim (applied_in_turn tools i) [
  | Ok j ↦ messages_of_image j ++ due_in_turn tools is
  | Err fault ↦ []
]

-- the results of one tool, or its refusal of the first image that it refuses
abbrev pub results_of : Tool → List Image → Result (List Image) ToolFault
results_of tool [] = Ok []
results_of tool (i ∷ is) = elim (applied tool i) [
  | Ok j ↦ elim (results_of tool is) [ Ok js ↦ Ok (j ∷ js) | Err fault ↦ Err fault ]
  | Err fault ↦ Err fault
]

-- a tool by its number, and why it refused
pub record Refusal : Type 0 where
  pub number : ℕ
  pub fault : ToolFault

-- the refusal of the first tool that refuses one of the images which the tools before it made, none of which refused
-- one; the first tool has this number
abbrev pub refusal_from : ℕ → List Tool → List Image → Option Refusal
refusal_from number [] is = None
refusal_from number (tool ∷ tools) is = elim (results_of tool is) [
  | Ok js ↦ refusal_from (number + 1) tools js
  | Err fault ↦ Some (record { number = number; fault = fault })
]

-- the refusal of a chain whose tools are numbered from 1
abbrev pub refusal_of : List Tool → List Image → Option Refusal
refusal_of tools is = refusal_from 1 tools is
