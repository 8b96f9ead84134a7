-- The text of a chain: which texts spell which tools, and what is wrong with every other text.
use Rattle.std.specs.Prelude.{◌≡◌, ◌≢◌, ◌≤◌, ◌↔◌, ◌⊎◌, ℕ, suc, Bool, true, false, nat_lt, ◌==◌, if◌then◌else◌, Option}
use Rattle.std.specs.Prelude.{Some, None, List, [], ◌∷◌, length}
use Rattle.std.specs.List.{slice_split, list_all}
use Rattle.pnm_chain.specs.declared.chain_text.TheConstants.{MAX_TEXT_LENGTH}
use Rattle.pnm_tools.specs.declared.limits.TheConstants.{MAX_TOOLS}
use Rattle.pnm_image.specs.Texts.{is_white, words}
use Rattle.pnm_tools.specs.declared.tool.Tool.{Tool}
use Rattle.pnm_chain.specs.declared.chain_text.ChainFault.{ChainFault}
use Rattle.pnm_chain.specs.declared.chain_text.ChainKind.{ChainKind}
use Rattle.pnm_chain.specs.declared.chain_text.ChainKind.TheVariants.{Empty, TooLong, TooMany, EmptyStage, UnknownTool}
use Rattle.pnm_chain.specs.declared.chain_text.ChainKind.TheVariants.{UnknownOption, MissingValue, BadValue, Conflict}
use Rattle.pnm_chain.specs.declared.chain_text.ChainKind.TheVariants.{MissingArgument, ExtraArgument, Memory}
use Rattle.pnm_chain.specs.declared.options.ToolName.{ToolName}
use Rattle.pnm_chain.specs.Options.{tool_named}
use Rattle.pnm_chain.specs.StageWords.{items_of, Means, fault_after}
use Rattle.pnm_tools.specs.Chains.{IsChain}

-- ---- the grammar

-- the texts between the bars
abbrev pub stage_texts : List ℕ → List (List ℕ)
stage_texts text = slice_split (λ b. b == 124) text

-- a stage's text is a tool's name and what stands after it; its words are the longest runs of bytes that aren't white
-- space
pub record SpellsTool (text : List ℕ) (tool : Tool) : Type 0 where
  pub name : List ℕ
  pub others : List (List ℕ)
  pub tool_name : ToolName
  pub words_are : words text ≡ name ∷ others
  pub named : tool_named name ≡ Some tool_name
  pub meant : Means tool_name (items_of tool_name others) tool

abbrev pub SpellTools : List (List ℕ) → List Tool → Type 0
SpellTools [] [] = Unit {0}
SpellTools [] (tool ∷ tools) = ⊥
SpellTools (text ∷ texts) [] = ⊥
SpellTools (text ∷ texts) (tool ∷ tools) = SpellsTool text tool × SpellTools texts tools

pub record SpellsChain (text : List ℕ) (tools : List Tool) : Type 0 where
  pub short : length text ≤ MAX_TEXT_LENGTH
  pub not_many : length (stage_texts text) ≤ MAX_TOOLS
  pub spelled : SpellTools (stage_texts text) tools

-- ---- faults

-- of a tool that is named so, and the words after its name
abbrev pub named_fault : Option ToolName → List (List ℕ) → Option ChainKind
named_fault None others = Some UnknownTool
named_fault (Some tool) others = fault_after tool [] (items_of tool others)

abbrev pub words_fault : List (List ℕ) → Option ChainKind
words_fault [] = Some EmptyStage
words_fault (name ∷ others) = named_fault (tool_named name) others

abbrev pub stage_fault : List ℕ → Option ChainKind
stage_fault text = words_fault (words text)

-- the first fault of stages by their texts, of which the first has this number
unfoldable pub fault_from : ℕ → List (List ℕ) → Option ChainFault
fault_from number [] = None
fault_from number (text ∷ texts) = elim (stage_fault text) [
  | Some kind ↦ Some (record { stage = number; kind = kind })
  | None ↦ fault_from (suc number) texts
]

-- no stage is at fault, but the whole text
abbrev pub whole_fault : ChainKind → ChainFault
whole_fault kind = record { stage = 0; kind = kind }

unfoldable pub chain_fault_of : List ℕ → Option ChainFault
chain_fault_of text =
    if nat_lt MAX_TEXT_LENGTH (length text) then Some (whole_fault TooLong)
    else if list_all is_white text then Some (whole_fault Empty)
    else if nat_lt MAX_TOOLS (length (stage_texts text)) then Some (whole_fault TooMany)
    else fault_from 1 (stage_texts text)

-- ---- each text is a chain or has a fault

pub record IsOneChainOrOneFault (text : List ℕ) : Type 0 where
  pub spelled : ((tools : List Tool) × SpellsChain text tools) ↔ (chain_fault_of text ≡ None)
  pub one : (tools others : List Tool) → SpellsChain text tools → SpellsChain text others → tools ≡ others

abbrev pub OneChainOrOneFault : Type 0
OneChainOrOneFault = (text : List ℕ) → IsOneChainOrOneFault text

-- a fault is of the whole text, and then its stage is 0, or of a stage, 1 to MAX_TOOLS; none is want of memory
abbrev pub is_of_stage : ChainKind → Bool
is_of_stage Empty = false
is_of_stage TooLong = false
is_of_stage TooMany = false
is_of_stage EmptyStage = true
is_of_stage UnknownTool = true
is_of_stage UnknownOption = true
is_of_stage MissingValue = true
is_of_stage BadValue = true
is_of_stage Conflict = true
is_of_stage MissingArgument = true
is_of_stage ExtraArgument = true
is_of_stage Memory = false

abbrev pub IsPlaced : ChainFault → Type 0
IsPlaced fault = ((is_of_stage fault.kind ≡ true) × (1 ≤ fault.stage) × (fault.stage ≤ MAX_TOOLS))
    ⊎ ((is_of_stage fault.kind ≡ false) × (fault.kind ≢ Memory) × (fault.stage ≡ 0))

abbrev pub ChainFaultsArePlaced : Type 0
ChainFaultsArePlaced = (text : List ℕ) (fault : ChainFault) → chain_fault_of text ≡ Some fault → IsPlaced fault

-- a chain that a text spells can be run
abbrev pub SpelledChainsAreLawful : Type 0
SpelledChainsAreLawful = (text : List ℕ) (tools : List Tool) → SpellsChain text tools → IsChain tools
