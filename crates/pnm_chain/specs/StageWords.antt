-- What stands in a stage of a chain after the tool's name, and the tool that it means.
use Rattle.std.specs.Prelude.{◌≡◌, ◌≤◌, ℕ, Bool, true, false, not, ◌==◌, ◌&&◌, nat_le, if◌then◌else◌}
use Rattle.std.specs.Prelude.{Option, Some, None, is_some, option_map, unwrap_or, List, [], ◌∷◌, ◌++◌, length, map}
use Rattle.std.specs.Option.{option_map_or, option_or}
use Rattle.std.specs.List.{before_first, after_first, list_any, AllByRecursion, IsDistinct}
use Rattle.pnm_image.specs.Texts.{decimal_value}
use Rattle.pnm_tools.specs.declared.cut.CutBox.{CutBox}
use Rattle.pnm_tools.specs.declared.flip.FlipWay.{FlipWay}
use Rattle.pnm_tools.specs.declared.tool.Tool.{Tool}
use Rattle.pnm_chain.specs.declared.chain_text.ChainKind.{ChainKind}
use Rattle.pnm_chain.specs.declared.chain_text.ChainKind.TheVariants.{UnknownOption, MissingValue, BadValue, Conflict}
use Rattle.pnm_chain.specs.declared.chain_text.ChainKind.TheVariants.{MissingArgument, ExtraArgument}
use Rattle.pnm_chain.specs.declared.options.ToolName.{ToolName}
use Rattle.pnm_chain.specs.declared.options.ToolOption.{ToolOption}
use Rattle.pnm_chain.specs.declared.options.ToolOption.TheVariants.{Left, Right, Top, Bottom, Width, Height, TupleType}
use Rattle.pnm_chain.specs.declared.options.ToolOption.TheVariants.{XScale, YScale}
use Rattle.pnm_chain.specs.Options.{Said, tool_rule, option_named, way_in, wants_value, takes_value, excludes}
use Rattle.pnm_chain.specs.Options.{most_arguments, takes_argument, offset_value, begins_with_dash, without_dash}

-- an argument; an option of the tool, with the value that it is given, if it is; or an option that the tool hasn't
pub data Item : Type 0 where
  Argument : (word : List ℕ) → Item
  Given : (option : ToolOption) (value : Option (List ℕ)) → Item
  Unknown : Item

-- ---- an option's word: one or two dashes and a name, which ends at the first =, where a value follows

abbrev pub without_dashes : List ℕ → List ℕ
without_dashes word = without_dash (without_dash word)

abbrev pub name_in : List ℕ → List ℕ
name_in word = before_first (λ b. b == 61) (without_dashes word)

abbrev pub value_in : List ℕ → Option (List ℕ)
value_in word =
    if list_any (λ b. b == 61) (without_dashes word) then Some
    (after_first (λ b. b == 61) (without_dashes word)) else None

-- ---- items

-- the word is an option whose value is the next word, whatever that begins with
abbrev pub takes_next : ToolName → List ℕ → Bool
takes_next tool word =
    begins_with_dash word
    && (option_map_or wants_value (option_named tool (name_in word)) false && not (is_some (value_in word)))

abbrev pub given_as : Option ToolOption → Option (List ℕ) → Item
given_as None value = Unknown
given_as (Some option) value = Given option value

-- the item of a word, with the value in it, or else the next word, where it takes that
abbrev pub item_of : ToolName → List ℕ → Option (List ℕ) → Item
item_of tool word next = if begins_with_dash word then given_as (option_named tool (name_in word))
    (option_or (value_in word) next) else Argument word

unfoldable pub items_of : ToolName → List (List ℕ) → List Item
items_of tool [] = []
items_of tool (word ∷ []) = item_of tool word None ∷ []
items_of tool (word ∷ next ∷ words) =
    if takes_next tool word then item_of tool word (Some next) ∷ items_of tool words
    else item_of tool word None ∷ items_of tool (next ∷ words)

-- the words of the arguments
abbrev pub arguments_of : List Item → List (List ℕ)
arguments_of [] = []
arguments_of (Argument word ∷ items) = word ∷ arguments_of items
arguments_of (Given option value ∷ items) = arguments_of items
arguments_of (Unknown ∷ items) = arguments_of items

-- the value that an option is given, empty where it has none
abbrev pub option_value : ToolOption → List Item → Option (List ℕ)
option_value option [] = None
option_value option (Argument word ∷ items) = option_value option items
option_value option (Given other value ∷ items) =
    if excludes option other then Some (unwrap_or value []) else option_value option items
option_value option (Unknown ∷ items) = option_value option items

-- the option, or one that excludes it, is among the items
abbrev pub is_there : ToolOption → List Item → Bool
is_there option items = is_some (option_value option items)

-- the first way to flip
abbrev pub way_of : List Item → Option FlipWay
way_of [] = None
way_of (Argument word ∷ items) = way_of items
way_of (Given option value ∷ items) = option_or (way_in option) (way_of items)
way_of (Unknown ∷ items) = way_of items

-- ---- what items say

abbrev pub option_number : ToolOption → List Item → Option ℕ
option_number option items = option_map decimal_value (option_value option items)

-- the edges and sizes of pamcut
abbrev pub box_of : List Item → CutBox
box_of items = record {
  left = option_map offset_value (option_value Left items);
  right = option_map offset_value (option_value Right items);
  top = option_map offset_value (option_value Top items);
  bottom = option_map offset_value (option_value Bottom items);
  width = option_number Width items;
  height = option_number Height items;
}

abbrev pub numbers_of : List Item → List ℕ
numbers_of items = map decimal_value (arguments_of items)

abbrev pub said_of : List Item → Said
said_of items = record {
  box = box_of items;
  tuple_type = option_value TupleType items;
  across = option_number XScale items;
  down = option_number YScale items;
  way = way_of items;
  numbers = numbers_of items;
}

-- ---- which items mean a tool

-- an argument is one that the tool takes; an option is one of the tool's, and has a value that it takes just where it
-- wants one
abbrev pub IsFormed : ToolName → Item → Type 0
IsFormed tool (Argument word) = takes_argument tool word ≡ true
IsFormed tool (Given option None) = wants_value option ≡ false
IsFormed tool (Given option (Some word)) = takes_value option word ≡ true
IsFormed tool Unknown = ⊥

-- the options, in order
abbrev pub options_of : List Item → List ToolOption
options_of [] = []
options_of (Argument word ∷ items) = options_of items
options_of (Given option value ∷ items) = option ∷ options_of items
options_of (Unknown ∷ items) = options_of items

abbrev pub is_conflict : ToolName → List Item → Bool
is_conflict tool items = (tool_rule tool).conflict (said_of items)

-- the tool wants more than these
abbrev pub is_missing : ToolName → List Item → Bool
is_missing tool items = (tool_rule tool).missing (said_of items)

-- the tool, where the items are such as can mean one
abbrev pub meant_by : ToolName → List Item → Tool
meant_by tool items = (tool_rule tool).meant (said_of items)

-- ---- the items that a tool is called by

-- the items are what this tool is called by: each formed, no option twice, and neither too few nor such as can't stand
-- together
pub record Means (tool : ToolName) (items : List Item) (meaning : Tool) : Type 0 where
  pub formed : AllByRecursion (IsFormed tool) items
  pub once : IsDistinct excludes (options_of items)
  pub not_many : length (arguments_of items) ≤ most_arguments tool
  pub together : is_conflict tool items ≡ false
  pub enough : is_missing tool items ≡ false
  pub meaning_is : meaning ≡ meant_by tool items

-- ---- the first fault of items, each judged after those before it

abbrev pub value_fault : ToolOption → Option (List ℕ) → Option ChainKind
value_fault option None = if wants_value option then Some MissingValue else None
value_fault option (Some word) = if takes_value option word then None else Some BadValue

abbrev pub item_fault : ToolName → List Item → Item → Option ChainKind
item_fault tool before (Argument word) =
    if nat_le (most_arguments tool) (length (arguments_of before)) then Some ExtraArgument
    else if takes_argument tool word then None
    else Some BadValue
item_fault tool before (Given option value) = if is_there option before then Some Conflict else value_fault option value
item_fault tool before Unknown = Some UnknownOption

abbrev pub end_fault : ToolName → List Item → Option ChainKind
end_fault tool items =
    if is_conflict tool items then Some Conflict
    else if is_missing tool items then Some MissingArgument
    else None

unfoldable pub fault_after : ToolName → List Item → List Item → Option ChainKind
fault_after tool before [] = end_fault tool before
fault_after tool before (item ∷ items) = elim (item_fault tool before item) [
  | Some kind ↦ Some kind
  | None ↦ fault_after tool (before ++ item ∷ []) items
]
