-- The tools of a chain and their options, by the names that their manual pages give them, and what each takes:
-- pnminvert(1), pamcut(1), pamdepth(1), pamchannel(1), pamenlarge(1), pamflip(1) and pnmtile(1). Names are exact, and
-- case counts.
use Rattle.std.specs.Prelude.{ℕ, Bool, false, not, ◌==◌, ◌&&◌, ◌||◌, ◌-◌, nat_le, nat_lt, if◌then◌else◌, ℤ, pos, neg_ℤ}
use Rattle.std.specs.Prelude.{Option, Some, None, is_some, unwrap_or, List, [], ◌∷◌, length, codes}
use Rattle.std.specs.List.{list_all, slice_index_or}
use Rattle.std.specs.Option.{option_or}
use Rattle.std.specs.Str.{bytes_eq}
use Rattle.pnm_image.specs.declared.limits.TheConstants.{MAX_DEPTH, MAX_MAXVAL, MAX_TUPLE_TYPE_LENGTH}
use Rattle.pnm_tools.specs.declared.limits.TheConstants.{MAX_EXTENT}
use Rattle.pnm_image.specs.Texts.{is_digit, decimal_value}
use Rattle.pnm_tools.specs.declared.cut.CutBox.{CutBox}
use Rattle.pnm_tools.specs.declared.flip.FlipWay.{FlipWay}
use Rattle.pnm_tools.specs.declared.flip.FlipWay.TheVariants.{Null, LeftRight, TopBottom, Transpose, Rotate90}
use Rattle.pnm_tools.specs.declared.flip.FlipWay.TheVariants.{Rotate180, Rotate270}
use Rattle.pnm_tools.specs.declared.tool.Tool.{Tool}
use Rattle.pnm_tools.specs.declared.tool.Tool.TheVariants as tools
use Rattle.pnm_tools.specs.Channel.{picks}
use Rattle.pnm_chain.specs.declared.options.Arguments.{Arguments}
use Rattle.pnm_chain.specs.declared.options.ToolName.{ToolName}
use Rattle.pnm_chain.specs.declared.options.ToolName.TheVariants.{Invert, Cut, Depth, Channel, Enlarge, Flip, Tile}
use Rattle.pnm_chain.specs.declared.options.ToolOption.{ToolOption}
use Rattle.pnm_chain.specs.declared.options.ToolOption.TheVariants.{Left, Right, Top, Bottom, Width, Height, TupleType}
use Rattle.pnm_chain.specs.declared.options.ToolOption.TheVariants.{XScale, YScale, Way}

-- ---- names

unfoldable pub tool_named : List ℕ → Option ToolName
tool_named name =
    if bytes_eq (codes "pnminvert") name then Some Invert
    else if bytes_eq (codes "pamcut") name then Some Cut
    else if bytes_eq (codes "pamdepth") name then Some Depth
    else if bytes_eq (codes "pamchannel") name then Some Channel
    else if bytes_eq (codes "pamenlarge") name then Some Enlarge
    else if bytes_eq (codes "pamflip") name then Some Flip
    else if bytes_eq (codes "pnmtile") name then Some Tile
    else None

unfoldable pub cut_option : List ℕ → Option ToolOption
cut_option name =
    if bytes_eq (codes "left") name then Some Left
    else if bytes_eq (codes "right") name then Some Right
    else if bytes_eq (codes "top") name then Some Top
    else if bytes_eq (codes "bottom") name then Some Bottom
    else if bytes_eq (codes "width") name then Some Width
    else if bytes_eq (codes "height") name then Some Height
    else None

unfoldable pub channel_option : List ℕ → Option ToolOption
channel_option name = if bytes_eq (codes "tupletype") name then Some TupleType else None

unfoldable pub enlarge_option : List ℕ → Option ToolOption
enlarge_option name =
    if bytes_eq (codes "xscale") name then Some XScale
    else if bytes_eq (codes "yscale") name then Some YScale
    else None

unfoldable pub flip_option : List ℕ → Option ToolOption
flip_option name =
    if bytes_eq (codes "null") name then Some (Way Null)
    else if bytes_eq (codes "lr") name then Some (Way LeftRight)
    else if bytes_eq (codes "leftright") name then Some (Way LeftRight)
    else if bytes_eq (codes "tb") name then Some (Way TopBottom)
    else if bytes_eq (codes "topbottom") name then Some (Way TopBottom)
    else if bytes_eq (codes "xy") name then Some (Way Transpose)
    else if bytes_eq (codes "transpose") name then Some (Way Transpose)
    else None

unfoldable pub turn_option : List ℕ → Option ToolOption
turn_option name =
    if bytes_eq (codes "r90") name then Some (Way Rotate90)
    else if bytes_eq (codes "r180") name then Some (Way Rotate180)
    else if bytes_eq (codes "r270") name then Some (Way Rotate270)
    else None

-- ---- numbers and other values

-- a decimal number is digits and nothing else, with any leading zeros
abbrev pub is_numeral : List ℕ → Bool
is_numeral [] = false
is_numeral (b ∷ word) = is_digit b && list_all is_digit word

-- the word spells a number from the least to the most
abbrev pub spells_number : ℕ → ℕ → List ℕ → Bool
spells_number least most word =
    is_numeral word && (nat_le least (decimal_value word) && nat_le (decimal_value word) most)

-- a width, a height or a scale
abbrev pub spells_extent : List ℕ → Bool
spells_extent word = spells_number 1 MAX_EXTENT word

-- a dash, 45, begins an option's word, and may begin an offset
abbrev pub begins_with_dash : List ℕ → Bool
begins_with_dash [] = false
begins_with_dash (b ∷ word) = b == 45

-- a word without the dash that it begins with, if it does
abbrev pub without_dash : List ℕ → List ℕ
without_dash [] = []
without_dash (b ∷ word) = if b == 45 then word else b ∷ word

-- an offset may have one dash before its number
abbrev pub spells_offset : List ℕ → Bool
spells_offset word = spells_number 0 MAX_EXTENT (without_dash word)

abbrev pub offset_value : List ℕ → ℤ
offset_value word = if begins_with_dash word then neg_ℤ (pos (decimal_value (without_dash word))) else pos
    (decimal_value word)

-- ---- options

-- an option's number, the way to flip that it is, if it is one, and which words are values that it takes
pub record OptionRule : Type 0 where
  pub slot : ℕ
  pub way : Option FlipWay
  pub takes : List ℕ → Bool

abbrev edge_at : ℕ → OptionRule
edge_at slot = record { slot = slot; way = None; takes = spells_offset }

abbrev size_at : ℕ → OptionRule
size_at slot = record { slot = slot; way = None; takes = spells_extent }

-- the ways to flip have one number, since one way alone may stand
abbrev pub option_rule : ToolOption → OptionRule
option_rule Left = edge_at 0
option_rule Right = edge_at 1
option_rule Top = edge_at 2
option_rule Bottom = edge_at 3
option_rule Width = size_at 4
option_rule Height = size_at 5
option_rule TupleType = record { slot = 6; way = None; takes = λ word. nat_le (length word) MAX_TUPLE_TYPE_LENGTH }
option_rule XScale = size_at 7
option_rule YScale = size_at 8
option_rule (Way way) = record { slot = 9; way = Some way; takes = λ word. false }

abbrev pub way_in : ToolOption → Option FlipWay
way_in option = (option_rule option).way

-- a way to flip stands without a value, and all other options have one
abbrev pub wants_value : ToolOption → Bool
wants_value option = not (is_some (way_in option))

-- the word is a value that the option takes
abbrev pub takes_value : ToolOption → List ℕ → Bool
takes_value option word = (option_rule option).takes word

abbrev pub slot_of : ToolOption → ℕ
slot_of option = (option_rule option).slot

-- the two can't both stand: they are one option, or two ways to flip
abbrev pub excludes : ToolOption → ToolOption → Bool
excludes one other = slot_of one == slot_of other

-- ---- what the items of a stage say

-- the edges and sizes of pamcut, the tuple type, the scales and the way to flip, where they are given, and the numbers
-- that the arguments are
pub record Said : Type 0 where
  pub box : CutBox
  pub tuple_type : Option (List ℕ)
  pub across : Option ℕ
  pub down : Option ℕ
  pub way : Option FlipWay
  pub numbers : List ℕ

abbrev never : Said → Bool
never said = false

abbrev fewer_than : ℕ → Said → Bool
fewer_than wanted said = nat_lt (length said.numbers) wanted

abbrev number_at : ℕ → List ℕ → ℕ
number_at at numbers = slice_index_or numbers at 0

abbrev pub has_three : CutBox → Bool
has_three box =
    (is_some box.left && (is_some box.right && is_some box.width))
    || (is_some box.top && (is_some box.bottom && is_some box.height))

abbrev pub has_scale : Said → Bool
has_scale said = is_some said.across || is_some said.down

-- the one argument is both factors; a scale that isn't given is 1
abbrev pub factor_by : List ℕ → Option ℕ → ℕ
factor_by [] scale = unwrap_or scale 1
factor_by (factor ∷ numbers) scale = factor

-- ---- tools

-- a tool's options by their names, the arguments that it takes, what can't stand together, what is too little, and the
-- tool that the rest means
pub record ToolRule : Type 0 where
  pub option : List ℕ → Option ToolOption
  pub arguments : Arguments
  pub conflict : Said → Bool
  pub missing : Said → Bool
  pub meant : Said → Tool

abbrev no_option : List ℕ → Option ToolOption
no_option name = None

-- so many numbers from 1 to the greatest
abbrev pub numbers : ℕ → ℕ → Arguments
numbers count greatest = record { fewest = count; most = count; least = 1; greatest = greatest }

-- a tool that takes so many numbers from 1 to the greatest, and no option
abbrev of_numbers : ℕ → ℕ → (List ℕ → Tool) → ToolRule
of_numbers count greatest meant = record {
  option = no_option;
  arguments = numbers count greatest;
  conflict = never;
  missing = fewer_than count;
  meant = λ said. meant said.numbers;
}

-- no three options of one axis stand together, and no argument beside a scale
abbrev pub tool_rule : ToolName → ToolRule
tool_rule Invert = of_numbers 0 0 (λ numbers. tools.Invert)
tool_rule Cut = record {
  option = cut_option;
  arguments = numbers 0 0;
  conflict = λ said. has_three said.box;
  missing = never;
  meant = λ said. tools.Cut said.box;
}
tool_rule Depth = of_numbers 1 MAX_MAXVAL (λ numbers. tools.Depth (number_at 0 numbers))
tool_rule Channel = record {
  option = channel_option;
  arguments = record { fewest = 1; most = MAX_DEPTH; least = 0; greatest = MAX_DEPTH - 1 };
  conflict = never;
  missing = fewer_than 1;
  meant = λ said. tools.Channel (picks said.numbers (unwrap_or said.tuple_type []));
}
tool_rule Enlarge = record {
  option = enlarge_option;
  arguments = record { fewest = 0; most = 1; least = 1; greatest = MAX_EXTENT };
  conflict = λ said. nat_lt 0 (length said.numbers) && has_scale said;
  missing = λ said. fewer_than 1 said && not (has_scale said);
  meant = λ said. tools.Enlarge (factor_by said.numbers said.across) (factor_by said.numbers said.down);
}
tool_rule Flip = record {
  option = λ name. option_or (flip_option name) (turn_option name);
  arguments = numbers 0 0;
  conflict = never;
  missing = λ said. not (is_some said.way);
  meant = λ said. tools.Flip (unwrap_or said.way Null);
}
tool_rule Tile = of_numbers 2 MAX_EXTENT (λ numbers. tools.Tile (number_at 0 numbers) (number_at 1 numbers))

-- the tool's option of this name
abbrev pub option_named : ToolName → List ℕ → Option ToolOption
option_named tool name = (tool_rule tool).option name

abbrev pub arguments_taken : ToolName → Arguments
arguments_taken tool = (tool_rule tool).arguments

abbrev pub most_arguments : ToolName → ℕ
most_arguments tool = (arguments_taken tool).most

-- the word is an argument that the tool takes
abbrev pub takes_argument : ToolName → List ℕ → Bool
takes_argument tool word = spells_number (arguments_taken tool).least (arguments_taken tool).greatest word
