-- What the parser of a chain's text holds while it reads: of a stage its settings, and of the chain its tools.
use Rattle.std.specs.Prelude.{◌≡◌, ◌≤◌, ℕ, Bool, nat_le, if◌then◌else◌, Option, Some, None, is_some, option_map}
use Rattle.std.specs.Prelude.{List, [], ◌∷◌, ◌++◌, ◌+◌, length, take, drop, All}
use Rattle.pnm_image.specs.Texts.{decimal_value, words}
use denote.Ref.{Bor}
use Rattle.pnm_tools.specs.declared.tool.Tool.{Tool}
use Rattle.pnm_chain.specs.declared.chain_text.ChainKind.{ChainKind}
use Rattle.pnm_chain.specs.declared.chain_text.ChainKind.TheVariants.{BadValue, ExtraArgument}
use Rattle.pnm_chain.specs.declared.items.Item.{Item as ItemRead}
use Rattle.pnm_chain.specs.declared.items.Item.TheVariants as read
use Rattle.pnm_chain.specs.declared.options.ToolName.{ToolName}
use Rattle.pnm_chain.specs.declared.options.ToolOption.{ToolOption}
use Rattle.pnm_chain.specs.declared.options.ToolOption.TheVariants.{Left, Right, Top, Bottom, Width, Height, TupleType}
use Rattle.pnm_chain.specs.declared.options.ToolOption.TheVariants.{XScale, YScale, Way}
use Rattle.pnm_chain.specs.declared.settings.Settings.{Settings}
use Rattle.pnm_chain.specs.Options.{Said, offset_value, arguments_taken, most_arguments, takes_argument}
use Rattle.pnm_chain.specs.StageWords.{Item, Argument, Given, Unknown, said_of, items_of, fault_after}
use Rattle.pnm_chain.specs.ChainText.{SpellTools, fault_from}

-- ---- items

abbrev pub value_read : Option (Bor (List ℕ)) → Option (List ℕ)
value_read value = option_map (λ v. v.now) value

abbrev pub item_read : ItemRead → Item
item_read (read.Argument word) = Argument word.now
item_read (read.Given option value) = Given option (value_read value)
item_read read.Unknown = Unknown

-- ---- settings

-- what settings say
abbrev pub said_by : Settings → Said
said_by s = record {
  box = s.cut;
  tuple_type = value_read s.tuple_type;
  across = s.across;
  down = s.down;
  way = s.way;
  numbers = s.numbers.items;
}

-- the numbers are such as the tool takes
abbrev pub AreTaken : ToolName → List ℕ → Type 0
AreTaken tool numbers = All (λ number. number ≤ (arguments_taken tool).greatest) numbers

-- the settings are of the tool, and say what the items say
pub record AreSettingsOf (tool : ToolName) (items : List Item) (s : Settings) : Type 0 where
  pub tool_is : s.tool ≡ tool
  pub said_is : said_by s ≡ said_of items
  pub taken : AreTaken tool s.numbers.items

-- the new settings are of the same tool, and say this
pub record NowSay (old : Settings) (said : Said) (new : Settings) : Type 0 where
  pub tool_is : new.tool ≡ old.tool
  pub said_is : said_by new ≡ said

abbrev pub with_number : Said → ℕ → Said
with_number said number = record said { numbers = said.numbers ++ number ∷ [] }

-- where an option is said: whether it is, and what is said once it has a value
pub record HolderRule : Type 0 where
  pub there : Said → Bool
  pub given : Said → Option (List ℕ) → Said

abbrev pub holder_rule : ToolOption → HolderRule
holder_rule Left =
    record {
      there = λ said. is_some said.box.left;
      given = λ said value. record said { box = record said.box { left = option_map offset_value value } };
    }
holder_rule Right =
    record {
      there = λ said. is_some said.box.right;
      given = λ said value. record said { box = record said.box { right = option_map offset_value value } };
    }
holder_rule Top =
    record {
      there = λ said. is_some said.box.top;
      given = λ said value. record said { box = record said.box { top = option_map offset_value value } };
    }
holder_rule Bottom =
    record {
      there = λ said. is_some said.box.bottom;
      given = λ said value. record said { box = record said.box { bottom = option_map offset_value value } };
    }
holder_rule Width =
    record {
      there = λ said. is_some said.box.width;
      given = λ said value. record said { box = record said.box { width = option_map decimal_value value } };
    }
holder_rule Height =
    record {
      there = λ said. is_some said.box.height;
      given = λ said value. record said { box = record said.box { height = option_map decimal_value value } };
    }
holder_rule TupleType =
    record { there = λ said. is_some said.tuple_type; given = λ said value. record said { tuple_type = value } }
holder_rule XScale = record {
  there = λ said. is_some said.across;
  given = λ said value. record said { across = option_map decimal_value value };
}
holder_rule YScale = record {
  there = λ said. is_some said.down;
  given = λ said value. record said { down = option_map decimal_value value };
}
holder_rule (Way way) =
    record { there = λ said. is_some said.way; given = λ said value. record said { way = Some way } }

abbrev pub has_option : Said → ToolOption → Bool
has_option said option = (holder_rule option).there said

-- with an option, which has this value
abbrev pub with_option : Said → ToolOption → Option (List ℕ) → Said
with_option said option value = (holder_rule option).given said value

abbrev pub argument_fault : ToolName → Settings → List ℕ → Option ChainKind
argument_fault tool s word =
    if nat_le (most_arguments tool) (length s.numbers.items) then Some ExtraArgument
    else if takes_argument tool word then None
    else Some BadValue

-- a stage's text while it is read: these items have been, and the others are those of the rest of it
pub record IsReading (tool : ToolName) (items : List Item) (s : Settings) (rest : List ℕ) : Type 0 where
  pub before : List Item
  pub settings_are : AreSettingsOf tool before s
  pub items_are : items ≡ before ++ items_of tool (words rest)
  pub fault_is : fault_after tool [] items ≡ fault_after tool before (items_of tool (words rest))

-- a chain's text while it is read: the tools of the first n stages have been, and no fault was met
pub record AreRead (texts : List (List ℕ)) (n : ℕ) (tools : List Tool) : Type 0 where
  pub count_is : length tools ≡ n
  pub spelled : SpellTools (take n texts) tools
  pub fault_is : fault_from 1 texts ≡ fault_from (n + 1) (drop n texts)
