-- What the words of the command line say, as `clap` reads them.
use Rattle.std.specs.Str.Parse.{digits_value, without_leading_plus}
use Rattle.std.specs.Prelude.{◌≡◌, ◌≢◌, ◌≤◌, ◌∷◌, ℕ, List, [], Option, Some, codes}
use Rattle.std.specs.Prelude.{pos, true}
use Rattle.pnm_image.specs.declared.format.Form.{Form}
use Rattle.pnm_image.specs.declared.format.Form.TheVariants.{Raw, Plain}
pub use Rattle.clap.specs.Words.{Text}
use Rattle.clap.specs.Words.{App, Rule, IsAmong, fault_of, first_of, matches_of, one_of, new_app, new_rule, with_rule}
use Rattle.clap.specs.Simple.{on_top}
use Rattle.clap.specs.declared.builder.action.ArgAction.TheVariants.{Set, SetTrue}
use Rattle.clap.specs.declared.builder.value_parser.ValueParser.{ValueParser}
use Rattle.clap.specs.declared.builder.value_parser.ValueParser.TheVariants.{Signed}
use Rattle.clap.specs.declared.error.kind.ErrorKind.{ErrorKind}
use Rattle.clap.specs.declared.error.kind.ErrorKind.TheVariants.{DisplayHelp, DisplayVersion}
use Rattle.pnm_lanes.specs.declared.lane.TheConstants.{MAX_LANES}
use Rattle.pnm_stages.specs.declared.ring.TheConstants.{MAX_RING_CAPACITY}
use Rattle.pnm_command_line.specs.declared.command_line.CommandLineFault.{CommandLineFault}
use Rattle.pnm_command_line.specs.declared.command_line.CommandLineFault.TheVariants.{Help, Version, Usage, Memory}

-- an option `--NAME` that takes what this parser does, where it isn't given that of this text
abbrev pub value_rule : Text → Text → ValueParser → Rule
value_rule name default parser = record (new_rule name) {
  long = Some name;
  value_names = 1;
  action = Some Set;
  defaults = default ∷ [];
  parser = Some parser;
}

-- an option that takes a number from 1 to this one
abbrev pub number_rule : Text → Text → ℕ → Rule
number_rule name default high = value_rule name default (Signed (pos 1) (pos high))

-- `--ring N`: what a ring may hold, where it isn't given 64
abbrev pub ring_rule : Rule
ring_rule = number_rule (codes "ring") (codes "64") MAX_RING_CAPACITY

-- `--lanes K`: how many a tool may have, where it isn't given 1
abbrev pub lanes_rule : Rule
lanes_rule = number_rule (codes "lanes") (codes "1") MAX_LANES

-- `--plain`: a flag
abbrev pub plain_rule : Rule
plain_rule = record (new_rule (codes "plain")) { long = Some (codes "plain"); action = Some SetTrue }

-- one text, which has to be given
abbrev pub chain_rule : Rule
chain_rule = record (new_rule (codes "CHAIN")) { action = Some Set; required = true }

-- the program's name, and that it has a version
abbrev pub named : App
named = on_top (λ top. record top { has_version = true }) (new_app (codes "pnmpipe"))

-- the command that the words are read by; `clap` adds `--help` and `-h` to it, and `--version` and `-V`
abbrev pub program : App
program = with_rule (with_rule (with_rule (with_rule named ring_rule) lanes_rule) plain_rule) chain_rule

-- the words, of which the first is the program's name, are a command line, and this is its CHAIN
pub record GivesChain (words : List Text) (chain : Text) : Type 0 where
  pub taken : fault_of program words ≡ []
  pub given : first_of (codes "CHAIN") (matches_of program words) ≡ Some chain

-- the text that the value of the option of this name is read from
abbrev pub value_text : Text → List Text → Option Text
value_text name words = one_of name (matches_of program words)

-- the words give the option of this name this number, which is 1 or more and no higher than that
pub record GivesNumber (name : Text) (high : ℕ) (words : List Text) (number : ℕ) : Type 0 where
  pub least : 1 ≤ number
  pub most : number ≤ high
  pub text : Text
  pub given : value_text name words ≡ Some text
  pub spelled : number ≡ digits_value 10 (without_leading_plus text)

-- the text of `--ring`, and its number
abbrev pub ring_of : List Text → Option Text
ring_of = value_text (codes "ring")

abbrev pub GivesRing : List Text → ℕ → Type 0
GivesRing = GivesNumber (codes "ring") MAX_RING_CAPACITY

-- the text of `--lanes`, and its number
abbrev pub lanes_of : List Text → Option Text
lanes_of = value_text (codes "lanes")

abbrev pub GivesLanes : List Text → ℕ → Type 0
GivesLanes = GivesNumber (codes "lanes") MAX_LANES

-- the text of `--plain`: `true` where the flag is among the words, and else `false`
abbrev pub plain_of : List Text → Option Text
plain_of = value_text (codes "plain")

-- the words give this form: plain exactly where the flag is among them
abbrev pub GivesForm : List Text → Form → Type 0
GivesForm words Raw = plain_of words ≢ Some (codes "true")
GivesForm words Plain = plain_of words ≡ Some (codes "true")

-- the first thing that isn't read on past is a call for help
abbrev pub AsksForHelp : List Text → Type 0
AsksForHelp words = IsAmong DisplayHelp (fault_of program words)

-- it is a call for the version
abbrev pub AsksForVersion : List Text → Type 0
AsksForVersion words = IsAmong DisplayVersion (fault_of program words)

-- it is something else
abbrev pub IsNoCommandLine : List Text → Type 0
IsNoCommandLine words = (kind : ErrorKind) × (kind ≢ DisplayHelp) × (kind ≢ DisplayVersion)
    × IsAmong kind (fault_of program words)

-- the fault fits the words
abbrev pub IsFaultOfWords : List Text → CommandLineFault → Type 0
IsFaultOfWords words (Help text) = AsksForHelp words
IsFaultOfWords words Version = AsksForVersion words
IsFaultOfWords words Usage = IsNoCommandLine words
IsFaultOfWords words Memory = Unit {0}
