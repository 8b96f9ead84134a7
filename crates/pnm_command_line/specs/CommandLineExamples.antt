-- Small command lines, and what they give.
use Rattle.std.specs.Prelude.{◌≡◌, ◌∷◌, List, [], Some, codes}
use Rattle.clap.specs.Words.{Kinds, Text, fault_of}
use Rattle.clap.specs.declared.error.kind.ErrorKind.TheVariants.{ArgumentConflict, DisplayHelp, DisplayVersion}
use Rattle.clap.specs.declared.error.kind.ErrorKind.TheVariants.{InvalidValue, MissingRequiredArgument, TooManyValues}
use Rattle.clap.specs.declared.error.kind.ErrorKind.TheVariants.{UnknownArgument, ValueValidation}
use Rattle.pnm_image.specs.declared.format.Form.{Form}
use Rattle.pnm_image.specs.declared.format.Form.TheVariants.{Raw, Plain}
use Rattle.pnm_command_line.specs.CommandLine.{AsksForHelp, AsksForVersion, GivesChain, GivesForm, lanes_of, program}
use Rattle.pnm_command_line.specs.CommandLine.{ring_of}

-- `-` is code 45
abbrev pub BeginsWithDash : Text → Type 0
BeginsWithDash text = (rest : Text) × (text ≡ 45 ∷ rest)

-- these words after the program's name give this chain, and `--ring` this number
pub record GivesBoth (words : List Text) (text number : Text) : Type 0 where
  pub chain : GivesChain (codes "pnmpipe" ∷ words) text
  pub ring : ring_of (codes "pnmpipe" ∷ words) ≡ Some number

-- and `--lanes` that one
pub record GivesAll (words : List Text) (text messages threads : Text) : Type 0 where
  pub both : GivesBoth words text messages
  pub lanes : lanes_of (codes "pnmpipe" ∷ words) ≡ Some threads

-- these words after the program's name give this chain, and the results' form
pub record GivesFormToo (words : List Text) (text : Text) (wanted : Form) : Type 0 where
  pub chain : GivesChain (codes "pnmpipe" ∷ words) text
  pub form : GivesForm (codes "pnmpipe" ∷ words) wanted

-- these words after the program's name fail so
abbrev pub FailBy : List Text → Kinds → Type 0
FailBy words kinds = fault_of program (codes "pnmpipe" ∷ words) ≡ kinds

pub record CommandLinesHold : Type 0 where
  -- one word after the program's name is the chain, unless it begins with a dash
  pub alone : (name chain : Text) → (BeginsWithDash chain → ⊥) → GivesChain (name ∷ chain ∷ []) chain
  -- no words ask for help and for the version
  pub asks_once : (words : List Text) → AsksForHelp words → AsksForVersion words → ⊥
  pub both_left_out : GivesAll (codes "pnminvert" ∷ []) (codes "pnminvert") (codes "64") (codes "1")
  pub ring_before : GivesBoth (codes "--ring" ∷ codes "1" ∷ codes "pnminvert" ∷ []) (codes "pnminvert") (codes "1")
  pub ring_after : GivesBoth (codes "pnminvert" ∷ codes "--ring" ∷ codes "1024" ∷ []) (codes "pnminvert") (codes "1024")
  pub ring_attached : GivesBoth (codes "--ring=7" ∷ codes "pnminvert" ∷ []) (codes "pnminvert") (codes "7")
  pub lanes_before : GivesAll (codes "--lanes" ∷ codes "8" ∷ codes "pnminvert" ∷ []) (codes "pnminvert") (codes "64")
      (codes "8")
  pub ring_and_lanes : GivesAll (codes "--ring" ∷ codes "2" ∷ codes "pnminvert" ∷ codes "--lanes=3" ∷ [])
      (codes "pnminvert") (codes "2") (codes "3")
  pub plain_left_out : GivesFormToo (codes "pnminvert" ∷ []) (codes "pnminvert") Raw
  pub plain_before : GivesFormToo (codes "--plain" ∷ codes "pnminvert" ∷ []) (codes "pnminvert") Plain
  pub plain_after : GivesFormToo (codes "--ring" ∷ codes "2" ∷ codes "pnminvert" ∷ codes "--plain" ∷ [])
      (codes "pnminvert") Plain
  pub plain_after_dashes : GivesFormToo (codes "--" ∷ codes "--plain" ∷ []) (codes "--plain") Raw
  pub after_dashes : GivesBoth (codes "--" ∷ codes "--help" ∷ []) (codes "--help") (codes "64")
  pub empty_chain : GivesBoth ([] ∷ []) [] (codes "64")
  pub no_chain : FailBy [] (MissingRequiredArgument ∷ [])
  pub no_name : fault_of program [] ≡ MissingRequiredArgument ∷ []
  pub two_chains : FailBy (codes "a" ∷ codes "b" ∷ []) (UnknownArgument ∷ [])
  pub ring_zero : FailBy (codes "--ring" ∷ codes "0" ∷ codes "a" ∷ []) (ValueValidation ∷ [])
  pub ring_large : FailBy (codes "--ring" ∷ codes "1025" ∷ codes "a" ∷ []) (ValueValidation ∷ [])
  pub ring_letter : FailBy (codes "--ring" ∷ codes "x" ∷ codes "a" ∷ []) (ValueValidation ∷ [])
  pub ring_negative : FailBy (codes "--ring" ∷ codes "-1" ∷ codes "a" ∷ []) (UnknownArgument ∷ [])
  pub ring_alone : FailBy (codes "a" ∷ codes "--ring" ∷ []) (InvalidValue ∷ [])
  pub ring_twice : FailBy (codes "--ring" ∷ codes "1" ∷ codes "--ring" ∷ codes "1" ∷ codes "a" ∷ [])
      (ArgumentConflict ∷ [])
  pub lanes_zero : FailBy (codes "--lanes" ∷ codes "0" ∷ codes "a" ∷ []) (ValueValidation ∷ [])
  pub lanes_large : FailBy (codes "--lanes" ∷ codes "9" ∷ codes "a" ∷ []) (ValueValidation ∷ [])
  pub lanes_letter : FailBy (codes "--lanes" ∷ codes "x" ∷ codes "a" ∷ []) (ValueValidation ∷ [])
  pub lanes_twice : FailBy (codes "--lanes" ∷ codes "1" ∷ codes "--lanes" ∷ codes "1" ∷ codes "a" ∷ [])
      (ArgumentConflict ∷ [])
  pub plain_twice : FailBy (codes "--plain" ∷ codes "--plain" ∷ codes "a" ∷ []) (ArgumentConflict ∷ [])
  pub plain_alone : FailBy (codes "--plain" ∷ []) (MissingRequiredArgument ∷ [])
  pub unknown : FailBy (codes "--raw" ∷ codes "2" ∷ codes "a" ∷ []) (UnknownArgument ∷ [])
  pub help : FailBy (codes "--help" ∷ []) (DisplayHelp ∷ [])
  pub short_help : FailBy (codes "a" ∷ codes "-h" ∷ []) (DisplayHelp ∷ [])
  pub help_before_fault : FailBy (codes "--help" ∷ codes "--raw" ∷ []) (DisplayHelp ∷ [])
  pub fault_before_help : FailBy (codes "--raw" ∷ codes "--help" ∷ []) (UnknownArgument ∷ [])
  pub bad_ring_before_help : FailBy (codes "--ring" ∷ codes "0" ∷ codes "--help" ∷ []) (ValueValidation ∷ [])
  pub version : FailBy (codes "--version" ∷ []) (DisplayVersion ∷ [])
  pub short_version : FailBy (codes "a" ∷ codes "-V" ∷ []) (DisplayVersion ∷ [])
  pub version_before_fault : FailBy (codes "--version" ∷ codes "--raw" ∷ []) (DisplayVersion ∷ [])
  pub fault_before_version : FailBy (codes "--raw" ∷ codes "--version" ∷ []) (UnknownArgument ∷ [])
  pub version_before_help : FailBy (codes "--version" ∷ codes "--help" ∷ []) (DisplayVersion ∷ [])
  pub help_before_version : FailBy (codes "--help" ∷ codes "--version" ∷ []) (DisplayHelp ∷ [])
  pub both_in_a_word : FailBy (codes "-hV" ∷ []) (DisplayHelp ∷ [])
  pub version_of_value : FailBy (codes "--version=x" ∷ []) (TooManyValues ∷ [])
  pub version_after_dashes : GivesBoth (codes "--" ∷ codes "--version" ∷ []) (codes "--version") (codes "64")
