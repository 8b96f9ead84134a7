-- Between functions: what the words of the command line say, as `clap` reads them.
use Rattle.std.specs.Prelude.{◌≡◌, ◌≢◌, ◌⊎◌, Option, Some, None, Bool}
use Rattle.std.specs.Prelude.{true, false}
use Rattle.pnm_image.specs.declared.format.Form.{Form}
use Rattle.pnm_image.specs.declared.format.Form.TheVariants.{Raw, Plain}
use Rattle.clap.specs.declared.error.kind.ErrorKind.{ErrorKind}
use Rattle.clap.specs.declared.error.kind.ErrorKind.TheVariants.{DisplayHelp, DisplayVersion, OutOfMemory}
use Rattle.pnm_command_line.specs.declared.command_line.CommandLineFault.{CommandLineFault}
use Rattle.pnm_command_line.specs.declared.command_line.CommandLineFault.TheVariants.{Help, Version, Usage, Memory}

-- the form that a flag asks for
abbrev pub form_by : Option Bool → Form
form_by None = Raw
form_by (Some false) = Raw
form_by (Some true) = Plain

-- the fault fits the kind of an error
abbrev pub FitsKind : ErrorKind → CommandLineFault → Type 0
FitsKind kind (Help text) = kind ≡ DisplayHelp
FitsKind kind Version = kind ≡ DisplayVersion
FitsKind kind Usage = (kind ≢ DisplayHelp) × (kind ≢ DisplayVersion) × (kind ≢ OutOfMemory)
FitsKind kind Memory = (kind ≡ OutOfMemory) ⊎ (kind ≡ DisplayHelp)
