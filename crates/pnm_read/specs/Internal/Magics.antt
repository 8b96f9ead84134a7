-- What the second byte of a magic names, by whether the image is the first.
use Rattle.std.specs.Prelude.{ℕ, Bool, not, ◌&&◌, if◌then◌else◌, Option, Some, None, Result, Ok, Err}
use Rattle.pnm_read.specs.declared.fault.InputFault.{InputFault}
use Rattle.pnm_read.specs.declared.fault.InputFault.TheVariants.{BadMagic, PlainInStream}
use Rattle.pnm_image.specs.declared.format.Format.{Format}
use Rattle.pnm_image.specs.Formats.{format_of, is_plain_form}

abbrev pub format_allowed : Bool → Option Format → Result Format InputFault
format_allowed is_first None = Err BadMagic
format_allowed is_first (Some format) =
    if is_plain_form format.form && not is_first then Err PlainInStream else Ok format

abbrev pub format_named : Bool → ℕ → Result Format InputFault
format_named is_first b = format_allowed is_first (format_of b)
