-- The seven formats, from pbm(5), pgm(5), ppm(5) and pam(5), by the magic that each begins with.
use Rattle.std.specs.Prelude.{ℕ, Bool, true, false, ◌==◌, if◌then◌else◌, List, Option, Some, None, codes}
use Rattle.std.specs.Str.{byte}
use Rattle.pnm_image.specs.declared.shape.Kind.{Kind}
use Rattle.pnm_image.specs.declared.shape.Kind.TheVariants.{Bit, Gray, Color, Pam}
use Rattle.pnm_image.specs.declared.format.Form.{Form}
use Rattle.pnm_image.specs.declared.format.Form.TheVariants.{Raw, Plain}
use Rattle.pnm_image.specs.declared.format.Format.{Format}

-- samples are written as text
abbrev pub is_plain_form : Form → Bool
is_plain_form Raw = false
is_plain_form Plain = true

abbrev pub plain : Kind → Option Format
plain kind = Some (record { kind = kind; form = Plain })

abbrev pub raw : Kind → Option Format
raw kind = Some (record { kind = kind; form = Raw })

-- the format that the second byte of a magic names: 1 to 7
abbrev pub format_of : ℕ → Option Format
format_of b =
    if b == byte "1" then plain Bit
    else if b == byte "2" then plain Gray
    else if b == byte "3" then plain Color
    else if b == byte "4" then raw Bit
    else if b == byte "5" then raw Gray
    else if b == byte "6" then raw Color
    else if b == byte "7" then raw Pam
    else None

-- the magic of a format; there is no plain PAM, of which this says nothing
abbrev pub magic_of : Kind → Form → List ℕ
magic_of Bit Plain = codes "P1"
magic_of Gray Plain = codes "P2"
magic_of Color Plain = codes "P3"
magic_of Bit Raw = codes "P4"
magic_of Gray Raw = codes "P5"
magic_of Color Raw = codes "P6"
magic_of Pam form = codes "P7"
