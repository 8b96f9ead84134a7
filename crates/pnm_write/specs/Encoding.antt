-- The bytes of images and of messages in either form. From pbm(5), pgm(5), ppm(5) and pam(5), 'The layout'. There is no
-- plain PAM: what is said of one means nothing.
use Rattle.std.specs.Prelude.{ℕ, ◌/◌, ◌%◌, List, [], ◌∷◌, ◌++◌, codes, decimal}
use Rattle.std.specs.List.{flat_map}
use Rattle.pnm_image.specs.declared.message.Message.{Message}
use Rattle.pnm_image.specs.declared.message.Message.TheVariants.{Begin, Row, ImageEnd, StreamEnd, Stop}
use Rattle.pnm_image.specs.declared.place.Place.{Place}
use Rattle.pnm_image.specs.declared.place.Place.TheVariants.{Between, Inside, After}
use Rattle.pnm_image.specs.declared.shape.Kind.{Kind}
use Rattle.pnm_image.specs.declared.shape.Kind.TheVariants.{Bit, Gray, Color, Pam}
use Rattle.pnm_image.specs.declared.shape.Shape.{Shape}
use Rattle.pnm_image.specs.declared.format.Form.{Form}
use Rattle.pnm_image.specs.declared.format.Form.TheVariants.{Raw, Plain}
use Rattle.pnm_image.specs.Formats.{magic_of}
use Rattle.pnm_image.specs.Heads.{HeadValue}
use Rattle.pnm_image.specs.Images.{Image, rows_of}
pub use Rattle.pnm_samples.specs.Pixels.{packed_bytes}
use Rattle.pnm_image.specs.SampleWidths.{sample_width_of}
use Rattle.pnm_image.specs.Places.{place_after}
use Rattle.pnm_write.specs.PlainRows.{plain_row_text}
use Rattle.pnm_write.specs.Forms.{taken_by}
use Rattle.pnm_image.specs.declared.sample_width.SampleWidth.{SampleWidth}
use Rattle.pnm_image.specs.declared.sample_width.SampleWidth.TheVariants.{Bits, Bytes, Words}

-- ---- headers: numbers are decimal, without leading zeros

-- the width and the height
abbrev pub size_line : Shape → List ℕ
size_line s = decimal s.width ++ codes " " ++ decimal s.height ++ codes "\n"

-- the maxval
abbrev pub maxval_line : Shape → List ℕ
maxval_line s = decimal s.maxval ++ codes "\n"

-- the tuple type, where there is one
abbrev pub tuple_type_line : List ℕ → List ℕ
tuple_type_line [] = []
tuple_type_line (byte ∷ text) = codes "TUPLTYPE " ++ (byte ∷ text) ++ codes "\n"

-- the header of a PAM image
abbrev pub pam_text : Shape → List ℕ → List ℕ
pam_text s tuple_type =
    codes "P7\n"
    ++ (codes "WIDTH " ++ decimal s.width ++ codes "\n")
    ++ (codes "HEIGHT " ++ decimal s.height ++ codes "\n")
    ++ (codes "DEPTH " ++ decimal s.depth ++ codes "\n")
    ++ (codes "MAXVAL " ++ decimal s.maxval ++ codes "\n")
    ++ tuple_type_line tuple_type
    ++ codes "ENDHDR\n"

-- the line of the magic
abbrev pub magic_line : Kind → Form → List ℕ
magic_line kind form = magic_of kind form ++ codes "\n"

-- the header of an image of this kind
abbrev pub kind_text : Form → Kind → Shape → List ℕ → List ℕ
kind_text form Bit s tuple_type = magic_line Bit form ++ size_line s
kind_text form Gray s tuple_type = magic_line Gray form ++ size_line s ++ maxval_line s
kind_text form Color s tuple_type = magic_line Color form ++ size_line s ++ maxval_line s
kind_text form Pam s tuple_type = pam_text s tuple_type

abbrev pub header_text : Form → HeadValue → List ℕ
header_text form h = kind_text form h.shape.kind h.shape h.tuple_type

-- ---- rows

-- two bytes a sample, the most significant first
abbrev pub wide_bytes : List ℕ → List ℕ
wide_bytes samples = flat_map (λ sample. sample / 256 ∷ sample % 256 ∷ []) samples

abbrev pub bytes_in : SampleWidth → List ℕ → List ℕ
bytes_in Bits samples = packed_bytes samples
bytes_in Bytes samples = samples
bytes_in Words samples = wide_bytes samples

-- the bytes of a row of an image of this shape
abbrev pub row_bytes : Form → Shape → List ℕ → List ℕ
row_bytes Raw s samples = bytes_in (sample_width_of s.kind s.maxval) samples
row_bytes Plain s samples = plain_row_text s.kind samples

-- ---- images and messages

-- the header, and the bytes of each row, top to bottom
abbrev pub image_bytes : Form → Image → List ℕ
image_bytes form i = header_text form i.head ++ flat_map (row_bytes form i.head.shape) (rows_of i)

-- the images one after another
abbrev pub encoding_of : Form → List Image → List ℕ
encoding_of form images = flat_map (image_bytes form) images

-- the bytes of a message that comes at this place: the header of an image, or a row of the image
abbrev pub bytes_at : Form → Place → Message → List ℕ
bytes_at form place (Begin head) = header_text form head
bytes_at form Between (Row row) = []
bytes_at form (Inside s y) (Row row) = row_bytes form s row
bytes_at form After (Row row) = []
bytes_at form place ImageEnd = []
bytes_at form place StreamEnd = []
bytes_at form place Stop = []

-- the bytes of messages that come from this place on
abbrev pub bytes_from : Form → Place → List Message → List ℕ
bytes_from form place [] = []
bytes_from form place (m ∷ ms) = bytes_at form place m ++ bytes_from form (place_after place m) ms

-- the bytes of the messages of a stream
abbrev pub bytes_of : Form → List Message → List ℕ
bytes_of form messages = bytes_from form Between messages

-- the bytes that are written of the messages of a stream: those before the first that the form refuses
abbrev pub written_of : Form → List Message → List ℕ
written_of form messages = bytes_of form (taken_by form messages)
