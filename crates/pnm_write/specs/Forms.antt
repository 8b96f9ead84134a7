-- What a form has no place for: a plain file holds one image, which isn't PAM. From pbm(5), pgm(5) and ppm(5).
use Rattle.std.specs.Prelude.{◌≡◌, Bool, true, false, List, [], ◌∷◌, Option, Some, None}
use Rattle.pnm_image.specs.declared.format.Form.{Form}
use Rattle.pnm_image.specs.declared.format.Form.TheVariants.{Raw, Plain}
use Rattle.pnm_image.specs.declared.message.Message.{Message}
use Rattle.pnm_image.specs.declared.message.Message.TheVariants.{Begin, Row, ImageEnd, StreamEnd, Stop}
use Rattle.pnm_image.specs.declared.shape.Kind.{Kind}
use Rattle.pnm_image.specs.declared.shape.Kind.TheVariants.{Bit, Gray, Color, Pam}
use Rattle.pnm_image.specs.Images.{Image}
use Rattle.pnm_write.specs.declared.fault.SinkFault.{SinkFault}
use Rattle.pnm_write.specs.declared.fault.SinkFault.TheVariants.{WriteFailed, OutOfOrder, Broken, SecondPlain, PlainPam}

-- ---- messages

-- whether an image has begun, after a message
abbrev pub has_begun_after : Bool → Message → Bool
has_begun_after begun (Begin head) = true
has_begun_after begun (Row row) = begun
has_begun_after begun ImageEnd = begun
has_begun_after begun StreamEnd = begun
has_begun_after begun Stop = begun

-- after messages, of which the first comes where an image has begun or not
abbrev pub has_begun_by : Bool → List Message → Bool
has_begun_by begun [] = begun
has_begun_by begun (m ∷ ms) = has_begun_by (has_begun_after begun m) ms

-- there is no plain PAM
abbrev pub plain_kind_fault : Kind → Option SinkFault
plain_kind_fault Bit = None
plain_kind_fault Gray = None
plain_kind_fault Color = None
plain_kind_fault Pam = Some PlainPam

-- why an image can't begin in a plain file, where one has begun or not: a second one, and then PAM
abbrev pub plain_begin_fault : Bool → Kind → Option SinkFault
plain_begin_fault true kind = Some SecondPlain
plain_begin_fault false kind = plain_kind_fault kind

abbrev pub plain_fault : Bool → Message → Option SinkFault
plain_fault begun (Begin head) = plain_begin_fault begun head.shape.kind
plain_fault begun (Row row) = None
plain_fault begun ImageEnd = None
plain_fault begun StreamEnd = None
plain_fault begun Stop = None

-- why the form refuses a message, where an image has begun before it or not
abbrev pub form_fault : Form → Bool → Message → Option SinkFault
form_fault Raw begun m = None
form_fault Plain begun m = plain_fault begun m

-- the first such fault of messages
abbrev pub plain_fault_from : Bool → List Message → Option SinkFault
plain_fault_from begun [] = None
plain_fault_from begun (m ∷ ms) = elim (plain_fault begun m) [
  | Some fault ↦ Some fault
  | None ↦ plain_fault_from (has_begun_after begun m) ms
]

abbrev pub form_fault_from : Form → Bool → List Message → Option SinkFault
form_fault_from Raw begun messages = None
form_fault_from Plain begun messages = plain_fault_from begun messages

abbrev pub form_fault_of : Form → List Message → Option SinkFault
form_fault_of form messages = form_fault_from form false messages

-- the form refuses the first message for this reason, where an image has begun before it or not
abbrev pub RefusesFirst : Form → Bool → List Message → SinkFault → Type 0
RefusesFirst form begun [] fault = ⊥
RefusesFirst form begun (m ∷ ms) fault = form_fault form begun m ≡ Some fault

-- the messages before it, or all of them
abbrev pub plain_taken_from : Bool → List Message → List Message
plain_taken_from begun [] = []
plain_taken_from begun (m ∷ ms) = elim (plain_fault begun m) [
  | Some fault ↦ []
  | None ↦ m ∷ plain_taken_from (has_begun_after begun m) ms
]

abbrev pub taken_by : Form → List Message → List Message
taken_by Raw messages = messages
taken_by Plain messages = plain_taken_from false messages

-- ---- images

-- why the form can't hold these images: the first is PAM, or there is a second one; no image at all isn't refused
abbrev pub plain_images_fault : List Image → Option SinkFault
plain_images_fault [] = None
plain_images_fault (image ∷ images) = elim (plain_kind_fault image.head.shape.kind) [
  | Some fault ↦ Some fault
  | None ↦ elim images [
    | [] ↦ None
    | next ∷ more ↦ Some SecondPlain
  ]
]

abbrev pub images_fault : Form → List Image → Option SinkFault
images_fault Raw images = None
images_fault Plain images = plain_images_fault images

-- a fault for which this form may refuse a message: the raw form has none
abbrev pub IsFormFault : Form → SinkFault → Type 0
IsFormFault Raw fault = ⊥
IsFormFault Plain WriteFailed = ⊥
IsFormFault Plain OutOfOrder = ⊥
IsFormFault Plain Broken = ⊥
IsFormFault Plain SecondPlain = Unit {0}
IsFormFault Plain PlainPam = Unit {0}
