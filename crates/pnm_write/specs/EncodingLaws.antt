-- The laws of the bytes of messages.
use Rattle.std.specs.Prelude.{◌≡◌, ℕ, List, [], ◌∷◌, ◌++◌, map}
use Rattle.pnm_image.specs.declared.format.Form.{Form}
use Rattle.pnm_image.specs.declared.message.Message.{Message}
use Rattle.pnm_image.specs.declared.place.Place.TheVariants.{Between}
use Rattle.pnm_image.specs.declared.shape.Kind.{Kind}
use Rattle.pnm_image.specs.Heads.{HeadValue, IsHead}
use Rattle.pnm_image.specs.Images.{Image, AreImages, messages_of_stream}
use Rattle.pnm_image.specs.Places.{IsRowOf, place_of}
use Rattle.pnm_write.specs.PlainRows.{sample_text, plain_row_text, IsSetInLines}
use Rattle.pnm_write.specs.Forms.{form_fault_of, images_fault}
use Rattle.pnm_write.specs.Encoding.{encoding_of, bytes_at, bytes_of}

-- the bytes of a stream's messages are the encoding of its images
abbrev pub BytesAreTheEncoding : Type 0
BytesAreTheEncoding = (form : Form) (is : List Image) → AreImages is
    → bytes_of form (messages_of_stream is) ≡ encoding_of form is

-- one message more adds its bytes, at the place that the messages before it lead to
abbrev pub MessagesAddTheirBytes : Type 0
MessagesAddTheirBytes =
    (form : Form) (messages : List Message) (m : Message)
    → bytes_of form (messages ++ m ∷ []) ≡ bytes_of form messages ++ bytes_at form (place_of Between messages) m

-- the form refuses a message of a stream for the reason for which it can't hold its images
abbrev pub RefusedStreamsAreOfImages : Type 0
RefusedStreamsAreOfImages = (form : Form) (is : List Image)
    → form_fault_of form (messages_of_stream is) ≡ images_fault form is

-- the text of a plain row is that of its samples' texts in lines, and no other text is
pub record HasOneText (kind : Kind) (row : List ℕ) : Type 0 where
  pub holds : IsSetInLines (map (sample_text kind) row) (plain_row_text kind row)
  pub only : (text : List ℕ) → IsSetInLines (map (sample_text kind) row) text → text ≡ plain_row_text kind row

abbrev pub PlainRowsHaveOneText : Type 0
PlainRowsHaveOneText = (head : HeadValue) → IsHead head → (row : List ℕ) → IsRowOf head.shape row
    → HasOneText head.shape.kind row
