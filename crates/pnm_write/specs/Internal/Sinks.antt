-- Between functions: which messages were put into a sink, and which messages it refuses.
use Rattle.std.specs.Prelude.{◌≡◌, Bool, List, [], ◌∷◌, Some}
use Rattle.pnm_image.specs.declared.format.Form.{Form}
use Rattle.pnm_image.specs.declared.message.Message.{Message}
use Rattle.pnm_image.specs.declared.message.Message.TheVariants.{Begin, Row, ImageEnd, StreamEnd, Stop}
use Rattle.pnm_image.specs.Heads.{HeadValue}
use Rattle.pnm_write.specs.declared.fault.SinkFault.{SinkFault}
use Rattle.pnm_write.specs.declared.fault.SinkFault.TheVariants.{WriteFailed, OutOfOrder, Broken, SecondPlain, PlainPam}
use Rattle.pnm_write.specs.Forms.{form_fault}
use Rattle.pnm_write.specs.Sinks.{HasRows}

-- no image begins in the messages
abbrev pub BeginsNone : List Message → Type 0
BeginsNone [] = Unit {0}
BeginsNone (Begin head ∷ messages) = ⊥
BeginsNone (Row row ∷ messages) = BeginsNone messages
BeginsNone (ImageEnd ∷ messages) = BeginsNone messages
BeginsNone (StreamEnd ∷ messages) = BeginsNone messages
BeginsNone (Stop ∷ messages) = BeginsNone messages

-- an image begins with the first of the messages, and no other does
abbrev pub BeginsWith : HeadValue → List Message → Type 0
BeginsWith head messages = (rest : List Message) × (messages ≡ Begin head ∷ rest) × BeginsNone rest

-- why no image begins with a head, where an image has begun before or not
abbrev pub IsHeadRefused : Form → Bool → HeadValue → SinkFault → Type 0
IsHeadRefused form begun head OutOfOrder = HasRows (Begin head) → ⊥
IsHeadRefused form begun head SecondPlain = HasRows (Begin head)
    × (form_fault form begun (Begin head) ≡ Some SecondPlain)
IsHeadRefused form begun head PlainPam = HasRows (Begin head) × (form_fault form begun (Begin head) ≡ Some PlainPam)
IsHeadRefused form begun head WriteFailed = ⊥
IsHeadRefused form begun head Broken = ⊥
