-- What holds of a message's value in a program, and how a list of messages ends.
use Rattle.std.specs.Prelude.{◌≡◌, List, [], ◌∷◌}
use Rattle.pnm_image.specs.declared.message.Message.{Message}
use Rattle.pnm_image.specs.declared.message.Message.TheVariants.{Begin, Row, ImageEnd, StreamEnd, Stop}
use Rattle.pnm_image.specs.declared.message.Ending.{Ending}
use Rattle.pnm_image.specs.declared.message.Ending.TheVariants.{More, Whole, BrokenOff}
use Rattle.pnm_image.specs.Heads.{IsHead}

-- a message of a program: the head of each image keeps the rules of heads
abbrev pub IsMessage : Message → Type 0
IsMessage (Begin head) = IsHead head
IsMessage (Row row) = Unit {0}
IsMessage ImageEnd = Unit {0}
IsMessage StreamEnd = Unit {0}
IsMessage Stop = Unit {0}

-- how a message ends the stream: it doesn't, whole, or broken off
abbrev pub ending_of : Message → Ending
ending_of (Begin head) = More
ending_of (Row row) = More
ending_of ImageEnd = More
ending_of StreamEnd = Whole
ending_of Stop = BrokenOff

-- only the last of the messages ends the stream, and so
abbrev pub EndsBy : Ending → List Message → Type 0
EndsBy e [] = e ≡ More
EndsBy e (m ∷ []) = ending_of m ≡ e
EndsBy e (m ∷ n ∷ ms) = (ending_of m ≡ More) × EndsBy e (n ∷ ms)

-- the last message is the end of the stream
abbrev pub EndsStream : List Message → Type 0
EndsStream [] = ⊥
EndsStream (StreamEnd ∷ []) = Unit {0}
EndsStream (m ∷ ms) = EndsStream ms

-- the messages before a last Stop
abbrev pub without_stop : List Message → List Message
without_stop [] = []
without_stop (Stop ∷ []) = []
without_stop (m ∷ ms) = m ∷ without_stop ms
