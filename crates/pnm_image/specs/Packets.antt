-- What passes at once, as messages.
use Rattle.std.specs.Prelude.{List, [], ◌∷◌, Option, Some, None}
use Rattle.pnm_image.specs.declared.message.Message.{Message}
use Rattle.pnm_image.specs.declared.message.Message.TheVariants.{StreamEnd, Stop}
use Rattle.pnm_image.specs.declared.message.Ending.{Ending}
use Rattle.pnm_image.specs.declared.message.Ending.TheVariants.{More, Whole, BrokenOff}
use Rattle.pnm_image.specs.declared.packet.Packet.{Packet}
use Rattle.pnm_image.specs.declared.packet.Packet.TheVariants.{Part, StreamEnd as EndsStream, Stop as Stops}

-- the messages of a packet
abbrev pub messages_in : Packet → List Message
messages_in (Part part) = part
messages_in EndsStream = StreamEnd ∷ []
messages_in Stops = Stop ∷ []

-- how the last message of a packet ends the stream
abbrev pub ending_of_packet : Packet → Ending
ending_of_packet (Part part) = More
ending_of_packet EndsStream = Whole
ending_of_packet Stops = BrokenOff

-- the messages of a packet, if there is one
abbrev pub packet_list : Option Packet → List Message
packet_list None = []
packet_list (Some packet) = messages_in packet
