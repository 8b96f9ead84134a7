-- What the places of a ring hold, as messages.
use Rattle.std.specs.Prelude.{List}
use Rattle.std.specs.List.{flat_map}
use Rattle.pnm_image.specs.declared.message.Message.{Message}
use Rattle.pnm_image.specs.Packets.{messages_in}
use Rattle.pnm_image.specs.declared.packet.Packet.{Packet}

-- the messages of packets, in order
unfoldable pub messages_of : List Packet → List Message
messages_of packets = flat_map messages_in packets
