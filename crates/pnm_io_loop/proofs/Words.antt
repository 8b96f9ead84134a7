-- What the proofs of pnm_io_loop name of its definitions, of std and of the crates below.
pub use Rattle.pnm_image.specs.Devices.{Failed}
pub use Rattle.pnm_image.specs.Messages.{EndsBy, without_stop}
pub use Rattle.pnm_image.specs.Packets.{ending_of_packet, messages_in}
pub use Rattle.pnm_image.specs.Parts.{part_messages}
pub use Rattle.pnm_image.specs.declared.format.Form.{Form}
pub use Rattle.pnm_image.specs.declared.message.Ending.{Ending}
pub use Rattle.pnm_image.specs.declared.message.Ending.TheVariants.{BrokenOff, More, Whole}
pub use Rattle.pnm_image.specs.declared.message.Message.{Message}
pub use Rattle.pnm_image.specs.declared.message.Message.TheVariants.{Stop}
pub use Rattle.pnm_image.specs.declared.packet.Packet.{Packet}
pub use Rattle.pnm_image.specs.declared.packet.Packet.TheVariants.{Part, Stop as Stops, StreamEnd as EndsStream}
pub use Rattle.pnm_io_loop.specs.Egresses.{EndedBy, HasReceived, HasTakenNothing, IsEgress, egress_is_over, receiving_is_over}
pub use Rattle.pnm_io_loop.specs.Ingresses.{HasAsked, HasAskedAll, HasAskedBy, IsIngress, closing_messages, ingress_is_over, sending_is_over}
pub use Rattle.pnm_io_loop.specs.Internal.Ingresses.{HasGoneOn}
pub use Rattle.pnm_io_loop.specs.IoLoop.{CannotSend, CannotTake, HaveMoved, HaveStepped}
pub use Rattle.pnm_io_loop.specs.declared.egress.Egress.{Egress}
pub use Rattle.pnm_io_loop.specs.declared.ingress.Ingress.{Ingress}
pub use Rattle.pnm_read.proofs.Consumed.{consumes_then}
pub use Rattle.pnm_read.proofs.ReadCalls.{no_fault}
pub use Rattle.pnm_read.specs.Sources.{MayGive, SeesEnd, Tells, reader_of, stopped_by}
pub use Rattle.pnm_read.specs.declared.fault.InputFault.{InputFault}
pub use Rattle.pnm_read.specs.declared.fault.InputFault.TheVariants.{ReadFailed}
pub use Rattle.pnm_read.specs.declared.source.Source.{Source}
pub use Rattle.pnm_serial.proofs.FeedingSteps.{IsUnreadAfter, failed_in_call, fault_answer, given_is_sound, may_give, open_in_call, read_failure, unread_after}
pub use Rattle.pnm_serial.proofs.MessageSteps.{images_in-append, images_in-part}
pub use Rattle.pnm_serial.specs.Counts.{images_in}
pub use Rattle.pnm_serial.specs.FusedSinks.{HasTaken, output_of}
pub use Rattle.pnm_stages.proofs.PacketLaws.{ends_as_packet, known_by}
pub use Rattle.pnm_stages.proofs.PrefixLaws.{stop_is_cut}
pub use Rattle.pnm_stages.proofs.RingSteps.{same_input, same_output}
pub use Rattle.pnm_stages.specs.Rings.{SameReceiver, SameSender, known_items, known_packets, received, sent}
pub use Rattle.pnm_stages.specs.declared.receiver.Receiver.{Receiver}
pub use Rattle.pnm_stages.specs.declared.sender.Sender.{Sender}
pub use Rattle.pnm_tools.proofs.SoundLaws.{IsUnbroken, unbroken_keeps_all}
pub use Rattle.std.proofs.Common.{Bool, Err, List, None, Ok, Option, Some, [], ap, append-nil, append_assoc, arith, false, inl, inr, length, not, refl, rules}
pub use Rattle.std.proofs.Common.{subst, sym, true, ℕ, ◌++◌, ◌<◌, ◌∙◌, ◌∷◌, ◌≡◌, ◌⊎◌}
pub use Rattle.std.proofs.lemmas.Bool.{false≢true, leb-false}
pub use Rattle.std.proofs.lemmas.Grind.{common_steps}
pub use Rattle.std.proofs.lemmas.List.{length-append}
