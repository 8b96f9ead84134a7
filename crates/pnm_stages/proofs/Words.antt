-- What the proofs of pnm_stages name of its definitions, of std and of the crates below.
pub use Rattle.pnm_image.proofs.Lists.{same_first, same_rest}
pub use Rattle.pnm_image.proofs.Places.{next_may_come}
pub use Rattle.pnm_image.proofs.Streams.{is_stream_of}
pub use Rattle.pnm_image.specs.Completion.{Completes, IsPrefixOf}
pub use Rattle.pnm_image.specs.Heads.{HeadValue, row_length}
pub use Rattle.pnm_image.specs.Images.{Image, messages_of_image, messages_of_stream, rows_of}
pub use Rattle.pnm_image.specs.Messages.{EndsBy, EndsStream, IsMessage, ending_of, without_stop}
pub use Rattle.pnm_image.specs.Packets.{ending_of_packet, messages_in}
pub use Rattle.pnm_image.specs.Parts.{end_messages, part_messages, rest_messages}
pub use Rattle.pnm_image.specs.Places.{Accepts, IsLawful, IsLawfulFrom, IsRowOf, place_after, place_of}
pub use Rattle.pnm_image.specs.Rows.{row_messages, rows_list}
pub use Rattle.pnm_image.specs.declared.message.Ending.{Ending}
pub use Rattle.pnm_image.specs.declared.message.Ending.TheVariants.{BrokenOff, More, Whole}
pub use Rattle.pnm_image.specs.declared.message.Message.{Message}
pub use Rattle.pnm_image.specs.declared.message.Message.TheVariants.{Begin, ImageEnd, Row, Stop, StreamEnd}
pub use Rattle.pnm_image.specs.declared.packet.Packet.{Packet}
pub use Rattle.pnm_image.specs.declared.packet.Packet.TheVariants.{Part}
pub use Rattle.pnm_image.specs.declared.place.Place.{Place}
pub use Rattle.pnm_image.specs.declared.place.Place.TheVariants.{After, Between, Inside}
pub use Rattle.pnm_image.specs.declared.shape.Shape.{Shape}
pub use Rattle.pnm_stages.specs.Internal.StageParts.{HasAnsweredPart, HasBrokenOffAfter, HasPassed, HasSentAnswers}
pub use Rattle.pnm_stages.specs.Prefixes.{IsLongestLawfulPrefix, IsPrefixOfDue}
pub use Rattle.pnm_stages.specs.RingPackets.{messages_of}
pub use Rattle.pnm_stages.specs.Rings.{EndsAtMostOnce, Extends, HasDrainedAfter, IsEnded, IsPair, SameReceiver, SameSender, known_packets, received, sent}
pub use Rattle.pnm_stages.specs.Stages.{HasEndedSo, HasRunStage}
pub use Rattle.pnm_stages.specs.declared.receiver.Receiver.{Receiver}
pub use Rattle.pnm_stages.specs.declared.sender.Sender.{Sender}
pub use Rattle.pnm_stages.specs.declared.stage.StageEnd.{StageEnd}
pub use Rattle.pnm_stages.specs.declared.stage.StageEnd.TheVariants.{Broken, PeerGone, Well}
pub use Rattle.pnm_tools.proofs.FullAnswers.{full_answer_is_the_stream}
pub use Rattle.pnm_tools.proofs.FullLaws.{prefix_of_prefix}
pub use Rattle.pnm_tools.proofs.InFullLaws.{EndNothing, end_ends_nothing, ends_after}
pub use Rattle.pnm_tools.proofs.SoundLaws.{both_all, unbroken_keeps_all}
pub use Rattle.pnm_tools.specs.Answers.{Answers, AnswersInFull}
pub use Rattle.pnm_tools.specs.ChainAnswers.{HasRefused, IsRefusedNext}
pub use Rattle.pnm_tools.specs.FusedFilters.{FilterAt, FilterBusy, refusal_in, waiting_at}
pub use Rattle.pnm_tools.specs.Tools.{output_due}
pub use Rattle.pnm_tools.specs.Unfed.{HasFedNext, unfed_in}
pub use Rattle.pnm_tools.specs.declared.fault.ToolFault.{ToolFault}
pub use Rattle.pnm_tools.specs.declared.fault.ToolFault.TheVariants.{Memory}
pub use Rattle.pnm_tools.specs.declared.fused_filter.FusedFilter.{FusedFilter}
pub use Rattle.pnm_tools.specs.declared.fused_filter.FusedFilter.TheVariants.{AtWork, Refused}
pub use Rattle.pnm_tools.specs.declared.tool.Tool.{Tool}
pub use Rattle.rtrb.specs.Ring.{known_items}
pub use Rattle.std.proofs.Common.{Bool, List, None, Option, Some, [], ap, append-nil, append_assoc, arith, false, inl, inr, length, nat_lt, refl, rules, subst}
pub use Rattle.std.proofs.Common.{sym, true, ℕ, ◌++◌, ◌∙◌, ◌∷◌, ◌≡◌, ◌≤◌, ◌⊎◌}
pub use Rattle.std.proofs.lemmas.Bool.{cases_lt, false≢true, true≢false}
pub use Rattle.std.proofs.lemmas.Bool.Decides.{nat_tests}
pub use Rattle.std.proofs.lemmas.Grind.{common_steps, flat_map-append}
pub use Rattle.std.proofs.lemmas.List.Concat.{flat_map-cons}
pub use Rattle.std.proofs.lemmas.List.Elements.{All-from_recursion, recursion_from_All}
pub use Rattle.std.specs.List.{AllByRecursion}
pub use Rattle.std.specs.Prelude.{IsFalse, IsTrue, ◌||◌, ◌↔◌}
