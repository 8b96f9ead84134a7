-- What the proofs of pnm_lanes name of its definitions, of std and of the crates below.
pub use Rattle.pnm_image.proofs.Lists.{all_of_prefix, each-middle, each-push, same_first, same_rest}
pub use Rattle.pnm_image.proofs.Places.{lawful_prefix, next_may_come, place_of-append}
pub use Rattle.pnm_image.proofs.Streams.{completion, is_stream_of, stream_is_lawful}
pub use Rattle.pnm_image.specs.Completion.{Completes, IsPrefixOf, IsStreamOf}
pub use Rattle.pnm_image.specs.Heads.{HeadValue, IsHead, with_height}
pub use Rattle.pnm_image.specs.Images.{AreImages, Image, IsImage, messages_of_image, messages_of_stream, rows_of}
pub use Rattle.pnm_image.specs.Messages.{EndsBy, IsMessage, ending_of, without_stop}
pub use Rattle.pnm_image.specs.Packets.{ending_of_packet, messages_in, packet_list}
pub use Rattle.pnm_image.specs.Parts.{end_messages, head_messages, part_messages, rest_messages}
pub use Rattle.pnm_image.specs.Places.{Accepts, IsLawful, IsLawfulFrom, place_after, place_of}
pub use Rattle.pnm_image.specs.Rows.{every, row_messages, rows_list}
pub use Rattle.pnm_image.specs.declared.limits.TheConstants.{MAX_SIDE}
pub use Rattle.pnm_image.specs.declared.message.Ending.{Ending}
pub use Rattle.pnm_image.specs.declared.message.Ending.TheVariants.{BrokenOff, More, Whole}
pub use Rattle.pnm_image.specs.declared.message.Message.{Message}
pub use Rattle.pnm_image.specs.declared.message.Message.TheVariants.{Begin, ImageEnd, Row, Stop, StreamEnd}
pub use Rattle.pnm_image.specs.declared.packet.Packet.{Packet}
pub use Rattle.pnm_image.specs.declared.place.Place.{Place}
pub use Rattle.pnm_image.specs.declared.place.Place.TheVariants.{After, Between, Inside}
pub use Rattle.pnm_image.specs.declared.shape.Shape.{Shape}
pub use Rattle.pnm_lanes.specs.Deals.{AtEach, AtEachFrom, HasDealt, HasLane, HasReceivedSo, HasSentSo, IsPrefixOfDealt}
pub use Rattle.pnm_lanes.specs.Gathers.{AreDealt, AreSameInputs, BeginsOrEnds, HasGathered, HasGatheredSo, HasPassedSo, HasSentAll}
pub use Rattle.pnm_lanes.specs.Gathers.{IsGathered, IsStopped, at_lane}
pub use Rattle.pnm_lanes.specs.Internal.DealParts.{AreLeftFrom, HasBrokenOffDealing, HasDealtAll, HasDealtMessages, HasLeftOff, HasSentParts, HasTakenLawful}
pub use Rattle.pnm_lanes.specs.Internal.DealParts.{IsReason, IsRefused, IsSameEnd, IsSentAll, IsSentPart, IsSentTo, dealt_begin, part_at, row_at}
pub use Rattle.pnm_lanes.specs.Internal.DealParts.{stream_end}
pub use Rattle.pnm_lanes.specs.Internal.GatherParts.{AreDealtHeights, AreLanes, BeginsNone, CarriesOn, HasBrokenOffAll}
pub use Rattle.pnm_lanes.specs.Internal.GatherParts.{HasDrainedAll, HasDrainedOne, HasStopped}
pub use Rattle.pnm_lanes.specs.Internal.GatherParts.{HasTakenNone, HasTakenParts, HasTakenWhole, IsCause, IsDone, IsLane, IsLeftBy}
pub use Rattle.pnm_lanes.specs.Internal.GatherParts.{IsOfStream, state_at, state_by}
pub use Rattle.pnm_lanes.specs.Internal.GatherParts.{AreDealtHeads, AreHolding, Fits, FitsFrom, HasAddedRows, HasFilled, HasPassed, HoldEach, HoldNext}
pub use Rattle.pnm_lanes.specs.Internal.GatherParts.{IsNotTogether}
pub use Rattle.pnm_lanes.specs.Internal.HeldMessages.{HasPassedRow, held_messages, in_held, last_messages, next_of}
pub use Rattle.pnm_lanes.specs.Internal.LaneLaws.{dealt_head_result}
pub use Rattle.pnm_lanes.specs.LaneLaws.{dealt_images, results_before}
pub use Rattle.pnm_lanes.specs.LaneLimits.{IsLaneCount}
pub use Rattle.pnm_lanes.specs.LaneRings.{ArePairs, AreUnused}
pub use Rattle.pnm_lanes.specs.LaneRuns.{AreLanesRun, HasRunLanes, HaveRun, IsLaneRun, end_of_both, end_of_lanes}
pub use Rattle.pnm_lanes.specs.Lanes.{AreThere, HasFailedInLanes, HaveLanesEndedSo, HaveThreadsRun, IsEndOfAll, IsFaultOf, IsFine, IsFirstOfThreads}
pub use Rattle.pnm_lanes.specs.Lanes.{IsFirstRefusedHead, IsStageOfLanes}
pub use Rattle.pnm_lanes.specs.declared.around.OuterRingEnds.{OuterRingEnds}
pub use Rattle.pnm_lanes.specs.declared.held.Held.{Held}
pub use Rattle.pnm_lanes.specs.declared.lane.LaneState.{LaneState}
pub use Rattle.pnm_lanes.specs.declared.lane.LaneState.TheVariants.{Ended, Gone, Open}
pub use Rattle.pnm_lanes.specs.declared.lane_rings.LaneRingEnds.{LaneRingEnds}
pub use Rattle.pnm_lanes.specs.declared.merging.LanesDone.{LanesDone}
pub use Rattle.pnm_stages.proofs.EndingLaws.{ends_stream, nothing_follows, one_ending, prefix_goes_on, stream_ends_whole}
pub use Rattle.pnm_stages.proofs.PrefixLaws.{lawful_prefix_of_longest, prefix_without_stop, stop_is_cut}
pub use Rattle.pnm_stages.proofs.RingSteps.{ends_as, ends_nothing, itself_input, itself_output, same_input, same_output, still_pair}
pub use Rattle.pnm_stages.specs.Prefixes.{IsLongestLawfulPrefix, IsPrefixOfDue}
pub use Rattle.pnm_stages.specs.Rings.{EndsAtMostOnce, Extends, HasDrainedAfter, IsEnded, IsPair, SameReceiver, SameSender, known_items}
pub use Rattle.pnm_stages.specs.Rings.{received, sent}
pub use Rattle.pnm_stages.specs.Stages.{HasBrokenOff, HasEndedSo, HasEndedWell, HasFailed, IsStage}
pub use Rattle.pnm_stages.specs.declared.receiver.Receiver.{Receiver}
pub use Rattle.pnm_stages.specs.declared.sender.Sender.{Sender}
pub use Rattle.pnm_stages.specs.declared.stage.StageDone.{StageDone}
pub use Rattle.pnm_stages.specs.declared.stage.StageEnd.{StageEnd}
pub use Rattle.pnm_stages.specs.declared.stage.StageEnd.TheVariants.{Broken, Fault, PeerGone, Well}
pub use Rattle.pnm_tools.proofs.AnsweringLaws.{AnswersImages, answered_after_image, due_by, due_is, prefixes, taken_rest}
pub use Rattle.pnm_tools.proofs.AtLaws.{StopsLast, keeps_all, lawful_stops}
pub use Rattle.pnm_tools.proofs.DealingLaws.{dealt_head_is_head, dealt_height_within, dealt_image_is_image, rows_of-dealt_image}
pub use Rattle.pnm_tools.proofs.FullLaws.{answering_in_full, prefix_of_prefix}
pub use Rattle.pnm_tools.proofs.HeadFaultLaws.{head_is_refused_by_name}
pub use Rattle.pnm_tools.proofs.InFullLaws.{EndNothing, end_ends_nothing, ends_after}
pub use Rattle.pnm_tools.proofs.ResultLaws.{result_is_image}
pub use Rattle.pnm_tools.proofs.RowWiseLaws.{row_wise_tools_commute}
pub use Rattle.pnm_tools.proofs.SoundLaws.{both_all, prefix_after, unbroken_keeps_all}
pub use Rattle.pnm_tools.proofs.ToolLaws.{tool_answers_images}
pub use Rattle.pnm_tools.specs.Answering.{answers_from}
pub use Rattle.pnm_tools.specs.Answers.{AnswersInFull, AreResults, RefusesHead, begun_in, begun_of, due_so_far, images_ended}
pub use Rattle.pnm_tools.specs.ChainAnswers.{IsRefusedNext}
pub use Rattle.pnm_tools.specs.Dealing.{IsRowWise, dealt, dealt_from, dealt_head, dealt_height, dealt_image, dealt_message, dealt_result, dealt_row, dealt_rows}
pub use Rattle.pnm_tools.specs.Formulas.{image_by}
pub use Rattle.pnm_tools.specs.Tools.{AreTaken, IsLawfulTool, applied, is_row_wise, output_due, result_head, result_sample}
pub use Rattle.pnm_tools.specs.Unfed.{unfed_in}
pub use Rattle.pnm_tools.specs.declared.fault.ToolFault.{ToolFault}
pub use Rattle.pnm_tools.specs.declared.fault.ToolFault.TheVariants.{ChannelOutside, CutOutside, Memory, OutOfOrder, TooLarge}
pub use Rattle.pnm_tools.specs.declared.tool.Tool.{Tool}
pub use Rattle.pnm_tools.specs.declared.tool.Tool.TheVariants.{Cut}
pub use Rattle.std.proofs.Common.{Bool, Err, IfOk, List, None, Ok, Option, Result, Some, [], ap, append-nil, append_assoc, arith, drop, eq-eqb, false, get_or}
pub use Rattle.std.proofs.Common.{inl, inr, le_refl, length, map, refl, rules, set, subst, suc, sum, sym, take, true, vec_capacity, zero, ℕ, ◌%◌, ◌*◌, ◌++◌}
pub use Rattle.std.proofs.Common.{◌+◌, ◌-◌, ◌/◌, ◌<◌, ◌∙◌, ◌∷◌, ◌≡◌, ◌≢◌, ◌≤◌, ◌⊎◌}
pub use Rattle.std.proofs.lemmas.Bool.{cases_eq, cases_lt, false≢true}
pub use Rattle.std.proofs.lemmas.Bool.Decides.{nat_tests}
pub use Rattle.std.proofs.lemmas.Grind.{common_steps}
pub use Rattle.std.proofs.lemmas.List.{append_cancel_left, drop_at, drop_more, get_or-set_other, get_or-set_same, get_or-take, length-append, length-set}
pub use Rattle.std.proofs.lemmas.List.{length-take-le, map-append}
pub use Rattle.std.proofs.lemmas.List.Sums.{sum_by-cons}
pub use Rattle.std.proofs.lemmas.Nat.{div-add-mod', mod-mul-add, mod_below}
pub use Rattle.std.proofs.lemmas.Result.{err_from_is_err_and}
pub use Rattle.std.specs.Global.{Vec}
pub use Rattle.std.specs.List.{AllByRecursion}
pub use Rattle.std.specs.Option.{IfNone}
pub use Rattle.std.specs.Prelude.{IfSome, IsSome, if◌then◌else◌, nat_lt, slice_set, ◌==◌}
pub use Rattle.std.specs.Result.{result_ok}
