-- What the proofs of pnm_flow name of its definitions, of std and of the crates below.
pub use Rattle.pnm_filters.specs.AnyTools.{ToolAt}
pub use Rattle.pnm_filters.specs.States.{StateValue}
pub use Rattle.pnm_filters.specs.declared.any_tool.AnyTool.{AnyTool}
pub use Rattle.pnm_flow.specs.ChainRuns.{AreStages, FirstIsThere, HasAnsweredStream, HasRunChain, IsStageOver, RunsInLanes}
pub use Rattle.pnm_flow.specs.Internal.ChainRuns.{HasRunBetween, HasRunStages, HasRunTool, IsLanesRun, IsPlan, IsReserved, IsToolRun}
pub use Rattle.pnm_flow.specs.Internal.SerialTools.{AreFresh, ToolsAt}
pub use Rattle.pnm_flow.specs.Internal.ThreadedRuns.{answer_over}
pub use Rattle.pnm_flow.specs.Links.{IsDrained, IsWhole}
pub use Rattle.pnm_flow.specs.SentMessages.{HasEndedOver, HaveEnded, IsAllSent, WhatTheToolsSent}
pub use Rattle.pnm_flow.specs.ThreadedRuns.{fault_of_end, first_fault_from}
pub use Rattle.pnm_flow.specs.declared.chain.ChainDone.{ChainDone}
pub use Rattle.pnm_flow.specs.declared.chain.Link.{Link}
pub use Rattle.pnm_flow.specs.declared.tool_run.Plan.{Plan}
pub use Rattle.pnm_flow.specs.declared.tool_run.Plan.TheVariants.{Lanes}
pub use Rattle.pnm_image.proofs.Places.{lawful_prefix, next_may_come}
pub use Rattle.pnm_image.proofs.Streams.{is_stream_of, stream_ends, stream_is_lawful, stream_is_messages}
pub use Rattle.pnm_image.specs.Completion.{Completes, IsPrefixOf, IsStreamOf}
pub use Rattle.pnm_image.specs.Devices.{Failed}
pub use Rattle.pnm_image.specs.Images.{AreImages, Image, messages_of_stream}
pub use Rattle.pnm_image.specs.Messages.{EndsBy, ending_of, without_stop}
pub use Rattle.pnm_image.specs.Places.{IsLawful}
pub use Rattle.pnm_image.specs.declared.format.Form.{Form}
pub use Rattle.pnm_image.specs.declared.format.Form.TheVariants.{Plain, Raw}
pub use Rattle.pnm_image.specs.declared.message.Ending.TheVariants.{BrokenOff, More, Whole}
pub use Rattle.pnm_image.specs.declared.message.Message.{Message}
pub use Rattle.pnm_image.specs.declared.message.Message.TheVariants.{Begin, ImageEnd, Row, Stop, StreamEnd}
pub use Rattle.pnm_image.specs.declared.place.Place.TheVariants.{Between}
pub use Rattle.pnm_io_loop.specs.Egresses.{EndedBy}
pub use Rattle.pnm_io_loop.specs.Ingresses.{HasAskedAll, HasAskedBy, closing_messages}
pub use Rattle.pnm_lanes.proofs.LaneNumbers.{as_many_unused, pairs_after}
pub use Rattle.pnm_lanes.proofs.LaneRunSteps.{as_many_run, came_back, has_run_more}
pub use Rattle.pnm_lanes.proofs.LaneStream.{answered_in_full}
pub use Rattle.pnm_lanes.specs.LaneRuns.{AreLanesRun, HaveDealtAndGathered, HaveRun, IsLaneRun}
pub use Rattle.pnm_lanes.specs.Lanes.{HasFailedInLanes, IsFaultOf, IsFirstRefusedHead}
pub use Rattle.pnm_lanes.specs.declared.around.OuterRingEnds.{OuterRingEnds}
pub use Rattle.pnm_lanes.specs.declared.lane_rings.LaneRingEnds.{LaneRingEnds}
pub use Rattle.pnm_lanes.specs.declared.lane_rings.LaneRings.{LaneRings}
pub use Rattle.pnm_lanes.specs.declared.merging.LanesDone.{LanesDone}
pub use Rattle.pnm_read.proofs.ReadCalls.{no_fault}
pub use Rattle.pnm_read.proofs.StreamLaws.{given_is_prefix}
pub use Rattle.pnm_read.proofs.TextLaws.{said_text_is_spelled}
pub use Rattle.pnm_read.specs.Said.{AreSaid, said_of}
pub use Rattle.pnm_read.specs.Sources.{reader_of}
pub use Rattle.pnm_read.specs.declared.fault.InputFault.{InputFault}
pub use Rattle.pnm_read.specs.declared.fault.InputFault.TheVariants.{Memory as NoMemoryToRead, ReadFailed}
pub use Rattle.pnm_read.specs.declared.source.Source.{Source}
pub use Rattle.pnm_serial.proofs.EndSteps.{Ended, HaveEnded as StagesAnswered, ended_has_run, ended_so, none_started, not_started, rest_follows}
pub use Rattle.pnm_serial.proofs.EndSteps.{unread_has_run as serial_unread}
pub use Rattle.pnm_serial.proofs.FeedingSteps.{given_is_sound, may_give, rest_of, said_are_sound}
pub use Rattle.pnm_serial.proofs.LastRefusals.{FirstRefused, due_of_one, due_of_others, first_refused}
pub use Rattle.pnm_serial.proofs.ResultSteps.{are_results}
pub use Rattle.pnm_serial.proofs.RunSteps.{Ran, failed_so, output_all, run_begun, run_due, sound_is_writable}
pub use Rattle.pnm_serial.proofs.VerdictFaults.{verdict_is_of_text}
pub use Rattle.pnm_serial.specs.Feeding.{HasMore, IsSaidOf, MayFollowRead}
pub use Rattle.pnm_serial.specs.FusedSinks.{AnswersFlushes, HasTaken, output_of}
pub use Rattle.pnm_serial.specs.Internal.SerialRuns.{answer_by}
pub use Rattle.pnm_serial.specs.Jobs.{Job, job_of}
pub use Rattle.pnm_serial.specs.Runs.{Change, HasRun, MayFollow, MustGiveAll, change}
pub use Rattle.pnm_serial.specs.Verdicts.{IsAnswer, RefusalIs}
pub use Rattle.pnm_serial.specs.declared.fault.RunFault.{RunFault}
pub use Rattle.pnm_serial.specs.declared.fault.RunFault.TheVariants.{Input, NoStart, Output, PeerGone as Gone, Tool as OfTool}
pub use Rattle.pnm_serial.specs.declared.fused_sink.FusedSink.{FusedSink}
pub use Rattle.pnm_serial.specs.declared.summary.Summary.{Summary}
pub use Rattle.pnm_stages.proofs.EndingLaws.{nothing_follows, one_ending, prefix_goes_on, stream_ends_whole}
pub use Rattle.pnm_stages.proofs.PrefixLaws.{prefix_without_stop, stop_is_cut}
pub use Rattle.pnm_stages.proofs.RingSteps.{ends_with, same_output, still_pair}
pub use Rattle.pnm_stages.specs.Prefixes.{IsPrefixOfDue}
pub use Rattle.pnm_stages.specs.Rings.{IsEnded, SameReceiver, SameSender, known_items, received, sent}
pub use Rattle.pnm_stages.specs.Stages.{HasBrokenOff, HasEndedWell, HasFailed, HasRunStage}
pub use Rattle.pnm_stages.specs.declared.receiver.Receiver.{Receiver}
pub use Rattle.pnm_stages.specs.declared.sender.Sender.{Sender}
pub use Rattle.pnm_stages.specs.declared.stage.StageDone.{StageDone}
pub use Rattle.pnm_stages.specs.declared.stage.StageEnd.{StageEnd}
pub use Rattle.pnm_stages.specs.declared.stage.StageEnd.TheVariants.{Broken, Fault, PeerGone, Well}
pub use Rattle.pnm_tools.proofs.ChainLaws.{prefix_of_due_is_sound}
pub use Rattle.pnm_tools.proofs.FullLaws.{answering_in_full, prefix_of_prefix}
pub use Rattle.pnm_tools.proofs.HeadFaultLaws.{head_is_refused_by_name}
pub use Rattle.pnm_tools.proofs.PrefixLaws.{nothing_changes, prefix_by_results}
pub use Rattle.pnm_tools.proofs.RefusalLaws.{refusal_by, results_are_images, results_in_turn, same_in_turn}
pub use Rattle.pnm_tools.proofs.SoundLaws.{EndsUnbroken, sound_ends, sound_keeps_all, unbroken_keeps_all}
pub use Rattle.pnm_tools.proofs.ToolLaws.{tool_answers_images}
pub use Rattle.pnm_tools.specs.Answering.{answers_from}
pub use Rattle.pnm_tools.specs.Answers.{Answers, AnswersInFull, AreResults}
pub use Rattle.pnm_tools.specs.ChainAnswers.{AreSound, AreWell, HasRefused, HaveAnswered, IsFirstFault, IsRefusedNext}
pub use Rattle.pnm_tools.specs.Chains.{AreLawfulTools, AreResultsInTurn, Refusal, due_in_turn, refusal_from, results_of}
pub use Rattle.pnm_tools.specs.Laws.{IsFaultOfHead}
pub use Rattle.pnm_tools.specs.Tools.{IsLawfulTool, is_row_wise, output_due}
pub use Rattle.pnm_tools.specs.declared.fault.ToolFault.{ToolFault}
pub use Rattle.pnm_tools.specs.declared.fault.ToolFault.TheVariants.{ChannelOutside, CutOutside, Memory, OutOfOrder, TooLarge}
pub use Rattle.pnm_tools.specs.declared.fused_filter.FusedFilter.{FusedFilter}
pub use Rattle.pnm_tools.specs.declared.tool.Tool.{Tool}
pub use Rattle.pnm_write.proofs.FormLaws.{form_fault-more, refused_before, taken_by-all}
pub use Rattle.pnm_write.proofs.MessageLaws.{bytes_of_more}
pub use Rattle.pnm_write.specs.Encoding.{bytes_of, written_of}
pub use Rattle.pnm_write.specs.Forms.{form_fault_from, form_fault_of, has_begun_by}
pub use Rattle.pnm_write.specs.declared.fault.SinkFault.{SinkFault}
pub use Rattle.std.proofs.Common.{Bool, Err, List, None, Ok, Option, Result, Some, [], ap, append-nil, append_assoc, arith, drop, false, get_or, inl, inr}
pub use Rattle.std.proofs.Common.{length, map, refl, rules, subst, suc, sym, take, true, vec_capacity, zero, ℕ, ◌*◌, ◌++◌, ◌+◌, ◌-◌, ◌<◌, ◌==◌, ◌∙◌, ◌∷◌, ◌≡◌}
pub use Rattle.std.proofs.Common.{◌≢◌, ◌≤◌, ◌⊎◌}
pub use Rattle.std.proofs.Math.Seq.{drop-cons, take-length, take-suc}
pub use Rattle.std.proofs.lemmas.Bool.Decides.{nat_tests}
pub use Rattle.std.proofs.lemmas.List.{drop_all}
pub use Rattle.std.specs.Global.{Vec}
pub use Rattle.std.specs.Io.KnownBytes.{Appends, Consumes, Keeps}
pub use Rattle.std.specs.List.{AllByRecursion}
pub use Rattle.std.specs.Prelude.{IfOk, IfSome}
