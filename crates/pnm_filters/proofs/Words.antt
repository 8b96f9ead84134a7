-- What the proofs of pnm_filters name of its definitions, of std and of the crates below.
pub use Rattle.pnm_filters.specs.AnyTools.{IsFreshTool, IsToolAt}
pub use Rattle.pnm_filters.specs.Internal.States.{IsSoundState, state_value}
pub use Rattle.pnm_filters.specs.Internal.Steps.{AreAccepted, GivesRows, HasBegun, HasEnded, HasTaken, IsFirstRefused, IsGiven, IsReadyUnless, LiesInside}
pub use Rattle.pnm_filters.specs.Internal.Steps.{end_answer_if, phase_of}
pub use Rattle.pnm_filters.specs.Pendings.{is_all_given, is_idle, waiting_by, waiting_in}
pub use Rattle.pnm_filters.specs.RowStates.{IsFreshLane, IsRowWiseAt}
pub use Rattle.pnm_filters.specs.States.{IsAt, IsReadyFor, StateValue, SuitsPlace}
pub use Rattle.pnm_filters.specs.declared.any_tool.AnyTool.{AnyTool}
pub use Rattle.pnm_filters.specs.declared.pending.Pending.{Pending}
pub use Rattle.pnm_filters.specs.declared.pending.Phase.{Phase}
pub use Rattle.pnm_filters.specs.declared.pending.Phase.TheVariants.{Done, Idle, Rows, RowsAndEnd, Stop as GivesStop, StreamEnd as GivesEnd}
pub use Rattle.pnm_filters.specs.declared.row_state.RowState.{RowState}
pub use Rattle.pnm_image.proofs.Places.{lawful_append, lawful_prefix, lawful_suffix, place_of-append, place_of-rows, rows_are_lawful}
pub use Rattle.pnm_image.specs.Heads.{HeadValue}
pub use Rattle.pnm_image.specs.Messages.{EndsBy}
pub use Rattle.pnm_image.specs.Packets.{messages_in}
pub use Rattle.pnm_image.specs.Parts.{end_messages, head_messages, part_messages, rest_messages}
pub use Rattle.pnm_image.specs.Places.{Accepts, IsLawfulFrom, IsRowOf, place_after, place_of}
pub use Rattle.pnm_image.specs.Rows.{row_messages, rows_list}
pub use Rattle.pnm_image.specs.declared.message.Ending.TheVariants.{BrokenOff, More}
pub use Rattle.pnm_image.specs.declared.message.Message.{Message}
pub use Rattle.pnm_image.specs.declared.message.Message.TheVariants.{Begin, ImageEnd, Row, Stop, StreamEnd}
pub use Rattle.pnm_image.specs.declared.packet.Packet.{Packet}
pub use Rattle.pnm_image.specs.declared.place.Place.{Place}
pub use Rattle.pnm_image.specs.declared.place.Place.TheVariants.{After, Between, Inside}
pub use Rattle.pnm_image.specs.declared.shape.Shape.{Shape}
pub use Rattle.pnm_tools.proofs.AnsweringLaws.{answers_from-append}
pub use Rattle.pnm_tools.proofs.AtLaws.{StopsLast, answering_answers, lawful_stops, not_broken}
pub use Rattle.pnm_tools.proofs.DueSoFarLaws.{nothing_yet}
pub use Rattle.pnm_tools.proofs.FullLaws.{answering_in_full}
pub use Rattle.pnm_tools.proofs.FusedSteps.{taken_append}
pub use Rattle.pnm_tools.proofs.HeadFaultLaws.{head_is_refused_by_name}
pub use Rattle.pnm_tools.proofs.InFullLaws.{answers_end_so}
pub use Rattle.pnm_tools.proofs.RowWiseLaws.{row_wise_tools_commute}
pub use Rattle.pnm_tools.proofs.ToolLaws.{tool_answers_images}
pub use Rattle.pnm_tools.specs.Answering.{IsAnswering, answers_from, rows_after, rows_answer, rows_come}
pub use Rattle.pnm_tools.specs.Answers.{AllMayCome, Answers, AnswersInFull, Begins, Judges, JudgesAll, RefusesFirst, RefusesHead}
pub use Rattle.pnm_tools.specs.FusedFilters.{IsIdle}
pub use Rattle.pnm_tools.specs.Tools.{AreTaken, IsLawfulTool, row_answer}
pub use Rattle.pnm_tools.specs.declared.fault.ToolFault.{ToolFault}
pub use Rattle.pnm_tools.specs.declared.fault.ToolFault.TheVariants.{ChannelOutside, CutOutside, Memory, OutOfOrder, TooLarge}
pub use Rattle.pnm_tools.specs.declared.tool.Tool.{Tool}
pub use Rattle.std.proofs.Common.{Bool, Err, IfOk, List, None, Ok, OnOk, Option, Result, Some, [], ap, append-nil, append_assoc, arith, false, inl, inr, length}
pub use Rattle.std.proofs.Common.{refl, rules, subst, sym, true, ℕ, ◌++◌, ◌+◌, ◌∙◌, ◌∷◌, ◌≡◌, ◌≤◌, ◌⊎◌}
pub use Rattle.std.proofs.lemmas.Grind.{common_steps}
pub use Rattle.std.proofs.lemmas.List.{map-append, same_from_push}
pub use Rattle.std.specs.List.{AllByRecursion}
pub use Rattle.std.specs.Prelude.{IfNone, IfSome, OnErr}
