-- What the proofs of pnm_serial name of its definitions, of std and of the crates below.
pub use Rattle.pnm_image.proofs.Lists.{all_of_prefix}
pub use Rattle.pnm_image.proofs.Places.{lawful_prefix, lawful_suffix, next_may_come, place_of-append}
pub use Rattle.pnm_image.proofs.RepeatLaws.{length_of_repeated, repeated_some}
pub use Rattle.pnm_image.proofs.RowLaws.{AreRowsOf, AreRowsOf-rows_of, concat-cut_rows, length-rows_of}
pub use Rattle.pnm_image.proofs.Streams.{stream_is_lawful}
pub use Rattle.pnm_image.proofs.Words.{words-cons, words-nil}
pub use Rattle.pnm_image.proofs.Written.{fails_again, prefix-more, then_prefix}
pub use Rattle.pnm_image.specs.Completion.{Completes, IsPrefixOf}
pub use Rattle.pnm_image.specs.Devices.{AppendsPrefix, Failed, FailsIn}
pub use Rattle.pnm_image.specs.Formats.{format_of}
pub use Rattle.pnm_image.specs.Heads.{HeadValue, IsHead, IsTupleType, IsWithinLimits, Suits, row_length}
pub use Rattle.pnm_image.specs.Images.{AreImages, Image, IsImage, cut_rows, messages_of_image, messages_of_stream, rows_of}
pub use Rattle.pnm_image.specs.Messages.{EndsBy, ending_of, without_stop}
pub use Rattle.pnm_image.specs.Packets.{messages_in}
pub use Rattle.pnm_image.specs.Parts.{end_messages, part_messages, rest_messages}
pub use Rattle.pnm_image.specs.Places.{Accepts, IsLawful, IsLawfulFrom, IsRowOf, place_after, place_of}
pub use Rattle.pnm_image.specs.Repeats.{repeated}
pub use Rattle.pnm_image.specs.Rows.{row_messages, rows_list}
pub use Rattle.pnm_image.specs.Texts.{decimal_value, is_blank, is_digit, is_white, words}
pub use Rattle.pnm_image.specs.declared.format.Form.{Form}
pub use Rattle.pnm_image.specs.declared.format.Form.TheVariants.{Plain, Raw}
pub use Rattle.pnm_image.specs.declared.format.Format.{Format}
pub use Rattle.pnm_image.specs.declared.message.Ending.TheVariants.{BrokenOff, More, Whole}
pub use Rattle.pnm_image.specs.declared.message.Message.{Message}
pub use Rattle.pnm_image.specs.declared.message.Message.TheVariants.{Begin, ImageEnd, Row, Stop, StreamEnd}
pub use Rattle.pnm_image.specs.declared.packet.Packet.{Packet}
pub use Rattle.pnm_image.specs.declared.place.Place.{Place}
pub use Rattle.pnm_image.specs.declared.place.Place.TheVariants.{Between}
pub use Rattle.pnm_image.specs.declared.sample_width.SampleWidth.TheVariants.{Bits, Bytes, Words}
pub use Rattle.pnm_image.specs.declared.shape.Kind.{Kind}
pub use Rattle.pnm_image.specs.declared.shape.Kind.TheVariants.{Bit, Color, Gray, Pam}
pub use Rattle.pnm_image.specs.declared.shape.Shape.{Shape}
pub use Rattle.pnm_read.proofs.CommentLaws.{commented_after, commented_after-append}
pub use Rattle.pnm_read.proofs.Consumed.{consumes_nothing, consumes_then}
pub use Rattle.pnm_read.proofs.LineLaws.{with_feeds}
pub use Rattle.pnm_read.proofs.PlainLaws.{apart_follows}
pub use Rattle.pnm_read.proofs.ReadCalls.{no_fault}
pub use Rattle.pnm_read.proofs.SaidLaws.{said_is_lawful}
pub use Rattle.pnm_read.proofs.SampleLaws.{uncommented_digits}
pub use Rattle.pnm_read.proofs.StreamLaws.{given_is_prefix, holds_of_said, no_text_fault, not_stopped, nothing_may_come, read_head_has_rows, rest_may_come}
pub use Rattle.pnm_read.proofs.StreamLaws.{said_are_messages}
pub use Rattle.pnm_read.proofs.TextLaws.{are_said, images_of_messages_are_one, one_list_or_one_fault, said_text_is_spelled}
pub use Rattle.pnm_read.proofs.TupleTypeLaws.{trimmed_end-same, trimmed_start-same}
pub use Rattle.pnm_read.proofs.WalkLaws.{first_token_is, tuple_type_in-cons, tuple_type_in-nil, value_is}
pub use Rattle.pnm_read.proofs.WordLaws.{digit_is_not_sharp, digit_is_not_white, ends_by-split, uncommented-split, white_is_not_sharp, words-split}
pub use Rattle.pnm_read.specs.HeaderNumbers.{header_numbers}
pub use Rattle.pnm_read.specs.HeaderTexts.{begins_apart, commented, ends_in_comment, ends_in_word, numbers_in, uncommented}
pub use Rattle.pnm_read.specs.Headers.{IsPamLine, MaySay, SpellsHeader, SpellsHeaderBy, SpellsPamHeader, SpellsPnmHeader}
pub use Rattle.pnm_read.specs.Internal.LineWalks.{joined_with, trimmed_end}
pub use Rattle.pnm_read.specs.PamLines.{first_token, line_kind, name_of, value_of}
pub use Rattle.pnm_read.specs.Rasters.{IsGap, MayFollowSample, SpellsDecimal, SpellsPiece, SpellsPlainSamples, SpellsRaw, SpellsSample, bytes_in_row, pixels}
pub use Rattle.pnm_read.specs.Rasters.{raw_samples}
pub use Rattle.pnm_read.specs.Said.{AreSaid, IsOutsideFault, fault_of, said_of}
pub use Rattle.pnm_read.specs.Sources.{HasGiven, IsFreshSource as IsUnread, MayGive, MayGiveMore, SeesEnd, Tells, reader_of, stopped_by}
pub use Rattle.pnm_read.specs.Spelling.{Spells, SpellsPlainAlone, SpellsRawImage, SpellsRawImages}
pub use Rattle.pnm_read.specs.declared.fault.InputFault.{InputFault}
pub use Rattle.pnm_read.specs.declared.fault.InputFault.TheVariants.{Memory as NoMemoryToRead, ReadFailed}
pub use Rattle.pnm_read.specs.declared.line.Field.{Field}
pub use Rattle.pnm_read.specs.declared.line.Field.TheVariants.{Depth, Height, Maxval, Width}
pub use Rattle.pnm_read.specs.declared.line.LineKind.{LineKind}
pub use Rattle.pnm_read.specs.declared.line.LineKind.TheVariants.{End, Number}
pub use Rattle.pnm_read.specs.declared.source.Source.{Source}
pub use Rattle.pnm_samples.proofs.PackLaws.{length-packed_bytes}
pub use Rattle.pnm_samples.proofs.PackedAgain.{ArePixels, pixels_of_groups}
pub use Rattle.pnm_serial.specs.Counts.{image_count_after, images_in, row_count_after, rows_in, saturate_u64}
pub use Rattle.pnm_serial.specs.Feeding.{HasMore, IsReadFailure, IsSaidOf, MayFollowRead}
pub use Rattle.pnm_serial.specs.FusedSinks.{AnswersFlushes, AreCutOff, AreInOrder, AreWritten, CountsFlushes, CutsOff, HasTaken, HasTakenWith, output_of}
pub use Rattle.pnm_serial.specs.Internal.Feeding.{HasFed, HaveTaken}
pub use Rattle.pnm_serial.specs.Internal.SerialChains.{FeedsThrough, FiltersBusy, GivesThrough, refusals_in}
pub use Rattle.pnm_serial.specs.Internal.SerialRuns.{IsFirstRefusal, answer_by}
pub use Rattle.pnm_serial.specs.Jobs.{Job, bytes_due, job_of}
pub use Rattle.pnm_serial.specs.RunExamples.{ResultBeforeRefusalIsWritten, RunExamplesHold, from_second, image_of_samples, wide_then_narrow}
pub use Rattle.pnm_serial.specs.RunFacts.{EndedWell, HasWrittenResults, IfGone, IfInput, IfOutput, IfTool, IsPrefixOfBytesDue, IsPrefixWhatever, IsStoppedBy}
pub use Rattle.pnm_serial.specs.RunFacts.{RunTells, WhatARunInOneThreadTells, WhatARunTells, WhatARunWithoutListTells}
pub use Rattle.pnm_serial.specs.RunLaws.{OneAnswerForEachText}
pub use Rattle.pnm_serial.specs.Runs.{Change, CountsFailures, HasRun, HasWritten, MayFollow, MustGiveAll, change}
pub use Rattle.pnm_serial.specs.SerialChains.{FiltersAt}
pub use Rattle.pnm_serial.specs.SerialRuns.{AllIsWritten, AnswersText, FitAnswer, HasMostMessages, HasRunInOneThread, IsAllWritten, IsOfOneThread}
pub use Rattle.pnm_serial.specs.Verdicts.{AnswersVerdict, FailsAround, HasOneVerdict, HasResults, IsAnswer, IsFromOutside, IsVerdict, OneVerdictForEachText}
pub use Rattle.pnm_serial.specs.Verdicts.{RefusalIs, VerdictsAreOfTexts, summary_of}
pub use Rattle.pnm_serial.specs.declared.fault.RunFault.{RunFault}
pub use Rattle.pnm_serial.specs.declared.fault.RunFault.TheVariants.{Input, NoStart, Output, PeerGone, Tool as OfTool}
pub use Rattle.pnm_serial.specs.declared.fused_sink.FusedSink.{FusedSink}
pub use Rattle.pnm_serial.specs.declared.summary.Summary.{Summary}
pub use Rattle.pnm_stages.proofs.EndingLaws.{prefix_goes_on, stream_ends_whole}
pub use Rattle.pnm_stages.proofs.SendingSteps.{GivesAnswers}
pub use Rattle.pnm_tools.proofs.AnsweringLaws.{AnswersImages, answered_after_image, applied_by, due_by, due_is, ends_between, taken_rest}
pub use Rattle.pnm_tools.proofs.ChainLaws.{first_fault_in_order, given_are_sound, none_before_first_fault, prefix_of_due_is_sound, refusal_is_first}
pub use Rattle.pnm_tools.proofs.ChainLaws.{sound_prefix, stream_is_answered}
pub use Rattle.pnm_tools.proofs.FullAnswers.{full_answer_is_the_stream}
pub use Rattle.pnm_tools.proofs.HeadFaultLaws.{head_is_refused_by_name}
pub use Rattle.pnm_tools.proofs.PrefixLaws.{nothing_changes, prefix_by_results, rest_in_turn}
pub use Rattle.pnm_tools.proofs.RefusalLaws.{in_order, refusal_by, results_are, results_are_images, results_in_turn, same_in_turn}
pub use Rattle.pnm_tools.proofs.ResultLaws.{result_has_rows, result_is_image}
pub use Rattle.pnm_tools.proofs.SoundLaws.{sound_keeps_all, unbroken_keeps_all}
pub use Rattle.pnm_tools.specs.Answering.{answers_from}
pub use Rattle.pnm_tools.specs.Answers.{Answers, AnswersInFull, AreResults, Judges, RefusesHead, begun_of, images_ended}
pub use Rattle.pnm_tools.specs.ChainAnswers.{AreSound, AreWell, HasRefused, HaveAnswered, IsFirstFault, IsRefusedNext, IsSound}
pub use Rattle.pnm_tools.specs.Chains.{AreLawfulTools, AreResultsInTurn, Refusal, applied_in_turn, due_in_turn, refusal_from, refusal_of, results_of}
pub use Rattle.pnm_tools.specs.Formulas.{image_by}
pub use Rattle.pnm_tools.specs.FusedFilters.{FilterAt, FilterBusy, refusal_in, waiting_at}
pub use Rattle.pnm_tools.specs.Laws.{IsFaultOfHead}
pub use Rattle.pnm_tools.specs.Tools.{AreTaken, IsLawfulTool, TakesHead, applied, output_due, result_head, result_sample}
pub use Rattle.pnm_tools.specs.Unfed.{HasFedNext, unfed_in}
pub use Rattle.pnm_tools.specs.declared.fault.ToolFault.{ToolFault}
pub use Rattle.pnm_tools.specs.declared.fault.ToolFault.TheVariants.{ChannelOutside, CutOutside, Memory, OutOfOrder, TooLarge}
pub use Rattle.pnm_tools.specs.declared.fused_filter.FusedFilter.{FusedFilter}
pub use Rattle.pnm_tools.specs.declared.fused_filter.FusedFilter.TheVariants.{AtWork, Refused}
pub use Rattle.pnm_tools.specs.declared.tool.Tool.{Tool}
pub use Rattle.pnm_tools.specs.declared.tool.Tool.TheVariants.{Cut}
pub use Rattle.pnm_write.proofs.FormLaws.{form_fault-more, no_first_fault, no_last_fault, refused_before, refused_next, stream_fault}
pub use Rattle.pnm_write.proofs.MessageLaws.{bytes_from-append, bytes_of_stream, written_all, written_prefix}
pub use Rattle.pnm_write.proofs.PlainLaws.{has_begun_line, row_text_left}
pub use Rattle.pnm_write.proofs.WordSizes.{IsShortWord, decimal_short, each_within, sample_is_short}
pub use Rattle.pnm_write.specs.Encoding.{bytes_from, bytes_in, bytes_of, encoding_of, header_text, image_bytes, kind_text, packed_bytes, pam_text, row_bytes}
pub use Rattle.pnm_write.specs.Encoding.{tuple_type_line, wide_bytes, written_of}
pub use Rattle.pnm_write.specs.Forms.{IsFormFault, RefusesFirst, form_fault_from, form_fault_of, has_begun_by, images_fault, plain_images_fault}
pub use Rattle.pnm_write.specs.Forms.{plain_kind_fault}
pub use Rattle.pnm_write.specs.Internal.PlainParts.{column_after, fits_in_line, sample_texts, separator, text_of_part, word_in_line}
pub use Rattle.pnm_write.specs.PlainRows.{plain_row_text, sample_text}
pub use Rattle.pnm_write.specs.Sinks.{AreInOrderFrom, AreWritable, HasRows, Refuses, form_of, has_begun, has_failed, next_place, writer_of}
pub use Rattle.pnm_write.specs.declared.fault.SinkFault.{SinkFault}
pub use Rattle.pnm_write.specs.declared.fault.SinkFault.TheVariants.{Broken, PlainPam, SecondPlain, WriteFailed}
pub use Rattle.std.proofs.Common.{All, Bool, Err, IfOk, List, None, Ok, OnErr, OnOk, Option, Result, Some, [], ap, append_assoc, ap₂, arith, codes, decimal}
pub use Rattle.std.proofs.Common.{drop, false, flat_map, get_or, if◌then◌else◌, inl, inr, length, map, nat_lt, not, refl, rules, subst, suc, suc-mul, sum_by}
pub use Rattle.std.proofs.Common.{sym, take, true, zero, zero-add, zero-mul, ℕ, ◌*◌, ◌++◌, ◌+◌, ◌-◌, ◌/◌, ◌<◌, ◌==◌, ◌^◌, ◌||◌, ◌∙◌, ◌∷◌, ◌≡◌, ◌≢◌, ◌≤◌, ◌⊎◌}
pub use Rattle.std.proofs.KnownBytes.{Appends-kept}
pub use Rattle.std.proofs.Math.Nat.{div-add-mod}
pub use Rattle.std.proofs.lemmas.Bool.{or_left, or_right}
pub use Rattle.std.proofs.lemmas.Bool.Decides.{nat_tests}
pub use Rattle.std.proofs.lemmas.Fmt.{decimal_is_IsNumeral}
pub use Rattle.std.proofs.lemmas.Grind.{common_steps}
pub use Rattle.std.proofs.lemmas.List.{append-nil, drop_all, drop_at, get_or-map, length-append, length-map, map-append, take_all, take_at}
pub use Rattle.std.proofs.lemmas.List.Elements.{All-append, All-cons, All-head, All-nil, All-tail, All-weaker}
pub use Rattle.std.proofs.lemmas.List.Sums.{AllPass-from_list_all, sum_by-cons}
pub use Rattle.std.proofs.lemmas.Result.{err_from_is_err_and}
pub use Rattle.std.proofs.lemmas.Str.Parse.{digit_from_value}
pub use Rattle.std.specs.Char.{digit_value}
pub use Rattle.std.specs.Io.KnownBytes.{Appends, Consumes, Keeps}
pub use Rattle.std.specs.List.{AllByRecursion, AllPass, concat, list_all}
pub use Rattle.std.specs.Prelude.{slice_set}
pub use Rattle.std.specs.Result.{IfErr, is_err, is_ok}
pub use Rattle.std.specs.Str.{byte}
pub use Rattle.std.specs.Str.Parse.{AllDigits}
pub use borrow.Rule.Slice.PartMut.{mid_of, put_mid}
