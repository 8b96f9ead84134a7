-- What the proofs of pnm_tools name of its definitions, of std and of the crates below.
pub use Rattle.pnm_image.proofs.Heads.{not_large_size, sizes_within}
pub use Rattle.pnm_image.proofs.Lists.{all_of_prefix, each-middle, same_first, same_rest}
pub use Rattle.pnm_image.proofs.Places.{lawful_prefix, next_may_come, place_of-append}
pub use Rattle.pnm_image.proofs.RowLaws.{AreRowsOf, AreRowsOf-rows_of, IsImage-image_of, concat-cut_rows, image_of, length-rows_of, rows_of-image_of}
pub use Rattle.pnm_image.proofs.Streams.{completion, stream_is_lawful, stream_is_messages}
pub use Rattle.pnm_image.specs.Completion.{Completes, IsPrefixOf}
pub use Rattle.pnm_image.specs.Heads.{HeadValue, IsHead, IsTupleType, IsWithinLimits, Suits, head_value, is_too_large, row_length, with_height}
pub use Rattle.pnm_image.specs.Images.{AreImages, Image, IsImage, cut_rows, messages_of_image, messages_of_stream, rows_of, sample_at}
pub use Rattle.pnm_image.specs.Messages.{EndsBy, IsMessage, ending_of, without_stop}
pub use Rattle.pnm_image.specs.Packets.{messages_in, packet_list}
pub use Rattle.pnm_image.specs.Places.{Accepts, IsLawful, IsLawfulFrom, IsRowOf, place_after, place_of}
pub use Rattle.pnm_image.specs.declared.limits.TheConstants.{MAX_DEPTH, MAX_ROW_LENGTH, MAX_SIDE}
pub use Rattle.pnm_image.specs.declared.message.Ending.{Ending}
pub use Rattle.pnm_image.specs.declared.message.Ending.TheVariants.{BrokenOff, More, Whole}
pub use Rattle.pnm_image.specs.declared.message.Message.{Message}
pub use Rattle.pnm_image.specs.declared.message.Message.TheVariants.{Begin, ImageEnd, Row, Stop, StreamEnd}
pub use Rattle.pnm_image.specs.declared.packet.Packet.{Packet}
pub use Rattle.pnm_image.specs.declared.place.Place.{Place}
pub use Rattle.pnm_image.specs.declared.place.Place.TheVariants.{After, Between, Inside}
pub use Rattle.pnm_image.specs.declared.shape.Kind.{Kind}
pub use Rattle.pnm_image.specs.declared.shape.Kind.TheVariants.{Bit, Color, Gray, Pam}
pub use Rattle.pnm_image.specs.declared.shape.Shape.{Shape}
pub use Rattle.pnm_tools.specs.Answering.{IsAnswering, answers_at, answers_from, rows_after, rows_answer, rows_come}
pub use Rattle.pnm_tools.specs.Answers.{Answers, AnswersInFull, AreResults, Begins, Judges, JudgesAll, MayCome, RefusesFirst, RefusesHead, begun_in, begun_of}
pub use Rattle.pnm_tools.specs.Answers.{due_so_far, images_ended}
pub use Rattle.pnm_tools.specs.ChainAnswers.{AreSound, AreWell, HasAnswered, HasRefused, HaveAnswered, IsFirstFault, IsRefusedNext, IsSound}
pub use Rattle.pnm_tools.specs.Chains.{AreLawfulTools, AreResultsInTurn, Refusal, applied_in_turn, refusal_from, refusal_of, results_of}
pub use Rattle.pnm_tools.specs.Channel.{HasPlanes, IsLawfulPick, Picks, picked_head, picked_head_value, picked_row, picked_sample, picked_samples}
pub use Rattle.pnm_tools.specs.Cut.{columns_kept, columns_of_row, cut_head, cut_rows_of, first_kept, first_of, head_of_spans, last_kept, rows_kept}
pub use Rattle.pnm_tools.specs.Cut.{rows_of_spans, span_count, span_within}
pub use Rattle.pnm_tools.specs.Dealing.{IsRowWise, column, dealt_head, dealt_height, dealt_image, dealt_result, dealt_row, dealt_rows}
pub use Rattle.pnm_tools.specs.Depth.{gray_kind, gray_type, nearest_sample, rescaled_by}
pub use Rattle.pnm_tools.specs.Enlarge.{enlarged_head_value, enlarged_row, enlarged_rows, enlarged_sample}
pub use Rattle.pnm_tools.specs.Flip.{ReversesRows, column_of, flipped_sample, in_order, mirrored_row, moved_rows, moves_rows, transform, transform_of}
pub use Rattle.pnm_tools.specs.Flip.{transformed_at_end, transformed_head, transformed_row, transformed_rows, transposed_head_value}
pub use Rattle.pnm_tools.specs.Formulas.{image_by, row_by}
pub use Rattle.pnm_tools.specs.FusedFilters.{FilterAt, FilterBusy, IsBusy, IsIdle, refusal_in}
pub use Rattle.pnm_tools.specs.Internal.Channel.{picked_or}
pub use Rattle.pnm_tools.specs.Internal.Cut.{KeepsWithin}
pub use Rattle.pnm_tools.specs.Internal.Flip.{place_in, transformed_head_value, transformed_sample}
pub use Rattle.pnm_tools.specs.Invert.{inverting}
pub use Rattle.pnm_tools.specs.Laws.{HasQuarterTurns, IsByTheFormula, IsFaultOfHead, then_flipped}
pub use Rattle.pnm_tools.specs.Meaning.{Meaning, RowRule}
pub use Rattle.pnm_tools.specs.PixelSamples.{pixel_of}
pub use Rattle.pnm_tools.specs.SampleTools.{ChangesSamples}
pub use Rattle.pnm_tools.specs.Samplewise.{SampleRule, changed_head, samplewise, samplewise_row_rule}
pub use Rattle.pnm_tools.specs.Tile.{tiled_at_end, tiled_head_value, tiled_row, tiled_sample}
pub use Rattle.pnm_tools.specs.ToolLimits.{within_limits}
pub use Rattle.pnm_tools.specs.Tools.{AreTaken, IsLawfulTool, TakesHead, applied, end_answer, is_row_wise, meaning, output_due, result_head, result_sample}
pub use Rattle.pnm_tools.specs.Tools.{row_answer, row_rule}
pub use Rattle.pnm_tools.specs.Unfed.{unfed_in}
pub use Rattle.pnm_tools.specs.declared.cut.CutBox.{CutBox}
pub use Rattle.pnm_tools.specs.declared.cut.Span.{Span}
pub use Rattle.pnm_tools.specs.declared.fault.ToolFault.{ToolFault}
pub use Rattle.pnm_tools.specs.declared.fault.ToolFault.TheVariants.{ChannelOutside, CutOutside, Memory, OutOfOrder, TooLarge}
pub use Rattle.pnm_tools.specs.declared.flip.FlipWay.{FlipWay}
pub use Rattle.pnm_tools.specs.declared.flip.FlipWay.TheVariants.{LeftRight, Null, Rotate180, Rotate270, Rotate90, TopBottom, Transpose}
pub use Rattle.pnm_tools.specs.declared.flip.Transform.{Transform}
pub use Rattle.pnm_tools.specs.declared.fused_filter.FusedFilter.{FusedFilter}
pub use Rattle.pnm_tools.specs.declared.fused_filter.FusedFilter.TheVariants.{AtWork, Refused}
pub use Rattle.pnm_tools.specs.declared.tool.Tool.{Tool}
pub use Rattle.pnm_tools.specs.declared.tool.Tool.TheVariants.{Channel, Cut, Depth, Enlarge, Flip, Invert, Tile}
pub use Rattle.pnm_tools.specs.declared.unfed.Unfed.{Unfed}
pub use Rattle.std.proofs.Common.{Bool, Err, IfErr, IfOk, IsTrue, List, None, Ok, Option, Result, Some, [], add-mul, ap, append-nil, append_assoc, ap₂, arith}
pub use Rattle.std.proofs.Common.{drop, false, get_or, inl, inr, is_some, length, map, mul-le-mul, mul-pos, mul_assoc, nat_lt, negsuc, not, pos, pos_of_ne-zero}
pub use Rattle.std.proofs.Common.{refl, replicate, reverse, rules, slice_index, subst, suc, suc-mul, sym, take, true, zero, zero-mul, ℕ, ℤ, ◌%◌, ◌&&◌, ◌*◌}
pub use Rattle.std.proofs.Common.{◌++◌, ◌+◌, ◌-◌, ◌/◌, ◌<◌, ◌||◌, ◌↔◌, ◌∙◌, ◌∷◌, ◌≡◌, ◌≤◌, ◌⊎◌}
pub use Rattle.std.proofs.Math.ListN.{get_or-eq_default}
pub use Rattle.std.proofs.Math.Nat.{lt_of_mul-lt-mul_left, mod-lt}
pub use Rattle.std.proofs.Math.Seq.{paste, take-add}
pub use Rattle.std.proofs.lemmas.Bool.{and_from, and_left, and_parts, and_right, cases_lt, eq-eqb, eqb-false, eqb-true, le-leb, le-ltb, leb-true, lt-leb}
pub use Rattle.std.proofs.lemmas.Bool.{lt-ltb, ltb-true, ne_eqb, not-false, not-true, not_from_false}
pub use Rattle.std.proofs.lemmas.Grind.{common_steps, flat_map-append}
pub use Rattle.std.proofs.lemmas.List.{drop-drop, drop-take, drop_all, drop_at, drop_more, get_or-append-add, get_or-drop, get_or-map, get_or-reverse}
pub use Rattle.std.proofs.lemmas.List.{get_or-take, get_or_append_left, get_or_past, length-append, length-drop, length-map, length-reverse, length-take-le}
pub use Rattle.std.proofs.lemmas.List.{map-append, map-id, same_lists, take-take, take_all, take_at}
pub use Rattle.std.proofs.lemmas.List.Concat.{flat_map_single}
pub use Rattle.std.proofs.lemmas.List.Edits.{take-paste}
pub use Rattle.std.proofs.lemmas.List.Elements.{All-append, All-cons, All-from_get_or, All-map, All-nil}
pub use Rattle.std.proofs.lemmas.List.Folds.{flat_map-map}
pub use Rattle.std.proofs.lemmas.List.FromFn.{fill_by_all, get_or-map-range_with_len, length-map-range_with_len}
pub use Rattle.std.proofs.lemmas.List.Sums.{AllPass-from_list_all, list_all-from_AllPass}
pub use Rattle.std.proofs.lemmas.Nat.{div-mul-add, div_below}
pub use Rattle.std.proofs.lemmas.Simd.{map-map}
pub use Rattle.std.proofs.lemmas.Slice.{take-put_mid}
pub use Rattle.std.specs.List.{AllByRecursion, copy_within, flat_map, list_all, range_with_len}
pub use Rattle.std.specs.Prelude.{All, codes, if◌then◌else◌, nat_le, slice_index_or, ◌==◌, ◌≢◌}
pub use Rattle.std.specs.Str.{bytes_eq}
pub use borrow.Rule.Slice.PartMut.{put_mid}
