-- What the proofs of pnm_row_tools name of its definitions, of std and of the crates below.
pub use Rattle.pnm_image.proofs.HeldRowLaws.{length_of_lists, lengths_of_lists, words_of_rows}
pub use Rattle.pnm_image.proofs.RowLaws.{concat-cut_rows, lengths_of_cut_rows, row_ends_within, rows_need}
pub use Rattle.pnm_image.specs.Heads.{IsWithinLimits, head_value, row_length}
pub use Rattle.pnm_image.specs.HeldRows.{AreRows, AreRowsWithin, row_lists}
pub use Rattle.pnm_image.specs.Images.{cut_rows}
pub use Rattle.pnm_image.specs.Places.{IsRowOf}
pub use Rattle.pnm_image.specs.declared.head.Head.{Head as HeadValue}
pub use Rattle.pnm_image.specs.declared.limits.TheConstants.{MAX_SIDE}
pub use Rattle.pnm_image.specs.declared.rows.RowVec.{RowVec}
pub use Rattle.pnm_image.specs.declared.rows.RowVec.TheVariants.{Bits, Bytes, Words}
pub use Rattle.pnm_image.specs.declared.shape.Kind.TheVariants.{Pam}
pub use Rattle.pnm_image.specs.declared.shape.Shape.{Shape}
pub use Rattle.pnm_row_tools.specs.Internal.EachRow.{HoldsRows, HoldsSamples, IsEachChanged, changed, held_samples, part, parts_of}
pub use Rattle.pnm_row_tools.specs.Internal.RowKeeping.{AreRowsOf, as_wide, parts_kept}
pub use Rattle.pnm_row_tools.specs.RowKeeping.{IsReversingRows, IsTable, Reversed, flattened, reversed, reversed_due}
pub use Rattle.pnm_row_tools.specs.declared.cut.Parts.{Parts}
pub use Rattle.pnm_samples.proofs.CutLaws.{length-cut_rows}
pub use Rattle.pnm_samples.proofs.RowOrderLaws.{last_first_long}
pub use Rattle.pnm_samples.specs.Cuts.{last_first}
pub use Rattle.pnm_tools.proofs.CutRowLaws.{all_kept, columns_lie, counts_within, cut_head_by, cut_head_made, cut_row_by, cut_without_rows, row_inside}
pub use Rattle.pnm_tools.proofs.CutRowLaws.{row_outside, rows_lie}
pub use Rattle.pnm_tools.proofs.DepthLaws.{depth_is_samplewise}
pub use Rattle.pnm_tools.proofs.HeadLaws.{changed_head_made, fault_so, head_so, planes_inside, planes_outside}
pub use Rattle.pnm_tools.proofs.PickLaws.{HasColumnsOf, HasPlanesOf, columns_end, columns_picked, flat_map_one_more, picked_within, piece_written}
pub use Rattle.pnm_tools.proofs.PickLaws.{pieces_within, plane_there, planes_picked}
pub use Rattle.pnm_tools.proofs.RangeLaws.{length_of_equals, pieces_alike, pieces_alike_from, pieces_in_parts}
pub use Rattle.pnm_tools.proofs.RowLaws.{at_of_values, row_of_channel, within_values}
pub use Rattle.pnm_tools.proofs.TransformLaws.{reversed_moves, row_moved, row_stays}
pub use Rattle.pnm_tools.specs.Answering.{rows_answer}
pub use Rattle.pnm_tools.specs.Channel.{Picks, picked_row, picked_samples}
pub use Rattle.pnm_tools.specs.Cut.{columns_kept, columns_of_row, rows_kept, span_count}
pub use Rattle.pnm_tools.specs.Flip.{mirrored_row, moves_rows, transform_of, transformed_row}
pub use Rattle.pnm_tools.specs.Internal.Channel.{picked_or}
pub use Rattle.pnm_tools.specs.PixelSamples.{pixel_of}
pub use Rattle.pnm_tools.specs.ToolLimits.{within_limits}
pub use Rattle.pnm_tools.specs.Tools.{result_head, row_answer}
pub use Rattle.pnm_tools.specs.declared.cut.CutBox.{CutBox}
pub use Rattle.pnm_tools.specs.declared.cut.Span.{Span}
pub use Rattle.pnm_tools.specs.declared.flip.FlipWay.{FlipWay}
pub use Rattle.pnm_tools.specs.declared.flip.Transform.{Transform}
pub use Rattle.pnm_tools.specs.declared.tool.Tool.{Tool}
pub use Rattle.pnm_tools.specs.declared.tool.Tool.TheVariants.{Channel, Cut, Depth, Flip}
pub use Rattle.std.proofs.Common.{All, Bool, Err, IfOk, IsTrue, List, MatchBool, None, Ok, Option, Result, Some, [], add-mul, ap, append-nil, append_assoc, ap₂}
pub use Rattle.std.proofs.Common.{arith, drop, false, get_or, if◌then◌else◌, inl, inr, length, length-drop, length-take-le, map, mul-le-mul, mul_assoc, refl}
pub use Rattle.std.proofs.Common.{reverse, rules, set, slice_index, slice_index_or, subst, suc, suc-mul, sym, take, tests, true, zero, zero-mul, ℕ, ◌*◌, ◌++◌}
pub use Rattle.std.proofs.Common.{◌+◌, ◌-◌, ◌/◌, ◌<◌, ◌↔◌, ◌∙◌, ◌∷◌, ◌≡◌, ◌≤◌, ◌⊎◌}
pub use Rattle.std.proofs.Math.Seq.{paste, take-add}
pub use Rattle.std.proofs.lemmas.Bool.{false≢true, not-false, not-true}
pub use Rattle.std.proofs.lemmas.Bool.Decides.{nat_tests}
pub use Rattle.std.proofs.lemmas.Grind.{common_steps, flat_map-append}
pub use Rattle.std.proofs.lemmas.Iterator.{YieldsList-from_slice, cases_from_all}
pub use Rattle.std.proofs.lemmas.List.{drop-append-le, drop-drop, drop-map, drop-set-lt, drop-take, drop_all, drop_at, drop_more, get_or-drop, get_or-reverse}
pub use Rattle.std.proofs.lemmas.List.{get_or-take, get_or_default, length-append, length-map, length-reverse, map-append, map-id, map_push, nil_from_length}
pub use Rattle.std.proofs.lemmas.List.{reverse-append, reverse-reverse, take-append-drop, take-append-le, take-map, take-take, take_all, take_at, take_more}
pub use Rattle.std.proofs.lemmas.List.{take_more_set}
pub use Rattle.std.proofs.lemmas.List.Edits.{drop-paste, length-paste, take-paste}
pub use Rattle.std.proofs.lemmas.List.Elements.{All-append, All-drop, All-from_recursion, All-head, All-map, All-nil, All-tail, All-take, recursion_from_All}
pub use Rattle.std.proofs.lemmas.List.FromFn.{map-range_with_len_more}
pub use Rattle.std.specs.List.{AllByRecursion, AllWithin, HoldsAt, concat, copy_within, flat_map, range_with_len}
pub use borrow.Rule.Slice.PartMut.{put_mid}
