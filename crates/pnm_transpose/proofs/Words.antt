-- What the proofs of pnm_transpose name of its definitions, of std and of the crates below.
pub use Rattle.pnm_image.proofs.HeldRowLaws.{within_greater}
pub use Rattle.pnm_image.specs.Heads.{HeadValue, IsHead, Suits, row_length}
pub use Rattle.pnm_image.specs.HeldRows.{AreRows, AreRowsWithin, AreSliceRows, HasAdded, HoldsSame, slice_lists}
pub use Rattle.pnm_image.specs.Images.{cut_rows}
pub use Rattle.pnm_image.specs.SampleWidths.{sample_width_of}
pub use Rattle.pnm_image.specs.declared.limits.TheConstants.{MAX_ROW_LENGTH}
pub use Rattle.pnm_image.specs.declared.rows.RowSlice.{RowSlice}
pub use Rattle.pnm_image.specs.declared.rows.RowVec.{RowVec}
pub use Rattle.pnm_image.specs.declared.sample_width.SampleWidth.{SampleWidth}
pub use Rattle.pnm_image.specs.declared.sample_width.SampleWidth.TheVariants.{Bytes, Words}
pub use Rattle.pnm_image.specs.declared.shape.Kind.{Kind}
pub use Rattle.pnm_image.specs.declared.shape.Kind.TheVariants.{Bit, Color, Gray, Pam}
pub use Rattle.pnm_image.specs.declared.shape.Shape.{Shape}
pub use Rattle.pnm_samples.specs.Columns.{column_at}
pub use Rattle.pnm_tools.proofs.HeadLaws.{small_row}
pub use Rattle.pnm_tools.proofs.PickLaws.{flat_map_one_more}
pub use Rattle.pnm_tools.proofs.PixelLaws.{color_of, pixel_of_one}
pub use Rattle.pnm_tools.proofs.RangeLaws.{alike_from, map_in_parts, pieces_in_parts}
pub use Rattle.pnm_tools.proofs.TransformLaws.{exchanged_moves, in_order_nil, row_moved}
pub use Rattle.pnm_tools.proofs.WholeHeadLaws.{is_transformed}
pub use Rattle.pnm_tools.specs.Answering.{rows_answer}
pub use Rattle.pnm_tools.specs.Flip.{column_of, in_order, moved_rows, moves_rows, transform_of, transformed_at_end, transformed_row, transposed_head_value}
pub use Rattle.pnm_tools.specs.PixelSamples.{pixel_of}
pub use Rattle.pnm_tools.specs.Tools.{end_answer, result_head}
pub use Rattle.pnm_tools.specs.declared.flip.FlipWay.{FlipWay}
pub use Rattle.pnm_tools.specs.declared.flip.Transform.{Transform}
pub use Rattle.pnm_tools.specs.declared.tool.Tool.TheVariants.{Flip}
pub use Rattle.pnm_transpose.specs.Internal.ColumnBatches.{AreAsLong, AreBlank, AreLongEnough, AreRowsFrom, HavePixels, column_samples}
pub use Rattle.pnm_transpose.specs.Internal.FlatRows.{ordered_rows_in, rows_in}
pub use Rattle.pnm_transpose.specs.Internal.HeldColumns.{HasTaken, HoldsWithin}
pub use Rattle.pnm_transpose.specs.Internal.SampleRows.{IsBatchOfBits}
pub use Rattle.pnm_transpose.specs.Internal.Strips.{KeepColumns, ReachColumns}
pub use Rattle.pnm_transpose.specs.Keeping.{IsTransposing, Transposed, transposed, transposed_due}
pub use Rattle.pnm_transpose.specs.SampleRows.{SuitsShape, row_lists, rows_width, strip_lists}
pub use Rattle.pnm_transpose.specs.Strips.{HaveSizes, coming_column, kept_column, kept_count}
pub use Rattle.pnm_transpose.specs.declared.sample_rows.SampleRows.{SampleRows}
pub use Rattle.pnm_transpose.specs.declared.strip.TheConstants.{STRIP_ROWS}
pub use Rattle.std.proofs.Common.{All, Bool, Global, List, Ok, Option, Result, Some, Vec, [], add-mul, ap, ap₂, arith, drop, false, get_or, if◌then◌else◌, inl}
pub use Rattle.std.proofs.Common.{inr, length, map, mul-le-mul, nat_lt, option_to_list, refl, reverse, rules, set, subst, suc, suc-mul, sym, take, true}
pub use Rattle.std.proofs.Common.{vec_len, zero, zero-mul, ℕ, ◌%◌, ◌*◌, ◌++◌, ◌+◌, ◌-◌, ◌/◌, ◌<◌, ◌∙◌, ◌∷◌, ◌≡◌, ◌≤◌}
pub use Rattle.std.proofs.Math.ListN.{length-set}
pub use Rattle.std.proofs.Math.Nat.{mod-le}
pub use Rattle.std.proofs.Math.Seq.{get_or-append_seam, take-add}
pub use Rattle.std.proofs.lemmas.Bool.{cases_eq, cases_lt, ltb-true}
pub use Rattle.std.proofs.lemmas.Grind.{common_steps, flat_map-append, get_or-set_at}
pub use Rattle.std.proofs.lemmas.List.{append-nil, append_assoc, drop-append-le, drop-drop, drop_at, drop_more, get_or-drop, get_or-map, get_or-reverse}
pub use Rattle.std.proofs.lemmas.List.{get_or-set_other, get_or-take, get_or_append_left, get_or_default, length-append, length-drop, length-map}
pub use Rattle.std.proofs.lemmas.List.{length-reverse, length-take-le, map-append, map-id, nil_from_length, reverse-append, reverse-reverse, same_lists}
pub use Rattle.std.proofs.lemmas.List.{take-append-le, take_all, take_at, take_more, with_items_is}
pub use Rattle.std.proofs.lemmas.List.Elements.{All-append, All-cons, All-drop, All-get_or, All-head, All-nil, All-tail, All-take, All-weaker}
pub use Rattle.std.proofs.lemmas.List.FromFn.{get_or-map-range_with_len, length-map-range_with_len}
pub use Rattle.std.proofs.lemmas.Result.{err_from_is_err_and, on_ok_weaker}
pub use Rattle.std.specs.Bool.{IsTrue}
pub use Rattle.std.specs.List.{flat_map, range_with_len}
pub use Rattle.std.specs.Result.{IfOk}
pub use Rattle.std.specs.Vec.{with_items}
pub use borrow.Rule.Slice.PartMut.{mid_len}
pub use denote.Ref.{Bor}
