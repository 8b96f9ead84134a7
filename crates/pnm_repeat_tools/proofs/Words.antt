-- What the proofs of pnm_repeat_tools name of its definitions, of std and of the crates below.
pub use Rattle.pnm_image.proofs.HeldRowLaws.{cut_behind, length_of_bits, length_of_lists, lengths_of_lists, one_length, parts_of_bits}
pub use Rattle.pnm_image.proofs.RowLaws.{concat-cut_rows, lengths_of_cut_rows, row_ends_within, rows_need}
pub use Rattle.pnm_image.specs.Heads.{HeadValue, head_value, is_too_large, row_length}
pub use Rattle.pnm_image.specs.HeldRows.{AreRows, AreRowsWithin, AreSliceRows, HoldsRows, row_lists, slice_lists}
pub use Rattle.pnm_image.specs.Images.{cut_rows}
pub use Rattle.pnm_image.specs.Places.{IsRowOf}
pub use Rattle.pnm_image.specs.Repeats.{repeated}
pub use Rattle.pnm_image.specs.declared.limits.TheConstants.{MAX_ROW_LENGTH, MAX_SIDE}
pub use Rattle.pnm_image.specs.declared.rows.RowSlice.{RowSlice}
pub use Rattle.pnm_image.specs.declared.rows.RowVec.{RowVec}
pub use Rattle.pnm_image.specs.declared.rows.RowVec.TheVariants.{Bits, Bytes, Words}
pub use Rattle.pnm_image.specs.declared.shape.Shape.{Shape}
pub use Rattle.pnm_repeat_tools.specs.Enlarging.{ToEnlarge, larger_rows, waiting_due}
pub use Rattle.pnm_repeat_tools.specs.Internal.Enlarging.{CanBeEnlarged, to_enlarge}
pub use Rattle.pnm_repeat_tools.specs.Internal.Keeping.{HasTiles, fronts_in, row_of_samples}
pub use Rattle.pnm_repeat_tools.specs.Keeping.{AreWithin, IsTiling, Tiled, row_of_tiles, shown_row, tiled, tiled_due}
pub use Rattle.pnm_samples.proofs.BitRowLaws.{length_of_row_bytes, row_within}
pub use Rattle.pnm_samples.proofs.BitRowsMade.{row_of_rows}
pub use Rattle.pnm_samples.proofs.CutLaws.{length-cut_rows}
pub use Rattle.pnm_samples.proofs.PixelLaws.{all_pixels-append, drop-all_pixels, length-all_pixels, take-all_pixels}
pub use Rattle.pnm_samples.proofs.PixelRowLaws.{length_of_packed}
pub use Rattle.pnm_samples.proofs.PixelRowsLaws.{length_of_rows, rows_behind}
pub use Rattle.pnm_samples.specs.Internal.BitRows.{row_bytes}
pub use Rattle.pnm_samples.specs.PixelRows.{bytes_for, rows_of_bytes}
pub use Rattle.pnm_samples.specs.Pixels.{ArePacked, all_pixels}
pub use Rattle.pnm_tools.proofs.FlippedHeadLaws.{some_rows}
pub use Rattle.pnm_tools.proofs.FormulaLaws.{range_alike}
pub use Rattle.pnm_tools.proofs.HeadLaws.{fault_so, head_so, large_head, small_row}
pub use Rattle.pnm_tools.proofs.PickLaws.{columns_end, flat_map_one_more}
pub use Rattle.pnm_tools.proofs.PixelLaws.{color_of, pixel_of_one}
pub use Rattle.pnm_tools.proofs.RangeLaws.{length_of_equals, map_in_parts, pieces_alike, pieces_alike_from, pieces_in_parts, replicated}
pub use Rattle.pnm_tools.proofs.RowLaws.{row_of_enlarge}
pub use Rattle.pnm_tools.specs.Answering.{rows_answer}
pub use Rattle.pnm_tools.specs.Enlarge.{copies_of, enlarged_head, enlarged_head_value, enlarged_row}
pub use Rattle.pnm_tools.specs.PixelSamples.{pixel_of}
pub use Rattle.pnm_tools.specs.Tile.{tiled_at_end, tiled_head, tiled_head_value, tiled_row}
pub use Rattle.pnm_tools.specs.ToolLimits.{within_limits}
pub use Rattle.pnm_tools.specs.Tools.{result_head}
pub use Rattle.pnm_tools.specs.declared.fault.ToolFault.{ToolFault}
pub use Rattle.pnm_tools.specs.declared.fault.ToolFault.TheVariants.{OutOfOrder, TooLarge}
pub use Rattle.pnm_tools.specs.declared.tool.Tool.TheVariants.{Enlarge, Tile}
pub use Rattle.std.proofs.Common.{All, Bool, Err, IfOk, List, None, Ok, OnErr, OnOk, Option, Result, Some, [], ap, ap₂, arith, drop, false, get_or}
pub use Rattle.std.proofs.Common.{if◌then◌else◌, inl, inr, length, lt_of_mul-lt-mul_right, map, min, mul-le-mul, mul-le-mul_right, not, refl, replicate, rules}
pub use Rattle.std.proofs.Common.{set, slice_index_or, subst, suc, suc-mul, sym, take, true, zero, zero-mul, ℕ, ◌%◌, ◌&&◌, ◌*◌, ◌++◌, ◌+◌, ◌-◌, ◌/◌, ◌<◌, ◌==◌}
pub use Rattle.std.proofs.Common.{◌∙◌, ◌∷◌, ◌≡◌, ◌≤◌, ◌⊎◌}
pub use Rattle.std.proofs.Math.ListN.{length-set}
pub use Rattle.std.proofs.Math.Nat.{add-mul-mod_self_left, div-add-mod, mod-eq_of_lt, mod-lt, mod_self, zero-mod}
pub use Rattle.std.proofs.Math.Seq.{take-add, take-append-add}
pub use Rattle.std.proofs.lemmas.Bool.{cases_eq, cases_lt, ne_eqb}
pub use Rattle.std.proofs.lemmas.Bool.Decides.{nat_tests}
pub use Rattle.std.proofs.lemmas.Grind.{common_steps, flat_map-append}
pub use Rattle.std.proofs.lemmas.List.{append-nil, append_assoc, drop-append-le, drop-drop, drop-take, drop_at, drop_more, flat_map_more, get_or-map}
pub use Rattle.std.proofs.lemmas.List.{get_or-take, length-append, length-drop, length-map, length-replicate, length-take, length-take-le, map-append}
pub use Rattle.std.proofs.lemmas.List.{nil_from_length, replicate-append-replicate, replicate_more, take-append-drop, take-append-le, take-replicate, take-take}
pub use Rattle.std.proofs.lemmas.List.{take_all, take_at, take_min, take_more, take_more_set}
pub use Rattle.std.proofs.lemmas.List.Elements.{All-append, All-drop, All-from_recursion, All-map, All-nil, All-replicate, All-take, recursion_from_All}
pub use Rattle.std.proofs.lemmas.List.FromFn.{get_or-map-range_with_len, length-map-range_with_len}
pub use Rattle.std.proofs.lemmas.Result.{IfOk-weaker, on_ok_weaker}
pub use Rattle.std.proofs.lemmas.Slice.{take-put_mid}
pub use Rattle.std.specs.List.{AllByRecursion, concat, flat_map, range_with_len, slice_range}
pub use borrow.Rule.Slice.PartMut.{mid_len, put_mid, same_len_mid}
