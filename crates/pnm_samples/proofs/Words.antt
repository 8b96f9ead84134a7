-- What the proofs of pnm_samples name of its definitions, of std and of the crates below.
pub use Rattle.pnm_samples.specs.Columns.{column_at}
pub use Rattle.pnm_samples.specs.Cuts.{cut_rows, last_first}
pub use Rattle.pnm_samples.specs.Internal.BitRows.{ArePackedRows, IsMovedRun, row_bytes}
pub use Rattle.pnm_samples.specs.Internal.Blocks.{IsSquare, bits_of, lane_at}
pub use Rattle.pnm_samples.specs.Internal.Columns.{AreLong, HasPair, HavePairs, HoldColumns, HoldSixteen, HoldsFrom, HoldsPixels, row_in_place}
pub use Rattle.pnm_samples.specs.Internal.Pixels.{AreBytes}
pub use Rattle.pnm_samples.specs.Internal.Stretches.{AreStretched, stride}
pub use Rattle.pnm_samples.specs.PixelRows.{bytes_for, ordered_rows, rows_of_bytes}
pub use Rattle.pnm_samples.specs.Pixels.{ArePacked, all_pixels, packed_byte, packed_bytes, pixel_at, pixel_bits, pixels}
pub use Rattle.pnm_samples.specs.SampleVecs.{slice_samples}
pub use Rattle.std.proofs.Common.{All, Bool, Err, IfOk, IsTrue, List, Ok, OnOk, Result, Vec, [], ap, ap₂, arith, below_more, cond, drop, eqb, false, get_or}
pub use Rattle.std.proofs.Common.{get_or-set_other, get_or-set_same, if◌then◌else◌, inl, inr, leb, length, lit<, map, max, min, mul-le-mul, pos_of_ne-zero}
pub use Rattle.std.proofs.Common.{refl, replicate, reverse, rules, set, subst, suc, suc-mul, sym, take, take-add, true, zero, zero-mul, ℕ, ◌%◌, ◌&&◌, ◌*◌, ◌++◌}
pub use Rattle.std.proofs.Common.{◌+◌, ◌-◌, ◌/◌, ◌<◌, ◌^◌, ◌↔◌, ◌∙◌, ◌∷◌, ◌≡◌, ◌≢◌, ◌≤◌}
pub use Rattle.std.proofs.Math.Nat.{mul-le-mul_right, pow-succ'}
pub use Rattle.std.proofs.Math.Seq.{drop-append-add, take-append-add, take-append_seam}
pub use Rattle.std.proofs.lemmas.Bool.{agree_below_at, and_parts, cases_eq, cases_lt, eqb-false, eqb-true, le-leb, leb-true}
pub use Rattle.std.proofs.lemmas.Grind.{common_steps, flat_map-append}
pub use Rattle.std.proofs.lemmas.Iterator.Adapters.{YieldsList-from_vec}
pub use Rattle.std.proofs.lemmas.Iterator.Consumers.{YieldsList-end}
pub use Rattle.std.proofs.lemmas.List.{append-nil, append_assoc, drop-append-le, drop-drop, drop-map, drop-replicate, drop-set-lt, drop-take, drop_all, drop_at}
pub use Rattle.std.proofs.lemmas.List.{drop_more, ext_get_or, get_or-append-add, get_or-append_right, get_or-drop, get_or-map, get_or-replicate, get_or-reverse}
pub use Rattle.std.proofs.lemmas.List.{get_or-take, get_or_append_left, get_or_default, get_or_past, length-append, length-drop, length-map, length-replicate}
pub use Rattle.std.proofs.lemmas.List.{length-reverse, length-set, length-take, length-take-le, map-append, map-id, nil_from_length, replicate-append-replicate}
pub use Rattle.std.proofs.lemmas.List.{reverse-append, set-get_or, set_split, take-append-drop, take-append-le, take-map, take-replicate, take-take, take_all}
pub use Rattle.std.proofs.lemmas.List.{take_at, take_min, take_more, take_more_set, take_rest, with_items_is}
pub use Rattle.std.proofs.lemmas.List.Edits.{map_over_more}
pub use Rattle.std.proofs.lemmas.List.Elements.{All-append, All-cons, All-drop, All-get_or, All-more, All-nil, All-replicate, All-take, All-weaker}
pub use Rattle.std.proofs.lemmas.List.FromFn.{get_or-map-range_with_len, length-map-range_with_len}
pub use Rattle.std.proofs.lemmas.Nat.{pow_pos, shr-shr, shr_split}
pub use Rattle.std.proofs.lemmas.Nat.Bits.{bit_at-lt, bit_at-suc, bit_at_and, bit_at_cat_high, bit_at_cat_low, bit_at_mask_below, bit_at_mask_inside}
pub use Rattle.std.proofs.lemmas.Nat.Bits.{bit_at_not, bit_at_or, ones_shr}
pub use Rattle.std.proofs.lemmas.Simd.{get_or-chunk, length-zip2, mask_l-lt, mask_l-mod, put_chunk_whole, tops_compared, zip2_of_maps, zip2_splat_left}
pub use Rattle.std.specs.Global.{Global}
pub use Rattle.std.specs.Int.{bit_at, reverse_bits, to_be_bytes, w16, w8}
pub use Rattle.std.specs.List.{concat, flat_map, range_with_len}
pub use Rattle.std.specs.Prelude.{bit_and, bit_or}
pub use Rattle.std.specs.Vec.{with_items}
pub use borrow.Rule.Slice.PartMut.{mid_len, put_mid, same_len_mid}
pub use denote.Ref.{Bor}
pub use lib.Lanes.{mask_l, pick_l, top, zip2}
pub use mir.Val.{Fits}
