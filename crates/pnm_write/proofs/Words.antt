-- What the proofs of pnm_write name of its definitions, of std and of the crates below.
pub use Rattle.pnm_image.proofs.Places.{lawful_append, place_of-append}
pub use Rattle.pnm_image.proofs.RepeatLaws.{each_once}
pub use Rattle.pnm_image.proofs.RowLaws.{concat-cut_rows}
pub use Rattle.pnm_image.proofs.Written.{Appends-nothing, Sending, Written, fails, sending_part, sending_part_failed}
pub use Rattle.pnm_image.specs.Devices.{FailsIn}
pub use Rattle.pnm_image.specs.Heads.{HeadValue, IsHead, Suits, row_length}
pub use Rattle.pnm_image.specs.Images.{Image, cut_rows, messages_of_stream, rows_of}
pub use Rattle.pnm_image.specs.Packets.{messages_in}
pub use Rattle.pnm_image.specs.Parts.{end_messages, part_messages, rest_messages}
pub use Rattle.pnm_image.specs.Places.{IsLawfulFrom, IsRowOf, place_after, place_of}
pub use Rattle.pnm_image.specs.Repeats.{repeated}
pub use Rattle.pnm_image.specs.Rows.{row_messages, rows_list}
pub use Rattle.pnm_image.specs.SampleWidths.{sample_width_of}
pub use Rattle.pnm_image.specs.declared.device.DeviceFailed.{DeviceFailed}
pub use Rattle.pnm_image.specs.declared.format.Form.{Form}
pub use Rattle.pnm_image.specs.declared.format.Form.TheVariants.{Plain, Raw}
pub use Rattle.pnm_image.specs.declared.message.Message.{Message}
pub use Rattle.pnm_image.specs.declared.message.Message.TheVariants.{Begin, ImageEnd, Row, Stop, StreamEnd}
pub use Rattle.pnm_image.specs.declared.place.Place.{Place}
pub use Rattle.pnm_image.specs.declared.place.Place.TheVariants.{After, Between, Inside}
pub use Rattle.pnm_image.specs.declared.sample_width.SampleWidth.{SampleWidth}
pub use Rattle.pnm_image.specs.declared.sample_width.SampleWidth.TheVariants.{Bits, Bytes, Words}
pub use Rattle.pnm_image.specs.declared.shape.Kind.{Kind}
pub use Rattle.pnm_image.specs.declared.shape.Kind.TheVariants.{Bit, Color, Gray, Pam}
pub use Rattle.pnm_image.specs.declared.shape.Shape.{Shape}
pub use Rattle.pnm_samples.proofs.PackLaws.{packed_parts}
pub use Rattle.pnm_samples.proofs.PackedBytes.{packed_view}
pub use Rattle.pnm_samples.proofs.PixelLaws.{all_pixels-push, drop-all_pixels, length-all_pixels, take-all_pixels}
pub use Rattle.pnm_samples.proofs.PixelRowLaws.{length_of_packed}
pub use Rattle.pnm_samples.specs.Internal.Pixels.{AreBytes}
pub use Rattle.pnm_samples.specs.Pixels.{ArePacked, all_pixels, pixels}
pub use Rattle.pnm_samples.specs.SampleVecs.{HasWhiteSpare, slice_samples}
pub use Rattle.pnm_samples.specs.declared.samples.SampleSlice.{SampleSlice}
pub use Rattle.pnm_write.specs.Encoding.{bytes_at, bytes_from, bytes_in, bytes_of, encoding_of, header_text, packed_bytes, row_bytes, wide_bytes, written_of}
pub use Rattle.pnm_write.specs.EncodingLaws.{HasOneText}
pub use Rattle.pnm_write.specs.Forms.{RefusesFirst, form_fault, form_fault_from, form_fault_of, has_begun_after, has_begun_by, images_fault, plain_fault}
pub use Rattle.pnm_write.specs.Forms.{plain_fault_from, plain_kind_fault, plain_taken_from, taken_by}
pub use Rattle.pnm_write.specs.Internal.Encoding.{AreWholeBytes, rows_bytes}
pub use Rattle.pnm_write.specs.Internal.Numerals.{IsEntry, three_digits}
pub use Rattle.pnm_write.specs.Internal.PixelCells.{cell, cells, nibble_cells}
pub use Rattle.pnm_write.specs.Internal.PlainParts.{column_after, column_after_part, fits_in_line, row_end, sample_texts, text_of_part, word_in_line}
pub use Rattle.pnm_write.specs.Internal.Sinks.{BeginsNone, BeginsWith, IsHeadRefused}
pub use Rattle.pnm_write.specs.Internal.WriteBuffers.{FitIn, most_samples}
pub use Rattle.pnm_write.specs.Internal.WriteCalls.{WriteCall}
pub use Rattle.pnm_write.specs.PlainRows.{AreFilled, IsFilled, IsLine, IsSetInLines, join_with_blank, line_text, max_line_length, plain_row_text, sample_text}
pub use Rattle.pnm_write.specs.PlainRows.{set_in_lines, words_after}
pub use Rattle.pnm_write.specs.Sinks.{AreWritable, HasPut, HasRows, HasWritten, Refuses, form_of, has_begun, has_failed, next_place, writer_of}
pub use Rattle.pnm_write.specs.declared.fault.SinkFault.{SinkFault}
pub use Rattle.pnm_write.specs.declared.fault.SinkFault.TheVariants.{Broken, OutOfOrder, PlainPam, SecondPlain, WriteFailed}
pub use Rattle.pnm_write.specs.declared.sink.Sink.{Sink}
pub use Rattle.std.proofs.Common.{All, Bool, Err, IsErr, List, None, Ok, OnOk, Option, Result, Some, [], ap, append_assoc, ap₂, arith, decimal, drop, false}
pub use Rattle.std.proofs.Common.{get_or, if◌then◌else◌, inl, inr, length, length-append, map, min, nat_le, refl, rules, set, slice_index, subst, suc, sym}
pub use Rattle.std.proofs.Common.{take, true, zero, ℕ, ◌%◌, ◌&&◌, ◌*◌, ◌++◌, ◌+◌, ◌-◌, ◌/◌, ◌<◌, ◌==◌, ◌^◌, ◌∙◌, ◌∷◌, ◌≡◌, ◌≤◌, ◌⊎◌}
pub use Rattle.std.proofs.KnownBytes.{Appends-trans}
pub use Rattle.std.proofs.Math.ListN.{length-set}
pub use Rattle.std.proofs.Math.Seq.{take-add, take-append-add, take-set-lt}
pub use Rattle.std.proofs.lemmas.Bool.{cases_lt}
pub use Rattle.std.proofs.lemmas.Bool.Decides.{nat_tests}
pub use Rattle.std.proofs.lemmas.Fmt.{decimal_digit, decimal_is_IsNumeral, decimal_nonempty, decimal_step, length-decimal-le}
pub use Rattle.std.proofs.lemmas.Grind.{common_steps, flat_map-append}
pub use Rattle.std.proofs.lemmas.List.{append-nil, drop-drop, drop-map, drop-take, drop_all, drop_at, drop_more, get_or-drop, get_or-map, length-drop}
pub use Rattle.std.proofs.lemmas.List.{length-map, length-take, map-append, map-id, take-append-drop, take-append-le, take-map, take-take, take_all, take_at}
pub use Rattle.std.proofs.lemmas.List.{take_more, take_more_set}
pub use Rattle.std.proofs.lemmas.List.Elements.{All-append, All-cons, All-drop, All-from_recursion, All-head, All-nil, All-tail, All-take, All-weaker}
pub use Rattle.std.proofs.lemmas.Result.{on_ok_weaker}
pub use Rattle.std.proofs.lemmas.Slice.{take-put_mid}
pub use Rattle.std.specs.Io.KnownBytes.{Appends, Keeps}
pub use Rattle.std.specs.List.{AllByRecursion, concat, flat_map}
pub use Rattle.std.specs.Prelude.{nat_lt}
pub use Rattle.std.specs.Str.{byte}
pub use borrow.Rule.Slice.PartMut.{put_mid}
