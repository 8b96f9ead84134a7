-- What the proofs of pnm_read name of its definitions, of std and of the crates below.
pub use Rattle.pnm_image.proofs.BoolLaws.{not_and_parts}
pub use Rattle.pnm_image.proofs.Heads.{not_large_size, sizes_within}
pub use Rattle.pnm_image.proofs.HeldRowLaws.{length_of_bits, lengths_of_lists}
pub use Rattle.pnm_image.proofs.Lists.{each-middle, each-push, first_and_rest, not_nil}
pub use Rattle.pnm_image.proofs.RowLaws.{AreRowsOf, AreRowsOf-rows_of, IsImage-image_of, image_of, length-rows_of, rows_of-image_of}
pub use Rattle.pnm_image.proofs.Streams.{is_stream_of, stream_ends, stream_is_lawful, stream_is_messages}
pub use Rattle.pnm_image.proofs.Words.{begins_in_run, begins_in_word, runs-cons, words-cons, words-nil, words_by}
pub use Rattle.pnm_image.proofs.Written.{fails}
pub use Rattle.pnm_image.specs.Completion.{IsPrefixOf}
pub use Rattle.pnm_image.specs.Formats.{format_of, is_plain_form, plain, raw}
pub use Rattle.pnm_image.specs.Heads.{HeadValue, IsHead, IsTupleType, IsWithinLimits, Suits, head_value, row_length, shape_fault, with_height}
pub use Rattle.pnm_image.specs.HeldRows.{AreRowsWithin}
pub use Rattle.pnm_image.specs.Images.{AreImages, Image, IsImage, cut_rows, messages_of_image, messages_of_stream, rows_of}
pub use Rattle.pnm_image.specs.Messages.{IsMessage}
pub use Rattle.pnm_image.specs.Packets.{messages_in}
pub use Rattle.pnm_image.specs.Parts.{end_messages, head_messages}
pub use Rattle.pnm_image.specs.Places.{IsLawful, IsLawfulFrom, IsRowOf}
pub use Rattle.pnm_image.specs.Rows.{row_messages, rows_list}
pub use Rattle.pnm_image.specs.SampleWidths.{sample_width_of}
pub use Rattle.pnm_image.specs.Texts.{decimal_value, is_blank, is_digit, is_white, runs_between}
pub use Rattle.pnm_image.specs.declared.format.Format.{Format}
pub use Rattle.pnm_image.specs.declared.head.HeadFault.{HeadFault}
pub use Rattle.pnm_image.specs.declared.limits.TheConstants.{MAX_DEPTH, MAX_MAXVAL, MAX_ROW_LENGTH, MAX_SIDE, MAX_TUPLE_TYPE_LENGTH}
pub use Rattle.pnm_image.specs.declared.message.Message.{Message}
pub use Rattle.pnm_image.specs.declared.message.Message.TheVariants.{Begin, ImageEnd, Row, Row as RowMessage, StreamEnd}
pub use Rattle.pnm_image.specs.declared.packet.Packet.{Packet}
pub use Rattle.pnm_image.specs.declared.packet.Packet.TheVariants.{Part, Stop as Stops, StreamEnd as EndsStream}
pub use Rattle.pnm_image.specs.declared.place.Place.TheVariants.{Inside}
pub use Rattle.pnm_image.specs.declared.rows.RowVec.TheVariants.{Words as WordRows}
pub use Rattle.pnm_image.specs.declared.sample_width.SampleWidth.{SampleWidth}
pub use Rattle.pnm_image.specs.declared.sample_width.SampleWidth.TheVariants.{Bits, Bytes, Words}
pub use Rattle.pnm_image.specs.declared.shape.Kind.{Kind}
pub use Rattle.pnm_image.specs.declared.shape.Kind.TheVariants.{Bit, Color, Gray, Pam}
pub use Rattle.pnm_image.specs.declared.shape.Shape.{Shape}
pub use Rattle.pnm_read.specs.Awaiting.{due_at, is_ended, state_due, state_fault}
pub use Rattle.pnm_read.specs.BeforeFaults.{BeginsWithRows, MayBegin, MayFollowRows, SaysFirstRows, SaysNoImage, SaysUnended, SpellsUpToFault}
pub use Rattle.pnm_read.specs.BufferedReaders.{CanCome, held_of}
pub use Rattle.pnm_read.specs.Examples.{TextExamplesHold}
pub use Rattle.pnm_read.specs.HeaderNumbers.{header_numbers, maxval_of, number_count, planes, shape_of}
pub use Rattle.pnm_read.specs.HeaderTexts.{begins_apart, commented, ends_by, ends_in_comment, ends_in_word, is_apart, is_line_end, number_in, numbers_in}
pub use Rattle.pnm_read.specs.HeaderTexts.{uncommented}
pub use Rattle.pnm_read.specs.Headers.{IsOneLine, IsPamLine, MaySay, SpellsHeader, SpellsHeaderBy, SpellsPamHeader, SpellsPnmHeader}
pub use Rattle.pnm_read.specs.ImageEnds.{IsDecided}
pub use Rattle.pnm_read.specs.ImageSizes.{BeginsWithHeader, FirstImageStandsAlone, followed_by, joined}
pub use Rattle.pnm_read.specs.Internal.Awaiting.{Gives, GivesAtStart, MayBeGiven, SeesText}
pub use Rattle.pnm_read.specs.Internal.BufferedReaders.{Fills, Finds, FindsWords, HoldsEnough, IsByte, Passes, ReadCall, Reads}
pub use Rattle.pnm_read.specs.Internal.ImageSizes.{FindsHead, FindsIn, TellsSize, TellsSizeAfter}
pub use Rattle.pnm_read.specs.Internal.Leading.{IsNumberFirst, IsSampleFirst, TakesSamples}
pub use Rattle.pnm_read.specs.Internal.LineWalks.{after_first, begins_with, joined_with, onto_trimmed, trimmed_end, trimmed_start}
pub use Rattle.pnm_read.specs.Internal.Magics.{format_allowed, format_named}
pub use Rattle.pnm_read.specs.Internal.PamScanners.{AddsTupleType, IsFields, IsPamAfter, IsPamWhole, IsWithTupleType, JudgesLine, SetsNumber, SetsTupleType}
pub use Rattle.pnm_read.specs.Internal.PamScanners.{TakesLine, field_number, held_number, number_of, shape_held, with_number}
pub use Rattle.pnm_read.specs.Internal.RasterRows.{AreHeld, AreHeldWide, FindsRows, FitsBytes, TakesPlain, TakesRows, due_after, greatest_in, rows_held}
pub use Rattle.pnm_read.specs.Internal.RawParts.{AppendsWide, FindsPart, FindsUnits}
pub use Rattle.pnm_read.specs.Internal.Reads.{HasRead}
pub use Rattle.pnm_read.specs.Internal.Saturation.{GivesInMemory, IsNumbers, saturate_u32, with_digit}
pub use Rattle.pnm_read.specs.Internal.Scanners.{IsDecimalAfter, IsDecimalWhole, IsHeaderAfter, IsHeaderFresh, IsHeaderWhole, IsPixelAfter, IsPixelWhole}
pub use Rattle.pnm_read.specs.Internal.Scanners.{JudgesDecimal, JudgesHeader, JudgesPixel, PushesDecimal, PushesHeader, is_numeral_byte, numbers_with_digit}
pub use Rattle.pnm_read.specs.Internal.Scans.{Feeds, FeedsAfter, IfEnds, JudgesByte, JudgesEnd, Scans, ScansAfter, TakesJudged}
pub use Rattle.pnm_read.specs.Internal.Units.{AreBytesWithin, samples_of_bytes}
pub use Rattle.pnm_read.specs.Items.{decimal_end, decimal_item, ends_in_digit, fault_of_head, first_magic_item, header_end, header_item, header_limit}
pub use Rattle.pnm_read.specs.Items.{is_bad_in_header, is_complete, is_delimiter, is_pixel, is_type_too_long, line_feed_item, line_item, lines_item}
pub use Rattle.pnm_read.specs.Items.{number_item, numbers_item, pam_item, pam_limit, piece_from, pixel_end, pixel_in, pixel_item, plain_decimal, plain_pixel}
pub use Rattle.pnm_read.specs.Items.{plain_sample, raw_item, sample_item, shape_in, tuple_type_item, ◌>>=◌}
pub use Rattle.pnm_read.specs.PamLines.{ended_lines, field_values, first_token, kind_of_token, last_line, line_kind, name_of, second_token, trimmed}
pub use Rattle.pnm_read.specs.PamLines.{tuple_type_in, value_of}
pub use Rattle.pnm_read.specs.Rasters.{IsGap, MayFollowSample, SpellsDecimal, SpellsPiece, SpellsPlain, SpellsPlainSamples, SpellsRaw, SpellsSample}
pub use Rattle.pnm_read.specs.Rasters.{bytes_in_row, pixel_at, pixels, raw_samples, wide_samples}
pub use Rattle.pnm_read.specs.Said.{AreSaid, IsOutsideFault, Said, after_messages, ends_stream, fault_of, format_at, format_said, head_at, head_by, head_said}
pub use Rattle.pnm_read.specs.Said.{in_turn, later_said, pam_head_at, plain_row, pnm_head_at, raw_row, row_at, row_in_form, rows_said, said_of, says_fault}
pub use Rattle.pnm_read.specs.Said.{says_nothing, text_said, then_said, units_at, units_in_row}
pub use Rattle.pnm_read.specs.Sources.{AnswerTells, HasGiven, IsFreshSource, MayGive, MayGiveMore, SeesEnd, Tells, reader_of, stopped_by}
pub use Rattle.pnm_read.specs.Spelling.{Spells, SpellsImage, SpellsPlainAlone, SpellsRaster, SpellsRasterBy, SpellsRawImage, SpellsRawImages}
pub use Rattle.pnm_read.specs.TextLaws.{IsAtFault, SpellsOnly}
pub use Rattle.pnm_read.specs.declared.buffered_reader.BufferedReader.{BufferedReader}
pub use Rattle.pnm_read.specs.declared.decimal.DecimalScanner.{DecimalScanner}
pub use Rattle.pnm_read.specs.declared.decimal.TheConstants.{GAP_LIMIT}
pub use Rattle.pnm_read.specs.declared.fault.InputFault.{InputFault}
pub use Rattle.pnm_read.specs.declared.fault.InputFault.TheVariants.{BadMagic, BadNumber, BadPamLine, BadSample, DuplicateField, EmptyInput}
pub use Rattle.pnm_read.specs.declared.fault.InputFault.TheVariants.{HeaderCut as CutFault, HeaderCut, Memory, MissingField, PlainInStream, RasterCut}
pub use Rattle.pnm_read.specs.declared.fault.InputFault.TheVariants.{ReadFailed, SampleAboveMaxval, TooLong}
pub use Rattle.pnm_read.specs.declared.fields.Fields.{Fields}
pub use Rattle.pnm_read.specs.declared.header.HeaderScanner.{HeaderScanner}
pub use Rattle.pnm_read.specs.declared.header.TheConstants.{MAX_HEADER_LENGTH}
pub use Rattle.pnm_read.specs.declared.line.Field.{Field}
pub use Rattle.pnm_read.specs.declared.line.Field.TheVariants.{Depth, Height, Maxval, Width}
pub use Rattle.pnm_read.specs.declared.line.LineKind.{LineKind}
pub use Rattle.pnm_read.specs.declared.line.LineKind.TheVariants.{End, Nothing, Number, TupleType, Unknown}
pub use Rattle.pnm_read.specs.declared.open_reader.OpenReader.{OpenReader}
pub use Rattle.pnm_read.specs.declared.pam.PamScanner.{PamScanner}
pub use Rattle.pnm_read.specs.declared.pixel.PixelScanner.{PixelScanner}
pub use Rattle.pnm_read.specs.declared.raster.Raster.{Raster}
pub use Rattle.pnm_read.specs.declared.scan_status.ScanStatus.{ScanStatus}
pub use Rattle.pnm_read.specs.declared.scan_status.ScanStatus.TheVariants.{EndsBefore, EndsWith, Fails, GoesOn}
pub use Rattle.pnm_read.specs.declared.sizes.ImageSize.{ImageSize}
pub use Rattle.pnm_read.specs.declared.sizes.ImageSize.TheVariants.{Plain, Raw}
pub use Rattle.pnm_read.specs.declared.source.Awaited.{Awaited}
pub use Rattle.pnm_read.specs.declared.source.Awaited.TheVariants.{FirstImage, ImageOrEnd}
pub use Rattle.pnm_read.specs.declared.source.Source.{Source}
pub use Rattle.pnm_read.specs.declared.source.State.{State}
pub use Rattle.pnm_read.specs.declared.source.State.TheVariants.{Awaits, Ended, Failed}
pub use Rattle.pnm_samples.proofs.CutLaws.{length-cut_rows}
pub use Rattle.pnm_samples.proofs.PixelLaws.{take-all_pixels}
pub use Rattle.pnm_samples.proofs.PixelRowLaws.{byte_pixels_within}
pub use Rattle.pnm_samples.proofs.PixelRowsLaws.{length_of_rows}
pub use Rattle.pnm_samples.specs.PixelRows.{bytes_for, rows_of_bytes}
pub use Rattle.pnm_samples.specs.Pixels.{all_pixels}
pub use Rattle.std.proofs.Common.{All, Bool, Err, IsTrue, List, None, Ok, Option, Result, Some, [], ap, append-nil, append_assoc, ap₂, arith, codes, cond}
pub use Rattle.std.proofs.Common.{count_by, drop, drop-cons, false, flat_map, fold, get_or, if◌then◌else◌, inl, inr, is_err, leb, length, map, map-id, min}
pub use Rattle.std.proofs.Common.{mul-pos, not, pos_of_ne-zero, refl, reverse, rules, slice_get, slice_index_or, subst, suc, suc-add, suc-mul, sym, take, true}
pub use Rattle.std.proofs.Common.{vec_len, zero, zero-add, zero-mul, ℕ, ◌&&◌, ◌*◌, ◌++◌, ◌+◌, ◌-◌, ◌/◌, ◌<◌, ◌==◌, ◌^◌, ◌||◌, ◌↔◌, ◌∙◌, ◌∷◌, ◌≡◌, ◌≢◌, ◌≤◌, ◌⊎◌}
pub use Rattle.std.proofs.KnownBytes.{Consumes-kept}
pub use Rattle.std.proofs.Math.Nat.{mul-le-mul_left, mul_assoc}
pub use Rattle.std.proofs.Math.Seq.{take-add, take-append-add, take-append_seam}
pub use Rattle.std.proofs.lemmas.Bool.{and_parts, and_right, both_ways, cases_eq, cases_lt, eq-eqb, eqb-false, eqb-true, false_from_ne_true, le-leb, le-ltb}
pub use Rattle.std.proofs.lemmas.Bool.{leb-false, leb-true, lt-leb, lt-ltb, ltb-false, ltb-true, ne_eqb, not-false, not-true, not_from_true}
pub use Rattle.std.proofs.lemmas.Bool.Decides.{nat_tests}
pub use Rattle.std.proofs.lemmas.Grind.{common_steps, flat_map-append}
pub use Rattle.std.proofs.lemmas.Int.Digits.{digits_value_more, digits_value_push}
pub use Rattle.std.proofs.lemmas.Iterator.{YieldsList, YieldsList-from_map}
pub use Rattle.std.proofs.lemmas.Iterator.Adapters.{items_from_extend}
pub use Rattle.std.proofs.lemmas.Iterator.Splits.{YieldsList-from_shown_while}
pub use Rattle.std.proofs.lemmas.List.{append_cancel_right, drop-append-le, drop-drop, drop-take, drop_all, drop_at, drop_more, get_or-drop, get_or-map}
pub use Rattle.std.proofs.lemmas.List.{length-append, length-drop, length-map, length-reverse, length-take, length-take-le, map-append, nil_from_length}
pub use Rattle.std.proofs.lemmas.List.{reverse-append, take-append-drop, take-append-le, take-take, take_all, take_at, take_more, take_rest}
pub use Rattle.std.proofs.lemmas.List.Elements.{All-append, All-cons, All-drop, All-head, All-map, All-nil, All-push, All-tail, All-take, All-weaker}
pub use Rattle.std.proofs.lemmas.List.Elements.{filter-append}
pub use Rattle.std.proofs.lemmas.List.Folds.{concat-append, list_all-append, list_all_at, list_all_more, prefix_len-append}
pub use Rattle.std.proofs.lemmas.List.Splits.{length-slice_split}
pub use Rattle.std.proofs.lemmas.List.Sums.{AllPass-from_list_all, list_all-from_AllPass, suffix_len-le-length}
pub use Rattle.std.proofs.lemmas.Result.{err_from_is_err_and, on_ok_weaker}
pub use Rattle.std.proofs.lemmas.Slice.Eq.{bytes_eq-Decides}
pub use Rattle.std.specs.Char.{digit_value}
pub use Rattle.std.specs.Global.{Vec}
pub use Rattle.std.specs.Int.{from_bool}
pub use Rattle.std.specs.Io.KnownBytes.{Consumes, IsAtEnd}
pub use Rattle.std.specs.List.{AllByRecursion, AllPass, concat, join_with_byte, list_all, onto_first, prefix_len, slice_range, slice_split, suffix_len}
pub use Rattle.std.specs.Option.{option_copied, option_or, unwrap_or}
pub use Rattle.std.specs.Prelude.{IfErr, IfOk, IfSome, IsErrAnd, IsSomeAnd, MatchOption, MatchResult, OnOk, filter, nat_le, nat_lt, slice_index}
pub use Rattle.std.specs.Slice.Iter.{chunks_exact_rest, chunks_exact_size, chunks_exact_steps}
pub use Rattle.std.specs.Str.{bytes_eq}
pub use Rattle.std.specs.Vec.{with_items}
pub use Rattle.std.specs.declared.slice.ChunksExact.{ChunksExact}
pub use borrow.Rule.Slice.PartMut.{post_of}
pub use denote.Ref.{Bor}
