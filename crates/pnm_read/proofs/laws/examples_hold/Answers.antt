use Rattle.pnm_read.proofs.Words.{refl, TextExamplesHold}
use Rattle.pnm_read.specs.HeaderTexts.{ends_by, uncommented_from}
use Rattle.pnm_image.specs.Texts.{words}
use Rattle.pnm_read.specs.PamLines.{ended_lines, last_line, first_token, second_token, value_of, kind_of_token, field_values, tuple_type_in}
use Rattle.pnm_read.specs.Items.{piece_from, second_magic_item, first_magic_item, header_item, numbers_item, line_feed_item, pam_item, lines_item, raw_item}
use Rattle.pnm_read.specs.Items.{decimal_item, pixel_item, plain_pixel, plain_decimal, after_last_item}
use Rattle.pnm_read.specs.Said.{in_turn, format_at, pnm_head_at, pam_head_at, raw_row, plain_row, last_plain_row, rows_said, image_said}
use Rattle.pnm_read.specs.Said.{later_said_in, later_said, text_said}
use Rattle.pnm_read.specs.Rasters.{pixels}
use Rattle.pnm_read.proofs.laws.examples_hold.Goals as goal

computed : TextExamplesHold
unfolding pixels ends_by uncommented_from words ended_lines last_line first_token second_token value_of kind_of_token field_values
    tuple_type_in piece_from second_magic_item first_magic_item header_item numbers_item line_feed_item pam_item lines_item raw_item decimal_item pixel_item
    plain_pixel plain_decimal after_last_item in_turn format_at pnm_head_at pam_head_at raw_row plain_row last_plain_row rows_said image_said
    later_said_in later_said text_said
computed = record {
  plain_bits = refl;
  spare_bits = refl;
  plain_color = refl;
  comment_after_sample = refl;
  pixel_after_last = refl;
  wide_above = refl;
  comment_in_number = refl;
  comment_after_maxval = refl;
  after_plain = refl;
  letter_after_last = refl;
  letter_after_above = refl;
  comment_after_above = refl;
  no_width = refl;
  letter = refl;
  half_magic = refl;
  other_magic = refl;
  other_digit = refl;
  empty = refl;
  cut_raster = refl;
  byte_after_raw = refl;
  two_images = refl;
  cut_second = refl;
  plain_after_raw = refl;
  raw_after_plain = refl;
  pam = refl;
  pam_without_depth = refl;
  pam_field_twice = refl;
  pam_no_number = refl;
  pam_bad_number = refl;
  pam_blank_after_magic = refl;
  pam_cut = refl;
}

pub returns : goal.returns
returns c = computed
