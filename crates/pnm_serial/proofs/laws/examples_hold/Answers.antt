use Rattle.pnm_serial.proofs.Words.{refl, RunExamplesHold}
use Rattle.std.specs.Fmt.{digits}
use Rattle.pnm_read.specs.HeaderTexts.{ends_by, uncommented_from}
use Rattle.pnm_image.specs.Texts.{words}
use Rattle.pnm_read.specs.PamLines.{ended_lines, last_line, first_token, second_token, value_of, kind_of_token, field_values, tuple_type_in}
use Rattle.pnm_read.specs.Rasters.{pixels}
use Rattle.pnm_read.specs.Items.{piece_from, second_magic_item, first_magic_item, header_item, numbers_item, line_feed_item, pam_item, lines_item, raw_item}
use Rattle.pnm_read.specs.Items.{decimal_item, pixel_item, plain_pixel, plain_decimal, after_last_item}
use Rattle.pnm_read.specs.Said.{in_turn, format_at, pnm_head_at, pam_head_at, raw_row, plain_row, last_plain_row, rows_said, image_said}
use Rattle.pnm_read.specs.Said.{later_said_in, later_said, text_said}
use Rattle.pnm_tools.specs.Tools.{result_head, result_sample}
use Rattle.pnm_tools.specs.Chains.{due_in_turn}
use Rattle.pnm_serial.proofs.laws.examples_hold.Goals as goal

computed : RunExamplesHold
unfolding digits ends_by uncommented_from words ended_lines last_line first_token second_token value_of kind_of_token field_values
    tuple_type_in piece_from second_magic_item first_magic_item header_item numbers_item line_feed_item pam_item lines_item pixels raw_item decimal_item
    pixel_item plain_pixel plain_decimal after_last_item in_turn format_at pnm_head_at pam_head_at raw_row plain_row last_plain_row rows_said
    image_said later_said_in later_said text_said result_head result_sample due_in_turn
computed = record {
  gray = record { said = refl; due = refl };
  bits = record { said = refl; due = refl };
  to_255 = record { said = refl; due = refl };
  half_up = record { said = refl; due = refl };
  bits_to_gray = record { said = refl; due = refl };
  planes = record { said = refl; due = refl };
  last = record { said = refl; due = refl };
  chain = record { said = refl; due = refl };
  enlarged = record { said = refl; due = refl };
  enlarged_across = record { said = refl; due = refl };
  left_right = record { said = refl; due = refl };
  top_bottom = record { said = refl; due = refl };
  transposed = record { said = refl; due = refl };
  tiled = record { said = refl; due = refl };
  plain_bits = record { said = refl; due = refl };
  plain_color = record { said = refl; due = refl };
  plain_first = record { said = refl; due = refl };
  plain_pam = record { said = refl; due = refl };
}

pub returns : goal.returns
returns c = computed
