-- The checker computes each case. Assumes nothing.
use Rattle.std.proofs.Common.{refl}
use Rattle.rom.specs.Bytes.{pick}
use Rattle.text.specs.Lines.{line_of, lines_of}
use Rattle.text.specs.Numbers.{digit_of}
use Rattle.hexadecimal.specs.Form.{is_words, stands_apart}
use Rattle.hexadecimal.specs.Offset.{
  is_blank,
  is_of,
  run_of,
  without_blanks,
  is_marked,
  behind_mark,
  digits_of,
  behind_digits,
  has_colon,
  row_part,
  is_offset,
  value_from,
  offset_of,
  beginning_of,
  beginning_for,
  form_by_width,
  width_of,
  form_of,
  is_plain,
}
use Rattle.hexadecimal.specs.Group.{
  no_group,
  stopped,
  at_blank,
  ends_row,
  digits_wanted,
  is_joined,
  with_digit,
  at_digit,
  next_group,
}
use Rattle.hexadecimal.specs.Held.{
  nothing_held,
  faulted,
  pushed,
  with_value,
  with_group,
  closed,
  repeated_from,
  repeated_to,
}
use Rattle.hexadecimal.specs.Text.{
  unread_mode,
  first_mode,
  ends_rows,
  mode_after,
  row_from,
  row_read,
  placed_row,
  with_offset,
  with_line,
  unread,
  line_read,
  lines_read,
  finished,
  decoded,
}
use Rattle.hexadecimal.specs.Cases.{found_in, found_again, text_cases}
use Rattle.hexadecimal.specs.Claims.{TextsWorked}

pub texts-worked : TextsWorked
unfolding pick line_of lines_of digit_of is_words stands_apart is_blank is_of run_of without_blanks is_marked behind_mark digits_of
    behind_digits
    has_colon row_part is_offset value_from offset_of beginning_of beginning_for form_by_width width_of form_of is_plain no_group stopped
    at_blank ends_row
    digits_wanted is_joined with_digit at_digit next_group nothing_held faulted pushed with_value with_group closed repeated_from
    repeated_to
    unread_mode first_mode ends_rows mode_after row_from row_read placed_row with_offset with_line unread line_read lines_read finished
    decoded found_in
    found_again text_cases
texts-worked = refl
