-- The definitions that the functions of a file follow, which the check opens there. Assumes nothing.
use Rattle.rom.specs.Bytes.{pick}
use Rattle.text.specs.Lines.{lines_of}
use Rattle.hexadecimal.specs.Form.{is_words, stands_apart}
use Rattle.hexadecimal.specs.Group.{no_group, stopped, at_blank, ends_row, digits_wanted, is_joined, with_digit, at_digit, next_group}
use Rattle.hexadecimal.specs.Held.{nothing_held, faulted, pushed, with_value, with_group, closed, repeated_from, repeated_to}
use Rattle.hexadecimal.specs.Offset.{is_blank, is_of, is_marked, behind_mark, digits_of, behind_digits, has_colon, row_part, is_offset}
use Rattle.hexadecimal.specs.Offset.{value_from, offset_of, beginning_of, beginning_for, form_by_width, width_of, form_of, is_plain}
use Rattle.hexadecimal.specs.Text.{unread_mode, first_mode, ends_rows, mode_after, row_from, row_read, placed_row, with_offset, with_line}
use Rattle.hexadecimal.specs.Text.{unread, line_read, lines_read, finished, decoded}

unfoldable pub of_forms : Unit {0}
unfolding is_words stands_apart digits_wanted beginning_for pick
of_forms = tt

unfoldable pub of_groups : Unit {0}
unfolding no_group stopped at_blank ends_row is_joined with_digit at_digit next_group pick
of_groups = tt

unfoldable pub of_bytes_held : Unit {0}
unfolding nothing_held faulted pushed with_value with_group closed repeated_from repeated_to pick
of_bytes_held = tt

unfoldable pub of_modes : Unit {0}
unfolding unread_mode first_mode ends_rows mode_after pick
of_modes = tt

unfoldable pub of_offsets : Unit {0}
unfolding is_blank is_of is_marked behind_mark digits_of behind_digits has_colon row_part is_offset value_from offset_of beginning_of
    form_by_width width_of form_of is_plain pick
of_offsets = tt

unfoldable pub of_rows : Unit {0}
unfolding row_from row_read placed_row with_offset with_line pick
of_rows = tt

unfoldable pub of_texts : Unit {0}
unfolding unread line_read lines_of lines_read finished decoded pick
of_texts = tt
