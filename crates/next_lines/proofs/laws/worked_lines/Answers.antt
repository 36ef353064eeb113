use Rattle.next_lines.proofs.Worked.{deposits_are_told, choices_and_notifies_are_told, the_way_is_told, closing_is_told, all_is_told_in_order, the_first_are_told, deposits_are_written, choices_are_written, all_is_written}
use Rattle.next_lines.proofs.laws.worked_lines.Goals as goal

pub returns : goal.returns
returns c = record {
  deposits = deposits_are_told;
  choices = choices_and_notifies_are_told;
  way = the_way_is_told;
  closing = closing_is_told;
  lines = all_is_told_in_order;
  first = the_first_are_told;
  written_deposits = deposits_are_written;
  written_choices = choices_are_written;
  written = all_is_written;
}
