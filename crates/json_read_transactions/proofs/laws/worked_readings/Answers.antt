use Rattle.json_read_transactions.proofs.Worked.{none_is_read, blank_lines_are_left_out, four_are_read, faults_are_numbered, ten_thousand_are_read}
use Rattle.json_read_transactions.proofs.laws.worked_readings.Goals as goal

pub returns : goal.returns
returns c = record { none = none_is_read; blank = blank_lines_are_left_out; four = four_are_read; faults = faults_are_numbered; most = ten_thousand_are_read }
