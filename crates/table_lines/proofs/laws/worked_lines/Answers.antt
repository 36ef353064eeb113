use Rattle.table_lines.proofs.Examples.{close_lines, pay_lines, when_lines}
use Rattle.table_lines.proofs.laws.worked_lines.Goals as goal

pub returns : goal.returns
returns c = record { closes = close_lines; pays = pay_lines; waits = when_lines }
