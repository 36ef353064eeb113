-- The worked lines come out as they should: each side computes to the same text.
use Rattle.std.proofs.Common.{refl}
use Rattle.std.specs.Fmt.{digits}
use Rattle.json.proofs.OnLiterals.{json_on_literals}
use Rattle.hex.proofs.OnLiterals.{hex_on_literals}
use Rattle.table_lines.specs.TableLines.{table_lines}
use Rattle.table_lines.specs.Worked.{CloseLines, PayLines, WhenLines}

pub close_lines : CloseLines
unfolding digits table_lines
close_lines = refl

pub pay_lines : PayLines
unfolding digits json_on_literals hex_on_literals table_lines
pay_lines = refl

pub when_lines : WhenLines
unfolding digits json_on_literals table_lines
when_lines = refl
