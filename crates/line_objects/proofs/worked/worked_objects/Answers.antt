use Rattle.line_objects.proofs.LineLemmas.{two_lines}
use Rattle.line_objects.proofs.worked.worked_objects.Goals as goal

pub returns-clause-two : goal.returns-clause-two
returns-clause-two c = two_lines
