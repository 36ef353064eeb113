use Rattle.part_tokens.proofs.Worked.{parts_begin_with_their_tokens, nothing_is_there}
use Rattle.part_tokens.proofs.laws.worked_parts.Goals as goal

pub returns-clause-parts : goal.returns-clause-parts
returns-clause-parts c = parts_begin_with_their_tokens

pub returns-clause-nothing : goal.returns-clause-nothing
returns-clause-nothing c = nothing_is_there
