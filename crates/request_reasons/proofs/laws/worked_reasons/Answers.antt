use Rattle.request_reasons.proofs.Worked.{names_are_no_parts, numbers_are_found, quoted_times_are_told}
use Rattle.request_reasons.proofs.laws.worked_reasons.Goals as goal

pub returns : goal.returns
returns c = record { names = names_are_no_parts; numbers = numbers_are_found; quoted = quoted_times_are_told }
