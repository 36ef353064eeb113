use Rattle.lowering.proofs.Codes as codes
use Rattle.lowering.proofs.laws.codes_stand.Goals as goal

pub returns-clause-stand : goal.returns-clause-stand
returns-clause-stand c = codes.codes_stand

pub returns-clause-tell_apart : goal.returns-clause-tell_apart
returns-clause-tell_apart c = codes.codes_tell_apart
