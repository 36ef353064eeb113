use Rattle.fault_words.proofs.Worked.{rules_are_told, builders_are_told}
use Rattle.fault_words.proofs.laws.worked_words.Goals as goal

pub returns : goal.returns
returns c = record { rules = rules_are_told; builders = builders_are_told }
