use Rattle.parallel_check.specs.DealingSupport.{AllOk}
use Rattle.parallel_check.proofs.dealing.all_ok.Given as goal

abbrev pub invariant-loop-answer : goal.invariant-loop-answer
invariant-loop-answer g l = AllOk l.yielded l.batches.items
