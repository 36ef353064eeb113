use Rattle.std.proofs.Common.{ℕ, suc}
use Rattle.contract.specs.Tree.{ContractTree, contract_tree}
use Rattle.semantics.proofs.Settling.{height}
use Rattle.explain_transactions.specs.declared.stop.Moved.{Moved}
use Rattle.explain_transactions.specs.declared.stop.Moved.TheVariants.{On, Rests, Stops}
use Rattle.explain_transactions.specs.Support.{HasMoved}
use Rattle.explain_transactions.proofs.reductions.settle.Given as goal

-- where the reductions have come
abbrev pub invariant-loop-moved : goal.invariant-loop-moved
invariant-loop-moved l = HasMoved l.interval l.fn.left l.left l.moved

-- while they go on, the height of the part
abbrev pub left_to_do : Moved → ContractTree → ℕ
left_to_do On c = suc (height c)
left_to_do Rests c = 0
left_to_do (Stops stop) c = 0

abbrev pub decreases-loop-moved : goal.decreases-loop-moved
decreases-loop-moved l = left_to_do l.moved (contract_tree l.left.contract.now)
