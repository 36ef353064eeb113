use Rattle.std.proofs.Common.{◌≡◌}
use Rattle.std.specs.Prelude.{All}
use Rattle.contract.specs.Tree.{contract_tree}
use Rattle.bound_runs.specs.Told.{losses_of, AreLost, LossHasNumbers}
use Rattle.bound_runs.proofs.shown.shown_each.Given as goal

-- those so far
abbrev pub invariant-loop-loss : goal.invariant-loop-loss
invariant-loop-loss l = record {
  losses : losses_of l.all ≡ l.yielded;
  lost : AreLost l.state (contract_tree l.contract) l.all;
  numbers : All LossHasNumbers l.all;
}
