use Rattle.std.proofs.Common.{drop}
use Rattle.builder_spec.proofs.FromRoles.PutLaws.{IsPut}
use Rattle.builder_spec.specs.Steps.{deposits}
use Rattle.coin_selection.proofs.amounts.put_deposits.Given as goal

abbrev pub invariant-loop-input : goal.invariant-loop-input
invariant-loop-input l = IsPut (deposits l.inputs) (deposits (drop l.input-index l.inputs)) l.fn.amounts.items l.amounts.items
