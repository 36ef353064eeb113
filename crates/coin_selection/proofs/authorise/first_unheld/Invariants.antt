use Rattle.std.proofs.Common.{◌≡◌, drop}
use Rattle.builder_spec.specs.Holding.{first_unheld}
use Rattle.coin_selection.proofs.authorise.first_unheld.Given as goal

abbrev pub invariant-loop-token : goal.invariant-loop-token
invariant-loop-token l = first_unheld l.outputs l.tokens ≡ first_unheld l.outputs (drop l.token-index l.tokens)
