use Rattle.std.proofs.Common.{◌≡◌, drop}
use Rattle.builder_spec.specs.Steps.{may_act, first_barred}
use Rattle.coin_selection.proofs.authorise.unauthorised.Given as goal

abbrev pub invariant-loop-input : goal.invariant-loop-input
invariant-loop-input l = first_barred (may_act l.currency l.signers l.offered) l.inputs ≡ first_barred (may_act l.currency l.signers l.offered) (drop l.input-index l.inputs)
