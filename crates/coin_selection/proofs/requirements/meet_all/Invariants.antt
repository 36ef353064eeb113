use Rattle.std.proofs.Common.{ℤ, ◌-ℤ◌, take}
use Rattle.contract.specs.Names.declared.token.Token.{Token}
use Rattle.builder_spec.specs.Bundle.Totals.{total_of}
use Rattle.builder_spec.specs.Holding.{amount_in}
use Rattle.coin_selection.specs.RequiredSupport.{IsMissing}
use Rattle.coin_selection.proofs.requirements.meet_all.Given as goal

abbrev pub invariant-loop-output : goal.invariant-loop-output
invariant-loop-output l = (f : Token → ℤ) → IsMissing f l.fn.missing → IsMissing (λ t. f t -ℤ total_of amount_in t (take l.output-index l.outputs)) l.missing
