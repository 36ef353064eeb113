-- What it means that a check is passed, and that a sum is refused.
use Rattle.std.specs.Prelude.{◌≡◌, ◌≢◌, ◌⊎◌, true, Option, Some, None, Result, MatchResult, IfErr}
use Rattle.builder_spec.specs.Bundle.declared.fault.BundleFault.{BundleFault}
use Rattle.builder_spec.specs.Bundle.declared.fault.BundleFault.TheVariants as sums
use Rattle.builder_spec.specs.Bundle.Bundles.{Amounts}
use Rattle.builder_spec.specs.declared.fault.BuildFault.{BuildFault}
use Rattle.builder_spec.specs.declared.fault.BuildFault.TheVariants.{Memory}
use Rattle.builder_spec.specs.Causes.{is_much}

-- memory aside, a check is passed where its clause names nothing, and else answers the fault that it names
abbrev pub AnswersCause : {X : Type 0} → Result X BuildFault → Option BuildFault → Type 0
AnswersCause result clause = MatchResult result (λ x. clause ≡ None) (λ fault. fault ≢ Memory → clause ≡ Some fault)

-- a sum is refused for memory, or where it would have more of a token than an amount has room for
abbrev pub RefusesMuch : {X : Type 0} → Result X BundleFault → Amounts → Type 0
RefusesMuch result m = IfErr result (λ fault. (fault ≡ sums.Memory) ⊎ ((fault ≡ sums.TooLarge) × (is_much m ≡ true)))
