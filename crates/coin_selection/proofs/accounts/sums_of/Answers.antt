use Rattle.std.proofs.Common.{◌≡◌, true, sym, ◌∙◌, ap, subst, ◌⊎◌}
use Rattle.std.specs.Prelude.{IfOk, IfErr}
use Rattle.builder_spec.specs.Bundle.declared.fault.BundleFault.TheVariants as faults
use Rattle.contract.specs.States.States.{AllPositive}
use Rattle.builder_spec.specs.Roles.Sums.{sums_in, sums_of}
use Rattle.builder_spec.specs.Holding.{sums}
use Rattle.builder_spec.specs.Causes.{is_much}
use Rattle.coin_selection.proofs.SingleLemmas.{itself, sums-singles}
use Rattle.coin_selection.proofs.accounts.sums_of.Goals as goal

pub returns-in-Ok-clause-ok : goal.returns-in-Ok-clause-ok
returns-in-Ok-clause-ok c =
    let is : sums itself c.deref-in-Ok.result.now ≡ sums_of c.args.state.now =
    ap (sums itself) (c.deref-in-Ok.ensures.value ∙ c.in-Ok.ensures) ∙ sums-singles c.accounts.result.now (subst AllPositive (sym c.accounts.ensures.all) c.accounts.ensures.positive) ∙ ap sums_in c.accounts.ensures.all in
    subst (λ m. IfOk c.sum.result (λ bundle. bundle ≡ m)) is c.sum.ensures.ok

pub returns-in-Ok-clause-err : goal.returns-in-Ok-clause-err
returns-in-Ok-clause-err c =
    let is : sums itself c.deref-in-Ok.result.now ≡ sums_of c.args.state.now =
    ap (sums itself) (c.deref-in-Ok.ensures.value ∙ c.in-Ok.ensures) ∙ sums-singles c.accounts.result.now (subst AllPositive (sym c.accounts.ensures.all) c.accounts.ensures.positive) ∙ ap sums_in c.accounts.ensures.all in
    subst (λ m. IfErr c.sum.result (λ fault. (fault ≡ faults.Memory) ⊎ ((fault ≡ faults.TooLarge) × (is_much m ≡ true)))) is c.sum.ensures.err
