use Rattle.std.proofs.Common.{◌≡◌, true, None, is_none, sym, ◌∙◌, ap, subst}
use Rattle.std.specs.Option.{option_map}
use Rattle.builder_spec.specs.Eutxo.Faults.{is_empty}
use Rattle.contract.specs.Names.Equal.{ada}
use Rattle.builder_spec.specs.declared.fault.BuildFault.TheVariants.{NoFunds}
use Rattle.builder_spec.specs.Requests.{StartRequest}
use Rattle.builder_spec.specs.Holding.{sums, amount_in, least_lacking}
use Rattle.builder_spec.specs.Fronts.{shortest, some_suffice}
use Rattle.builder_spec.specs.Causes.{funds_cause}
use Rattle.builder_spec.specs.Starts.{accounts_of}
use Rattle.builder.specs.FundsSupport.{AreStartFunds}
use Rattle.builder.proofs.CoveredLemmas.{start_clear, start_covered}
use Rattle.builder.proofs.start.start_funds.Goals as goal

pub returns-in-Ok-check_apart-clause-funds : goal.returns-in-Ok-check_apart-clause-funds
returns-in-Ok-check_apart-clause-funds c =
    let s = c.asked.inside.state.now in
    let us = c.asked.inside.offered.now in
    let clear = start_clear (is_empty us) (NoFunds ada) (funds_cause c.deref.result.now us) c.in_ok-check_start_funds.ensures in
    let funded = subst (λ ns. option_map NoFunds (least_lacking ns us) ≡ None) (c.deref.ensures.value ∙ c.in_ok-amounts.ensures) clear.1 in
    let front = c.in_ok-front.ensures.front ∙ ap (λ ns. shortest (some_suffice ns) us) (c.deref-2.ensures.value ∙ c.in_ok-amounts.ensures) in
    subst (λ (r : StartRequest). AreStartFunds r (record { all = c.in-Ok.shares.others; front = c.in_ok-front.front.now })) c.asked.view_is
    (record {
      all = c.in-Ok.ensures.others ∙ ap (sums amount_in) front;
      front = front;
      covered = subst (λ vs. is_none (least_lacking (accounts_of s) vs) ≡ true) (sym front) (start_covered NoFunds s us clear.0 funded);
      bundles = c.in_ok-front.ensures.bundles;
    })
