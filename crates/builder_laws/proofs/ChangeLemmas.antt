-- What is left for the change.
use Rattle.std.proofs.Common.{◌≡◌, ℤ, pos, ◌+ℤ◌, ◌-ℤ◌, ◌≤ℤ◌, List, [], ◌∷◌, ◌++◌, sym, ap, ◌∙◌, subst, None, arith}
use Rattle.std.proofs.lemmas.Int.{ints}
use Rattle.std.specs.FinMap.{entries}
use Rattle.contract.specs.Names.declared.token.Token.{Token}
use Rattle.contract.specs.States.States as states
use Rattle.contract.specs.States.States.{AllPositive}
use Rattle.ledger_spec.specs.Semantics.Laws.{EndsQuiet}
use Rattle.ledger_spec.specs.Semantics.Money.{deposited, MoneyIsKept}
use Rattle.ledger_spec.specs.Semantics.Naturals.{PaymentsAreNatural}
use Rattle.ledger_spec.specs.Bundle.Bundles.{Amounts, amount_of}
use Rattle.ledger_spec.specs.Bundle.Totals.{total_of}
use Rattle.ledger_spec.proofs.FromBundle.AmountLaws.{rests_are_of_each_token}
use Rattle.ledger_spec.specs.EutxoTypes.declared.output.Output.{Output}
use Rattle.ledger_spec.specs.Ledger.declared.look.Unspent.{Unspent}
use Rattle.ledger_spec.specs.Roles.Sums.{sums_of}
use Rattle.ledger_spec.specs.BuilderSpec.Requests.{StepRequest}
use Rattle.ledger_spec.specs.BuilderSpec.Holding.{sums, amount_in, AreBundles}
use Rattle.ledger_spec.specs.BuilderSpec.Laying.{rest}
use Rattle.ledger_spec.specs.BuilderSpec.Steps.{Thread, step_walk, step_outputs_of, step_front, step_spent, step_outputs}
use Rattle.ledger_spec.proofs.FromBuilderSpec.OnePartLaws.{hinders_thread, hinders_on, hinders_step_on}
use Rattle.ledger_spec.specs.BuilderSpec.Starts.{accounts_of, fresh_state, start_front, start_output}
use Rattle.ledger_spec.proofs.FromBuilderSpec.FundsLaws.{funded, all_covered, wanted-accounts, amount_of-sums_in}
use Rattle.ledger_spec.proofs.FromBuilderSpec.HoldingLaws.{amount_of-sums}
use Rattle.ledger_spec.specs.BuilderSpec.Change.{StepChangeIsTheRest, StartChangeIsTheRest}
use Rattle.builder_laws.proofs.LookThreadLemmas.{IsThread, thread_so}
use Rattle.builder_laws.proofs.StepLemmas as stepping
use Rattle.builder_laws.proofs.StartLemmas as starting

bundles_front : (fs later : List Unspent) → AreBundles amount_in (fs ++ later) → AreBundles amount_in fs
bundles_front [] later h = tt
bundles_front (u ∷ us) later h = (h.0, bundles_front us later h.1)

front_bundles : (fs later offered : List Unspent) → offered ≡ fs ++ later → AreBundles amount_in offered → AreBundles amount_in fs
front_bundles fs later offered e h = bundles_front fs later (subst (AreBundles amount_in) e h)

of_thread : MoneyIsKept → EndsQuiet → PaymentsAreNatural → (r : StepRequest) (e : Thread) (t : Token) → IsThread e → hinders_thread r e ≡ None → AllPositive (entries e.datum.state.accounts) → AreBundles amount_in r.offered →
    (amount_of (rest (step_spent r e) (step_outputs r e)) t ≡ total_of amount_in t (step_front r e) -ℤ deposited t r.inputs) × (deposited t r.inputs ≤ℤ total_of amount_in t (step_front r e))
of_thread money quiet natural r e t is clear above offered =
    let fs = step_front r e in
    let more = stepping.later r e clear in
    let end = stepping.succeeds r e clear in
    let f = funded money quiet natural r e end.0 fs is.sums end.1 above (stepping.enough r e clear).1 (front_bundles fs more.0 r.offered more.1 offered) t in
    (ap (λ os. amount_of (rest (step_spent r e) os) t) (ap (step_outputs_of e (step_walk r e)) end.1) ∙ f.rest, f.covered)

pub step_change_is_the_rest : MoneyIsKept → EndsQuiet → PaymentsAreNatural → StepChangeIsTheRest
step_change_is_the_rest money quiet natural look r e t shown clear above offered =
    of_thread money quiet natural r e t (thread_so look e shown) (ap (hinders_on r) (sym shown) ∙ sym (hinders_step_on look r) ∙ clear) above offered

-- ---- of a start

just_one : (n : ℤ) → n +ℤ pos 0 ≡ n
just_one n = omega (arith, ints)

pub start_change_is_the_rest : StartChangeIsTheRest
start_change_is_the_rest r t clear offered =
    let fs = start_front r in
    let more = starting.later r clear in
    let amount : Output → Amounts = λ o. o.amount in
    let made = start_output r ∷ [] in
    let had : total_of amount t made ≡ states.total_of t r.state = just_one (amount_of (sums_of (fresh_state r.state)) t) ∙ amount_of-sums_in (entries r.state.accounts) t in (
      rests_are_of_each_token (sums amount_in fs) (sums amount made) t
          ∙ ap (λ n. n -ℤ amount_of (sums amount made) t) (amount_of-sums amount_in fs t)
          ∙ ap (λ n. total_of amount_in t fs -ℤ n) (amount_of-sums amount made t ∙ had),
      subst (λ n. n ≤ℤ total_of amount_in t fs) (wanted-accounts t r.state) (all_covered t (accounts_of r.state) fs (front_bundles fs more.0 r.offered more.1 offered) (starting.enough r clear).1),
    )
