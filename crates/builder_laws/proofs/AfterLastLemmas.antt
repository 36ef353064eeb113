-- Closing after the last timeout.
use Rattle.std.proofs.Common.{◌≡◌, ℕ, ◌<◌, ◌^◌, ℤ, pos, negsuc, ◌+ℤ◌, int_lt, Bool, true, false, List, [], ◌∷◌, refl, sym, ap, ◌∙◌, subst, Option, Some, None, Result, Ok, Err, inl, inr, arith}
use Rattle.std.proofs.lemmas.Bool.Decides.{nat_tests}
use Rattle.std.specs.Prelude.{if◌then◌else◌}
use Rattle.std.specs.FinMap.{empty, entries}
use Rattle.ledger_spec.specs.ContractBytes.Numbers.{NumberFits}
use Rattle.ledger_spec.specs.ContractBytes.Names.{HoldingFits}
use Rattle.contract.specs.declared.fault.SemFault.{SemFault}
use Rattle.contract.specs.declared.interval.Interval.{Interval}
use Rattle.ledger_spec.specs.Semantics.Walk.{Standing, answer_of}
use Rattle.ledger_spec.specs.Semantics.Computed.{computed}
use Rattle.ledger_spec.specs.Semantics.Money.{paid_out}
use Rattle.ledger_spec.specs.Semantics.Closing.{ClosesSo, ClosesAfterLast}
use Rattle.ledger_spec.specs.Bundle.Bundles.{Amounts, amount_of, each, plus}
use Rattle.ledger_spec.specs.EutxoTypes.Fitting.{AmountFits}
use Rattle.ledger_spec.specs.Eutxo.Faults.{first_of}
use Rattle.ledger_spec.specs.BuilderSpec.declared.fault.BuildFault.{BuildFault}
use Rattle.ledger_spec.specs.BuilderSpec.declared.fault.BuildFault.TheVariants.{Semantics, TooMany}
use Rattle.ledger_spec.specs.BuilderSpec.Requests.{StepRequest}
use Rattle.ledger_spec.specs.BuilderSpec.Holding.{sums, amount_in}
use Rattle.ledger_spec.specs.BuilderSpec.Causes.{is_much}
use Rattle.ledger_spec.specs.BuilderSpec.Steps.{Thread, thread_terms, step_walk, own_output}
use Rattle.ledger_spec.proofs.FromBuilderSpec.OnePartLaws.{hinders_thread, hinders_on, hinders_step_on}
use Rattle.ledger_spec.proofs.FromBuilderSpec.HoldingLaws.{entries-empty, most}
use Rattle.ledger_spec.proofs.FromBuilderSpec.FundsLaws.{amount_of-sums_in}
use Rattle.ledger_spec.specs.BuilderSpec.Closings.{closing, Closes}
use Rattle.builder_laws.specs.AfterLast.{AnyoneCloses, NoThreadHinders}
use Rattle.builder_laws.proofs.TestLemmas.{each_so, by_recursion, not_any}
use Rattle.builder_laws.proofs.LookThreadLemmas.{IsThread, thread_so}

-- what hinders it: the answer of the transaction function, or that too much is spent
abbrev hinders_after : Result Standing SemFault → Bool → Option BuildFault
hinders_after (Ok a) much = if much then Some TooMany else None
hinders_after (Err f) much = Some (Semantics f)

closes_by : (r : StepRequest) (e : Thread) (end : Result Standing SemFault) (much : Bool) → answer_of (step_walk r e) ≡ end → much ≡ false → IsThread e → r.inputs ≡ [] →
    ClosesSo r.interval e.datum.state ((thread_terms e).tree e.datum.cont) end → Closes r e (hinders_after end much)
closes_by r e (Ok a) true q m is n h = cc
closes_by r e (Ok a) false q m is n h = (
  a,
  q,
  h.0,
  λ t. ap (λ xs. paid_out t (computed r.interval e.datum.state ((thread_terms e).tree e.datum.cont) xs).payments) n
      ∙ h.1 t ∙ sym (ap (λ m. amount_of m t) is.sums ∙ amount_of-sums_in (entries e.datum.state.accounts) t),
)
closes_by r e (Err f) much q m is n (inl h) = inl (ap Semantics h)
closes_by r e (Err f) much q m is n (inr h) = inr (ap Semantics h.0, h.1)

last_clause : (b : Bool) → first_of ((if b then Some TooMany else None) ∷ None ∷ []) ≡ (if b then Some TooMany else None)
last_clause true = refl
last_clause false = refl

alone : (m : Amounts) → plus m empty ≡ m
alone m = ap (each (λ a b. a +ℤ b) m) entries-empty

after_is : (i : Interval) (signers : List (List ℕ)) (change : List ℕ) (e : Thread) (end : Result Standing SemFault) → answer_of (step_walk (closing i signers change) e) ≡ end →
    hinders_thread (closing i signers change) e ≡ hinders_after end (is_much e.shown.output.amount)
after_is i signers change e (Err f) q = rw q refl
after_is i signers change e (Ok a) q = rw q (last_clause (is_much (sums amount_in (own_output e ∷ []))) ∙ ap (λ m. if is_much m then Some TooMany else None) (alone e.shown.output.amount))

-- what fits 16 bytes isn't above 2^127 - 1
not_above : (n : ℤ) → NumberFits n → int_lt most n ≡ false
not_above (pos n) h = let k : n < 2 ^ 127 = h.sfits in grind (arith, nat_tests)
not_above (negsuc n) h = refl

-- so amounts that fit their spelling aren't too much
not_much : (m : Amounts) → AmountFits m → is_much m ≡ false
not_much m h = not_any (λ e. int_lt most e.1) (entries m) (each_so HoldingFits (λ e. int_lt most e.1 ≡ false) (λ e fits. not_above e.1 fits.1) (entries m) (by_recursion HoldingFits (entries m) h.1))

pub anyone_closes : ClosesAfterLast → AnyoneCloses
anyone_closes law look e i signers change shown fits h g m =
    let r = closing i signers change in
    subst (Closes r e) (sym (hinders_step_on look r ∙ ap (hinders_on r) shown ∙ after_is i signers change e (answer_of (step_walk r e)) refl))
    (closes_by r e (answer_of (step_walk r e)) (is_much e.shown.output.amount) refl (not_much e.shown.output.amount fits.1) (thread_so look e shown) refl (law i e.datum.state ((thread_terms e).tree e.datum.cont) h g m))

pub no_thread_hinders : NoThreadHinders
no_thread_hinders look i signers change none = hinders_step_on look (closing i signers change) ∙ ap (hinders_on (closing i signers change)) none
