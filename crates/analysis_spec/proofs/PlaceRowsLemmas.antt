-- Runs that end in an alarm at a place, and not at others.
use Rattle.std.proofs.Common.{◌≡◌, ◌≢◌, ℤ, pos, true, false, List, [], ◌∷◌, inl, inr, refl, sym, ap, ◌∙◌, subst, Some, None}
use Rattle.std.specs.List.{AllByRecursion}
use Rattle.std.specs.Option.{unwrap_or}
use Rattle.std.specs.FinMap.{get, insert, empty, get-empty, get-insert, get-from_sorted}
use Rattle.contract.specs.Names.declared.payee.Payee.TheVariants.{Party as ToParty}
use Rattle.contract.specs.Names.Equal.{ada}
use Rattle.contract.specs.Names.Orders.{account_cmp, bytes_cmp}
use Rattle.contract.specs.Names.Totals.{account_total, bytes_total}
use Rattle.contract.specs.declared.input.Input.TheVariants.{Deposit, Notify}
use Rattle.contract.specs.declared.warning.Warning.TheVariants as warnings
use Rattle.contract.specs.Tree.{not_obs, close}
use Rattle.contract.specs.States.States.{with_money}
use Rattle.semantics.specs.Evaluation.Evaluation.{looked}
use Rattle.semantics.specs.Evaluation.Numbers.{fits, all_fit}
use Rattle.semantics.specs.Walk.{Turn, standing}
use Rattle.semantics.specs.Reduction.{account_of, balance}
use Rattle.semantics.specs.Computed.{applied, one_input, from_start, computed}
use Rattle.semantics.specs.Rows.{interval, party_a, party_b, name_x, nothing, a_has_three, is_large}
use Rattle.analysis_spec.specs.declared.kind.AlarmKind.{AlarmKind}
use Rattle.analysis_spec.specs.declared.kind.AlarmKind.TheVariants.{NonPositiveDeposit, PartialPay, Shadowing, Leaves128}
use Rattle.analysis_spec.specs.declared.path.PathStep.{PathStep}
use Rattle.analysis_spec.specs.declared.path.PathStep.TheVariants.{Then, Case, Action}
use Rattle.analysis_spec.specs.Marks.{passed, Mark, mark, marks_of}
use Rattle.analysis_spec.specs.Promises.{HasKind, TellsOf, ComesAt}
use Rattle.analysis_spec.proofs.MarkLemmas.{warnings_in, marks_tell}
use Rattle.analysis_spec.specs.Runs.{walk_from, standing_after}
use Rattle.analysis_spec.specs.Rows.{early, pays_twice, waits_twice, tries_first, binds_again, SecondPaysPartly, FirstPaysAll, FirstActionWarns, WhatFollowsIsSilent, SecondActionIsSilent, TriedCaseLeaves, LaterCaseStays, SecondBindingShadows, FirstBindingIsNew, pays_and_waits, RootIsReached, FirstCaseIsReached, RefusedRunReaches, SecondRunReaches}

-- where one mark or two are elsewhere, or don't tell of the alarm, it doesn't come
at_first : (kind : AlarmKind) (place : List PathStep) (m : Mark) → (m.place ≡ place → ⊥) → ComesAt kind place (m ∷ []) → ⊥
at_first kind place m f (inl k) = f k.0
at_first kind place m f (inr k) = k.1

at_second : (kind : AlarmKind) (place : List PathStep) (m n : Mark) → (TellsOf kind m → ⊥) → (n.place ≡ place → ⊥) → ComesAt kind place (m ∷ n ∷ []) → ⊥
at_second kind place m n f g (inl k) = f k.1
at_second kind place m n f g (inr k) = at_first kind place n g k.1

at_neither : (kind : AlarmKind) (place : List PathStep) (m n : Mark) → (m.place ≡ place → ⊥) → (n.place ≡ place → ⊥) → ComesAt kind place (m ∷ n ∷ []) → ⊥
at_neither kind place m n f g (inl k) = f k.0
at_neither kind place m n f g (inr k) = at_first kind place n g k.1

has_three : balance a_has_three party_a ada ≡ pos 3
has_three = ap (λ o. unwrap_or o (pos 0)) (get-from_sorted account_cmp ((account_of party_a ada, pos 3) ∷ []) (account_of party_a ada) tt)

has_one : balance (with_money a_has_three (account_of party_a ada) (pos 1)) party_a ada ≡ pos 1
has_one = ap (λ o. unwrap_or o (pos 0)) (get-insert account_total a_has_three.accounts (account_of party_a ada) (pos 1) (account_of party_a ada))

two_paid : Mark
two_paid = mark [] (pos 2 ∷ []) []

one_paid : Mark
one_paid = mark (Then ∷ []) (pos 5 ∷ []) (warnings.PartialPay party_a (ToParty party_b) ada (pos 1) (pos 5) ∷ [])

both_pay : marks_of [] (standing a_has_three pays_twice) (early []) ≡ two_paid ∷ one_paid ∷ []
unfolding two_paid one_paid
both_pay = rw (has_three, has_one) refl

second_warned : HasKind PartialPay (walk_from (standing a_has_three pays_twice) (early [])).warnings
unfolding two_paid one_paid
second_warned =
    subst (HasKind PartialPay) (marks_tell [] (standing a_has_three pays_twice) (early [])).warnings
    (subst (λ (ms : List Mark). HasKind PartialPay (warnings_in ms)) (sym both_pay) (inl refl))

pub second_pays_partly : SecondPaysPartly
unfolding computed from_start fits two_paid one_paid
second_pays_partly = record { tells = (refl, second_warned); comes = subst (ComesAt PartialPay (Then ∷ [])) (sym both_pay) (inr (refl, inl (refl, inl refl))) }

pub first_pays_all : FirstPaysAll
unfolding two_paid one_paid
first_pays_all h = at_second PartialPay [] two_paid one_paid (λ k. k) (λ e. cc) (subst (ComesAt PartialPay []) both_pay h.comes)

nought_taken : Mark
nought_taken = mark (Action 0 ∷ []) (pos 0 ∷ []) (warnings.NonPositiveDeposit party_a party_b ada (pos 0) ∷ [])

one_takes : marks_of [] (standing nothing waits_twice) (early (Deposit party_a party_b ada (pos 0) ∷ [])) ≡ nought_taken ∷ []
unfolding one_input applied nought_taken
one_takes = refl

pub first_action_warns : FirstActionWarns
unfolding computed from_start one_input applied fits nought_taken
first_action_warns = record { tells = (refl, inl refl); comes = subst (ComesAt NonPositiveDeposit (Action 0 ∷ [])) (sym one_takes) (inl (refl, inl refl)) }

pub what_follows_is_silent : WhatFollowsIsSilent
unfolding nought_taken
what_follows_is_silent h = at_first NonPositiveDeposit (Case 0 ∷ []) nought_taken (λ e. cc) (subst (ComesAt NonPositiveDeposit (Case 0 ∷ [])) one_takes h.comes)

pub second_action_is_silent : SecondActionIsSilent
unfolding nought_taken
second_action_is_silent h = at_first NonPositiveDeposit (Action 1 ∷ []) nought_taken (λ e. cc) (subst (ComesAt NonPositiveDeposit (Action 1 ∷ [])) one_takes h.comes)

large_tried : Mark
large_tried = mark (Action 0 ∷ []) (looked (interval (pos 0) (pos 10)) nothing (not_obs is_large)) []

one_tried : marks_of [] (standing nothing tries_first) (early (Notify ∷ [])) ≡ large_tried ∷ mark (Action 1 ∷ []) [] [] ∷ []
unfolding one_input applied large_tried
one_tried = refl

large_leaves : all_fit large_tried.numbers ≡ false
unfolding fits large_tried
large_leaves = refl

pub tried_case_leaves : TriedCaseLeaves
unfolding computed from_start one_input applied fits large_tried
tried_case_leaves = record { tells = refl; comes = subst (ComesAt Leaves128 (Action 0 ∷ [])) (sym one_tried) (inl (refl, large_leaves)) }

behind_one : (place : List PathStep) (m : Mark) (ms : List Mark) → (m.place ≡ place → ⊥) → all_fit m.numbers ≡ false → ComesAt Leaves128 place (m ∷ ms) → ⊥
behind_one place m ms f e (inl k) = f k.0
behind_one place m ms f e (inr k) = let b : false ≡ true = sym e ∙ k.0 in cc

pub later_case_stays : LaterCaseStays
unfolding large_tried
later_case_stays h = behind_one (Action 1 ∷ []) large_tried (mark (Action 1 ∷ []) [] [] ∷ []) (λ e. cc) large_leaves (subst (ComesAt Leaves128 (Action 1 ∷ [])) one_tried h.comes)

bound_before : get (insert (empty {X = ℤ} {R = bytes_cmp}) name_x (pos 1)) name_x ≡ Some (pos 1)
bound_before = get-insert bytes_total empty name_x (pos 1) name_x

notified : Mark
notified = mark (Then ∷ Action 0 ∷ []) [] []

bound_again : Mark
bound_again = mark (Then ∷ Case 0 ∷ []) (pos 2 ∷ []) (warnings.Shadowing name_x (pos 1) (pos 2) ∷ [])

one_shadows : marks_of (Then ∷ []) (standing_after (standing nothing binds_again) (early [])) (early (Notify ∷ [])) ≡ notified ∷ bound_again ∷ []
unfolding computed from_start one_input applied fits notified bound_again
one_shadows = rw bound_before refl

pub second_binding_shadows : SecondBindingShadows
unfolding computed from_start one_input applied fits notified bound_again
second_binding_shadows = (refl, record { tells = (refl, rw bound_before (inl refl)); comes = subst (ComesAt Shadowing (Then ∷ Case 0 ∷ [])) (sym one_shadows) (inr (refl, inl (refl, inl refl))) })

pub first_binding_is_new : FirstBindingIsNew
unfolding computed from_start fits notified bound_again
first_binding_is_new h = at_neither Shadowing [] notified bound_again (λ e. cc) (λ e. cc) (subst (ComesAt Shadowing []) one_shadows h.1.comes)

-- ---- places that are reached

first_passed : (P : List PathStep → Type 0) (here : List PathStep) (ts : List Turn) → AllByRecursion P (passed here ts) → P here
first_passed P here [] h = h.0
first_passed P here (t ∷ ts) h = h.0

pub root_is_reached : RootIsReached
root_is_reached h = first_passed (λ there. there ≢ []) [] (walk_from (standing nothing close) (early [])).turns (h [] (early [])) refl

pub first_case_is_reached : FirstCaseIsReached
unfolding computed from_start one_input applied
first_case_is_reached h = first_passed (λ there. there ≢ Case 0 ∷ []) (Case 0 ∷ []) _ (h [] (early (Deposit party_a party_b ada (pos 0) ∷ []))).1 refl

pub refused_run_reaches : RefusedRunReaches
unfolding computed from_start
refused_run_reaches h = (h [] (early [])).1.0 refl

pub second_run_reaches : SecondRunReaches
unfolding computed from_start one_input applied fits
second_run_reaches h = (h (early [] ∷ []) (early (Notify ∷ []))).1.0 refl
