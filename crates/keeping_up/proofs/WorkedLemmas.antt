-- The worked runs.
use Rattle.std.proofs.Common.{◌≡◌, ℤ, pos, ◌≤ℤ◌, ◌<ℤ◌, int_lt, int_le, Bool, true, false, cond, List, [], ◌∷◌, refl, arith, Result, Ok, Err, IfOk, Some, None, IfSome}
use Rattle.std.proofs.lemmas.Int.{ints}
use Rattle.contract.specs.Names.declared.party.Party.{Party}
use Rattle.contract.specs.declared.fault.SemFault.{SemFault}
use Rattle.contract.specs.declared.fault.SemFault.TheVariants.{Ambiguous}
use Rattle.contract.specs.declared.input.Input.{Input}
use Rattle.contract.specs.declared.input.Input.TheVariants.{Deposit}
use Rattle.contract.specs.declared.transaction.Transaction.{Transaction}
use Rattle.contract.specs.Names.Equal.{ada}
use Rattle.contract.specs.Tree.{constant, deposit, ContractTree, CaseTrees, close, when, no_cases, case_then}
use Rattle.contract.specs.States.States.{StateMaps}
use Rattle.semantics.specs.Evaluation.Numbers.{fits}
use Rattle.semantics.specs.Walk.{Standing, standing, Walk, ended, answer_of}
use Rattle.semantics.specs.Reduction.{timing_out}
use Rattle.semantics.specs.Settling.{reduction_then}
use Rattle.semantics.specs.Rows.{interval, party_a, party_b, nothing}
use Rattle.semantics.specs.Computed.{settled, applied, one_input, from_start, computed}
use Rattle.analysis_spec.specs.Runs.{walk_from}
use Rattle.keeping_up.specs.KeepsUp.{asks_for, waits_behind, waits_at, IsInTime, KeepsUp}
use Rattle.keeping_up.specs.Rows.{asks_five, escrow, WaitsForTheBuyer, WaitsNoLonger, WaitsForNobodyElse, LateIsTooLate, OthersKeepUp, DepositIsInTime, RefusedIsNothing, SkippedIsTooLate, DeadOnArrival, OverAtTheStart, NothingIsAsked}

-- a contract waits at a When before its timeout, and from then on as its continuation does
module _ (party : Party) (now : ℤ) (s : StateMaps) (ks : CaseTrees) (t : ℤ) (c : ContractTree) (P : ℤ → Type 0) (before : asks_for party ks ≡ true → now <ℤ t → P t) (after : t ≤ℤ now → IfSome (waits_at party now (standing s c)) P) where
  lt_is : (a b : ℤ) → int_lt a b ≡ true → a <ℤ b
  lt_is a b h = grind (arith, ints)

  le_is : (a b : ℤ) → int_le a b ≡ true → a ≤ℤ b
  le_is a b h = grind (arith, ints)

  abbrev here : StateMaps
  here = record s { min_time = now }

  asked : (b : Bool) → asks_for party ks ≡ b → int_lt now t ≡ true → IfSome (cond b (Some t) None) P
  asked true e l = before e (lt_is now t l)
  asked false e l = tt

  by_tests : (w : Walk) → (t ≤ℤ now → IfSome (waits_behind party w.end) P) → (a b : Bool) → int_lt now t ≡ a → int_le t now ≡ b
      → IfSome (waits_behind party (cond a (ended (Ok (standing here (when ks t c)))) (cond b (reduction_then (timing_out here c) w) (ended (Err Ambiguous)))).end) P
  by_tests w go true b e f = asked (asks_for party ks) refl e
  by_tests w go false true e f = go (le_is t now f)
  by_tests w go false false e f = tt

  at_when : IfSome (waits_at party now (standing s (when ks t c))) P
  at_when = by_tests (settled (record { from = now; to = now }) (record s { min_time = now }) c) after (int_lt now t) (int_le t now) refl refl

pub waits_for_the_buyer : WaitsForTheBuyer
waits_for_the_buyer = refl

pub waits_no_longer : WaitsNoLonger
waits_no_longer = refl

pub waits_for_nobody_else : WaitsForNobodyElse
waits_for_nobody_else = refl

pub nothing_is_asked : NothingIsAsked
nothing_is_asked = refl

natural : (n : ℤ) → n ≡ pos 99 → pos 0 ≤ℤ n
natural n e = omega (arith, ints, e)

not_late : (n : ℤ) → n ≡ pos 100 → n <ℤ n → ⊥
not_late n e h = omega (arith, ints)

pub late_is_too_late : LateIsTooLate
unfolding computed from_start one_input applied fits
late_is_too_late h = not_late (pos 100) refl (h.0 (pos 99) (natural (pos 99) refl))

pub skipped_is_too_late : SkippedIsTooLate
unfolding computed from_start one_input applied fits
skipped_is_too_late h = not_late (pos 100) refl (h.0 (pos 99) (natural (pos 99) refl))

pub refused_is_nothing : RefusedIsNothing
unfolding computed from_start one_input applied fits
refused_is_nothing = (tt, tt)

in_time : (a b : ℤ) → a ≡ pos 99 → b ≡ pos 100 → a <ℤ b
in_time a b e f = omega (arith, ints, e, f)

not_before : (now t from : ℤ) → t ≤ℤ from → from ≤ℤ now → now <ℤ t → ⊥
not_before now t from h k l = omega (arith, ints)

fifty : (a b : ℤ) → a ≡ pos 50 → b ≡ pos 100 → a ≤ℤ b
fifty a b e f = omega (arith, ints, e, f)

le_itself : (a : ℤ) → a ≤ℤ a
le_itself a = omega (arith, ints)

abbrev five : Party → CaseTrees
five party = case_then (deposit party_a party ada (constant (pos 5))) close no_cases

if_ok : (X : Type 0) (r : Result Standing SemFault) → X → IfOk r (λ b. X)
if_ok X (Ok a) x = x
if_ok X (Err f) x = tt

-- a transaction that is in time, alone
alone : (party : Party) (a : Standing) (t : Transaction) → IsInTime party a t → KeepsUp party a (t ∷ [])
alone party a t h = (if_ok (IsInTime party a t) (answer_of (walk_from a t)) h, tt)

abbrev late : List Input → ℤ → Transaction
late xs n = record { interval = interval n n; inputs = xs }

pub others_keep_up : OthersKeepUp
others_keep_up =
    alone party_a (standing nothing escrow) (late [] (pos 100))
    (λ now g. at_when party_a now nothing (five party_b) (pos 100) close (λ time. pos 100 <ℤ time) (λ e l. absurd (let z : false ≡ true = e in cc)) (λ l. tt))

pub deposit_is_in_time : DepositIsInTime
deposit_is_in_time =
    alone party_b (standing nothing escrow) (late (Deposit party_a party_b ada (pos 5) ∷ []) (pos 99))
    (λ now g. at_when party_b now nothing (five party_b) (pos 100) close (λ time. pos 99 <ℤ time) (λ e l. in_time (pos 99) (pos 100) refl refl) (λ l. tt))

pub over_at_the_start : OverAtTheStart
over_at_the_start =
    let s : StateMaps = record nothing { min_time = pos 100 } in
    alone party_b (standing s escrow) (late [] (pos 100))
    (λ now g. at_when party_b now s (five party_b) (pos 100) close (λ time. pos 100 <ℤ time) (λ e l. absurd (not_before now (pos 100) (pos 100) (le_itself (pos 100)) g l)) (λ l. tt))

pub dead_on_arrival : DeadOnArrival
dead_on_arrival =
    let d = asks_five party_b (pos 50) close in
    alone party_b (standing nothing (asks_five party_a (pos 100) d)) (late [] (pos 100))
    (λ now g. at_when party_b now nothing (five party_a) (pos 100) d (λ time. pos 100 <ℤ time) (λ e l. absurd (let z : false ≡ true = e in cc))
    (λ past. at_when party_b now nothing (five party_b) (pos 50) close (λ time. pos 100 <ℤ time) (λ e l. absurd (not_before now (pos 50) (pos 100) (fifty (pos 50) (pos 100) refl refl) past l)) (λ l. tt)))
