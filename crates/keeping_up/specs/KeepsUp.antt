-- What it means that a party keeps up: it lets no time pass up to which a contract waits for it. And what it gets then.
use Rattle.std.specs.Prelude.{ℤ, ◌+ℤ◌, ◌≤ℤ◌, ◌<ℤ◌, int_le, Bool, false, ◌&&◌, ◌||◌, if◌then◌else◌, Option, Some, None, IfSome, Result, Ok, Err, IfOk, List, [], ◌∷◌}
use Rattle.std.specs.List.{list_any}
use Rattle.contract.specs.Names.declared.bound.Bound.{Bound}
use Rattle.contract.specs.Names.declared.party.Party.{Party}
use Rattle.contract.specs.Names.declared.token.Token.{Token}
use Rattle.contract.specs.Names.Equal.{same_party}
use Rattle.contract.specs.declared.fault.SemFault.{SemFault}
use Rattle.contract.specs.declared.interval.Interval.{Interval}
use Rattle.contract.specs.declared.transaction.Transaction.{Transaction}
use Rattle.contract.specs.Tree.{ActionTree, deposit, choice, notify, ContractTree, CaseTrees, close, pay, if_obs, when, let_be, assert, no_cases, case_then}
use Rattle.contract.specs.States.States.{StateMaps}
use Rattle.semantics.specs.Walk.{Standing, standing, answer_of}
use Rattle.semantics.specs.Closing.{IsSpent}
use Rattle.semantics.specs.Computed.{settled}
use Rattle.analysis_spec.specs.Runs.{walk_from, standing_after, stands_after, payments_of, paid_to}
use Rattle.losses.specs.Losses.{inputs_of, brought_by}

-- ---- when a contract waits for a party

-- an action that the party can take by itself: a deposit that it makes, and a choice of its own for which there is a number
abbrev pub is_own : Party → ActionTree → Bool
is_own party (deposit account p token v) = same_party party p
is_own party (choice id bounds) = same_party party id.owner && list_any (λ (b : Bound). int_le b.from b.to) bounds
is_own party (notify o) = false

-- one of these cases has such an action
abbrev pub asks_for : Party → CaseTrees → Bool
asks_for party no_cases = false
asks_for party (case_then a c ks) = is_own party a || asks_for party ks

-- the time up to which a quiet contract waits for the party: the timeout of its When, where a case asks for it
abbrev pub waits_until : Party → ContractTree → Option ℤ
waits_until party (when ks timeout c) = if asks_for party ks then Some timeout else None
waits_until party close = None
waits_until party (pay p y t v c) = None
waits_until party (if_obs o c d) = None
waits_until party (let_be x v c) = None
waits_until party (assert o c) = None

-- .. up to which one waits that has settled
abbrev pub waits_behind : Party → Result Standing SemFault → Option ℤ
waits_behind party (Ok a) = waits_until party a.contract
waits_behind party (Err f) = None

-- .. up to which a contract that stands somewhere waits at a moment: it settles in the interval that is this moment
abbrev pub waits_at : Party → ℤ → Standing → Option ℤ
waits_at party moment a =
    let i : Interval = record { from = moment; to = moment } in
    waits_behind party (settled i (record (a.state) { min_time = moment }) a.contract).end

-- ---- keeping up

-- a transaction begins before each time up to which the contract waits for the party, at whatever moment from the minimum time on
abbrev pub IsInTime : Party → Standing → Transaction → Type 0
IsInTime party a t = (moment : ℤ) → a.state.min_time ≤ℤ moment → IfSome (waits_at party moment a) (λ time. t.interval.from <ℤ time)

-- a party keeps up in a run: each transaction that is accepted is in time
abbrev pub KeepsUp : Party → Standing → List Transaction → Type 0
KeepsUp party a [] = Unit {0}
KeepsUp party a (t ∷ ts) = IfOk (answer_of (walk_from a t)) (λ b. IsInTime party a t) × KeepsUp party (standing_after a t) ts

-- ---- what a party gets while it keeps up

-- in each run that leaves nothing in the contract and in which the party keeps up, it is paid at least so much of a token
abbrev pub PaidAtLeastWhile : Party → Token → ℤ → StateMaps → ContractTree → Type 0
PaidAtLeastWhile party token n s c =
    (ts : List Transaction) → let a = standing s c in let b = stands_after a ts in
    IsSpent b.state b.contract → KeepsUp party a ts → n ≤ℤ paid_to party token (payments_of a ts)

-- .. and brought at most so much more of it than it was paid
abbrev pub LosesAtMostWhile : Party → Token → ℤ → StateMaps → ContractTree → Type 0
LosesAtMostWhile party token n s c =
    (ts : List Transaction) → let a = standing s c in let b = stands_after a ts in
    IsSpent b.state b.contract → KeepsUp party a ts → brought_by party token (inputs_of a ts) ≤ℤ (paid_to party token (payments_of a ts) +ℤ n)
