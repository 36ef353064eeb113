-- The one walk that the relations of a transaction allow, as a function of contract, state, interval and inputs.
use Rattle.std.specs.Prelude.{ℕ, suc, ℤ, pos, int_lt, int_le, List, [], ◌∷◌, ◌++◌, map, if◌then◌else◌, Option, Some, None, Result, Ok, Err}
use Rattle.std.specs.FinMap.{entries, empty}
use Rattle.contract.specs.Names.declared.party.Party.{Party}
use Rattle.contract.specs.Names.declared.payee.Payee.{Payee}
use Rattle.contract.specs.Names.declared.token.Token.{Token}
use Rattle.contract.specs.declared.fault.SemFault.{SemFault}
use Rattle.contract.specs.declared.fault.SemFault.TheVariants.{InvalidInterval, IntervalInPast, Ambiguous}
use Rattle.contract.specs.declared.input.Input.{Input}
use Rattle.contract.specs.declared.interval.Interval.{Interval}
use Rattle.contract.specs.States.States.{StateMaps}
use Rattle.contract.specs.Tree.{ActionTree, ContractTree, close, pay, if_obs, when, let_be, assert}
use Rattle.evaluation.specs.Numbers.{within}
use Rattle.evaluation.specs.Evaluation.{eval, visited, holds, looked}
use Rattle.semantics.specs.Walk.{refund, Standing, standing, Walk, ended, then_walk}
use Rattle.evaluation.specs.Path.{waits_for}
use Rattle.semantics.specs.Reduction.{Reduction, refund_of, paying_lesser, not_paying, choosing, timing_out, binding, asserting}
use Rattle.semantics.specs.Settling.{reduction_then}
use Rattle.semantics.specs.Applying.{matches, tried, taking, unmatched}
use Rattle.semantics.specs.Transaction.{trimmed, finished}

-- all refunds of a Close, in order
abbrev pub refunds : StateMaps → Walk
refunds s = record { numbers = []; warnings = []; payments = map refund_of (entries s.accounts); turns = map (λ _. refund) (entries s.accounts); end = Ok (standing (record s { accounts = empty }) close) }

-- what a Pay does, where an amount is due
abbrev pub pay_step : StateMaps → Party → Payee → Token → ℤ → List ℤ → ContractTree → Reduction
pay_step s p y t due ns c = if int_lt (pos 0) due then paying_lesser s p y t due ns c else not_paying s p y t due ns c

-- how a contract settles. A When waits, goes on with its timeout continuation, or its interval is ambiguous
abbrev pub settled : Interval → StateMaps → ContractTree → Walk
settled i s close = refunds s
settled i s (pay p y t v c) = let r = pay_step s p y t (eval i s v) (visited i s v) c in reduction_then r (settled i r.state c)
settled i s (if_obs o c d) = reduction_then (choosing s (holds i s o) (looked i s o) c d) (if holds i s o then settled i s c else settled i s d)
settled i s (when ks timeout c) = if int_lt i.to timeout then ended (Ok (standing s (when ks timeout c))) else (if int_le timeout i.from then reduction_then (timing_out s c) (settled i s c) else ended (Err Ambiguous))
settled i s (let_be x v c) = let r = binding s x (eval i s v) (visited i s v) c in reduction_then r (settled i r.state c)
settled i s (assert o c) = reduction_then (asserting s (holds i s o) (looked i s o) c) (settled i s c)

-- where the first case that matches goes on
abbrev pub first_match : Interval → StateMaps → Input → List (ActionTree × ContractTree) → Option ContractTree
first_match i s x [] = None
first_match i s x (k ∷ ks) = if matches i s x k.0 then Some k.1 else first_match i s x ks

-- how many cases stand before it
abbrev pub first_match_index : Interval → StateMaps → Input → List (ActionTree × ContractTree) → ℕ
first_match_index i s x [] = 0
first_match_index i s x (k ∷ ks) = if matches i s x k.0 then 0 else suc (first_match_index i s x ks)

-- the numbers that are visited up to it
abbrev pub tried_to_match : Interval → StateMaps → Input → List (ActionTree × ContractTree) → List ℤ
tried_to_match i s x [] = []
tried_to_match i s x (k ∷ ks) = tried i s x k.0 ++ (if matches i s x k.0 then [] else tried_to_match i s x ks)

-- where it goes on, where all of these fit
abbrev pub match_within : Interval → StateMaps → Input → List (ActionTree × ContractTree) → Result (Option ContractTree) SemFault
match_within i s x ks = within (tried_to_match i s x ks) (first_match i s x ks)

abbrev pub take_match : StateMaps → Input → List ℤ → ℕ → Option ContractTree → Walk
take_match s x ns n None = unmatched ns
take_match s x ns n (Some c) = taking s x ns n c

-- how an input applies
unfoldable pub applied : Interval → Input → Standing → Walk
applied i x a =
    take_match a.state x (tried_to_match i a.state x (waits_for a.contract)) (first_match_index i a.state x (waits_for a.contract)) (first_match i a.state x (waits_for a.contract))

-- an input, and the contract settles again
unfoldable pub one_input : Interval → Input → Standing → Walk
one_input i x a = then_walk (applied i x a) (λ b. settled i b.state b.contract)

-- each input in turn
abbrev pub all_inputs : Interval → List Input → Standing → Walk
all_inputs i [] a = ended (Ok a)
all_inputs i (x ∷ xs) a = then_walk (one_input i x a) (all_inputs i xs)

-- what follows once the interval is fixed, whose start becomes the minimum time
unfoldable pub from_start : Interval → StateMaps → ContractTree → List Input → Walk
from_start i s c xs = finished (then_walk (settled i (record s { min_time = i.from }) c) (all_inputs i xs))

-- the transaction: its interval is refused, or it goes on from the interval as it is fixed
unfoldable pub computed : Interval → StateMaps → ContractTree → List Input → Walk
computed i s c xs = if int_lt i.to i.from then ended (Err InvalidInterval) else (if int_lt i.to s.min_time then ended (Err IntervalInPast) else from_start (trimmed i s) s c xs)
