-- Where in a contract a transaction visits numbers and warns: it is told step by step, and turns lead to the place of each.
use Rattle.std.specs.Prelude.{◌≡◌, ℕ, suc, ℤ, int_lt, int_le, List, [], ◌∷◌, ◌++◌, if◌then◌else◌, Result, Ok, Err}
use Rattle.contract.specs.declared.fault.SemFault.{SemFault}
use Rattle.contract.specs.declared.input.Input.{Input}
use Rattle.contract.specs.declared.interval.Interval.{Interval}
use Rattle.contract.specs.declared.transaction.Transaction.{Transaction}
use Rattle.contract.specs.declared.warning.Warning.{Warning}
use Rattle.contract.specs.Tree.{ActionTree, ContractTree, close, pay, if_obs, when, let_be, assert}
use Rattle.contract.specs.States.States.{StateMaps}
use Rattle.semantics.specs.Evaluation.Evaluation.{eval, visited, holds, looked}
use Rattle.semantics.specs.Evaluation.Path.{waits_for}
use Rattle.semantics.specs.Walk.{Turn, refund, next, then_branch, else_branch, timed_out, in_case, Standing, answer_of}
use Rattle.semantics.specs.Reduction.{binding, asserting}
use Rattle.semantics.specs.Applying.{matches, tried, taken_numbers, taken_warnings}
use Rattle.semantics.specs.Transaction.{trimmed}
use Rattle.semantics.specs.Computed.{pay_step, settled, applied, one_input}
use Rattle.analysis_spec.specs.declared.path.PathStep.{PathStep}
use Rattle.analysis_spec.specs.declared.path.PathStep.TheVariants.{Then, Else, TimeoutContinuation, Case, Action}
use Rattle.analysis_spec.specs.Runs.{walk_from, standing_after}

-- ---- places

-- where a turn leads: a refund stays at its Close
abbrev pub step_of : Turn → List PathStep
step_of refund = []
step_of next = Then ∷ []
step_of then_branch = Then ∷ []
step_of else_branch = Else ∷ []
step_of timed_out = TimeoutContinuation ∷ []
step_of (in_case n) = Case n ∷ []

-- where turns lead from a place
abbrev pub led : List PathStep → List Turn → List PathStep
led here [] = here
led here (t ∷ ts) = led (here ++ step_of t) ts

-- the places that turns lead through, from the first to the last
abbrev pub passed : List PathStep → List Turn → List (List PathStep)
passed here [] = here ∷ []
passed here (t ∷ ts) = here ∷ passed (here ++ step_of t) ts

-- where a transaction leads: one that is refused leads nowhere
abbrev pub led_with : Result Standing SemFault → List PathStep → List Turn → List PathStep
led_with (Ok a) here ts = led here ts
led_with (Err f) here ts = here

abbrev pub place_after : List PathStep → Standing → Transaction → List PathStep
place_after here a t = led_with (answer_of (walk_from a t)) here (walk_from a t).turns

-- where transactions lead, each from where the one before it ended
abbrev pub leads_after : List PathStep → Standing → List Transaction → List PathStep
leads_after here a [] = here
leads_after here a (t ∷ ts) = leads_after (place_after here a t) (standing_after a t) ts

-- ---- what comes at them

-- the numbers that a step visits at a place, and what it warns of
pub record Mark : Type 0 where
  pub place : List PathStep
  pub numbers : List ℤ
  pub warnings : List Warning

abbrev pub mark : List PathStep → List ℤ → List Warning → Mark
mark here ns ws = record { place = here; numbers = ns; warnings = ws }

-- what comes behind a part that ends well
abbrev pub behind : Result Standing SemFault → (Standing → List Mark) → List Mark
behind (Ok a) f = f a
behind (Err e) f = []

-- a contract at a place settles
abbrev pub settling : List PathStep → Interval → StateMaps → ContractTree → List Mark
settling here i s close = []
settling here i s (pay p y t v c) = let r = pay_step s p y t (eval i s v) (visited i s v) c in mark here r.numbers r.warnings ∷ settling (here ++ Then ∷ []) i r.state c
settling here i s (if_obs o c d) = mark here (looked i s o) [] ∷ (if holds i s o then settling (here ++ Then ∷ []) i s c else settling (here ++ Else ∷ []) i s d)
settling here i s (when ks timeout c) = if int_lt i.to timeout then [] else (if int_le timeout i.from then settling (here ++ TimeoutContinuation ∷ []) i s c else [])
settling here i s (let_be x v c) = let r = binding s x (eval i s v) (visited i s v) c in mark here r.numbers r.warnings ∷ settling (here ++ Then ∷ []) i r.state c
settling here i s (assert o c) = let r = asserting s (holds i s o) (looked i s o) c in mark here r.numbers r.warnings ∷ settling (here ++ Then ∷ []) i s c

-- an input is tried at the action of each case, up to the one that takes it; so many cases stand before these
abbrev pub trying : List PathStep → ℕ → Interval → StateMaps → Input → List (ActionTree × ContractTree) → List Mark
trying here n i s x [] = []
trying here n i s x (k ∷ ks) =
    if matches i s x k.0 then mark (here ++ Action n ∷ []) (tried i s x k.0 ++ taken_numbers s x) (taken_warnings x) ∷ []
    else mark (here ++ Action n ∷ []) (tried i s x k.0) [] ∷ trying here (suc n) i s x ks

-- an input is tried, and the contract settles again
abbrev pub taking_one : List PathStep → Interval → Input → Standing → List Mark
taking_one here i x a = let w = applied i x a in trying here 0 i a.state x (waits_for a.contract) ++ behind w.end (λ b. settling (led here w.turns) i b.state b.contract)

-- each input in turn
abbrev pub taking_all : List PathStep → Interval → List Input → Standing → List Mark
taking_all here i [] a = []
taking_all here i (x ∷ xs) a = let w = one_input i x a in taking_one here i x a ++ behind w.end (taking_all (led here w.turns) i xs)

-- the contract settles, and then each input in turn
abbrev pub marks_from : List PathStep → Interval → StateMaps → ContractTree → List Input → List Mark
marks_from here i s c xs = let w = settled i s c in settling here i s c ++ behind w.end (taking_all (led here w.turns) i xs)

-- a transaction where a contract stands at a place: none where its interval is refused
abbrev pub marks_of : List PathStep → Standing → Transaction → List Mark
marks_of here a t =
    let i = trimmed t.interval a.state in
    if int_lt t.interval.to t.interval.from then []
    else (if int_lt t.interval.to a.state.min_time then [] else marks_from here i (record a.state { min_time = i.from }) a.contract t.inputs)
