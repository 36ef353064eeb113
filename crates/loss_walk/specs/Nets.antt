-- What a party has been paid of a token, less what it brought where that is asked, stays above a floor wherever a contract is
-- closed, told along its tree. No reader of the promises needs this file: they follow from it (`NetsBoundLosses`, `NetsBoundKept`).
use Rattle.std.specs.Prelude.{◌≡◌, ℤ, pos, neg_ℤ, ◌+ℤ◌, ◌-ℤ◌, ◌≤ℤ◌, ◌<ℤ◌, Bool, true, false, cond, List, [], ◌∷◌, Some, None}
use Rattle.contract.specs.Names.declared.account.Account.{Account}
use Rattle.contract.specs.Names.declared.party.Party.{Party}
use Rattle.contract.specs.Names.declared.token.Token.{Token}
use Rattle.contract.specs.declared.input.Input.{Input}
use Rattle.contract.specs.declared.interval.Interval.{Interval}
use Rattle.contract.specs.Tree.{ActionTree, ContractTree, CaseTrees, close, pay, if_obs, when, let_be, assert, no_cases, case_then}
use Rattle.contract.specs.States.States.{StateMaps}
use Rattle.semantics.specs.Evaluation.Evaluation.{eval, visited, holds}
use Rattle.semantics.specs.Reduction.{binding}
use Rattle.semantics.specs.Applying.{matches, taken}
use Rattle.semantics.specs.Computed.{pay_step, refunds}
use Rattle.analysis_spec.specs.Runs.{paid_to}
use Rattle.losses.specs.Losses.{brought, LosesAtMost}
use Rattle.keeping_up.specs.KeepsUp.{PaidAtLeastWhile, LosesAtMostWhile}
use Rattle.analysis_walk.specs.Covered.{NoneTakes}
use Rattle.loss_walk.specs.declared.question.Question.{Question}
use Rattle.loss_walk.specs.declared.quiet.Quiet.{Quiet}
use Rattle.loss_walk.specs.Cuts.{is_timeless, holds_timeless, quiet_from, quiet_before, after_reading, after_timeout, is_cut}

-- what is taken off for an input: what it brings, or nothing
abbrev pub taken_off : Bool → Party → Token → Input → ℤ
taken_off net party token x = cond net (brought party token x) (pos 0)

module _ (question : Question) (party : Party) (token : Token) (floor : ℤ) where
  abbrev mutual
    -- after these reductions the contract is about to settle in this interval and this state, after so much: whatever comes, it is
    -- closed with no less than the floor. A When may be gone on with in the same transaction or in a later one, unless it is cut
    pub Nets : Quiet → Interval → StateMaps → ℤ → ContractTree → Type 0
    Nets q i s m close = floor ≤ℤ (m +ℤ paid_to party token (refunds s).payments)
    Nets q i s m (pay p y t v c) =
        let r = pay_step s p y t (eval i s v) (visited i s v) c in
        Nets (after_reading q (is_timeless v)) i r.state (m +ℤ paid_to party token r.payments) c
    Nets q i s m (if_obs o c d) =
        let next = after_reading q (holds_timeless o) in
        (holds i s o ≡ true → Nets next i s m c) × (holds i s o ≡ false → Nets next i s m d)
    Nets q i s m (when ks timeout c) =
        (j : Interval) (now : ℤ) → i.from ≤ℤ j.from → j.from ≤ℤ j.to → let later : StateMaps = record s { min_time = now } in
        (j.to <ℤ timeout → NetsCases (quiet_before timeout) j later m [] ks)
        × (is_cut question.keeper q ks timeout ≡ false → timeout ≤ℤ j.from → Nets (after_timeout q timeout) j later m c)
    Nets q i s m (let_be x v c) =
        let r = binding s x (eval i s v) (visited i s v) c in
        Nets (after_reading q (is_timeless v)) i r.state m c
    Nets q i s m (assert o c) = Nets q i s m c

    -- what follows each case, where it takes an input that no earlier one takes
    pub NetsCases : Quiet → Interval → StateMaps → ℤ → List ActionTree → CaseTrees → Type 0
    NetsCases q i s m earlier no_cases = Unit {0}
    NetsCases q i s m earlier (case_then a c ks) =
        ((x : Input) → NoneTakes i s x earlier → matches i s x a ≡ true → Nets q i (taken s x) (m -ℤ taken_off question.net party token x) c)
        × NetsCases q i s m (a ∷ earlier) ks

  -- in whatever transactions from a state on
  abbrev pub NetsFrom : StateMaps → ContractTree → Type 0
  NetsFrom s c = (i : Interval) → s.min_time ≤ℤ i.from → i.from ≤ℤ i.to → Nets (quiet_from s.min_time) i (record s { min_time = i.from }) (pos 0) c

-- what is asked of all runs, and of those in which a party keeps up
abbrev pub of_all_runs : Question
of_all_runs = record { keeper = None; net = true; asked = [] }

abbrev pub while_keeping_up : Party → Bool → List Account → Question
while_keeping_up party net asked = record { keeper = Some party; net = net; asked = asked }

-- what a floor says of a party that keeps up
abbrev pub HoldsWhile : Bool → Party → Token → ℤ → StateMaps → ContractTree → Type 0
HoldsWhile true party token floor s c = LosesAtMostWhile party token (neg_ℤ floor) s c
HoldsWhile false party token floor s c = PaidAtLeastWhile party token floor s c

-- a floor bounds what a party can lose
abbrev pub NetsBoundLosses : Type 0
NetsBoundLosses = (party : Party) (token : Token) (floor : ℤ) (s : StateMaps) (c : ContractTree) → NetsFrom of_all_runs party token floor s c → LosesAtMost party token (neg_ℤ floor) s c

-- .. and what it gets while it keeps up
abbrev pub NetsBoundKept : Type 0
NetsBoundKept =
    (net : Bool) (asked : List Account) (party : Party) (token : Token) (floor : ℤ) (s : StateMaps) (c : ContractTree) →
    NetsFrom (while_keeping_up party net asked) party token floor s c → HoldsWhile net party token floor s c
