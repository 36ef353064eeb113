-- The reduction before the inputs of a transaction, once the interval is fixed.
use Rattle.std.proofs.Common.{◌≡◌, int_lt, Bool, true, false, cond, not, [], refl, sym, ap, ◌∙◌, Result, Ok, Err}
use Rattle.std.specs.Prelude.{◌↔◌, IsOk, IsTrue}
use Rattle.contract.specs.declared.fault.SemFault.{SemFault}
use Rattle.contract.specs.declared.fault.SemFault.TheVariants.{InvalidInterval, IntervalInPast, Useless, Memory}
use Rattle.contract.specs.declared.interval.Interval.{Interval}
use Rattle.contract.specs.States.States.{StateMaps}
use Rattle.contract.specs.Tree.{ContractTree}
use Rattle.semantics.specs.Walk.{Standing, Walk, ended, answer_of}
use Rattle.semantics.specs.Transaction.{trimmed, begun}
use Rattle.semantics.specs.Computed.{settled, computed}
use Rattle.semantics.specs.Reduced.{fixed, is_quiet}
use Rattle.semantics.proofs.Computing.{computed_busy, computed_useless, not_right}
use Rattle.semantics.proofs.Walks.{same_answer}
use Rattle.next_inputs.specs.Opening.{opening}
use Rattle.next_inputs.proofs.Openings.{is_accepted, is_refused}

abbrev by_tests : Bool → Bool → Walk → Walk
by_tests b d w = cond b (ended (Err InvalidInterval)) (cond d (ended (Err IntervalInPast)) w)

abbrev by_fix : Bool → Bool → Interval → Result Interval SemFault
by_fix b d i = cond b (Err InvalidInterval) (cond d (Err IntervalInPast) (Ok i))

-- an interval that is fixed
pub record IsOpened (i : Interval) (s : StateMaps) (c : ContractTree) (j : Interval) (t : StateMaps) : Type 0 where
  pub interval : trimmed i s ≡ j
  pub state : begun i s ≡ t
  pub walk : opening i s c ≡ settled j t c

pub opened : (i : Interval) (s : StateMaps) (c : ContractTree) (j : Interval) (t : StateMaps) → Ok j ≡ fixed i s → t ≡ record s { min_time = j.from } → IsOpened i s c j t
opened i s c j t h k = let q = by (int_lt i.to i.from) (int_lt i.to s.min_time) h in record { interval = q.0; state = q.1; walk = q.2 }
  where
    so : trimmed i s ≡ j → begun i s ≡ t
    so e = ap (λ (x : Interval). let u : StateMaps = record s { min_time = x.from } in u) e ∙ sym k

    by : (b d : Bool) → Ok j ≡ by_fix b d (trimmed i s) → (trimmed i s ≡ j) × (begun i s ≡ t) × (by_tests b d (settled (trimmed i s) (begun i s) c) ≡ settled j t c)
    by true d h = absurd (cc)
    by false true h = absurd (cc)
    by false false h =
        let e : trimmed i s ≡ j = cc in
        (e, so e, ap (λ x. settled x (begun i s) c) e ∙ ap (λ u. settled j u c) (so e))

-- a transaction without inputs is accepted, where there is something to reduce
pub can_reduce : (i : Interval) (s : StateMaps) (c : ContractTree) (j : Interval) (t : StateMaps) (a : Standing) (b : Bool) → Ok j ≡ fixed i s → t ≡ record s { min_time = j.from } → b ≡ is_quiet j t c → answer_of (settled j t c) ≡ Ok a
    → IsTrue (not b) ↔ IsOk (answer_of (computed i s c []))
can_reduce i s c j t a true h k q r = is_refused (answer_of (computed i s c [])) Useless (computed_useless i s j t c [] h k refl q (λ m. let e : Useless ≡ Memory = m in cc))
can_reduce i s c j t a false h k q r =
    let f = computed_busy i s j t c [] a h k (not_right true (is_quiet j t c) q) r in
    is_accepted (answer_of (computed i s c [])) a (same_answer (computed i s c []) (ended (Ok a)) f.fits f.end)
