-- What comes behind a reduction comes of the whole.
use Rattle.std.proofs.Common.{◌≡◌, ℕ, ℤ, pos, int_lt, int_le, Bool, true, false, cond, List, [], ◌∷◌, ◌++◌, append_assoc, append-nil, inl, inr, refl, sym, ap, ◌∙◌, subst, Some, Result, Ok, Err}
use Rattle.std.specs.Int.{int_min}
use Rattle.contract.specs.declared.fault.SemFault.{SemFault}
use Rattle.contract.specs.declared.fault.SemFault.TheVariants as faults
use Rattle.contract.specs.declared.input.Input.{Input}
use Rattle.contract.specs.declared.interval.Interval.{Interval}
use Rattle.contract.specs.Names.declared.party.Party.{Party}
use Rattle.contract.specs.Names.declared.payee.Payee.{Payee}
use Rattle.contract.specs.Names.declared.token.Token.{Token}
use Rattle.contract.specs.Tree.{ValueTree, ContractTree, close, pay, if_obs, when, let_be, assert}
use Rattle.contract.specs.States.States.{StateMaps}
use Rattle.semantics.specs.Evaluation.Numbers.{all_fit}
use Rattle.semantics.specs.Evaluation.Evaluation.{eval, visited, holds, looked}
use Rattle.semantics.specs.Walk.{Turn, next, then_branch, else_branch, Standing, standing, ended, answer_of}
use Rattle.semantics.specs.Reduction.{Reduction, balance, paying, not_paying, choosing, timing_out, binding, asserting}
use Rattle.semantics.specs.Settling.{reduction_then}
use Rattle.semantics.specs.Computed.{pay_step, settled}
use Rattle.semantics.specs.Reduced.{CodeStep, stops, goes, step, reply, stop_reply, state_after, warnings_of}
use Rattle.semantics.proofs.Paying.{pays_contract}
use Rattle.analysis_spec.specs.declared.kind.AlarmKind.{AlarmKind}
use Rattle.analysis_spec.specs.declared.kind.AlarmKind.TheVariants as kinds
use Rattle.analysis_spec.specs.declared.path.PathStep.{PathStep}
use Rattle.analysis_spec.specs.declared.path.PathStep.TheVariants.{Then, Else, TimeoutContinuation, Case, Action}
use Rattle.analysis_spec.specs.Marks.{step_of, led, Mark, mark, behind, settling, taking_all}
use Rattle.analysis_spec.specs.Promises.{HasKind, TellsOf, ComesAt}
use Rattle.replay.specs.ComingSupport.{Comes, ComesHere, ComesAhead, ComesBehind, ComesAtAction, GoesBy, TakenBy, step_from}

-- ---- what a step's reply tells

stopped : (r : Result Standing SemFault) (d : ContractTree) → stop_reply r ≡ Ok (Some d) → ⊥
stopped (Ok a) d h = cc
stopped (Err f) d h = cc

went_on : (b : Bool) (c d : ContractTree) → cond b (Ok (Some c)) (Err faults.Leaves128) ≡ Ok (Some d) → (b ≡ true) × (d ≡ c)
went_on true c d h = (refl, cc)
went_on false c d h = absurd (cc)

went : (t : CodeStep) (d : ContractTree) → reply t ≡ Ok (Some d) → (r : Reduction) × (t ≡ goes r) × (all_fit r.numbers ≡ true) × (d ≡ r.contract)
went (stops w) d h = absurd (stopped (answer_of w) d h)
went (goes r) d h = let k = went_on (all_fit r.numbers) r.contract d h in (r, refl, k.0, k.1)

goes_same : (q r : Reduction) → goes q ≡ goes r → q ≡ r
goes_same q r e = cc

-- ---- a reduction

pays_turn : (s : StateMaps) (p : Party) (y : Payee) (t : Token) (due : ℤ) (ns : List ℤ) (c : ContractTree) → (pay_step s p y t due ns c).turn ≡ next
pays_turn s p y t due ns c = by (int_lt (pos 0) due) (paying s p y t due (int_min (balance s p t) due) ns c) (not_paying s p y t due ns c) refl refl
  where
    by : (b : Bool) (q r : Reduction) → q.turn ≡ next → r.turn ≡ next → (cond b q r).turn ≡ next
    by true q r e f = e
    by false q r e f = f

module _ (kind : AlarmKind) (place here : List PathStep) (i : Interval) (s : StateMaps) (xs : List Input) where
  -- what comes behind a reduction, at this step, comes of the contract
  abbrev Behind : PathStep → ContractTree → Reduction → Type 0
  Behind p c r = all_fit r.numbers ≡ true → Comes kind place (here ++ p ∷ []) i r.state r.contract xs → Comes kind place here i s c xs

  behind_pay : (p : Party) (y : Payee) (t : Token) (v : ValueTree) (c : ContractTree) → Behind Then (pay p y t v c) (pay_step s p y t (eval i s v) (visited i s v) c)
  behind_pay p y t v c f h =
      let r = pay_step s p y t (eval i s v) (visited i s v) c in
      let w = settled i r.state c in
      let there : Comes kind place (here ++ Then ∷ []) i r.state c xs =
      subst (λ d. Comes kind place (here ++ Then ∷ []) i r.state d xs) (pays_contract s p y t (eval i s v) (visited i s v) c) h in
      inr (
        f,
        subst (λ (u : Turn). ComesAt kind place (settling (here ++ Then ∷ []) i r.state c ++ behind w.end (taking_all (led (here ++ step_of u) w.turns) i xs)))
            (sym (pays_turn s p y t (eval i s v) (visited i s v) c)) there,
      )

  by_branch : (b : Bool) (c d : ContractTree) → Comes kind place (here ++ cond b Then Else ∷ []) i s (cond b c d) xs → let w = cond b (settled i s c) (settled i s d) in
      ComesAt kind place (cond b (settling (here ++ Then ∷ []) i s c) (settling (here ++ Else ∷ []) i s d) ++ behind w.end (taking_all (led (here ++ step_of (cond b then_branch else_branch)) w.turns) i xs))
  by_branch true c d h = h
  by_branch false c d h = h

  by_time : (b d : Bool) (a : Standing) (c : ContractTree) (r : Reduction) → cond b (stops (ended (Ok a))) (cond d (goes (timing_out s c)) (stops (ended (Err faults.Ambiguous)))) ≡ goes r
      → Comes kind place (here ++ TimeoutContinuation ∷ []) i r.state r.contract xs
      → let w = cond b (ended (Ok a)) (cond d (reduction_then (timing_out s c) (settled i s c)) (ended (Err faults.Ambiguous))) in
      ComesAt kind place (cond b [] (cond d (settling (here ++ TimeoutContinuation ∷ []) i s c) []) ++ behind w.end (taking_all (led here w.turns) i xs))
  by_time true d a c r e h = absurd (cc)
  by_time false true a c r e h = subst (λ (q : Reduction). Comes kind place (here ++ TimeoutContinuation ∷ []) i q.state q.contract xs) (sym (goes_same (timing_out s c) r e)) h
  by_time false false a c r e h = absurd (cc)

  behind_step : (c : ContractTree) (r : Reduction) → step i s c ≡ goes r → Behind (step_from i s c) c r
  behind_step close r e = absurd (cc)
  behind_step (pay p y t v c) r e =
      let q = pay_step s p y t (eval i s v) (visited i s v) c in
      subst (λ (x : Reduction). Behind Then (pay p y t v c) x) (goes_same q r e) (behind_pay p y t v c)
  behind_step (if_obs o c d) r e =
      let q = choosing s (holds i s o) (looked i s o) c d in
      subst (λ (x : Reduction). Behind (step_from i s (if_obs o c d)) (if_obs o c d) x) (goes_same q r e) (λ f h. inr (f, by_branch (holds i s o) c d h))
  behind_step (when ks t c) r e = λ f h. by_time (int_lt i.to t) (int_le t i.from) (standing s (when ks t c)) c r e h
  behind_step (let_be x v c) r e =
      let q = binding s x (eval i s v) (visited i s v) c in
      subst (λ (y : Reduction). Behind Then (let_be x v c) y) (goes_same q r e) (λ f h. inr (f, h))
  behind_step (assert o c) r e =
      let q = asserting s (holds i s o) (looked i s o) c in
      subst (λ (y : Reduction). Behind Then (assert o c) y) (goes_same q r e) (λ f h. inr (f, h))

pub passes : (i : Interval) (s : StateMaps) (c : ContractTree) (t : StateMaps) (d : ContractTree) (p : PathStep) → p ≡ step_from i s c → reply (step i s c) ≡ Ok (Some d) → t ≡ state_after s (step i s c) → GoesBy p i s c t d
passes i s c t d p l h k = record { behind = λ xs. record { comes = λ kind place here g. so xs kind place here g } }
  where
    so : (xs : List Input) (kind : AlarmKind) (place here : List PathStep) → Comes kind place (here ++ p ∷ []) i t d xs → Comes kind place here i s c xs
    so xs kind place here g =
        let q = went (step i s c) d h in
        let r = q.0 in
        let e : t ≡ r.state = k ∙ ap (state_after s) q.1 in
        let at_part = subst (λ x. Comes kind place (here ++ p ∷ []) i t x xs) q.3 g in
        let at_state = subst (λ u. Comes kind place (here ++ p ∷ []) i u r.contract xs) e at_part in
        behind_step kind place here i s xs c r q.1 q.2 (subst (λ x. Comes kind place (here ++ x ∷ []) i r.state r.contract xs) l at_state)

-- ---- an alarm where the contract stands

pub leaves_tells : (kind : AlarmKind) (m : Mark) → kind ≡ kinds.Leaves128 → all_fit m.numbers ≡ false → TellsOf kind m
leaves_tells kind m e h = subst (λ k. TellsOf k m) (sym e) h

pub warned_tells : (kind : AlarmKind) (m : Mark) → (kind ≡ kinds.Leaves128 → ⊥) → HasKind kind m.warnings → TellsOf kind m
warned_tells kinds.NonPositiveDeposit m other h = h
warned_tells kinds.NonPositivePay m other h = h
warned_tells kinds.PartialPay m other h = h
warned_tells kinds.Shadowing m other h = h
warned_tells kinds.AssertionFailed m other h = h
warned_tells kinds.Leaves128 m other h = absurd (other refl)

pub not_fit : {A : Type 0} (b : Bool) (x : A) (f : SemFault) → cond b (Ok x) (Err faults.Leaves128) ≡ Err f → b ≡ false
not_fit true x f h = absurd (cc)
not_fit false x f h = refl

-- a When leaves no number
none_leaves : (b d : Bool) (a : Standing) (q : Reduction) → all_fit q.numbers ≡ true
    → reply (cond b (stops (ended (Ok a))) (cond d (goes q) (stops (ended (Err faults.Ambiguous))))) ≡ Err faults.Leaves128 → ⊥
none_leaves true d a q f h = cc
none_leaves false true a q f h = let k = not_fit (all_fit q.numbers) (Some q.contract) faults.Leaves128 h in let e : true ≡ false = sym f ∙ k in cc
none_leaves false false a q f h = cc

-- and warns of nothing
none_warned : (kind : AlarmKind) (b d : Bool) (a : Standing) (q : Reduction) → q.warnings ≡ [] → HasKind kind (warnings_of (cond b (stops (ended (Ok a))) (cond d (goes q) (stops (ended (Err faults.Ambiguous)))))) → ⊥
none_warned kind true d a q e h = h
none_warned kind false true a q e h = subst (HasKind kind) e h
none_warned kind false false a q e h = h

leaves_at : (kind : AlarmKind) (i : Interval) (s : StateMaps) (c : ContractTree) → reply (step i s c) ≡ Err faults.Leaves128 → kind ≡ kinds.Leaves128 → (here : List PathStep) (xs : List Input) → Comes kind here here i s c xs
leaves_at kind i s close h e here xs = absurd (cc)
leaves_at kind i s (pay p y t v c) h e here xs =
    let r = pay_step s p y t (eval i s v) (visited i s v) c in
    inl (refl, leaves_tells kind (mark here r.numbers r.warnings) e (not_fit (all_fit r.numbers) (Some r.contract) faults.Leaves128 h))
leaves_at kind i s (if_obs o c d) h e here xs =
    let r = choosing s (holds i s o) (looked i s o) c d in
    inl (refl, leaves_tells kind (mark here r.numbers []) e (not_fit (all_fit r.numbers) (Some r.contract) faults.Leaves128 h))
leaves_at kind i s (when ks t c) h e here xs = absurd (none_leaves (int_lt i.to t) (int_le t i.from) (standing s (when ks t c)) (timing_out s c) refl h)
leaves_at kind i s (let_be x v c) h e here xs =
    let r = binding s x (eval i s v) (visited i s v) c in
    inl (refl, leaves_tells kind (mark here r.numbers r.warnings) e (not_fit (all_fit r.numbers) (Some r.contract) faults.Leaves128 h))
leaves_at kind i s (assert o c) h e here xs =
    let r = asserting s (holds i s o) (looked i s o) c in
    inl (refl, leaves_tells kind (mark here r.numbers r.warnings) e (not_fit (all_fit r.numbers) (Some r.contract) faults.Leaves128 h))

pub leaves_here : (kind : AlarmKind) (i : Interval) (s : StateMaps) (c : ContractTree) → reply (step i s c) ≡ Err faults.Leaves128 → kind ≡ kinds.Leaves128 → ComesHere kind i s c
leaves_here kind i s c h e = record { comes = leaves_at kind i s c h e }

warns_at : (kind : AlarmKind) (i : Interval) (s : StateMaps) (c : ContractTree) → (kind ≡ kinds.Leaves128 → ⊥) → HasKind kind (warnings_of (step i s c)) → (here : List PathStep) (xs : List Input) → Comes kind here here i s c xs
warns_at kind i s close other h here xs = absurd h
warns_at kind i s (pay p y t v c) other h here xs =
    let r = pay_step s p y t (eval i s v) (visited i s v) c in
    inl (refl, warned_tells kind (mark here r.numbers r.warnings) other h)
warns_at kind i s (if_obs o c d) other h here xs = absurd h
warns_at kind i s (when ks t c) other h here xs = absurd (none_warned kind (int_lt i.to t) (int_le t i.from) (standing s (when ks t c)) (timing_out s c) refl h)
warns_at kind i s (let_be x v c) other h here xs =
    let r = binding s x (eval i s v) (visited i s v) c in
    inl (refl, warned_tells kind (mark here r.numbers r.warnings) other h)
warns_at kind i s (assert o c) other h here xs =
    let r = asserting s (holds i s o) (looked i s o) c in
    inl (refl, warned_tells kind (mark here r.numbers r.warnings) other h)

pub warns_here : (kind : AlarmKind) (i : Interval) (s : StateMaps) (c : ContractTree) → (kind ≡ kinds.Leaves128 → ⊥) × HasKind kind (warnings_of (step i s c)) → ComesHere kind i s c
warns_here kind i s c h = record { comes = warns_at kind i s c h.0 h.1 }

-- ---- along the way to a place

pub ahead_here : (kind : AlarmKind) (i : Interval) (s : StateMaps) (c : ContractTree) (xs : List Input) → ComesHere kind i s c → ComesAhead kind [] i s c xs
ahead_here kind i s c xs h = record { comes = λ here. subst (λ q. Comes kind q here i s c xs) (sym (append-nil here)) (h.comes here xs) }

pub ahead_more : (kind : AlarmKind) (p : PathStep) (ps : List PathStep) (i : Interval) (s : StateMaps) (c : ContractTree) (xs : List Input) (t : StateMaps) (d : ContractTree) (ys : List Input)
    → ComesBehind p i s c xs t d ys → ComesAhead kind ps i t d ys → ComesAhead kind (p ∷ ps) i s c xs
ahead_more kind p ps i s c xs t d ys h k = record {
  comes = λ here. subst (λ q. Comes kind q here i s c xs) (append_assoc here (p ∷ []) ps) (h.comes kind ((here ++ p ∷ []) ++ ps) here (k.comes (here ++ p ∷ [])));
}

pub goes_with : (p : PathStep) (i : Interval) (s : StateMaps) (c : ContractTree) (t : StateMaps) (d : ContractTree) (xs : List Input) → GoesBy p i s c t d → ComesBehind p i s c xs t d xs
goes_with p i s c t d xs h = h.behind xs

pub taken_with : (n : ℕ) (i : Interval) (s : StateMaps) (c : ContractTree) (x : Input) (t : StateMaps) (d : ContractTree) (xs : List Input) → TakenBy n i s c x t d → ComesBehind (Case n) i s c (x ∷ xs) t d xs
taken_with n i s c x t d xs h = h.behind xs

pub action_ahead : (kind : AlarmKind) (n : ℕ) (i : Interval) (s : StateMaps) (c : ContractTree) (x : Input) (xs : List Input) → ComesAtAction kind n i s c x → ComesAhead kind (Action n ∷ []) i s c (x ∷ xs)
action_ahead kind n i s c x xs h = h.ahead xs
