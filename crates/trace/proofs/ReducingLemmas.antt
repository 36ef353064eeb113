-- One reduction, by what the code answers of it.
use Rattle.std.proofs.Common.{◌≡◌, ℤ, pos, int_lt, int_le, Bool, true, false, cond, List, [], ◌∷◌, ◌++◌, refl, sym, ap, ◌∙◌, subst, Option, Some, None, Result, Ok, Err}
use Rattle.std.specs.Int.{int_min}
use Rattle.std.specs.FinMap.{entries}
use Rattle.contract.specs.declared.fault.SemFault.{SemFault}
use Rattle.contract.specs.declared.fault.SemFault.TheVariants.{Ambiguous, Leaves128}
use Rattle.contract.specs.declared.interval.Interval.{Interval}
use Rattle.contract.specs.Names.declared.party.Party.{Party}
use Rattle.contract.specs.Names.declared.payee.Payee.{Payee}
use Rattle.contract.specs.Names.declared.token.Token.{Token}
use Rattle.contract.specs.States.States.{StateMaps}
use Rattle.contract.specs.Tree.{ContractTree, close, pay, if_obs, when, let_be, assert}
use Rattle.semantics.specs.Evaluation.Numbers.{all_fit}
use Rattle.semantics.specs.Evaluation.Evaluation.{eval, visited, holds, looked}
use Rattle.semantics.specs.Walk.{next, then_branch, else_branch, Standing, standing, Walk, ended, answer_of}
use Rattle.semantics.specs.Reduction.{Reduction, balance, paying, not_paying, choosing, timing_out, binding, asserting}
use Rattle.semantics.specs.Computed.{refunds, pay_step}
use Rattle.semantics.specs.Reduced.{CodeStep, stops, goes, step, reply, stop_reply, state_after, warnings_of, turn_of, turns_of}
use Rattle.semantics.proofs.Paying.{pays_contract}
use Rattle.analysis_spec.specs.declared.path.PathStep.{PathStep}
use Rattle.analysis_spec.specs.declared.path.PathStep.TheVariants.{Then, Else, TimeoutContinuation}
use Rattle.analysis_spec.specs.Marks.{step_of, led, settling}
use Rattle.trace.specs.Warned.{at_place, warned_at}
use Rattle.trace.proofs.SteppingLemmas.{led_refunds}

-- ---- what a step's reply tells

stopped_end : (r : Result Standing SemFault) (d : ContractTree) → stop_reply r ≡ Ok (Some d) → ⊥
stopped_end (Ok a) d h = cc
stopped_end (Err f) d h = cc

went_fits : (b : Bool) (c : ContractTree) (o : Option ContractTree) → cond b (Ok (Some c)) (Err Leaves128) ≡ Ok o → o ≡ Some c
went_fits true c o h = cc
went_fits false c o h = absurd (cc)

went : (t : CodeStep) (d : ContractTree) → reply t ≡ Ok (Some d) → (r : Reduction) × (t ≡ goes r) × (d ≡ r.contract)
went (stops w) d h = absurd (stopped_end (answer_of w) d h)
went (goes r) d h = let e = went_fits (all_fit r.numbers) r.contract (Some d) h in (r, refl, cc)

rested : (t : CodeStep) → reply t ≡ Ok None → (w : Walk) × (t ≡ stops w)
rested (stops w) h = (w, refl)
rested (goes r) h = absurd (let e = went_fits (all_fit r.numbers) r.contract None h in cc)

-- ---- what stops warns of nothing, and stays

record Rests (here : List PathStep) (i : Interval) (s : StateMaps) (c : ContractTree) (w : Walk) : Type 0 where
  turns : led here w.turns ≡ here
  warnings : w.warnings ≡ []
  marks : settling here i s c ≡ []

when_rests : (here : List PathStep) (i : Interval) (s : StateMaps) (c d : ContractTree) (b e : Bool) (a : Standing) (r : Reduction) (w : Walk)
    → cond b (stops (ended (Ok a))) (cond e (goes r) (stops (ended (Err Ambiguous)))) ≡ stops w
    → (led here w.turns ≡ here) × (w.warnings ≡ []) × (cond b [] (cond e (settling (here ++ TimeoutContinuation ∷ []) i s c) []) ≡ [])
when_rests here i s c d true e a r w h = let k : ended (Ok a) ≡ w = cc in (ap (λ (v : Walk). led here v.turns) (sym k), ap (λ (v : Walk). v.warnings) (sym k), refl)
when_rests here i s c d false true a r w h = absurd (cc)
when_rests here i s c d false false a r w h =
    let k : ended (Err Ambiguous) ≡ w = cc in (ap (λ (v : Walk). led here v.turns) (sym k), ap (λ (v : Walk). v.warnings) (sym k), refl)

rests : (here : List PathStep) (i : Interval) (s : StateMaps) (c : ContractTree) (w : Walk) → step i s c ≡ stops w → Rests here i s c w
rests here i s close w e =
    let k : refunds s ≡ w = cc in
    record { turns = ap (λ (v : Walk). led here v.turns) (sym k) ∙ led_refunds here (entries s.accounts); warnings = ap (λ (v : Walk). v.warnings) (sym k); marks = refl }
rests here i s (pay p y t v c) w e = absurd (cc)
rests here i s (if_obs o c d) w e = absurd (cc)
rests here i s (when ks t c) w e = let q = when_rests here i s c close (int_lt i.to t) (int_le t i.from) (standing s (when ks t c)) (timing_out s c) w e in record { turns = q.0; warnings = q.1; marks = q.2 }
rests here i s (let_be x v c) w e = absurd (cc)
rests here i s (assert o c) w e = absurd (cc)

-- where all is quiet, the turns of the last step stay
pub stays : (here : List PathStep) (i : Interval) (s : StateMaps) (c : ContractTree) → reply (step i s c) ≡ Ok None → led here (turns_of (step i s c)) ≡ here
stays here i s c h = let k = rested (step i s c) h in ap (λ t. led here (turns_of t)) k.1 ∙ (rests here i s c (k.0) k.1).turns

-- and it warns of nothing
pub silent : (here : List PathStep) (i : Interval) (s : StateMaps) (c : ContractTree) → reply (step i s c) ≡ Ok None → at_place here (warnings_of (step i s c)) ≡ warned_at (settling here i s c)
silent here i s c h =
    let k = rested (step i s c) h in
    let q = rests here i s c (k.0) k.1 in
    ap (λ t. at_place here (warnings_of t)) k.1 ∙ (ap (at_place here) q.warnings ∙ sym (ap warned_at q.marks))

-- ---- what goes on warns at its place

-- the marks of a contract are those of one reduction, and then those of what is gone on with
abbrev Marks : List PathStep → Interval → StateMaps → ContractTree → Reduction → Type 0
Marks here i s c r = warned_at (settling here i s c) ≡ at_place here r.warnings ++ warned_at (settling (here ++ step_of r.turn) i r.state r.contract)

goes_same : (q r : Reduction) → goes q ≡ goes r → q ≡ r
goes_same q r e = cc

pays_turn : (s : StateMaps) (p : Party) (y : Payee) (t : Token) (due : ℤ) (ns : List ℤ) (c : ContractTree) → (pay_step s p y t due ns c).turn ≡ next
pays_turn s p y t due ns c = by (int_lt (pos 0) due) (paying s p y t due (int_min (balance s p t) due) ns c) (not_paying s p y t due ns c) refl refl
  where
    by : (b : Bool) (q r : Reduction) → q.turn ≡ next → r.turn ≡ next → (cond b q r).turn ≡ next
    by true q r e f = e
    by false q r e f = f

marks_pay : (here : List PathStep) (i : Interval) (s : StateMaps) (p : Party) (y : Payee) (t : Token) (due : ℤ) (ns : List ℤ) (c : ContractTree) → let r = pay_step s p y t due ns c in
    at_place here r.warnings ++ warned_at (settling (here ++ Then ∷ []) i r.state c) ≡ at_place here r.warnings ++ warned_at (settling (here ++ step_of r.turn) i r.state r.contract)
marks_pay here i s p y t due ns c =
    let r = pay_step s p y t due ns c in
    ap (λ d. at_place here r.warnings ++ warned_at (settling (here ++ Then ∷ []) i r.state d)) (sym (pays_contract s p y t due ns c))
    ∙ ap (λ u. at_place here r.warnings ++ warned_at (settling (here ++ step_of u) i r.state r.contract)) (sym (pays_turn s p y t due ns c))

marks_branch : (here : List PathStep) (i : Interval) (s : StateMaps) (b : Bool) (c d : ContractTree) →
    warned_at (cond b (settling (here ++ Then ∷ []) i s c) (settling (here ++ Else ∷ []) i s d)) ≡ warned_at (settling (here ++ step_of (cond b then_branch else_branch)) i s (cond b c d))
marks_branch here i s true c d = refl
marks_branch here i s false c d = refl

marks_when : (here : List PathStep) (i : Interval) (s : StateMaps) (c : ContractTree) (b e : Bool) (w v : Walk) (r : Reduction) → cond b (stops w) (cond e (goes (timing_out s c)) (stops v)) ≡ goes r
    → warned_at (cond b [] (cond e (settling (here ++ TimeoutContinuation ∷ []) i s c) [])) ≡ at_place here r.warnings ++ warned_at (settling (here ++ step_of r.turn) i r.state r.contract)
marks_when here i s c true e w v r h = absurd (cc)
marks_when here i s c false true w v r h =
    ap (λ (q : Reduction). at_place here q.warnings ++ warned_at (settling (here ++ step_of q.turn) i q.state q.contract)) (goes_same (timing_out s c) r h)
marks_when here i s c false false w v r h = absurd (cc)

marks : (here : List PathStep) (i : Interval) (s : StateMaps) (c : ContractTree) (r : Reduction) → step i s c ≡ goes r → Marks here i s c r
marks here i s close r e = absurd (cc)
marks here i s (pay p y t v c) r e =
    let q = pay_step s p y t (eval i s v) (visited i s v) c in
    subst (λ (x : Reduction). Marks here i s (pay p y t v c) x) (goes_same q r e) (marks_pay here i s p y t (eval i s v) (visited i s v) c)
marks here i s (if_obs o c d) r e =
    let q = choosing s (holds i s o) (looked i s o) c d in
    subst (λ (x : Reduction). Marks here i s (if_obs o c d) x) (goes_same q r e) (marks_branch here i s (holds i s o) c d)
marks here i s (when ks t c) r e = marks_when here i s c (int_lt i.to t) (int_le t i.from) _ _ r e
marks here i s (let_be x v c) r e =
    let q = binding s x (eval i s v) (visited i s v) c in
    subst (λ (y : Reduction). Marks here i s (let_be x v c) y) (goes_same q r e) refl
marks here i s (assert o c) r e =
    let q = asserting s (holds i s o) (looked i s o) c in
    subst (λ (x : Reduction). Marks here i s (assert o c) x) (goes_same q r e) refl

pub warns_here : (here there : List PathStep) (i : Interval) (s : StateMaps) (c : ContractTree) (t : StateMaps) (d : ContractTree) → reply (step i s c) ≡ Ok (Some d) → t ≡ state_after s (step i s c) → there ≡ here ++ step_of (turn_of (step i s c))
    → warned_at (settling here i s c) ≡ at_place here (warnings_of (step i s c)) ++ warned_at (settling there i t d)
warns_here here there i s c t d h k l =
    let g = went (step i s c) d h in
    let r = g.0 in
    let e : there ≡ here ++ step_of r.turn = l ∙ ap (λ (x : CodeStep). here ++ step_of (turn_of x)) g.1 in
    let f : t ≡ r.state = k ∙ ap (state_after s) g.1 in
    marks here i s c r g.1
    ∙ (ap (λ (x : CodeStep). at_place here (warnings_of x) ++ warned_at (settling (here ++ step_of r.turn) i r.state r.contract)) (sym g.1)
    ∙ (ap (λ p. at_place here (warnings_of (step i s c)) ++ warned_at (settling p i r.state r.contract)) (sym e)
    ∙ (ap (λ u. at_place here (warnings_of (step i s c)) ++ warned_at (settling there i u r.contract)) (sym f)
    ∙ ap (λ e'. at_place here (warnings_of (step i s c)) ++ warned_at (settling there i t e')) (sym g.2))))
