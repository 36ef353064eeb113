-- How a contract settles, one step at a time.
use Rattle.std.proofs.Common.{◌≡◌, ℕ, suc, ◌+◌, ◌<◌, Bool, true, false, cond, ◌&&◌, ◌∷◌, ◌++◌, refl, sym, ap, ◌∙◌, arith, int_lt, int_le, Option, Some, None, Result, Ok, Err, subst}
use Rattle.contract.specs.declared.fault.SemFault.{SemFault}
use Rattle.contract.specs.declared.fault.SemFault.TheVariants.{Ambiguous, Leaves128, Memory}
use Rattle.contract.specs.declared.interval.Interval.{Interval}
use Rattle.contract.specs.States.States.{StateMaps}
use Rattle.contract.specs.Tree.{ContractTree, close, pay, if_obs, when, let_be, assert}
use Rattle.semantics.specs.Walk.{Standing, standing, Walk, ended, answer_of}
use Rattle.contract.specs.Collections.Answers.{Aside}
use Rattle.evaluation.specs.Numbers.{all_fit}
use Rattle.semantics.specs.Reduction.{Reduction, choosing, timing_out, binding, asserting}
use Rattle.semantics.specs.Settling.{reduction_then}
use Rattle.semantics.specs.Computed.{pay_step, settled}
use Rattle.evaluation.specs.Evaluation.{eval, visited, holds, looked}
use Rattle.semantics.proofs.Paying.{pays_contract}
use Rattle.evaluation.proofs.Numbers.{all_fit_append, from_cond}
use Rattle.semantics.proofs.Walks.{ok_answer, same_answer}
use Rattle.semantics.specs.Reduced.{CodeStep, stops, goes, step, reply, stop_reply, state_after, end_state, warnings_of, payments_of, turn_of, turns_of}

-- at least as many as the reductions that can still enter a part
abbrev pub height : ContractTree → ℕ
height close = 0
height (pay p y t v c) = suc (height c)
height (if_obs o c d) = suc (height c + height d)
height (when ks timeout c) = suc (height c)
height (let_be x v c) = suc (height c)
height (assert o c) = suc (height c)

-- ---- each form

-- a When that stops does no more than that
when_rests : (b d : Bool) (w v u x : Walk) (q : Reduction) → cond b (stops w) (cond d (goes q) (stops v)) ≡ stops x → cond b w (cond d (reduction_then q u) v) ≡ x
when_rests true d w v u x q e = cc
when_rests false true w v u x q e = absurd (cc)
when_rests false false w v u x q e = cc

-- a When that goes on does so by its timeout
when_goes : (b d : Bool) (w v : Walk) (q r : Reduction) → cond b (stops w) (cond d (goes q) (stops v)) ≡ goes r → (b ≡ false) × (d ≡ true) × (r ≡ q)
when_goes true d w v q r e = absurd (cc)
when_goes false true w v q r e = (refl, refl, cc)
when_goes false false w v q r e = absurd (cc)

goes_same : (q r : Reduction) → goes q ≡ goes r → q ≡ r
goes_same q r e = cc

-- the branch that is chosen settles
settled_branch : (i : Interval) (s : StateMaps) (b : Bool) (c d : ContractTree) → cond b (settled i s c) (settled i s d) ≡ settled i s (cond b c d)
settled_branch i s true c d = refl
settled_branch i s false c d = refl

branch_less : (b : Bool) (c d : ContractTree) → height (cond b c d) < suc (height c + height d)
branch_less true c d = omega arith
branch_less false c d = omega arith

pub settled_stops : (i : Interval) (s : StateMaps) (c : ContractTree) (w : Walk) → step i s c ≡ stops w → settled i s c ≡ w
settled_stops i s close w e = cc
settled_stops i s (pay p y t v c) w e = absurd (cc)
settled_stops i s (if_obs o c d) w e = absurd (cc)
settled_stops i s (when ks t c) w e = when_rests (int_lt i.to t) (int_le t i.from) _ _ (settled i s c) w (timing_out s c) e
settled_stops i s (let_be x v c) w e = absurd (cc)
settled_stops i s (assert o c) w e = absurd (cc)

pub settled_goes : (i : Interval) (s : StateMaps) (c : ContractTree) (r : Reduction) → step i s c ≡ goes r → settled i s c ≡ reduction_then r (settled i r.state r.contract)
settled_goes i s close r e = absurd (cc)
settled_goes i s (pay p y t v c) r e =
    let q = goes_same (pay_step s p y t (eval i s v) (visited i s v) c) r e in
    ap (λ x. reduction_then x (settled i x.state c)) q
    ∙ ap (λ d. reduction_then r (settled i r.state d)) (sym (pays_contract s p y t (eval i s v) (visited i s v) c) ∙ ap (λ x. x.contract) q)
settled_goes i s (if_obs o c d) r e =
    let q = goes_same (choosing s (holds i s o) (looked i s o) c d) r e in
    ap (reduction_then (choosing s (holds i s o) (looked i s o) c d)) (settled_branch i s (holds i s o) c d) ∙ ap (λ x. reduction_then x (settled i x.state x.contract)) q
settled_goes i s (let_be x v c) r e =
    ap (λ y. reduction_then y (settled i y.state y.contract)) (goes_same (binding s x (eval i s v) (visited i s v) c) r e)
settled_goes i s (assert o c) r e =
    ap (λ y. reduction_then y (settled i y.state y.contract)) (goes_same (asserting s (holds i s o) (looked i s o) c) r e)
settled_goes i s (when ks t c) r e =
    let q = when_goes (int_lt i.to t) (int_le t i.from) _ _ (timing_out s c) r e in
    rw (q.0, q.1, q.2) refl

pub step_less : (i : Interval) (s : StateMaps) (c : ContractTree) (r : Reduction) → step i s c ≡ goes r → height r.contract < height c
step_less i s close r e = absurd (cc)
step_less i s (pay p y t v c) r e =
    let q = goes_same (pay_step s p y t (eval i s v) (visited i s v) c) r e in
    subst (λ d. height d < suc (height c)) (sym (pays_contract s p y t (eval i s v) (visited i s v) c) ∙ ap (λ x. x.contract) q) (omega arith)
step_less i s (if_obs o c d) r e =
    let q = goes_same (choosing s (holds i s o) (looked i s o) c d) r e in
    subst (λ x. height x.contract < suc (height c + height d)) q (branch_less (holds i s o) c d)
step_less i s (let_be x v c) r e =
    let q = goes_same (binding s x (eval i s v) (visited i s v) c) r e in
    subst (λ y. height y.contract < suc (height c)) q (omega arith)
step_less i s (assert o c) r e =
    let q = goes_same (asserting s (holds i s o) (looked i s o) c) r e in
    subst (λ y. height y.contract < suc (height c)) q (omega arith)
step_less i s (when ks t c) r e =
    let q = when_goes (int_lt i.to t) (int_le t i.from) _ _ (timing_out s c) r e in
    subst (λ x. height x.contract < suc (height c)) (sym q.2) (omega arith)

when_stops : (b d : Bool) (w : Walk) (q : Reduction) (here a : Standing) → cond b (stops (ended (Ok here))) (cond d (goes q) (stops (ended (Err Ambiguous)))) ≡ stops w → w.end ≡ Ok a → a ≡ here
when_stops true d w q here a e h = let k : w.end ≡ Ok here = cc in cc
when_stops false true w q here a e h = absurd (cc)
when_stops false false w q here a e h = let k : w.end ≡ Err Ambiguous = cc in absurd (cc)

-- what stops well stays at the contract
pub stops_here : (i : Interval) (s : StateMaps) (c : ContractTree) (w : Walk) (a : Standing) → step i s c ≡ stops w → w.end ≡ Ok a → a.contract ≡ c
stops_here i s close w a e h = cc
stops_here i s (pay p y t v c) w a e h = absurd (cc)
stops_here i s (if_obs o c d) w a e h = absurd (cc)
stops_here i s (let_be x v c) w a e h = absurd (cc)
stops_here i s (assert o c) w a e h = absurd (cc)
stops_here i s (when ks t c) w a e h =
    ap (λ x. x.contract) (when_stops (int_lt i.to t) (int_le t i.from) w (timing_out s c) (standing s (when ks t c)) a e h)

-- ---- what a step's reply tells

reply_some : (t : CodeStep) (next : ContractTree) → Ok (Some next) ≡ reply t → (r : Reduction) × (t ≡ goes r) × (all_fit r.numbers ≡ true) × (next ≡ r.contract)
reply_some (stops w) next h = absurd (by_end (answer_of w) h)
  where
    by_end : (end : Result Standing SemFault) → Ok (Some next) ≡ stop_reply end → ⊥
    by_end (Ok a) k = cc
    by_end (Err f) k = cc
reply_some (goes r) next h = let k = from_cond (all_fit r.numbers) (Some r.contract) (Some next) h in (r, refl, k.0, cc)

reply_none : (t : CodeStep) → Ok None ≡ reply t → (w : Walk) × (a : Standing) × (t ≡ stops w) × (answer_of w ≡ Ok a)
reply_none (stops w) h = by_end (answer_of w) refl h
  where
    by_end : (end : Result Standing SemFault) → answer_of w ≡ end → Ok None ≡ stop_reply end → (v : Walk) × (a : Standing) × (stops w ≡ stops v) × (answer_of v ≡ Ok a)
    by_end (Ok a) q k = (w, a, refl, q)
    by_end (Err f) q k = absurd (cc)
reply_none (goes r) h = absurd (let k = from_cond (all_fit r.numbers) (Some r.contract) None h in cc)

-- how it settles, and how it settles from after one reduction
pub record More (i : Interval) (s : StateMaps) (c : ContractTree) (t : StateMaps) (d : ContractTree) : Type 0 where
  pub fits : all_fit (settled i s c).numbers ≡ all_fit (settled i t d).numbers
  pub warnings : (settled i s c).warnings ≡ warnings_of (step i s c) ++ (settled i t d).warnings
  pub payments : (settled i s c).payments ≡ payments_of (step i s c) ++ (settled i t d).payments
  pub end : (settled i s c).end ≡ (settled i t d).end
  pub turns : (settled i s c).turns ≡ turn_of (step i s c) ∷ (settled i t d).turns
  pub less : height d < height c

one_more : (i : Interval) (s : StateMaps) (c : ContractTree) (r : Reduction) → step i s c ≡ goes r → all_fit r.numbers ≡ true → More i s c r.state r.contract
one_more i s c r q k =
    let e = settled_goes i s c r q in
    record {
      fits = ap (λ w. all_fit w.numbers) e ∙ (all_fit_append r.numbers _ ∙ ap (λ b. b && all_fit (settled i r.state r.contract).numbers) k);
      warnings = ap (λ w. w.warnings) e ∙ ap (λ t. warnings_of t ++ (settled i r.state r.contract).warnings) (sym q);
      payments = ap (λ w. w.payments) e ∙ ap (λ t. payments_of t ++ (settled i r.state r.contract).payments) (sym q);
      end = ap (λ w. w.end) e;
      turns = ap (λ w. w.turns) e ∙ ap (λ t. turn_of t ∷ (settled i r.state r.contract).turns) (sym q);
      less = step_less i s c r q;
    }

-- after a reduction
pub goes_on : (i : Interval) (s : StateMaps) (c : ContractTree) (t : StateMaps) (next : ContractTree) → reply (step i s c) ≡ Ok (Some next) → t ≡ state_after s (step i s c) → More i s c t next
goes_on i s c t next h e =
    let k = reply_some (step i s c) next (sym h) in
    let m = one_more i s c (k.0) k.1 k.2 in
    let e' : t ≡ (k.0).state = e ∙ ap (state_after s) k.1 in
    subst (λ x. More i s c t x) (sym k.3) (subst (λ x. More i s c x (k.0).contract) (sym e') m)

-- where all is quiet
pub record Last (i : Interval) (s : StateMaps) (c : ContractTree) (t : StateMaps) : Type 0 where
  pub fits : all_fit (settled i s c).numbers ≡ true
  pub warnings : (settled i s c).warnings ≡ warnings_of (step i s c)
  pub payments : (settled i s c).payments ≡ payments_of (step i s c)
  pub end : (settled i s c).end ≡ Ok (standing t c)
  pub turns : (settled i s c).turns ≡ turns_of (step i s c)

pub stops_well : (i : Interval) (s : StateMaps) (c : ContractTree) (t : StateMaps) → reply (step i s c) ≡ Ok None → t ≡ state_after s (step i s c) → Last i s c t
stops_well i s c t h e =
    let k = reply_none (step i s c) (sym h) in
    let q = settled_stops i s c (k.0) k.2 in
    let well = ok_answer (all_fit (k.0).numbers) (k.0).end (k.1) k.3 in
    let here = stops_here i s c (k.0) (k.1) k.2 well.1 in
    let there : (k.1).state ≡ t = sym (e ∙ (ap (state_after s) k.2 ∙ ap (end_state s) well.1)) in
    record {
      fits = ap (λ w. all_fit w.numbers) q ∙ well.0;
      warnings = ap (λ w. w.warnings) q ∙ ap warnings_of (sym k.2);
      payments = ap (λ w. w.payments) q ∙ ap payments_of (sym k.2);
      end = ap (λ w. w.end) q ∙ (well.1 ∙ (λ j. Ok (standing (there j) (here j))));
      turns = ap (λ w. w.turns) q ∙ ap turns_of (sym k.2);
    }

fault_reply : (i : Interval) (s : StateMaps) (c : ContractTree) (e : SemFault) (t : CodeStep) → step i s c ≡ t → Err e ≡ reply t → Err e ≡ answer_of (settled i s c)
fault_reply i s c e (stops w) q h = rw (settled_stops i s c w q) (by_end (answer_of w) h)
  where
    by_end : (end : Result Standing SemFault) → ◌≡◌ {A = Result (Option ContractTree) SemFault} (Err e) (stop_reply end) → Err e ≡ end
    by_end (Ok a) k = absurd (cc)
    by_end (Err f) k = cc
fault_reply i s c e (goes r) q h =
    rw (settled_goes i s c r q, all_fit_append r.numbers (settled i r.state r.contract).numbers) (bad (all_fit r.numbers) _ (Some r.contract) _ h)
  where
    bad : (b d : Bool) (x : Option ContractTree) (y : Result Standing SemFault) → Err e ≡ cond b (Ok x) (Err Leaves128) → Err e ≡ cond (b && d) y (Err Leaves128)
    bad true d x y h = absurd (cc)
    bad false d x y h = cc

-- a fault on the way is the answer of the whole
pub fails : (i : Interval) (s : StateMaps) (c : ContractTree) (e : SemFault) (w : Walk) → Aside Memory (Err e) (reply (step i s c)) →
    all_fit w.numbers ≡ all_fit (settled i s c).numbers → w.end ≡ (settled i s c).end → Aside Memory (Err e) (answer_of w)
fails i s c e w h f g = λ m. same_answer w (settled i s c) f g ∙ sym (fault_reply i s c e (step i s c) refl (sym (h m)))

-- where all is quiet, the whole has ended
pub ends_whole : (i : Interval) (s : StateMaps) (c : ContractTree) (t : StateMaps) (w : Walk) → Last i s c t → all_fit w.numbers ≡ all_fit (settled i s c).numbers → w.end ≡ (settled i s c).end → answer_of w ≡ Ok (standing t c)
ends_whole i s c t w h f g = ap (λ b. cond b w.end (Err Leaves128)) (f ∙ h.fits) ∙ (g ∙ h.end)
