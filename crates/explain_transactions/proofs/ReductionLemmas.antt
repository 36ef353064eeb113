-- One reduction of the code, as a move.
use Rattle.std.proofs.Common.{◌≡◌, ◌≢◌, ◌<◌, ◌==◌, length, arith, ℤ, pos, int_lt, int_le, Bool, true, false, cond, ◌&&◌, not, List, [], ◌∷◌, ◌++◌, map, append-nil, refl, sym, ap, ◌∙◌, subst, inl, inr, ◌⊎◌, Option, Some, None, Result, Ok, Err}
use Rattle.std.specs.Prelude.{is_err}
use Rattle.std.proofs.lemmas.Bool.Decides.{nat_tests}
use Rattle.contract.specs.declared.input.Input.{Input}
use Rattle.std.specs.Int.{int_min}
use Rattle.std.specs.FinMap.{entries}
use Rattle.contract.specs.Names.declared.party.Party.{Party}
use Rattle.contract.specs.Names.declared.payee.Payee.{Payee}
use Rattle.contract.specs.Names.declared.payee.Payee.TheVariants.{Account as ToAccount, Party as ToParty}
use Rattle.contract.specs.Names.declared.token.Token.{Token}
use Rattle.contract.specs.declared.fault.SemFault.{SemFault}
use Rattle.contract.specs.declared.fault.SemFault.TheVariants.{Ambiguous, Leaves128, Memory}
use Rattle.contract.specs.declared.interval.Interval.{Interval}
use Rattle.contract.specs.Tree.{ValueTree, ContractTree, close, pay, if_obs, when, let_be, assert, contract_tree}
use Rattle.contract.specs.States.States.{StateMaps}
use Rattle.semantics.specs.Evaluation.Numbers.{all_fit, within}
use Rattle.semantics.specs.Evaluation.Evaluation.{eval, visited, holds, looked}
use Rattle.semantics.proofs.FromEvaluation.Numbers.{all_fit_append, from_cond}
use Rattle.semantics.specs.Walk.{Standing, standing, Walk, ended, answer_of}
use Rattle.semantics.specs.Reduction.{Reduction, Reduces, Quiet, balance, paying, not_paying, choosing, timing_out, binding, asserting, account_of}
use Rattle.semantics.specs.Settling.{Ends, walk_through}
use Rattle.semantics.specs.Computed.{pay_step, settled}
use Rattle.semantics.specs.Reduced.{CodeStep, stops, goes, step, reply, stop_reply, state_after, turn_of, turns_of, is_quiet, is_none_left}
use Rattle.semantics.proofs.Integers.{true_lt, false_lt, true_le, lt_true}
use Rattle.semantics.proofs.Relations.{settles_so}
use Rattle.semantics.proofs.Settling.{height, step_less, Last, stops_well}
use Rattle.analysis_spec.specs.declared.path.PathStep.{PathStep}
use Rattle.analysis_spec.specs.Marks.{step_of, led}
use Rattle.trace.proofs.ReducingLemmas.{stays}
use Rattle.explain_transactions.specs.Moves.{reduces, IsReduced, Moves, turn_by, Comes}
use Rattle.explain_transactions.specs.Explained.{own_numbers, PaymentLeaves}
use Rattle.trace.specs.declared.sequence.Left.{Left}
use Rattle.explain_transactions.specs.declared.stop.Stop.{Stop}
use Rattle.explain_transactions.specs.declared.stop.Stop.TheVariants as stops
use Rattle.explain_transactions.specs.declared.stop.Moved.{Moved}
use Rattle.explain_transactions.specs.declared.stop.Moved.TheVariants as moved
use Rattle.explain_transactions.specs.Support.{here, PaysInto, IsPayment, timeout_inside, IsInside, Stops, StopsAfter, HasMoved, is_on, Descends}
use Rattle.explain_transactions.proofs.MovesLemmas.{comes_nowhere, runs_moves, no_inputs, turns_same}

-- ---- what a step's reply tells

no_some : (end : Result Standing SemFault) (d : ContractTree) → stop_reply end ≡ Ok (Some d) → ⊥
no_some (Ok a) d h = cc
no_some (Err f) d h = cc

went : (t : CodeStep) (d : ContractTree) → reply t ≡ Ok (Some d) → (r : Reduction) × (t ≡ goes r) × (all_fit r.numbers ≡ true) × (d ≡ r.contract)
went (stops w) d h = absurd (no_some (answer_of w) d h)
went (goes r) d h = let k = from_cond (all_fit r.numbers) (Some r.contract) (Some d) (sym h) in (r, refl, k.0, cc)

goes_same : (q r : Reduction) → goes q ≡ goes r → q ≡ r
goes_same q r e = cc

-- ---- a step is a reduction of the table

pays_so : (i : Interval) (s : StateMaps) (p : Party) (y : Payee) (t : Token) (v : ValueTree) (c : ContractTree) (b : Bool) → int_lt (pos 0) (eval i s v) ≡ b →
    Reduces i s (pay p y t v c) (cond b (paying s p y t (eval i s v) (int_min (balance s p t) (eval i s v)) (visited i s v) c) (not_paying s p y t (eval i s v) (visited i s v) c))
pays_so i s p y t v c true h = inr (true_lt _ _ h, refl)
pays_so i s p y t v c false h = inl (false_lt _ _ h, refl)

when_goes : (b d : Bool) (w v : Walk) (q r : Reduction) → cond b (stops w) (cond d (goes q) (stops v)) ≡ goes r → (d ≡ true) × (r ≡ q)
when_goes true d w v q r e = absurd (cc)
when_goes false true w v q r e = (refl, cc)
when_goes false false w v q r e = absurd (cc)

step_reduces : (i : Interval) (s : StateMaps) (c : ContractTree) (r : Reduction) → step i s c ≡ goes r → Reduces i s c r
step_reduces i s close r e = absurd (cc)
step_reduces i s (pay p y t v c) r e =
    let q = pay_step s p y t (eval i s v) (visited i s v) c in
    subst (λ (x : Reduction). Reduces i s (pay p y t v c) x) (goes_same q r e) (pays_so i s p y t v c (int_lt (pos 0) (eval i s v)) refl)
step_reduces i s (if_obs o c d) r e = sym (goes_same (choosing s (holds i s o) (looked i s o) c d) r e)
step_reduces i s (when ks t c) r e =
    let q = when_goes (int_lt i.to t) (int_le t i.from) _ _ (timing_out s c) r e in
    (true_le _ _ q.0, q.1)
step_reduces i s (let_be x v c) r e = sym (goes_same (binding s x (eval i s v) (visited i s v) c) r e)
step_reduces i s (assert o c) r e = sym (goes_same (asserting s (holds i s o) (looked i s o) c) r e)

-- ---- one step of the code

pub moves_on : (i : Interval) (p q : List PathStep) (s : StateMaps) (c : ContractTree) (t : StateMaps) (d : ContractTree) → reply (step i s c) ≡ Ok (Some d) → t ≡ state_after s (step i s c) → q ≡ p ++ step_of (turn_of (step i s c))
    → Comes i [] p (standing s c) q (standing t d)
moves_on i p q s c t d h e l =
    let g = went (step i s c) d h in
    let r = g.0 in
    let state : t ≡ r.state = e ∙ ap (state_after s) g.1 in
    record {
      moves = reduces r ∷ [];
      runs = (record { reduces = step_reduces i s c r g.1; fits = g.2 }, ap (λ (x : StateMaps). standing x d) state ∙ ap (λ (x : ContractTree). standing r.state x) g.3);
      inputs = refl;
      path = l ∙ ap (λ (x : CodeStep). p ++ step_of (turn_of x)) g.1;
    }

pub moves_less : (i : Interval) (s : StateMaps) (c d : ContractTree) → reply (step i s c) ≡ Ok (Some d) → height d < height c
moves_less i s c d h = let g = went (step i s c) d h in subst (λ (x : ContractTree). height x < height c) (sym g.3) (step_less i s c g.0 g.1)

-- the last one, behind which all is quiet
pub moves_last : (i : Interval) (p : List PathStep) (s : StateMaps) (c : ContractTree) (t : StateMaps) → reply (step i s c) ≡ Ok None → t ≡ state_after s (step i s c)
    → Comes i [] p (standing s c) p (standing t c) × Quiet i t c
moves_last i p s c t h e = by (settles_so i s c).ends
  where
    l : Last i s c t
    l = stops_well i s c t h e

    ok_same : (a b : Standing) → ◌≡◌ {A = Result Standing SemFault} (Ok a) (Ok b) → a ≡ b
    ok_same a b k = cc

    by : Ends i (settles_so i s c).last (settled i s c).end → Comes i [] p (standing s c) p (standing t c) × Quiet i t c
    by (inl k) =
        let g = settles_so i s c in
        let w = settled i s c in
        let at : g.last ≡ standing t c = ok_same g.last (standing t c) (sym k.1 ∙ l.end) in
        let fits : all_fit (walk_through g.reductions w.end).numbers ≡ true = ap (λ (v : Walk). all_fit v.numbers) (sym g.walk) ∙ l.fits in
        let turns = turns_same g.reductions w.end ∙ (ap (λ (v : Walk). v.turns) (sym g.walk) ∙ l.turns) in (
          record {
            moves = map (λ r. reduces r) g.reductions;
            runs = subst (λ (b : Standing). Moves i (standing s c) (map (λ r. reduces r) g.reductions) b) at (runs_moves i (standing s c) g.reductions g.last w.end g.runs fits);
            inputs = no_inputs g.reductions;
            path = sym (ap (led p) turns ∙ stays p i s c h);
          },
          subst (λ (b : Standing). Quiet i b.state b.contract) at k.0,
        )
    by (inr k) = absurd (let f : ◌≡◌ {A = Result Standing SemFault} (Err Ambiguous) (Ok (standing t c)) = sym k.1 ∙ l.end in cc)

-- ---- a payment whose sum leaves

numbers_of : (b : Bool) (ns ms : List ℤ) (q r q' r' : Reduction) → q.numbers ≡ ns ++ ms → r.numbers ≡ ns → q'.numbers ≡ ms → r'.numbers ≡ [] → (cond b q r).numbers ≡ ns ++ (cond b q' r').numbers
numbers_of true ns ms q r q' r' e f g h = e ∙ ap (λ x. ns ++ x) (sym g)
numbers_of false ns ms q r q' r' e f g h = f ∙ (sym (append-nil ns) ∙ ap (λ x. ns ++ x) (sym h))

pub pays_numbers : (s : StateMaps) (p : Party) (y : Payee) (t : Token) (due : ℤ) (ns : List ℤ) (c d : ContractTree) → (pay_step s p y t due ns c).numbers ≡ ns ++ (pay_step s p y t due [] d).numbers
pays_numbers s p y t due ns c d =
    let paid = int_min (balance s p t) due in
    numbers_of (int_lt (pos 0) due) ns (paying s p y t due paid [] d).numbers (paying s p y t due paid ns c) (not_paying s p y t due ns c) (paying s p y t due paid [] d) (not_paying s p y t due [] d) refl refl refl refl

leaves_so : (b : Bool) (d : ContractTree) → cond b (Ok (Some d)) (Err Leaves128) ≡ Err Leaves128 → b ≡ false
leaves_so true d h = absurd (cc)
leaves_so false d h = refl

second_false : (b d : Bool) → b && d ≡ false → b ≡ true → d ≡ false
second_false true d h k = h
second_false false d h k = absurd (cc)

pub payment_leaves : (i : Interval) (s : StateMaps) (p q : Party) (t : Token) (v : ValueTree) (c : ContractTree) → all_fit (visited i s v) ≡ true → reply (step i s (pay p (ToAccount q) t v c)) ≡ Err Leaves128
    → PaymentLeaves i s (pay p (ToAccount q) t v c) (account_of q t)
payment_leaves i s p q t v c h k =
    let r = pay_step s p (ToAccount q) t (eval i s v) (visited i s v) c in
    let ms = (pay_step s p (ToAccount q) t (eval i s v) [] c).numbers in
    let both : all_fit (visited i s v) && all_fit ms ≡ false =
    sym (ap all_fit (pays_numbers s p (ToAccount q) t (eval i s v) (visited i s v) c c) ∙ all_fit_append (visited i s v) ms) ∙ leaves_so (all_fit r.numbers) r.contract k in
    (refl, h, second_false (all_fit (visited i s v)) (all_fit ms) both h)

pub payment_stops : (i : Interval) (s : StateMaps) (c : ContractTree) (o : Party) (u : Token) → PaysInto c o u → all_fit (own_numbers i s c) ≡ true → reply (step i s c) ≡ Err Leaves128 → PaymentLeaves i s c (account_of o u)
payment_stops i s (pay p (ToAccount q) t v c) o u k h e =
    let l = payment_leaves i s p q t v c h e in
    (ap (λ (x : Party). account_of x u) k.0 ∙ ap (account_of q) k.1, l.1, l.2)
payment_stops i s (pay p (ToParty q) t v c) o u k h e = absurd k
payment_stops i s close o u k h e = absurd k
payment_stops i s (if_obs x c d) o u k h e = absurd k
payment_stops i s (when ks t c) o u k h e = absurd k
payment_stops i s (let_be x v c) o u k h e = absurd k
payment_stops i s (assert x c) o u k h e = absurd k

-- where a reduction is stopped, nothing was done
pub stopped_here : (j : Interval) (old new : Left) (stop : Stop) → new.path ≡ old.path → contract_tree new.contract.now ≡ contract_tree old.contract.now → Stops j old.state (contract_tree old.contract.now) stop → StopsAfter j [] old new stop
stopped_here j old new stop e l h =
    let at : standing old.state (contract_tree new.contract.now) ≡ here old = ap (λ (c : ContractTree). standing old.state c) l in (
      old.state,
      subst (λ (b : Standing). Comes j [] old.path (here old) new.path b) (sym at) (subst (λ (p : List PathStep). Comes j [] old.path (here old) p (here old)) (sym e) (comes_nowhere j old.path (here old))),
      subst (λ (c : ContractTree). Stops j old.state c stop) (sym l) h,
    )

pub payment_moved : (j : Interval) (old new : Left) (m : Moved) → new.path ≡ old.path → contract_tree new.contract.now ≡ contract_tree old.contract.now → all_fit (own_numbers j old.state (contract_tree old.contract.now)) ≡ true
    → reply (step j old.state (contract_tree old.contract.now)) ≡ Err Leaves128 → IsPayment m (contract_tree old.contract.now) → HasMoved j old new m
payment_moved j old new (moved.Stops (stops.Sum o u)) e l h k q = stopped_here j old new (stops.Sum o u) e l (payment_stops j old.state (contract_tree old.contract.now) o.now u.now q h k)
payment_moved j old new (moved.Stops (stops.Ambiguous t)) e l h k q = absurd q
payment_moved j old new (moved.Stops stops.Value) e l h k q = absurd q
payment_moved j old new (moved.Stops stops.Unmatched) e l h k q = absurd q
payment_moved j old new moved.On e l h k q = absurd q
payment_moved j old new moved.Rests e l h k q = absurd q

-- an evaluation fails where a number leaves
pub fails_leaving : {A : Type 0} (ns : List ℤ) (x : A) → is_err (within ns x) ≡ not (all_fit ns)
fails_leaving ns x = by (all_fit ns)
  where
    by : (b : Bool) → is_err (cond b (Ok x) (Err Leaves128)) ≡ not b
    by true = refl
    by false = refl

pub payment_less : (old new : Left) (c : ContractTree) (m : Moved) → IsPayment m c → Descends old new m
payment_less old new c moved.On q = absurd q
payment_less old new c moved.Rests q = tt
payment_less old new c (moved.Stops stop) q = tt

-- ---- a timeout inside the interval

pub inside_so : (j : Interval) (c : ContractTree) (u : ℤ) → Some u ≡ timeout_inside j c → IsInside j c u
inside_so j (when ks t d) u h = by (int_lt j.from t) (int_le t j.to) refl refl h
  where
    by : (b e : Bool) → int_lt j.from t ≡ b → int_le t j.to ≡ e → Some u ≡ cond (b && e) (Some t) None → IsInside j (when ks t d) u
    by true true f g k =
        let q : t ≡ u = cc in
        subst (λ (x : ℤ). IsInside j (when ks t d) x) q (ks, d, refl, true_lt _ _ f, true_le _ _ g)
    by true false f g k = absurd (cc)
    by false e f g k = absurd (cc)
inside_so j close u h = absurd (cc)
inside_so j (pay p y t v c) u h = absurd (cc)
inside_so j (if_obs o c d) u h = absurd (cc)
inside_so j (let_be x v c) u h = absurd (cc)
inside_so j (assert o c) u h = absurd (cc)

-- ---- one reduction after another

pub on_so : (m : Moved) → is_on m ≡ true → m ≡ moved.On
on_so moved.On h = refl
on_so moved.Rests h = absurd (cc)
on_so (moved.Stops stop) h = absurd (cc)

-- ---- whether there is something to reduce

none_left : {A : Type 0} (es : List A) → is_none_left es ≡ true → es ≡ []
none_left [] h = refl
none_left (e ∷ es) h = absurd (cc)

some_left : {A : Type 0} (es : List A) → is_none_left es ≡ false → es ≡ [] → ⊥
some_left [] h k = cc
some_left (e ∷ es) h k = cc

pub none_brought : (xs : List Input) → true ≡ (length xs == 0) → xs ≡ []
none_brought [] h = refl
none_brought (x ∷ xs) h = absurd (omega (arith, eqb_zero h))
  where
    eqb_zero : true ≡ (length (x ∷ xs) == 0) → length (x ∷ xs) ≡ 0
    eqb_zero k = grind (arith, nat_tests)

pub is_quiet_so : (i : Interval) (s : StateMaps) (c : ContractTree) → is_quiet i s c ≡ true → Quiet i s c
is_quiet_so i s close h = none_left (entries s.accounts) h
is_quiet_so i s (pay p y t v c) h = absurd (cc)
is_quiet_so i s (if_obs o c d) h = absurd (cc)
is_quiet_so i s (when ks t c) h = true_lt _ _ h
is_quiet_so i s (let_be x v c) h = absurd (cc)
is_quiet_so i s (assert o c) h = absurd (cc)

pub is_busy_so : (i : Interval) (s : StateMaps) (c : ContractTree) → is_quiet i s c ≡ false → Quiet i s c → ⊥
is_busy_so i s close h k = some_left (entries s.accounts) h k
is_busy_so i s (pay p y t v c) h k = k
is_busy_so i s (if_obs o c d) h k = k
is_busy_so i s (when ks t c) h k = let e : ◌≡◌ {A = Bool} true false = sym (lt_true _ _ k) ∙ h in cc
is_busy_so i s (let_be x v c) h k = k
is_busy_so i s (assert o c) h k = k
