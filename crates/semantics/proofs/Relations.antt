-- A reduction has one result, and so has a settling.
use Rattle.std.proofs.Common.{◌≡◌, ℤ, pos, ◌≤ℤ◌, int_lt, int_le, Bool, true, false, cond, List, [], ◌∷◌, map, length, refl, sym, ap, ◌∙◌, subst, Result, Ok, Err, Option, Some, inl, inr, ◌⊎◌}
use Rattle.std.specs.Prelude.{slice_get}
use Rattle.std.specs.FinMap.{entries, empty, empty_of_len, len-entries}
use Rattle.std.specs.Int.{int_min}
use Rattle.contract.specs.Names.declared.account.Account.{Account}
use Rattle.contract.specs.Names.declared.party.Party.{Party}
use Rattle.contract.specs.Names.declared.payee.Payee.{Payee}
use Rattle.contract.specs.Names.declared.token.Token.{Token}
use Rattle.contract.specs.declared.fault.SemFault.{SemFault}
use Rattle.contract.specs.declared.fault.SemFault.TheVariants.{Ambiguous}
use Rattle.contract.specs.declared.interval.Interval.{Interval}
use Rattle.contract.specs.States.States.{StateMaps, with_money}
use Rattle.contract.specs.Tree.{ValueTree, ContractTree, CaseTrees, close, pay, if_obs, when, let_be, assert}
use Rattle.semantics.specs.Walk.{refund, Standing, standing, Walk, ended}
use Rattle.semantics.specs.Reduction.{Reduction, Reduces, Quiet, IsAmbiguous, balance, refund_of, refunded, paying, not_paying, choosing, timing_out, binding, asserting}
use Rattle.evaluation.specs.Evaluation.{eval, visited, holds, looked}
use Rattle.semantics.specs.Settling.{Runs, Ends, reduction_then, walk_through, Settles}
use Rattle.semantics.specs.Computed.{pay_step, settled, refunds}
use Rattle.semantics.specs.Reduced.{goes}
use Rattle.semantics.proofs.Walks.{went}
use Rattle.semantics.proofs.Refunds.{entries-refund}
use Rattle.semantics.proofs.Settling.{settled_goes}
use Rattle.semantics.proofs.Integers.{lt_true, lt_false, le_true, le_false, true_lt, false_lt, true_le, false_le, before_both, not_both, reaches}

-- ---- one reduction

pub one_reduction : (i : Interval) (s : StateMaps) (c : ContractTree) (r q : Reduction) → Reduces i s c r → Reduces i s c q → q ≡ r
one_reduction i s close r q h k =
    let e : h.0 ≡ k.0 = let f : ◌≡◌ {A = Option (Account × ℤ)} (Some (h.0)) (Some (k.0)) = sym h.1 ∙ k.1 in cc in
    k.2 ∙ (ap (refunded s) (sym e) ∙ sym h.2)
one_reduction i s (pay p y t v c) r q (inl h) (inl k) = k.1 ∙ sym h.1
one_reduction i s (pay p y t v c) r q (inl h) (inr k) = absurd (not_both _ _ k.0 h.0)
one_reduction i s (pay p y t v c) r q (inr h) (inl k) = absurd (not_both _ _ h.0 k.0)
one_reduction i s (pay p y t v c) r q (inr h) (inr k) = k.1 ∙ sym h.1
one_reduction i s (if_obs o c d) r q h k = k ∙ sym h
one_reduction i s (when ks t c) r q h k = k.1 ∙ sym h.1
one_reduction i s (let_be x v c) r q h k = k ∙ sym h
one_reduction i s (assert o c) r q h k = k ∙ sym h

none_when_empty : (es : List (Account × ℤ)) (e : Account × ℤ) → slice_get es 0 ≡ Some e → es ≡ [] → ⊥
none_when_empty [] e h k = cc
none_when_empty (d ∷ es) e h k = cc

pub quiet_stays : (i : Interval) (s : StateMaps) (c : ContractTree) (r : Reduction) → i.from ≤ℤ i.to → Reduces i s c r → (Quiet i s c ⊎ IsAmbiguous i s c) → ⊥
quiet_stays i s close r v h (inl k) = none_when_empty (entries s.accounts) (h.0) h.1 k
quiet_stays i s close r v h (inr k) = k
quiet_stays i s (pay p y t u c) r v h (inl k) = k
quiet_stays i s (pay p y t u c) r v h (inr k) = k
quiet_stays i s (if_obs o c d) r v h (inl k) = k
quiet_stays i s (if_obs o c d) r v h (inr k) = k
quiet_stays i s (let_be x u c) r v h (inl k) = k
quiet_stays i s (let_be x u c) r v h (inr k) = k
quiet_stays i s (assert o c) r v h (inl k) = k
quiet_stays i s (assert o c) r v h (inr k) = k
quiet_stays i s (when ks t c) r v h (inl k) = before_both _ _ _ v k h.0
quiet_stays i s (when ks t c) r v h (inr k) = not_both _ _ k.0 h.0

refunds_unless_empty : (i : Interval) (s : StateMaps) (es : List (Account × ℤ)) → entries s.accounts ≡ es → ((r : Reduction) × Reduces i s close r) ⊎ (Quiet i s close ⊎ IsAmbiguous i s close)
refunds_unless_empty i s [] h = inr (inl h)
refunds_unless_empty i s (e ∷ es) h = inl (refunded s e, (e, ap (λ xs. slice_get xs 0) h, refl))

waits_unless_late : (i : Interval) (s : StateMaps) (ks : CaseTrees) (t : ℤ) (c : ContractTree) (b d : Bool) → int_lt i.to t ≡ b → int_le t i.from ≡ d →
    ((r : Reduction) × Reduces i s (when ks t c) r) ⊎ (Quiet i s (when ks t c) ⊎ IsAmbiguous i s (when ks t c))
waits_unless_late i s ks t c true d h k = inr (inl (true_lt _ _ h))
waits_unless_late i s ks t c false true h k = inl (timing_out s c, (true_le _ _ k, refl))
waits_unless_late i s ks t c false false h k = inr (inr (false_le _ _ k, false_lt _ _ h))

-- a Pay reduces so
pays_so : (i : Interval) (s : StateMaps) (p : Party) (y : Payee) (t : Token) (v : ValueTree) (c : ContractTree) (b : Bool) → int_lt (pos 0) (eval i s v) ≡ b →
    Reduces i s (pay p y t v c) (cond b (paying s p y t (eval i s v) (int_min (balance s p t) (eval i s v)) (visited i s v) c) (not_paying s p y t (eval i s v) (visited i s v) c))
pays_so i s p y t v c true h = inr (true_lt _ _ h, refl)
pays_so i s p y t v c false h = inl (false_lt _ _ h, refl)

pub reduces_unless_quiet : (i : Interval) (s : StateMaps) (c : ContractTree) → ((r : Reduction) × Reduces i s c r) ⊎ (Quiet i s c ⊎ IsAmbiguous i s c)
reduces_unless_quiet i s close = refunds_unless_empty i s (entries s.accounts) refl
reduces_unless_quiet i s (pay p y t v c) = inl (pay_step s p y t (eval i s v) (visited i s v) c, pays_so i s p y t v c (int_lt (pos 0) (eval i s v)) refl)
reduces_unless_quiet i s (if_obs o c d) = inl (choosing s (holds i s o) (looked i s o) c d, refl)
reduces_unless_quiet i s (let_be x v c) = inl (binding s x (eval i s v) (visited i s v) c, refl)
reduces_unless_quiet i s (assert o c) = inl (asserting s (holds i s o) (looked i s o) c, refl)
reduces_unless_quiet i s (when ks t c) = waits_unless_late i s ks t c (int_lt i.to t) (int_le t i.from) refl refl

-- ---- how a settling goes on

-- without entries there is no account
no_account : (s : StateMaps) → entries s.accounts ≡ [] → record s { accounts = empty } ≡ s
no_account s h = ap (λ m. record s { accounts = m }) (sym (empty_of_len s.accounts (len-entries s.accounts ∙ ap length h)))

refunds_of : StateMaps → List (Account × ℤ) → StateMaps → Walk
refunds_of s es t = record { numbers = []; warnings = []; payments = map refund_of es; turns = map (λ _. refund) es; end = Ok (standing t close) }

quiet_close : (s : StateMaps) → entries s.accounts ≡ [] → refunds s ≡ ended (Ok (standing s close))
unfolding refunds_of
quiet_close s h = ap (λ es. refunds_of s es (record s { accounts = empty })) h ∙ ap (λ t. refunds_of s [] t) (no_account s h)

first_refund : (s : StateMaps) (e : Account × ℤ) (es : List (Account × ℤ)) → entries s.accounts ≡ es → slice_get es 0 ≡ Some e → refunds s ≡ reduction_then (refunded s e) (refunds (with_money s e.0 (pos 0)))
unfolding refunds_of
first_refund s e [] h k = absurd (cc)
first_refund s e (d ∷ es) h k =
    let f : d ≡ e = cc in
    let rest = entries-refund s d es h in
    ap (λ xs. refunds_of s xs (record s { accounts = empty })) (h ∙ ap (λ x. d ∷ x) (sym rest))
    ∙ ap (λ x. reduction_then (refunded s x) (refunds (with_money s x.0 (pos 0)))) f

pub goes_by_reduction : (i : Interval) (s : StateMaps) (c : ContractTree) (r : Reduction) → i.from ≤ℤ i.to → Reduces i s c r → settled i s c ≡ reduction_then r (settled i r.state r.contract)
goes_by_reduction i s close r v h =
    first_refund s (h.0) (entries s.accounts) refl h.1 ∙ ap (λ (q : Reduction). reduction_then q (settled i q.state q.contract)) (sym h.2)
goes_by_reduction i s (pay p y t u c) r v (inl h) =
    settled_goes i s (pay p y t u c) r
    (ap (λ b. goes (cond b (paying s p y t (eval i s u) (int_min (balance s p t) (eval i s u)) (visited i s u) c) (not_paying s p y t (eval i s u) (visited i s u) c))) (lt_false (pos 0) (eval i s u) h.0) ∙ ap goes (sym h.1))
goes_by_reduction i s (pay p y t u c) r v (inr h) =
    settled_goes i s (pay p y t u c) r
    (ap (λ b. goes (cond b (paying s p y t (eval i s u) (int_min (balance s p t) (eval i s u)) (visited i s u) c) (not_paying s p y t (eval i s u) (visited i s u) c))) (lt_true (pos 0) (eval i s u) h.0) ∙ ap goes (sym h.1))
goes_by_reduction i s (if_obs o c d) r v h = settled_goes i s (if_obs o c d) r (ap goes (sym h))
goes_by_reduction i s (let_be x u c) r v h = settled_goes i s (let_be x u c) r (ap goes (sym h))
goes_by_reduction i s (assert o c) r v h = settled_goes i s (assert o c) r (ap goes (sym h))
goes_by_reduction i s (when ks t c) r v h =
    rw (lt_false i.to t (reaches _ _ _ h.0 v), le_true t i.from h.0, h.1) refl

pub rests_when_quiet : (i : Interval) (s : StateMaps) (c : ContractTree) → Quiet i s c → settled i s c ≡ ended (Ok (standing s c))
rests_when_quiet i s close h = quiet_close s h
rests_when_quiet i s (pay p y t v c) h = absurd h
rests_when_quiet i s (if_obs o c d) h = absurd h
rests_when_quiet i s (let_be x v c) h = absurd h
rests_when_quiet i s (assert o c) h = absurd h
rests_when_quiet i s (when ks t c) h =
    rw (lt_true i.to t h) refl

pub fails_when_ambiguous : (i : Interval) (s : StateMaps) (c : ContractTree) → IsAmbiguous i s c → settled i s c ≡ ended (Err Ambiguous)
fails_when_ambiguous i s close h = absurd h
fails_when_ambiguous i s (pay p y t v c) h = absurd h
fails_when_ambiguous i s (if_obs o c d) h = absurd h
fails_when_ambiguous i s (let_be x v c) h = absurd h
fails_when_ambiguous i s (assert o c) h = absurd h
fails_when_ambiguous i s (when ks t c) h =
    rw (lt_false i.to t h.1, le_false t i.from h.0) refl

-- ---- each settling is this one

ends_so : (i : Interval) (a : Standing) (end : Result Standing SemFault) → Ends i a end → settled i a.state a.contract ≡ ended end
ends_so i a end (inl h) = rests_when_quiet i a.state a.contract h.0 ∙ ap ended (sym h.1)
ends_so i a end (inr h) = fails_when_ambiguous i a.state a.contract h.0 ∙ ap ended (sym h.1)

runs_so : (i : Interval) (a : Standing) (rs : List Reduction) (b : Standing) (end : Result Standing SemFault) → i.from ≤ℤ i.to → Runs i a rs b → Ends i b end → settled i a.state a.contract ≡ walk_through rs end
runs_so i a [] b end v h k = ends_so i a end (subst (λ x. Ends i x end) h k)
runs_so i a (r ∷ rs) b end v h k =
    goes_by_reduction i a.state a.contract r v h.0 ∙ ap (reduction_then r) (runs_so i (standing r.state r.contract) rs b end v h.1 k)

pub settles_only : (i : Interval) (s : StateMaps) (c : ContractTree) (w : Walk) → i.from ≤ℤ i.to → Settles i s c w → w ≡ settled i s c
settles_only i s c w v h = h.walk ∙ sym (runs_so i (standing s c) h.reductions h.last w.end v h.runs h.ends)

-- ---- and this one is a settling

stays : (i : Interval) (a : Standing) (end : Result Standing SemFault) → Ends i a end → Settles i a.state a.contract (ended end)
stays i a end h = record { reductions = []; last = a; runs = refl; ends = h; walk = refl }

goes_first : (i : Interval) (s : StateMaps) (c : ContractTree) (r : Reduction) (w : Walk) → Reduces i s c r → Settles i r.state r.contract w → Settles i s c (reduction_then r w)
goes_first i s c r w h k = record { reductions = r ∷ k.reductions; last = k.last; runs = (h, k.runs); ends = k.ends; walk = ap (reduction_then r) k.walk }

close_settles : (i : Interval) (s : StateMaps) (es : List (Account × ℤ)) → entries s.accounts ≡ es → Settles i s close (refunds s)
close_settles i s [] h = subst (λ w. Settles i s close w) (sym (quiet_close s h)) (stays i (standing s close) (Ok (standing s close)) (inl (h, refl)))
close_settles i s (e ∷ es) h =
    let first : slice_get (entries s.accounts) 0 ≡ Some e = ap (λ xs. slice_get xs 0) h in
    subst (λ w. Settles i s close w) (sym (first_refund s e (entries s.accounts) refl first))
    (goes_first i s close (refunded s e) (refunds (with_money s e.0 (pos 0))) (e, first, refl)
    (close_settles i (with_money s e.0 (pos 0)) es (entries-refund s e es h)))

when_settles : (i : Interval) (s : StateMaps) (ks : CaseTrees) (t : ℤ) (c : ContractTree) (w : Walk) (b d : Bool) → int_lt i.to t ≡ b → int_le t i.from ≡ d → Settles i s c w →
    Settles i s (when ks t c) (cond b (ended (Ok (standing s (when ks t c)))) (cond d (reduction_then (timing_out s c) w) (ended (Err Ambiguous))))
when_settles i s ks t c w true d h k g = stays i (standing s (when ks t c)) (Ok (standing s (when ks t c))) (inl (true_lt _ _ h, refl))
when_settles i s ks t c w false true h k g = goes_first i s (when ks t c) (timing_out s c) w (true_le _ _ k, refl) g
when_settles i s ks t c w false false h k g = stays i (standing s (when ks t c)) (Err Ambiguous) (inr ((false_le _ _ k, false_lt _ _ h), refl))

pay_settles : (i : Interval) (s : StateMaps) (p : Party) (y : Payee) (t : Token) (v : ValueTree) (c : ContractTree) (go : StateMaps → Walk) (b : Bool) → int_lt (pos 0) (eval i s v) ≡ b → ((u : StateMaps) → Settles i u c (go u)) →
    Settles i s (pay p y t v c) (went go (cond b (paying s p y t (eval i s v) (int_min (balance s p t) (eval i s v)) (visited i s v) c) (not_paying s p y t (eval i s v) (visited i s v) c)))
pay_settles i s p y t v c go true h g =
    let r = paying s p y t (eval i s v) (int_min (balance s p t) (eval i s v)) (visited i s v) c in
    goes_first i s (pay p y t v c) r (go r.state) (pays_so i s p y t v c true h) (g r.state)
pay_settles i s p y t v c go false h g = goes_first i s (pay p y t v c) (not_paying s p y t (eval i s v) (visited i s v) c) (go s) (pays_so i s p y t v c false h) (g s)

branch_settles : (i : Interval) (s : StateMaps) (b : Bool) (c d : ContractTree) (w u : Walk) → Settles i s c w → Settles i s d u → Settles i s (cond b c d) (cond b w u)
branch_settles i s true c d w u h k = h
branch_settles i s false c d w u h k = k

pub settles_so : (i : Interval) (s : StateMaps) (c : ContractTree) → Settles i s c (settled i s c)
settles_so i s close = close_settles i s (entries s.accounts) refl
settles_so i s (pay p y t v c) = pay_settles i s p y t v c (λ u. settled i u c) (int_lt (pos 0) (eval i s v)) refl (λ u. settles_so i u c)
settles_so i s (if_obs o c d) =
    goes_first i s (if_obs o c d) (choosing s (holds i s o) (looked i s o) c d) (cond (holds i s o) (settled i s c) (settled i s d)) refl
    (branch_settles i s (holds i s o) c d (settled i s c) (settled i s d) (settles_so i s c) (settles_so i s d))
settles_so i s (let_be x v c) =
    let r = binding s x (eval i s v) (visited i s v) c in
    goes_first i s (let_be x v c) r (settled i r.state c) refl (settles_so i r.state c)
settles_so i s (assert o c) =
    goes_first i s (assert o c) (asserting s (holds i s o) (looked i s o) c) (settled i s c) refl (settles_so i s c)
settles_so i s (when ks t c) = when_settles i s ks t c (settled i s c) (int_lt i.to t) (int_le t i.from) refl refl (settles_so i s c)
