-- The turns of a transaction lead to where it ends.
use Rattle.std.proofs.Common.{◌≡◌, ℕ, suc, ℤ, pos, Bool, true, false, cond, ◌&&◌, List, [], ◌∷◌, ◌++◌, map, int_lt, int_le, refl, sym, ap, ◌∙◌, Result, Ok, Err, is_ok, Option, Some, None}
use Rattle.std.specs.Prelude.{slice_get, option_map}
use Rattle.std.specs.Option.{is_none, option_and_then}
use Rattle.std.specs.FinMap.{entries, empty}
use Rattle.std.specs.Int.{int_min}
use Rattle.contract.specs.Names.declared.party.Party.{Party}
use Rattle.contract.specs.Names.declared.payee.Payee.{Payee}
use Rattle.contract.specs.Names.declared.token.Token.{Token}
use Rattle.contract.specs.declared.fault.SemFault.{SemFault}
use Rattle.contract.specs.declared.fault.SemFault.TheVariants.{InvalidInterval, IntervalInPast, Useless, Ambiguous}
use Rattle.contract.specs.declared.input.Input.{Input}
use Rattle.contract.specs.declared.interval.Interval.{Interval}
use Rattle.contract.specs.States.States.{StateMaps}
use Rattle.contract.specs.Tree.{ValueTree, ObservationTree, ActionTree, ContractTree, CaseTrees, close, pay, if_obs, when, let_be, assert}
use Rattle.semantics.specs.Walk.{Turn, refund, in_case, Standing, standing, Walk, ended, then_from, then_walk}
use Rattle.semantics.specs.Settling.{reduction_then}
use Rattle.evaluation.specs.Path.{case_list, waits_for, part, along}
use Rattle.semantics.specs.Reduction.{balance, paying, not_paying, choosing, timing_out, with_bound}
use Rattle.evaluation.specs.Evaluation.{eval, visited, holds, looked}
use Rattle.semantics.specs.Applying.{matches, taken}
use Rattle.semantics.specs.Transaction.{trimmed}
use Rattle.semantics.specs.Computed.{settled, first_match, first_match_index, tried_to_match, take_match, applied, one_input, all_inputs, from_start, computed}
use Rattle.semantics.specs.Laws.{EndsWhereTurnsLead as Leads}
use Rattle.semantics.proofs.Walks.{went}
use Rattle.semantics.proofs.Computing.{computed_by}

ok_same : (a b : Standing) → ◌≡◌ {A = Result Standing SemFault} (Ok a) (Ok b) → a ≡ b
ok_same a b e = cc

leads_ended : (a : Standing) → Leads a.contract (ended (Ok a))
leads_ended a b h = ap (λ x. Some x.contract) (ok_same a b h)

leads_fault : (c : ContractTree) (w : Walk) (e : SemFault) → w.end ≡ Err e → Leads c w
leads_fault c w e q b h = absurd (let k : ◌≡◌ {A = Result Standing SemFault} (Err e) (Ok b) = sym q ∙ h in cc)

-- ---- a settling

refunds_stay : {A : Type 0} (es : List A) → along close (map (λ _. refund) es) ≡ Some close
refunds_stay [] = refl
refunds_stay (e ∷ es) = refunds_stay es

leads_when : (w : Walk) (b d : Bool) (ks : CaseTrees) (t : ℤ) (c : ContractTree) (s : StateMaps) → Leads c w →
    Leads (when ks t c) (cond b (ended (Ok (standing s (when ks t c)))) (cond d (reduction_then (timing_out s c) w) (ended (Err Ambiguous))))
leads_when w true d ks t c s h = leads_ended (standing s (when ks t c))
leads_when w false true ks t c s h = h
leads_when w false false ks t c s h = leads_fault (when ks t c) (ended (Err Ambiguous)) Ambiguous refl

leads_pay : (go : StateMaps → Walk) (b : Bool) (s : StateMaps) (p : Party) (y : Payee) (t : Token) (v : ValueTree) (due paid : ℤ) (ns : List ℤ) (c : ContractTree) → ((u : StateMaps) → Leads c (go u)) →
    Leads (pay p y t v c) (went go (cond b (paying s p y t due paid ns c) (not_paying s p y t due ns c)))
leads_pay go true s p y t v due paid ns c h = h (paying s p y t due paid ns c).state
leads_pay go false s p y t v due paid ns c h = h s

leads_if : (b : Bool) (s : StateMaps) (o : ObservationTree) (ns : List ℤ) (c d : ContractTree) (w u : Walk) → Leads c w → Leads d u → Leads (if_obs o c d) (reduction_then (choosing s b ns c d) (cond b w u))
leads_if true s o ns c d w u h k = h
leads_if false s o ns c d w u h k = k

leads_settled : (i : Interval) (s : StateMaps) (c : ContractTree) → Leads c (settled i s c)
leads_settled i s close = λ a h. refunds_stay (entries s.accounts) ∙ ap (λ x. Some x.contract) (ok_same (standing (record s { accounts = empty }) close) a h)
leads_settled i s (pay p y t v c) =
    leads_pay (λ u. settled i u c) (int_lt (pos 0) (eval i s v)) s p y t v (eval i s v) (int_min (balance s p t) (eval i s v)) (visited i s v) c (λ u. leads_settled i u c)
leads_settled i s (if_obs o c d) = leads_if (holds i s o) s o (looked i s o) c d (settled i s c) (settled i s d) (leads_settled i s c) (leads_settled i s d)
leads_settled i s (let_be x v c) = leads_settled i (with_bound s x (eval i s v)) c
leads_settled i s (assert o c) = leads_settled i s c
leads_settled i s (when ks t c) = leads_when (settled i s c) (int_lt i.to t) (int_le t i.from) ks t c s (leads_settled i s c)

-- ---- one part after another

along_some : (o : Option ContractTree) (d : ContractTree) (us : List Turn) → o ≡ Some d → option_and_then (λ x. along x us) o ≡ along d us
along_some o d us h = ap (option_and_then (λ x. along x us)) h

pub along_more : (ts us : List Turn) (c : ContractTree) → along c (ts ++ us) ≡ option_and_then (λ d. along d us) (along c ts)
along_more [] us c = refl
along_more (t ∷ ts) us c = by_part (part c t) (along_more ts us)
  where
    by_part : (o : Option ContractTree) → ((d : ContractTree) → along d (ts ++ us) ≡ option_and_then (λ e. along e us) (along d ts)) →
        option_and_then (λ d. along d (ts ++ us)) o ≡ option_and_then (λ d. along d us) (option_and_then (λ d. along d ts) o)
    by_part None h = refl
    by_part (Some d) h = h d

leads_from : (w : Walk) (end : Result Standing SemFault) (f : Standing → Walk) (c : ContractTree) → w.end ≡ end → Leads c w → ((a : Standing) → Leads a.contract (f a)) → Leads c (then_from w end f)
leads_from w (Ok a) f c p h k = λ b e. along_more w.turns (f a).turns c ∙ (along_some (along c w.turns) a.contract (f a).turns (h a p) ∙ k a b e)
leads_from w (Err d) f c p h k = h

pub leads_then : (w : Walk) (f : Standing → Walk) (c : ContractTree) → Leads c w → ((a : Standing) → Leads a.contract (f a)) → Leads c (then_walk w f)
leads_then w f c h k = leads_from w w.end f c refl h k

-- ---- an input

abbrev second : Option (ActionTree × ContractTree) → Option ContractTree
second = option_map (λ k. k.1)

at_case : (b : Bool) (k : ActionTree × ContractTree) (ks : List (ActionTree × ContractTree)) (o : Option ContractTree) (n : ℕ) (c : ContractTree) →
    (o ≡ Some c → second (slice_get ks n) ≡ Some c) → cond b (Some k.1) o ≡ Some c → second (slice_get (k ∷ ks) (cond b 0 (suc n))) ≡ Some c
at_case true k ks o n c h e = e
at_case false k ks o n c h e = h e

found : (i : Interval) (s : StateMaps) (x : Input) (ks : List (ActionTree × ContractTree)) (c : ContractTree) → first_match i s x ks ≡ Some c → second (slice_get ks (first_match_index i s x ks)) ≡ Some c
found i s x [] c e = absurd (cc)
found i s x (k ∷ ks) c e = at_case (matches i s x k.0) k ks (first_match i s x ks) (first_match_index i s x ks) c (found i s x ks c) e

in_when : (i : Interval) (s : StateMaps) (x : Input) (c d : ContractTree) → first_match i s x (waits_for c) ≡ Some d → along c (in_case (first_match_index i s x (waits_for c)) ∷ []) ≡ Some d
in_when i s x close d e = absurd (cc)
in_when i s x (pay p y t v c) d e = absurd (cc)
in_when i s x (if_obs o b c) d e = absurd (cc)
in_when i s x (let_be n v c) d e = absurd (cc)
in_when i s x (assert o c) d e = absurd (cc)
in_when i s x (when ks t c) d e = ap (option_and_then (λ y. along y [])) (found i s x (case_list ks) d e)

leads_match : (s : StateMaps) (x : Input) (ns : List ℤ) (n : ℕ) (o : Option ContractTree) (c : ContractTree) → ((d : ContractTree) → o ≡ Some d → along c (in_case n ∷ []) ≡ Some d) → Leads c (take_match s x ns n o)
leads_match s x ns n None c h a e = absurd (cc)
leads_match s x ns n (Some d) c h a e = h d refl ∙ ap (λ b. Some b.contract) (ok_same (standing (taken s x) d) a e)

leads_applied : (i : Interval) (x : Input) (a : Standing) → Leads a.contract (applied i x a)
unfolding applied
leads_applied i x a =
    let ks = waits_for a.contract in
    leads_match a.state x (tried_to_match i a.state x ks) (first_match_index i a.state x ks) (first_match i a.state x ks) a.contract (in_when i a.state x a.contract)

leads_input : (i : Interval) (x : Input) (a : Standing) → Leads a.contract (one_input i x a)
unfolding one_input
leads_input i x a = leads_then (applied i x a) (λ b. settled i b.state b.contract) a.contract (leads_applied i x a) (λ b. leads_settled i b.state b.contract)

leads_inputs : (i : Interval) (xs : List Input) (a : Standing) → Leads a.contract (all_inputs i xs a)
leads_inputs i [] a = leads_ended a
leads_inputs i (x ∷ xs) a = leads_then (one_input i x a) (all_inputs i xs) a.contract (leads_input i x a) (leads_inputs i xs)

-- ---- a transaction

leads_finished : (b : Bool) (w : Walk) (c : ContractTree) → Leads c w → Leads c (record w { end = cond b (Err Useless) w.end })
leads_finished true w c h = leads_fault c (record w { end = Err Useless }) Useless refl
leads_finished false w c h = h

leads_start : (i : Interval) (s : StateMaps) (c : ContractTree) (xs : List Input) → Leads c (from_start i s c xs)
unfolding from_start
leads_start i s c xs =
    let t : StateMaps = record s { min_time = i.from } in
    let w = then_walk (settled i t c) (all_inputs i xs) in
    leads_finished (is_ok w.end && is_none (slice_get w.turns 0)) w c (leads_then (settled i t c) (all_inputs i xs) c (leads_settled i t c) (leads_inputs i xs))

pub leads_computed : (i : Interval) (s : StateMaps) (c : ContractTree) (xs : List Input) → Leads c (computed i s c xs)
leads_computed i s c xs =
    computed_by (Leads c) i s c xs (leads_fault c (ended (Err InvalidInterval)) InvalidInterval refl) (leads_fault c (ended (Err IntervalInPast)) IntervalInPast refl) (leads_start (trimmed i s) s c xs)
