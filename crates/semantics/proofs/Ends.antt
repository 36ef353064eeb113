-- What holds where a transaction ends.
use Rattle.std.proofs.Common.{◌≡◌, ℕ, ℤ, pos, ◌+ℤ◌, ◌≤ℤ◌, ◌<ℤ◌, int_lt, Bool, true, false, cond, ◌&&◌, List, [], ◌∷◌, refl, sym, ap, ◌∙◌, subst, arith, Result, Ok, Err, is_ok, Option, Some, None, inl, inr, ◌⊎◌}
use Rattle.std.specs.Prelude.{slice_get}
use Rattle.std.specs.Option.{is_none}
use Rattle.std.specs.Int.{int_min, int_max}
use Rattle.std.proofs.lemmas.Int.{ints}
use Rattle.std.specs.FinMap.{entries}
use Rattle.contract.specs.Names.declared.payee.Payee.{Payee}
use Rattle.contract.specs.Names.declared.payee.Payee.TheVariants.{Account as ToAccount, Party as ToParty}
use Rattle.contract.specs.Names.declared.token.Token.{Token}
use Rattle.contract.specs.declared.fault.SemFault.{SemFault}
use Rattle.contract.specs.declared.fault.SemFault.TheVariants.{InvalidInterval, IntervalInPast, Useless, Ambiguous}
use Rattle.contract.specs.declared.input.Input.{Input}
use Rattle.contract.specs.declared.input.Input.TheVariants.{Deposit, Choice, Notify}
use Rattle.contract.specs.declared.interval.Interval.{Interval}
use Rattle.contract.specs.States.States.{StateMaps, with_money}
use Rattle.contract.specs.Tree.{ContractTree, CaseTrees, close, pay, if_obs, when, let_be, assert}
use Rattle.semantics.specs.Walk.{Standing, standing, Walk, ended, then_from, then_walk}
use Rattle.evaluation.specs.Path.{waits_for}
use Rattle.semantics.specs.Reduction.{Reduction, Reduces, Quiet, account_of, balance, debited, credited}
use Rattle.evaluation.specs.Evaluation.{eval}
use Rattle.semantics.specs.Settling.{Runs, Ends}
use Rattle.semantics.specs.Applying.{taken}
use Rattle.semantics.specs.Transaction.{trimmed, finished}
use Rattle.semantics.specs.Computed.{settled, first_match, first_match_index, tried_to_match, take_match, applied, one_input, all_inputs, from_start, computed}
use Rattle.semantics.proofs.Integers.{true_lt}
use Rattle.semantics.proofs.Relations.{settles_so}
use Rattle.semantics.proofs.Computing.{computed_by}

ok_same : (a b : Standing) → ◌≡◌ {A = Result Standing SemFault} (Ok a) (Ok b) → a ≡ b
ok_same a b e = cc

-- what holds wherever a walk ends well
abbrev AtEnd : (Standing → Type 0) → Walk → Type 0
AtEnd P w = (a : Standing) → w.end ≡ Ok a → P a

at_ended : (P : Standing → Type 0) (a : Standing) → P a → AtEnd P (ended (Ok a))
at_ended P a h b e = subst P (ok_same a b e) h

at_fault : (P : Standing → Type 0) (w : Walk) (f : SemFault) → w.end ≡ Err f → AtEnd P w
at_fault P w f q a e = absurd (let k : ◌≡◌ {A = Result Standing SemFault} (Err f) (Ok a) = sym q ∙ e in cc)

at_then_from : (P Q : Standing → Type 0) (w : Walk) (end : Result Standing SemFault) (f : Standing → Walk) → w.end ≡ end → AtEnd P w → ((a : Standing) → P a → AtEnd Q (f a)) → AtEnd Q (then_from w end f)
at_then_from P Q w (Ok a) f q h k = k a (h a q)
at_then_from P Q w (Err e) f q h k = at_fault Q w e q

at_then : (P Q : Standing → Type 0) (w : Walk) (f : Standing → Walk) → AtEnd P w → ((a : Standing) → P a → AtEnd Q (f a)) → AtEnd Q (then_walk w f)
at_then P Q w f h k = at_then_from P Q w w.end f refl h k

at_match : (P : Standing → Type 0) (s : StateMaps) (x : Input) (ns : List ℤ) (n : ℕ) (o : Option ContractTree) → ((c : ContractTree) → P (standing (taken s x) c)) → AtEnd P (take_match s x ns n o)
at_match P s x ns n None h a e = absurd (cc)
at_match P s x ns n (Some c) h a e = subst P (ok_same (standing (taken s x) c) a e) (h c)

at_finished : (P : Standing → Type 0) (w : Walk) → AtEnd P w → AtEnd P (finished w)
at_finished P w h = by_turns (is_ok w.end && is_none (slice_get w.turns 0))
  where
    by_turns : (b : Bool) → AtEnd P (record w { end = cond b (Err Useless) w.end })
    by_turns true = at_fault P (record w { end = Err Useless }) Useless refl
    by_turns false = h

-- a property that a settling has, that inputs keep, holds at the end
module _ (i : Interval) (P : Standing → Type 0) (settles : (a : Standing) → P a → AtEnd P (settled i a.state a.contract)) (takes : (x : Input) (a : Standing) (c : ContractTree) → P a → P (standing (taken a.state x) c)) where
  at_input : (x : Input) (a : Standing) → P a → AtEnd P (one_input i x a)
  unfolding one_input applied
  at_input x a h =
      let ks = waits_for a.contract in
      at_then P P (applied i x a) (λ b. settled i b.state b.contract)
      (at_match P a.state x (tried_to_match i a.state x ks) (first_match_index i a.state x ks) (first_match i a.state x ks) (λ c. takes x a c h)) settles

  at_inputs : (xs : List Input) (a : Standing) → P a → AtEnd P (all_inputs i xs a)
  at_inputs [] a h = at_ended P a h
  at_inputs (x ∷ xs) a h = at_then P P (one_input i x a) (all_inputs i xs) (at_input x a h) (λ b. at_inputs xs b)

  at_start : (s : StateMaps) (c : ContractTree) (xs : List Input) → P (standing (record s { min_time = i.from }) c) → AtEnd P (from_start i s c xs)
  unfolding from_start
  at_start s c xs h =
      let t : StateMaps = record s { min_time = i.from } in
      at_finished P (then_walk (settled i t c) (all_inputs i xs)) (at_then P P (settled i t c) (all_inputs i xs) (settles (standing t c) h) (λ b. at_inputs xs b))

-- ---- the minimum time

credited_time : (s : StateMaps) (y : Payee) (t : Token) (n : ℤ) → (credited s y t n).min_time ≡ s.min_time
credited_time s (ToAccount p) t n = refl
credited_time s (ToParty p) t n = refl

-- a reduction keeps it
reduces_time : (i : Interval) (s : StateMaps) (c : ContractTree) (r : Reduction) → Reduces i s c r → r.state.min_time ≡ s.min_time
reduces_time i s close r h = ap (λ (q : Reduction). q.state.min_time) h.2
reduces_time i s (pay p y t v c) r (inl h) = ap (λ (q : Reduction). q.state.min_time) h.1
reduces_time i s (pay p y t v c) r (inr h) =
    ap (λ (q : Reduction). q.state.min_time) h.1 ∙ credited_time (debited s p t (int_min (balance s p t) (eval i s v))) y t (int_min (balance s p t) (eval i s v))
reduces_time i s (if_obs o c d) r h = ap (λ (q : Reduction). q.state.min_time) h
reduces_time i s (let_be x v c) r h = ap (λ (q : Reduction). q.state.min_time) h
reduces_time i s (assert o c) r h = ap (λ (q : Reduction). q.state.min_time) h
reduces_time i s (when ks t c) r h = ap (λ (q : Reduction). q.state.min_time) h.1

-- an input keeps it
taken_time : (s : StateMaps) (x : Input) → (taken s x).min_time ≡ s.min_time
taken_time s (Deposit a p t n) = kept (int_lt (pos 0) n)
  where
    kept : (b : Bool) → (cond b (with_money s (account_of a t) (balance s a t +ℤ n)) s).min_time ≡ s.min_time
    kept true = refl
    kept false = refl
taken_time s (Choice id n) = refl
taken_time s Notify = refl

runs_time : (i : Interval) (a : Standing) (rs : List Reduction) (b : Standing) → Runs i a rs b → b.state.min_time ≡ a.state.min_time
runs_time i a [] b h = ap (λ (x : Standing). x.state.min_time) h
runs_time i a (r ∷ rs) b h = runs_time i (standing r.state r.contract) rs b h.1 ∙ reduces_time i a.state a.contract r h.0

-- where a settling ends
ends_at : (i : Interval) (b a : Standing) (end : Result Standing SemFault) → Ends i b end → end ≡ Ok a → (b ≡ a) × Quiet i a.state a.contract
ends_at i b a end (inl h) e = let q = ok_same b a (sym h.1 ∙ e) in (q, subst (λ (x : Standing). Quiet i x.state x.contract) q h.0)
ends_at i b a end (inr h) e = absurd (let k : ◌≡◌ {A = Result Standing SemFault} (Err Ambiguous) (Ok a) = sym h.1 ∙ e in cc)

settled_time : (i : Interval) (t : ℤ) (b : Standing) → b.state.min_time ≡ t → AtEnd (λ a. a.state.min_time ≡ t) (settled i b.state b.contract)
settled_time i t b h a e =
    let g = settles_so i b.state b.contract in
    ap (λ (x : Standing). x.state.min_time) (sym (ends_at i g.last a _ g.ends e).0) ∙ (runs_time i b g.reductions g.last g.runs ∙ h)

greater : (a b : ℤ) → b ≤ℤ int_max a b
greater a b = by_test (int_lt b a) refl
  where
    at_least : (t : Bool) → int_lt b a ≡ t → b ≤ℤ cond t a b
    at_least true h = let k = true_lt b a h in omega (arith, ints)
    at_least false h = omega (arith, ints)

    by_test : (t : Bool) → int_lt b a ≡ t → b ≤ℤ cond (int_lt b a) a b
    by_test t h = at_least (int_lt b a) refl

at_computed : (P : Standing → Type 0) (i : Interval) (s : StateMaps) (c : ContractTree) (xs : List Input) → AtEnd P (from_start (trimmed i s) s c xs) → AtEnd P (computed i s c xs)
at_computed P i s c xs h = computed_by (AtEnd P) i s c xs (at_fault P (ended (Err InvalidInterval)) InvalidInterval refl) (at_fault P (ended (Err IntervalInPast)) IntervalInPast refl) h

time_computed : (i : Interval) (s : StateMaps) (c : ContractTree) (xs : List Input) → AtEnd (λ a. a.state.min_time ≡ int_max i.from s.min_time) (computed i s c xs)
time_computed i s c xs =
    let P : Standing → Type 0 = λ a. a.state.min_time ≡ int_max i.from s.min_time in
    at_computed P i s c xs (at_start (trimmed i s) P (λ a. settled_time (trimmed i s) (int_max i.from s.min_time) a) (λ x a k h. taken_time a.state x ∙ h) s c xs refl)

pub time_goes_on : (i : Interval) (s : StateMaps) (c : ContractTree) (xs : List Input) (a : Standing) → (computed i s c xs).end ≡ Ok a → (a.state.min_time ≡ int_max i.from s.min_time) × (s.min_time ≤ℤ a.state.min_time)
time_goes_on i s c xs a e =
    let h = time_computed i s c xs a e in
    (h, subst (λ t. s.min_time ≤ℤ t) (sym h) (greater i.from s.min_time))

-- ---- at rest

abbrev QuietAt : Interval → Standing → Type 0
QuietAt i a = Quiet i a.state a.contract

settled_quiet : (i : Interval) (b : Standing) → AtEnd (QuietAt i) (settled i b.state b.contract)
settled_quiet i b a e = let g = settles_so i b.state b.contract in (ends_at i g.last a _ g.ends e).1

quiet_input : (i : Interval) (x : Input) (a : Standing) → AtEnd (QuietAt i) (one_input i x a)
unfolding one_input
quiet_input i x a = at_then (λ _. Unit {0}) (QuietAt i) (applied i x a) (λ b. settled i b.state b.contract) (λ _ _. tt) (λ b _. settled_quiet i b)

quiet_inputs : (i : Interval) (xs : List Input) (a : Standing) → QuietAt i a → AtEnd (QuietAt i) (all_inputs i xs a)
quiet_inputs i [] a h = at_ended (QuietAt i) a h
quiet_inputs i (x ∷ xs) a h = at_then (QuietAt i) (QuietAt i) (one_input i x a) (all_inputs i xs) (quiet_input i x a) (λ b. quiet_inputs i xs b)

quiet_start : (i : Interval) (s : StateMaps) (c : ContractTree) (xs : List Input) → AtEnd (QuietAt i) (from_start i s c xs)
unfolding from_start
quiet_start i s c xs =
    let t : StateMaps = record s { min_time = i.from } in
    at_finished (QuietAt i) (then_walk (settled i t c) (all_inputs i xs)) (at_then (QuietAt i) (QuietAt i) (settled i t c) (all_inputs i xs) (settled_quiet i (standing t c)) (λ b. quiet_inputs i xs b))

quiet_forms : (i : Interval) (s : StateMaps) (c : ContractTree) → Quiet i s c →
    ((c ≡ close) × (entries s.accounts ≡ [])) ⊎ ((ks : CaseTrees) × (timeout : ℤ) × (then : ContractTree) × (c ≡ when ks timeout then) × (i.to <ℤ timeout))
quiet_forms i s close h = inl (refl, h)
quiet_forms i s (pay p y t v c) h = absurd h
quiet_forms i s (if_obs o c d) h = absurd h
quiet_forms i s (let_be x v c) h = absurd h
quiet_forms i s (assert o c) h = absurd h
quiet_forms i s (when ks t c) h = inr (ks, t, c, refl, h)

pub ends_quiet : (i : Interval) (s : StateMaps) (c : ContractTree) (xs : List Input) (a : Standing) → (computed i s c xs).end ≡ Ok a →
    ((a.contract ≡ close) × (entries a.state.accounts ≡ [])) ⊎ ((ks : CaseTrees) × (timeout : ℤ) × (then : ContractTree) × (a.contract ≡ when ks timeout then) × (i.to <ℤ timeout))
ends_quiet i s c xs a e = quiet_forms (trimmed i s) a.state a.contract (at_computed (QuietAt (trimmed i s)) i s c xs (quiet_start (trimmed i s) s c xs) a e)
