-- One input, and none, in a transaction.
use Rattle.std.proofs.Common.{◌≡◌, ℕ, zero, suc, ℤ, pos, ◌-ℤ◌, ◌≤ℤ◌, ◌<ℤ◌, int_lt, int_le, Bool, true, false, cond, ◌&&◌, List, [], ◌∷◌, ◌++◌, length, map, ◌⊎◌, inl, inr, refl, sym, ap, ◌∙◌, subst, append-nil, arith, Result, Ok, Err, is_ok, Option, Some, None}
use Rattle.std.specs.Prelude.{◌↔◌, slice_get, option_map}
use Rattle.std.specs.Option.{is_none}
use Rattle.std.proofs.lemmas.Int.{ints}
use Rattle.std.specs.FinMap.{entries, empty, empty_of_len, len-entries}
use Rattle.contract.specs.Names.declared.account.Account.{Account}
use Rattle.contract.specs.declared.fault.SemFault.{SemFault}
use Rattle.contract.specs.declared.fault.SemFault.TheVariants.{InvalidInterval, IntervalInPast, NoMatch, Ambiguous, Useless, Leaves128}
use Rattle.contract.specs.declared.input.Input.{Input}
use Rattle.contract.specs.declared.interval.Interval.{Interval}
use Rattle.contract.specs.declared.payment.Payment.{Payment}
use Rattle.contract.specs.declared.warning.Warning.{Warning}
use Rattle.contract.specs.States.States.{StateMaps}
use Rattle.contract.specs.Tree.{ActionTree, ContractTree, CaseTrees, close, pay, if_obs, when, let_be, assert}
use Rattle.semantics.specs.Evaluation.Numbers.{all_fit}
use Rattle.semantics.specs.Evaluation.Evaluation.{eval, visited, holds, looked}
use Rattle.semantics.specs.Evaluation.Path.{waits_for}
use Rattle.semantics.proofs.FromEvaluation.Numbers.{all_fit_append}
use Rattle.semantics.specs.Walk.{Turn, refund, in_case, Standing, standing, Walk, ended, joined, then_from, then_walk, answer_of}
use Rattle.semantics.specs.Reduction.{Reduction, Quiet, refund_of, choosing, timing_out, binding, asserting}
use Rattle.semantics.specs.Settling.{Ends, reduction_then}
use Rattle.semantics.specs.Transaction.{trimmed, begun, finished}
use Rattle.semantics.specs.Applying.{matches, tried, taken, taken_numbers, taking, unmatched}
use Rattle.semantics.specs.Computed.{pay_step, settled, refunds, first_match, first_match_index, tried_to_match, take_match, applied, one_input, all_inputs, from_start, computed}
use Rattle.semantics.specs.Reduced.{fixed}
use Rattle.semantics.proofs.Computing.{computed_busy, computed_by}
use Rattle.semantics.proofs.Relations.{settles_so}
use Rattle.semantics.proofs.Walks.{Follows}
use Rattle.next_inputs.specs.Taking.{taken_case}
use Rattle.next_inputs.specs.Opening.{opening, case_from, next_case, waits_until}
use Rattle.next_inputs.specs.Laws.{TakesAsComputed, ElseIsRefused, WaitsToTheLast}

-- ---- the opening

abbrev by_tests : Bool → Bool → Walk → Walk
by_tests b d w = cond b (ended (Err InvalidInterval)) (cond d (ended (Err IntervalInPast)) w)

-- an opening that ends well: the interval is fixed, and the contract settles
pub opened : (i : Interval) (s : StateMaps) (c : ContractTree) (a : Standing) → answer_of (opening i s c) ≡ Ok a
    → (Ok (trimmed i s) ≡ fixed i s) × (answer_of (settled (trimmed i s) (begun i s) c) ≡ Ok a) × (opening i s c ≡ settled (trimmed i s) (begun i s) c)
opened i s c a h = by (int_lt i.to i.from) (int_lt i.to s.min_time) h
  where
    by : (b d : Bool) → answer_of (by_tests b d (settled (trimmed i s) (begun i s) c)) ≡ Ok a
        → (Ok (trimmed i s) ≡ cond b (Err InvalidInterval) (cond d (Err IntervalInPast) (Ok (trimmed i s)))) × (answer_of (settled (trimmed i s) (begun i s) c) ≡ Ok a)
        × (by_tests b d (settled (trimmed i s) (begun i s) c) ≡ settled (trimmed i s) (begun i s) c)
    by true d h = absurd (cc)
    by false true h = absurd (cc)
    by false false h = (refl, h, refl)

-- nothing after a walk leaves it as it was
abbrev walk_of : List ℤ → List Warning → List Payment → List Turn → Result Standing SemFault → Walk
walk_of ns ws ps ts e = record { numbers = ns; warnings = ws; payments = ps; turns = ts; end = e }

then_none : (w : Walk) (end : Result Standing SemFault) → w.end ≡ end → then_from w end (λ a. ended (Ok a)) ≡ w
then_none w (Ok a) h =
    ap (λ ns. walk_of ns (w.warnings ++ []) (w.payments ++ []) (w.turns ++ []) (Ok a)) (append-nil w.numbers)
    ∙ (ap (λ ws. walk_of w.numbers ws (w.payments ++ []) (w.turns ++ []) (Ok a)) (append-nil w.warnings)
    ∙ (ap (λ ps. walk_of w.numbers w.warnings ps (w.turns ++ []) (Ok a)) (append-nil w.payments)
    ∙ (ap (λ ts. walk_of w.numbers w.warnings w.payments ts (Ok a)) (append-nil w.turns) ∙ ap (walk_of w.numbers w.warnings w.payments w.turns) (sym h))))
then_none w (Err f) h = refl

-- a transaction without inputs is an opening that is useless where nothing is done
pub as_opening : (i : Interval) (s : StateMaps) (c : ContractTree) → computed i s c [] ≡ finished (opening i s c)
unfolding computed from_start
as_opening i s c = by (int_lt i.to i.from) (int_lt i.to s.min_time)
  where
    by : (b d : Bool) → by_tests b d (finished (then_walk (settled (trimmed i s) (begun i s) c) (all_inputs (trimmed i s) []))) ≡ finished (by_tests b d (settled (trimmed i s) (begun i s) c))
    by true d = refl
    by false true = refl
    by false false = ap finished (then_none (settled (trimmed i s) (begun i s) c) (settled (trimmed i s) (begun i s) c).end refl)

abbrev idle : Walk → Bool
idle w = is_ok w.end && is_none (slice_get w.turns 0)

refunds_idle : (s : StateMaps) (es : List (Account × ℤ)) → is_none (slice_get (map (λ _. refund) es) 0) ≡ true → es ≡ []
refunds_idle s [] h = refl
refunds_idle s (e ∷ es) h = absurd (cc)

not_idle : (b : Bool) → b && false ≡ true → ⊥
not_idle true h = cc
not_idle false h = cc

idle_after : (r : Reduction) (w : Walk) → idle (reduction_then r w) ≡ true → ⊥
idle_after r w h = not_idle (is_ok w.end) h

-- a settled contract for which nothing was done stands where it stood
pub still : (i : Interval) (s : StateMaps) (c : ContractTree) → idle (settled i s c) ≡ true → settled i s c ≡ ended (Ok (standing s c))
still i s close h =
    let none : entries s.accounts ≡ [] = refunds_idle s (entries s.accounts) h in
    let same : empty ≡ s.accounts = sym (empty_of_len s.accounts (len-entries s.accounts ∙ ap length none)) in
    ap (λ (es : List (Account × ℤ)). record { numbers = []; warnings = []; payments = map refund_of es; turns = map (λ _. refund) es; end = Ok (standing (record s { accounts = empty }) close) }) none
    ∙ ap (λ m. ended (Ok (standing (record s { accounts = m }) close))) same
still i s (pay p y t v c) h = let r = pay_step s p y t (eval i s v) (visited i s v) c in absurd (idle_after r (settled i r.state c) h)
still i s (if_obs o c d) h = absurd (idle_after (choosing s (holds i s o) (looked i s o) c d) (cond (holds i s o) (settled i s c) (settled i s d)) h)
still i s (let_be x v c) h = let r = binding s x (eval i s v) (visited i s v) c in absurd (idle_after r (settled i r.state c) h)
still i s (assert o c) h = absurd (idle_after (asserting s (holds i s o) (looked i s o) c) (settled i s c) h)
still i s (when ks t c) h = by (int_lt i.to t) (int_le t i.from) h
  where
    by : (b d : Bool) → idle (cond b (ended (Ok (standing s (when ks t c)))) (cond d (reduction_then (timing_out s c) (settled i s c)) (ended (Err Ambiguous)))) ≡ true
        → cond b (ended (Ok (standing s (when ks t c)))) (cond d (reduction_then (timing_out s c) (settled i s c)) (ended (Err Ambiguous))) ≡ ended (Ok (standing s (when ks t c)))
    by true d h = refl
    by false true h = absurd (idle_after (timing_out s c) (settled i s c) h)
    by false false h = absurd (cc)

-- a settled contract ends well or at an ambiguous When
settled_end : (i : Interval) (s : StateMaps) (c : ContractTree) (f : SemFault) → (settled i s c).end ≡ Err f → f ≡ Ambiguous
settled_end i s c f h = let g = settles_so i s c in by g.ends
  where
    by : Ends i (settles_so i s c).last (settled i s c).end → f ≡ Ambiguous
    by (inl e) = let k : ◌≡◌ {A = Result Standing SemFault} (Ok (settles_so i s c).last) (Err f) = sym e.1 ∙ h in absurd (cc)
    by (inr e) = let k : ◌≡◌ {A = Result Standing SemFault} (Err Ambiguous) (Err f) = sym e.1 ∙ h in cc

opening_end : (i : Interval) (s : StateMaps) (c : ContractTree) → (opening i s c).end ≡ Err Useless → ⊥
opening_end i s c h = by (int_lt i.to i.from) (int_lt i.to s.min_time) h
  where
    by : (b d : Bool) → (by_tests b d (settled (trimmed i s) (begun i s) c)).end ≡ Err Useless → ⊥
    by true d h = cc
    by false true h = cc
    by false false h = let e = settled_end (trimmed i s) (begun i s) c Useless h in cc

-- an answer of a walk, by its parts
ok_parts : (b t : Bool) (end : Result Standing SemFault) (a : Standing) → cond b (cond t (Err Useless) end) (Err Leaves128) ≡ Ok a → (b ≡ true) × (t ≡ false) × (end ≡ Ok a)
ok_parts true true end a h = absurd (cc)
ok_parts true false end a h = (refl, refl, h)
ok_parts false t end a h = absurd (cc)

fault_parts : (b t : Bool) (end : Result Standing SemFault) (f : SemFault) → cond b (cond t (Err Useless) end) (Err Leaves128) ≡ Err f → (f ≡ Useless → ⊥) → cond b end (Err Leaves128) ≡ Err f
fault_parts true true end f h k = let e : Useless ≡ f = cc in absurd (k (sym e))
fault_parts true false end f h k = h
fault_parts false t end f h k = h

useless_parts : (b t : Bool) (end : Result Standing SemFault) → cond b (cond t (Err Useless) end) (Err Leaves128) ≡ Err Useless → (end ≡ Err Useless → ⊥) → (b ≡ true) × (t ≡ true)
useless_parts true true end h k = (refl, refl)
useless_parts true false end h k = absurd (k h)
useless_parts false t end h k = absurd (cc)

-- what a transaction without inputs tells of the opening
pub opened_ok : (i : Interval) (s : StateMaps) (c : ContractTree) (a : Standing) → answer_of (computed i s c []) ≡ Ok a → answer_of (opening i s c) ≡ Ok a
opened_ok i s c a h =
    let w = opening i s c in
    let p = ok_parts (all_fit w.numbers) (idle w) w.end a (sym (ap answer_of (as_opening i s c)) ∙ h) in
    ap (λ b. cond b w.end (Err Leaves128)) p.0 ∙ p.2

pub opened_fault : (i : Interval) (s : StateMaps) (c : ContractTree) (f : SemFault) → answer_of (computed i s c []) ≡ Err f → (f ≡ Useless → ⊥) → answer_of (opening i s c) ≡ Err f
opened_fault i s c f h k =
    let w = opening i s c in fault_parts (all_fit w.numbers) (idle w) w.end f (sym (ap answer_of (as_opening i s c)) ∙ h) k

-- nothing is done
pub opened_idle : (i : Interval) (s : StateMaps) (c : ContractTree) → answer_of (computed i s c []) ≡ Err Useless → opening i s c ≡ ended (Ok (standing (begun i s) c))
opened_idle i s c h =
    let w = opening i s c in
    let p = useless_parts (all_fit w.numbers) (idle w) w.end (sym (ap answer_of (as_opening i s c)) ∙ h) (opening_end i s c) in
    by (int_lt i.to i.from) (int_lt i.to s.min_time) p.1
  where
    by : (b d : Bool) → idle (by_tests b d (settled (trimmed i s) (begun i s) c)) ≡ true → by_tests b d (settled (trimmed i s) (begun i s) c) ≡ ended (Ok (standing (begun i s) c))
    by true d k = absurd (cc)
    by false true k = absurd (cc)
    by false false k = still (trimmed i s) (begun i s) c k

-- ---- one input

abbrev Pair : Type 0
Pair = ActionTree × ContractTree

-- what is taken is the first match
pub taken_match : (i : Interval) (s : StateMaps) (x : Input) (ks : List Pair) (n : ℕ) → taken_case i s x ks ≡ Some n
    → (first_match_index i s x ks ≡ n) × ((c : ContractTree) × (first_match i s x ks ≡ Some c)) × (all_fit (tried_to_match i s x ks) ≡ true)
taken_match i s x [] n h = absurd (cc)
taken_match i s x (k ∷ ks) n h = by (all_fit (tried i s x k.0)) (matches i s x k.0) refl refl h (λ l e. taken_match i s x ks l e)
  where
    fit : (m : Bool) (ns : List ℤ) → all_fit (tried i s x k.0) ≡ true → all_fit ns ≡ true → all_fit (tried i s x k.0 ++ ns) ≡ true
    fit m ns e f = all_fit_append (tried i s x k.0) ns ∙ (ap (λ b. b && all_fit ns) e ∙ f)

    later : (o : Option ℕ) → option_map suc o ≡ Some n → taken_case i s x ks ≡ o → all_fit (tried i s x k.0) ≡ true → matches i s x k.0 ≡ false
        → ((l : ℕ) → taken_case i s x ks ≡ Some l → (first_match_index i s x ks ≡ l) × ((c : ContractTree) × (first_match i s x ks ≡ Some c)) × (all_fit (tried_to_match i s x ks) ≡ true))
        → (first_match_index i s x (k ∷ ks) ≡ n) × ((c : ContractTree) × (first_match i s x (k ∷ ks) ≡ Some c)) × (all_fit (tried_to_match i s x (k ∷ ks)) ≡ true)
    later None g e f m r = absurd (cc)
    later (Some l) g e f m r =
        let q = r l e in
        let z : suc l ≡ n = cc in (
          ap (λ b. cond b 0 (suc (first_match_index i s x ks))) m ∙ (ap suc q.0 ∙ z),
          (q.1.0, ap (λ b. cond b (Some k.1) (first_match i s x ks)) m ∙ q.1.1),
          ap (λ b. all_fit (tried i s x k.0 ++ cond b [] (tried_to_match i s x ks))) m ∙ fit false (tried_to_match i s x ks) f q.2,
        )

    by : (b m : Bool) → all_fit (tried i s x k.0) ≡ b → matches i s x k.0 ≡ m → cond b (cond m (Some 0) (option_map suc (taken_case i s x ks))) None ≡ Some n
        → ((l : ℕ) → taken_case i s x ks ≡ Some l → (first_match_index i s x ks ≡ l) × ((c : ContractTree) × (first_match i s x ks ≡ Some c)) × (all_fit (tried_to_match i s x ks) ≡ true))
        → (first_match_index i s x (k ∷ ks) ≡ n) × ((c : ContractTree) × (first_match i s x (k ∷ ks) ≡ Some c)) × (all_fit (tried_to_match i s x (k ∷ ks)) ≡ true)
    by true true e m g r =
        let z : ◌≡◌ {A = ℕ} 0 n = cc in (
          ap (λ b. cond b 0 (suc (first_match_index i s x ks))) m ∙ z,
          (k.1, ap (λ b. cond b (Some k.1) (first_match i s x ks)) m),
          ap (λ b. all_fit (tried i s x k.0 ++ cond b [] (tried_to_match i s x ks))) m ∙ fit true [] e refl,
        )
    by true false e m g r = later (taken_case i s x ks) g refl e m r
    by false m e f g r = absurd (cc)

-- what isn't taken matches nothing, or a number leaves before it does
not_taken : (i : Interval) (s : StateMaps) (x : Input) (ks : List Pair) → taken_case i s x ks ≡ None → (all_fit (tried_to_match i s x ks) ≡ false) ⊎ (first_match i s x ks ≡ None)
not_taken i s x [] h = inr refl
not_taken i s x (k ∷ ks) h = by (all_fit (tried i s x k.0)) (matches i s x k.0) refl refl h (λ e. not_taken i s x ks e)
  where
    none : (o : Option ℕ) → option_map suc o ≡ None → o ≡ None
    none None e = refl
    none (Some l) e = absurd (cc)

    and_false : (b : Bool) → b && false ≡ false
    and_false true = refl
    and_false false = refl

    later : matches i s x k.0 ≡ false → (all_fit (tried_to_match i s x ks) ≡ false) ⊎ (first_match i s x ks ≡ None) → (all_fit (tried_to_match i s x (k ∷ ks)) ≡ false) ⊎ (first_match i s x (k ∷ ks) ≡ None)
    later m (inl e) = inl (
        ap (λ b. all_fit (tried i s x k.0 ++ cond b [] (tried_to_match i s x ks))) m
        ∙ (all_fit_append (tried i s x k.0) (tried_to_match i s x ks) ∙ (ap (λ b. all_fit (tried i s x k.0) && b) e ∙ and_false (all_fit (tried i s x k.0))))
        )
    later m (inr e) = inr (ap (λ b. cond b (Some k.1) (first_match i s x ks)) m ∙ e)

    by : (b m : Bool) → all_fit (tried i s x k.0) ≡ b → matches i s x k.0 ≡ m → cond b (cond m (Some 0) (option_map suc (taken_case i s x ks))) None ≡ None
        → (taken_case i s x ks ≡ None → (all_fit (tried_to_match i s x ks) ≡ false) ⊎ (first_match i s x ks ≡ None))
        → (all_fit (tried_to_match i s x (k ∷ ks)) ≡ false) ⊎ (first_match i s x (k ∷ ks) ≡ None)
    by true true e m g r = absurd (cc)
    by true false e m g r = later m (r (none (taken_case i s x ks) g))
    by false m e f g r = inl (all_fit_append (tried i s x k.0) (cond (matches i s x k.0) [] (tried_to_match i s x ks)) ∙ ap (λ b. b && all_fit (cond (matches i s x k.0) [] (tried_to_match i s x ks))) e)

-- a walk whose numbers leave is refused so, whatever follows
leaves_first : (w : Walk) (f : Standing → Walk) → all_fit w.numbers ≡ false → answer_of (then_walk w f) ≡ Err Leaves128
leaves_first w f h = by w.end
  where
    by : (end : Result Standing SemFault) → answer_of (then_from w end f) ≡ Err Leaves128
    by (Ok a) = ap (λ b. cond b (f a).end (Err Leaves128)) (all_fit_append w.numbers (f a).numbers ∙ ap (λ b. b && all_fit (f a).numbers) h)
    by (Err e) = ap (λ b. cond b w.end (Err Leaves128)) h

module _ (i : Interval) (s : StateMaps) (c : ContractTree) (x : Input) (a : Standing) (o : answer_of (opening i s c) ≡ Ok a) where
  -- the transaction is the opening, then the input
  follows_so : Follows (computed i s c (x ∷ [])) (all_inputs (trimmed i s) (x ∷ []) a) (settled (trimmed i s) (begun i s) c).warnings (settled (trimmed i s) (begun i s) c).payments (settled (trimmed i s) (begun i s) c).turns
  follows_so = let p = opened i s c a o in computed_busy i s (trimmed i s) (begun i s) c (x ∷ []) a p.0 refl refl p.1

  input_alone : all_inputs (trimmed i s) (x ∷ []) a ≡ one_input (trimmed i s) x a
  input_alone = then_none (one_input (trimmed i s) x a) (one_input (trimmed i s) x a).end refl

  pub answers_so : answer_of (computed i s c (x ∷ [])) ≡ answer_of (one_input (trimmed i s) x a)
  answers_so =
      let f = follows_so in
      ap (λ b. cond b (computed i s c (x ∷ [])).end (Err Leaves128)) f.fits
      ∙ (ap (λ e. cond (all_fit (all_inputs (trimmed i s) (x ∷ []) a).numbers) e (Err Leaves128)) f.end ∙ ap answer_of input_alone)

  turns_so : (computed i s c (x ∷ [])).turns ≡ (opening i s c).turns ++ (one_input (trimmed i s) x a).turns
  turns_so =
      let f = follows_so in
      let p = opened i s c a o in
      f.turns ∙ (ap (λ ts. (settled (trimmed i s) (begun i s) c).turns ++ ts) (ap (λ (w : Walk). w.turns) input_alone) ∙ ap (λ (w : Walk). w.turns ++ (one_input (trimmed i s) x a).turns) (sym p.2))

  -- the first match is taken, and the contract settles again
  one_so : (n : ℕ) → taken_case (trimmed i s) a.state x (waits_for a.contract) ≡ Some n
      → (d : ContractTree) × (one_input (trimmed i s) x a ≡ joined (taking a.state x (tried_to_match (trimmed i s) a.state x (waits_for a.contract)) n d) (settled (trimmed i s) (taken a.state x) d))
  unfolding one_input applied
  one_so n h =
      let q = taken_match (trimmed i s) a.state x (waits_for a.contract) n h in (
        q.1.0,
        ap (λ m. then_walk (take_match a.state x (tried_to_match (trimmed i s) a.state x (waits_for a.contract)) m (first_match (trimmed i s) a.state x (waits_for a.contract))) (λ b. settled (trimmed i s) b.state b.contract)) q.0
            ∙ ap (λ f. then_walk (take_match a.state x (tried_to_match (trimmed i s) a.state x (waits_for a.contract)) n f) (λ b. settled (trimmed i s) b.state b.contract)) q.1.1,
      )

  pub taken_so : (n : ℕ) → taken_case (trimmed i s) a.state x (waits_for a.contract) ≡ Some n
      → ((rest : List Turn) × ((computed i s c (x ∷ [])).turns ≡ (opening i s c).turns ++ (in_case n ∷ rest)))
      × ((f : SemFault) → answer_of (computed i s c (x ∷ [])) ≡ Err f → (f ≡ Ambiguous) ⊎ (f ≡ Leaves128))
  taken_so n h =
      let q = one_so n h in
      let after = settled (trimmed i s) (taken a.state x) q.0 in
      let whole = joined (taking a.state x (tried_to_match (trimmed i s) a.state x (waits_for a.contract)) n q.0) after in (
        (after.turns, turns_so ∙ ap (λ (w : Walk). (opening i s c).turns ++ w.turns) q.1),
        λ f e. by q.0 f (all_fit whole.numbers) (sym (answers_so ∙ ap answer_of q.1) ∙ e),
      )
    where
      by : (d : ContractTree) (f : SemFault) (b : Bool) → cond b (settled (trimmed i s) (taken a.state x) d).end (Err Leaves128) ≡ Err f → (f ≡ Ambiguous) ⊎ (f ≡ Leaves128)
      by d f true e = inl (settled_end (trimmed i s) (taken a.state x) d f e)
      by d f false e = let g : Leaves128 ≡ f = cc in inr (sym g)

  pub refused_so : taken_case (trimmed i s) a.state x (waits_for a.contract) ≡ None
      → (answer_of (computed i s c (x ∷ [])) ≡ Err NoMatch) ⊎ (answer_of (computed i s c (x ∷ [])) ≡ Err Leaves128)
  unfolding one_input applied
  refused_so h = by (not_taken (trimmed i s) a.state x (waits_for a.contract) h)
    where
      -- the numbers of a match are those before it, and more
      leaves : (m : ℕ) (f : Option ContractTree) → all_fit (tried_to_match (trimmed i s) a.state x (waits_for a.contract)) ≡ false
          → all_fit (take_match a.state x (tried_to_match (trimmed i s) a.state x (waits_for a.contract)) m f).numbers ≡ false
      leaves m None e = e
      leaves m (Some d) e =
          all_fit_append (tried_to_match (trimmed i s) a.state x (waits_for a.contract)) (taken_numbers a.state x) ∙ ap (λ b. b && all_fit (taken_numbers a.state x)) e

      none : (b : Bool) → all_fit (tried_to_match (trimmed i s) a.state x (waits_for a.contract)) ≡ b → first_match (trimmed i s) a.state x (waits_for a.contract) ≡ None
          → (answer_of (computed i s c (x ∷ [])) ≡ Err NoMatch) ⊎ (answer_of (computed i s c (x ∷ [])) ≡ Err Leaves128)
      none true e f = inl (
          answers_so
          ∙ (ap (λ g. answer_of (then_walk (take_match a.state x (tried_to_match (trimmed i s) a.state x (waits_for a.contract)) (first_match_index (trimmed i s) a.state x (waits_for a.contract)) g) (λ b. settled (trimmed i s) b.state b.contract))) f
          ∙ ap (λ b. cond b (Err NoMatch) (Err Leaves128)) e)
          )
      none false e f = inr (
          answers_so
          ∙ (ap (λ g. answer_of (then_walk (take_match a.state x (tried_to_match (trimmed i s) a.state x (waits_for a.contract)) (first_match_index (trimmed i s) a.state x (waits_for a.contract)) g) (λ b. settled (trimmed i s) b.state b.contract))) f
          ∙ ap (λ b. cond b (Err NoMatch) (Err Leaves128)) e)
          )

      by : (all_fit (tried_to_match (trimmed i s) a.state x (waits_for a.contract)) ≡ false) ⊎ (first_match (trimmed i s) a.state x (waits_for a.contract) ≡ None)
          → (answer_of (computed i s c (x ∷ [])) ≡ Err NoMatch) ⊎ (answer_of (computed i s c (x ∷ [])) ≡ Err Leaves128)
      by (inl e) = inr (
          answers_so
          ∙ leaves_first (take_match a.state x (tried_to_match (trimmed i s) a.state x (waits_for a.contract)) (first_match_index (trimmed i s) a.state x (waits_for a.contract)) (first_match (trimmed i s) a.state x (waits_for a.contract)))
          (λ b. settled (trimmed i s) b.state b.contract) (leaves (first_match_index (trimmed i s) a.state x (waits_for a.contract)) (first_match (trimmed i s) a.state x (waits_for a.contract)) e)
          )
      by (inr e) = none (all_fit (tried_to_match (trimmed i s) a.state x (waits_for a.contract))) refl e

pub takes_as_computed : TakesAsComputed
takes_as_computed i s c x n t = by (answer_of (opening i s c)) refl t
  where
    by : (r : Result Standing SemFault) → answer_of (opening i s c) ≡ r → case_from (trimmed i s) x r ≡ Some n
        → ((rest : List Turn) × ((computed i s c (x ∷ [])).turns ≡ (opening i s c).turns ++ (in_case n ∷ rest)))
        × ((f : SemFault) → answer_of (computed i s c (x ∷ [])) ≡ Err f → (f ≡ Ambiguous) ⊎ (f ≡ Leaves128))
    by (Ok a) e h = taken_so i s c x a e n h
    by (Err f) e h = absurd (cc)

pub else_is_refused : ElseIsRefused
else_is_refused i s c x a o h = refused_so i s c x a o (sym (ap (case_from (trimmed i s) x) o) ∙ h)

pub waits_to_the_last : WaitsToTheLast
waits_to_the_last i s ks timeout last c h = (λ q. to i.to timeout last e q, λ q. from i.to timeout last e q)
  where
    e : timeout -ℤ pos 1 ≡ last
    e = cc

    to : (t u l : ℤ) → u -ℤ pos 1 ≡ l → t <ℤ u → t ≤ℤ l
    to t u l g k = omega (arith, ints)

    from : (t u l : ℤ) → u -ℤ pos 1 ≡ l → t ≤ℤ l → t <ℤ u
    from t u l g k = omega (arith, ints)
