-- A contract that keeps limits from its start keeps them in every run, at the place where each step is.
use Rattle.std.proofs.Common.{◌≡◌, ℕ, suc, ◌+◌, ℤ, pos, ◌≤ℤ◌, ◌<ℤ◌, int_lt, int_le, Bool, true, false, cond, List, [], ◌∷◌, ◌++◌, map, append_assoc, refl, sym, ap, ◌∙◌, subst, arith, Result, Ok, Err, Option, Some, None, length}
use Rattle.std.proofs.lemmas.List.{append-nil}
use Rattle.std.specs.List.{AllByRecursion}
use Rattle.std.specs.Int.{int_max, int_min}
use Rattle.std.specs.Result.{result_unwrap_or}
use Rattle.std.specs.FinMap.{empty, entries, len-empty, len-entries}
use Rattle.contract.specs.Names.declared.account.Account.{Account}
use Rattle.contract.specs.Names.declared.party.Party.{Party}
use Rattle.contract.specs.Names.declared.payee.Payee.{Payee}
use Rattle.contract.specs.Names.declared.token.Token.{Token}
use Rattle.contract.specs.Names.Orders.{account_cmp}
use Rattle.contract.specs.declared.fault.SemFault.{SemFault}
use Rattle.contract.specs.declared.fault.SemFault.TheVariants.{InvalidInterval, IntervalInPast, Ambiguous, NoMatch, Leaves128}
use Rattle.contract.specs.declared.input.Input.{Input}
use Rattle.contract.specs.declared.interval.Interval.{Interval}
use Rattle.contract.specs.declared.payment.Payment.{Payment}
use Rattle.contract.specs.declared.transaction.Transaction.{Transaction}
use Rattle.contract.specs.Tree.{ActionTree, ContractTree, CaseTrees, close, pay, if_obs, when, let_be, assert, no_cases, case_then}
use Rattle.contract.specs.States.States.{StateMaps}
use Rattle.semantics.specs.Evaluation.Evaluation.{eval, visited, holds, looked}
use Rattle.semantics.specs.Evaluation.Path.{case_list, waits_for}
use Rattle.semantics.specs.Evaluation.Numbers.{all_fit}
use Rattle.semantics.specs.Walk.{next, Standing, standing, Walk, ended, then_walk, answer_of}
use Rattle.semantics.specs.Reduction.{Reduction, balance, paying, not_paying, refund_of, choosing, timing_out, binding, asserting}
use Rattle.semantics.specs.Settling.{reduction_then}
use Rattle.semantics.specs.Applying.{matches, tried, taken, taken_numbers, taken_warnings, unmatched}
use Rattle.semantics.specs.Transaction.{trimmed}
use Rattle.semantics.specs.Computed.{pay_step, refunds, settled, first_match, first_match_index, tried_to_match, take_match, applied, one_input, all_inputs, from_start, computed}
use Rattle.semantics.specs.Laws.{TimeGoesOn}
use Rattle.analysis_spec.specs.Runs.{walk_from, standing_after, stands_after, paid_with, payments_of}
use Rattle.analysis_spec.specs.Marks.{step_of, led, led_with, place_after, leads_after, Mark, mark, settling, trying, taking_one, taking_all, marks_from, marks_of}
use Rattle.analysis_spec.specs.declared.path.PathStep.{PathStep}
use Rattle.analysis_spec.specs.declared.path.PathStep.TheVariants.{Then, Else, TimeoutContinuation, Case, Action}
use Rattle.analysis_walk.specs.Limits.{Limits}
use Rattle.analysis_walk.specs.Covered.{NoneTakes, Keeps, Covers, CoversCases, CoversFrom}
use Rattle.analysis_walk.proofs.NumberLemmas.{true_lt, false_lt, true_le, reaches, le_itself, max_within, max_after, max_from}
use Rattle.analysis_walk.proofs.FineLemmas.{Where, Marked, Passed, Fine, ok_same, fine_ok, fine_fault, fine_after, fine_unmarked, fine_then, fine_finished}

none_counted : (es : List (Account × ℤ)) → length es ≡ 0 → es ≡ []
none_counted [] h = refl
none_counted (e ∷ es) h = absurd (cc)

pub no_entries : entries (empty {X = ℤ} {R = account_cmp}) ≡ []
no_entries = none_counted (entries empty) (sym (len-entries (empty {X = ℤ} {R = account_cmp})) ∙ len-empty account_cmp ℤ)

-- a success: all numbers fit, and the part ended well
pub ok_answer : (b : Bool) (end : Result Standing SemFault) (a : Standing) → cond b end (Err Leaves128) ≡ Ok a → (b ≡ true) × (end ≡ Ok a)
ok_answer true end a h = (refl, h)
ok_answer false end a h = absurd (cc)

pub pay_goes_next : (s : StateMaps) (p : Party) (y : Payee) (t : Token) (due : ℤ) (ns : List ℤ) (c : ContractTree) → (pay_step s p y t due ns c).turn ≡ next
pay_goes_next s p y t due ns c = either_next (int_lt (pos 0) due) (paying s p y t due (int_min (balance s p t) due) ns c) (not_paying s p y t due ns c) refl refl
  where
    either_next : (b : Bool) (r q : Reduction) → r.turn ≡ next → q.turn ≡ next → (cond b r q).turn ≡ next
    either_next true r q e f = e
    either_next false r q e f = f

-- an interval may start later
abbrev pub MayStartLater : Limits → Type 0
MayStartLater L = (i : Interval) (n : ℤ) → L.Admits i → i.from ≤ℤ n → n ≤ℤ i.to → L.Admits (record i { from = n })

module _ (L : Limits) where
  -- a contract at a place has settled: it is closed, or waits
  abbrev RestsAt : List PathStep → Interval → StateMaps → List Payment → ContractTree → Type 0
  RestsAt here i s ps close = L.Pays (ps ++ (refunds s).payments)
  RestsAt here i s ps (when ks t c) = Covers L here i s ps (when ks t c) × (i.to <ℤ t)
  RestsAt here i s ps (pay p y t v c) = ⊥
  RestsAt here i s ps (if_obs o c d) = ⊥
  RestsAt here i s ps (let_be x v c) = ⊥
  RestsAt here i s ps (assert o c) = ⊥

  abbrev Rests : Interval → Where
  Rests i here a ps = RestsAt here i a.state ps a.contract

  -- a contract is about to settle
  abbrev Ready : Interval → Where
  Ready i here a ps = Covers L here i a.state ps a.contract

  -- .. behind payments
  abbrev Resting : Interval → List Payment → Where
  Resting i ps = λ at b qs. Rests i at b (ps ++ qs)

  -- a contract is between two transactions
  abbrev StandsAt : List PathStep → StateMaps → List Payment → ContractTree → Type 0
  StandsAt here s ps c = (i : Interval) → s.min_time ≤ℤ i.from → i.from ≤ℤ i.to → L.Admits i → Covers L here i (record s { min_time = i.from }) ps c

  abbrev pub Stands : Where
  Stands here a ps = StandsAt here a.state ps a.contract

  -- ---- a settling

  at_if : (i : Interval) (s : StateMaps) (ps : List Payment) (here : List PathStep) (c d : ContractTree) (ns : List ℤ) (b : Bool) → Keeps L here ns []
      → (L.Passes ns → (b ≡ true → Fine L (Resting i ps) (here ++ Then ∷ []) (settling (here ++ Then ∷ []) i s c) (settled i s c)) × (b ≡ false → Fine L (Resting i ps) (here ++ Else ∷ []) (settling (here ++ Else ∷ []) i s d) (settled i s d)))
      → Fine L (Resting i ps) here (mark here ns [] ∷ cond b (settling (here ++ Then ∷ []) i s c) (settling (here ++ Else ∷ []) i s d)) (reduction_then (choosing s b ns c d) (cond b (settled i s c) (settled i s d)))
  at_if i s ps here c d ns true h k =
      fine_after L (Rests i) ps here (here ++ Then ∷ []) (choosing s true ns c d) (settling (here ++ Then ∷ []) i s c) (settled i s c) refl h
      (λ a. subst (λ qs. Fine L (λ at b rs. Rests i at b (qs ++ rs)) (here ++ Then ∷ []) (settling (here ++ Then ∷ []) i s c) (settled i s c)) (sym (append-nil ps)) ((k a).0 refl))
  at_if i s ps here c d ns false h k =
      fine_after L (Rests i) ps here (here ++ Else ∷ []) (choosing s false ns c d) (settling (here ++ Else ∷ []) i s d) (settled i s d) refl h
      (λ a. subst (λ qs. Fine L (λ at b rs. Rests i at b (qs ++ rs)) (here ++ Else ∷ []) (settling (here ++ Else ∷ []) i s d) (settled i s d)) (sym (append-nil ps)) ((k a).1 refl))

  at_when : (i : Interval) → i.from ≤ℤ i.to → L.Admits i → (s : StateMaps) (ps : List Payment) (ks : CaseTrees) (t : ℤ) (c : ContractTree) (here : List PathStep) → Covers L here i s ps (when ks t c)
      → (Covers L (here ++ TimeoutContinuation ∷ []) i s ps c → Fine L (Resting i ps) (here ++ TimeoutContinuation ∷ []) (settling (here ++ TimeoutContinuation ∷ []) i s c) (settled i s c))
      → Fine L (Resting i ps) here (settling here i s (when ks t c)) (settled i s (when ks t c))
  at_when i v a s ps ks t c here h go = by_tests (int_lt i.to t) (int_le t i.from) refl refl
    where
      by_tests : (x y : Bool) → int_lt i.to t ≡ x → int_le t i.from ≡ y
          → Fine L (Resting i ps) here (cond x [] (cond y (settling (here ++ TimeoutContinuation ∷ []) i s c) []))
          (cond x (ended (Ok (standing s (when ks t c)))) (cond y (reduction_then (timing_out s c) (settled i s c)) (ended (Err Ambiguous))))
      by_tests true y p q =
          fine_ok L (Resting i ps) here [] (ended (Ok (standing s (when ks t c)))) (standing s (when ks t c)) tt refl
          (λ z. (subst (λ qs. Covers L here i s qs (when ks t c)) (sym (append-nil ps)) h, true_lt i.to t p))
      by_tests false true p q =
          fine_unmarked L (Resting i ps) here (timing_out s c) (settling (here ++ TimeoutContinuation ∷ []) i s c) (settled i s c) refl
          (go ((h i s.min_time (le_itself i.from) v a).1 (true_le t i.from q)))
      by_tests false false p q = fine_fault L (Resting i ps) here [] (ended (Err Ambiguous)) Ambiguous tt refl

  pub settles : (i : Interval) → i.from ≤ℤ i.to → L.Admits i → (s : StateMaps) (ps : List Payment) (c : ContractTree) (here : List PathStep) → Covers L here i s ps c → Fine L (Resting i ps) here (settling here i s c) (settled i s c)
  settles i v a s ps close here h =
      let qs = (refunds s).payments in
      fine_ok L (Resting i ps) here [] (refunds s) (standing (record s { accounts = empty }) close) tt refl
      (λ z. subst L.Pays (sym (append-nil (ps ++ qs)) ∙ ap (λ es. (ps ++ qs) ++ map refund_of es) (sym no_entries)) h)
  settles i v a s ps (pay p y t n c) here h =
      let r = pay_step s p y t (eval i s n) (visited i s n) c in
      fine_after L (Rests i) ps here (here ++ Then ∷ []) r (settling (here ++ Then ∷ []) i r.state c) (settled i r.state c) (ap (λ turn. here ++ step_of turn) (pay_goes_next s p y t (eval i s n) (visited i s n) c)) h.0
      (λ e. settles i v a r.state (ps ++ r.payments) c (here ++ Then ∷ []) (h.1 e))
  settles i v a s ps (if_obs o c d) here h =
      at_if i s ps here c d (looked i s o) (holds i s o) h.0 (λ e. (λ q. settles i v a s ps c (here ++ Then ∷ []) ((h.1 e).0 q), λ q. settles i v a s ps d (here ++ Else ∷ []) ((h.1 e).1 q)))
  settles i v a s ps (when ks t c) here h = at_when i v a s ps ks t c here h (λ k. settles i v a s ps c (here ++ TimeoutContinuation ∷ []) k)
  settles i v a s ps (let_be x n c) here h =
      let r = binding s x (eval i s n) (visited i s n) c in
      fine_after L (Rests i) ps here (here ++ Then ∷ []) r (settling (here ++ Then ∷ []) i r.state c) (settled i r.state c) refl h.0
      (λ e. subst (λ qs. Fine L (λ at b rs. Rests i at b (qs ++ rs)) (here ++ Then ∷ []) (settling (here ++ Then ∷ []) i r.state c) (settled i r.state c)) (sym (append-nil ps)) (settles i v a r.state ps c (here ++ Then ∷ []) (h.1 e)))
  settles i v a s ps (assert o c) here h =
      let r = asserting s (holds i s o) (looked i s o) c in
      fine_after L (Rests i) ps here (here ++ Then ∷ []) r (settling (here ++ Then ∷ []) i s c) (settled i s c) refl h.0
      (λ e. subst (λ qs. Fine L (λ at b rs. Rests i at b (qs ++ rs)) (here ++ Then ∷ []) (settling (here ++ Then ∷ []) i s c) (settled i s c)) (sym (append-nil ps)) (settles i v a s ps c (here ++ Then ∷ []) (h.1 e)))

  -- ---- an input

  -- it is tried at each case up to the one that takes it, and the contract goes on there
  abbrev Taken : Interval → List Payment → Where
  Taken i ps = λ at b qs. Ready i at b (ps ++ qs)

  tried_more : (i : Interval) (s : StateMaps) (ps : List Payment) (x : Input) (here there : List PathStep) (ts ns : List ℤ) (ms : List Mark) (m : ℕ) (o : Option ContractTree) → L.Visits there ts → Fine L (Taken i ps) here ms (take_match s x ns m o)
      → Fine L (Taken i ps) here (mark there ts [] ∷ ms) (take_match s x (ts ++ ns) m o)
  tried_more i s ps x here there ts ns ms m None v h = record { marked = ((v, tt), λ e. h.marked); rests = λ p b e. absurd (cc) }
  tried_more i s ps x here there ts ns ms m (Some c) v h = record { marked = ((v, tt), λ e. h.marked); rests = λ p. h.rests p.1 }

  tries : (i : Interval) (s : StateMaps) (ps : List Payment) (x : Input) (here : List PathStep) (n m : ℕ) (earlier : List ActionTree) → NoneTakes i s x earlier → (ks : CaseTrees) → CoversCases L here n i s ps earlier ks
      → m ≡ n + first_match_index i s x (case_list ks) → Fine L (Taken i ps) here (trying here n i s x (case_list ks)) (take_match s x (tried_to_match i s x (case_list ks)) m (first_match i s x (case_list ks)))
  tries i s ps x here n m earlier z no_cases h e = fine_fault L (Taken i ps) here [] (unmatched []) NoMatch tt refl
  tries i s ps x here n m earlier z (case_then a c ks) h e = by_match (matches i s x a) refl (λ q. tries i s ps x here (suc n) m (a ∷ earlier) (q, z) ks h.1) e
    where
      ls : List (ActionTree × ContractTree)
      ls = case_list ks

      by_match : (b : Bool) → matches i s x a ≡ b
          → (matches i s x a ≡ false → m ≡ suc n + first_match_index i s x (case_list ks) → Fine L (Taken i ps) here (trying here (suc n) i s x (case_list ks)) (take_match s x (tried_to_match i s x (case_list ks)) m (first_match i s x (case_list ks))))
          → m ≡ n + cond b 0 (suc (first_match_index i s x (case_list ks)))
          → Fine L (Taken i ps) here (cond b (mark (here ++ Action n ∷ []) (tried i s x a ++ taken_numbers s x) (taken_warnings x) ∷ []) (mark (here ++ Action n ∷ []) (tried i s x a) [] ∷ trying here (suc n) i s x (case_list ks)))
          (take_match s x (tried i s x a ++ cond b [] (tried_to_match i s x (case_list ks))) m (cond b (Some c) (first_match i s x (case_list ks))))
      by_match true q f e =
          let k = (h.0 x z).1 q in
          let same : m ≡ n = omega (arith, e) in
          record {
            marked = (k.0, λ p. tt);
            rests = λ p b r. subst (λ (d : Standing). Covers L (here ++ Case m ∷ []) i d.state (ps ++ []) d.contract) (ok_same (standing (taken s x) c) b r)
                (subst (λ qs. Covers L (here ++ Case m ∷ []) i (taken s x) qs c) (sym (append-nil ps)) (subst (λ l. Covers L (here ++ Case l ∷ []) i (taken s x) ps c) (sym same) (k.1 p.0)));
          }
      by_match false q f e =
          tried_more i s ps x here (here ++ Action n ∷ []) (tried i s x a) (tried_to_match i s x (case_list ks)) (trying here (suc n) i s x (case_list ks)) m (first_match i s x (case_list ks)) ((h.0 x z).0 q) (f q (omega (arith, e)))

  at_rest : (i : Interval) → i.from ≤ℤ i.to → L.Admits i → (here : List PathStep) (s : StateMaps) (ps : List Payment) (c : ContractTree) (x : Input) → RestsAt here i s ps c
      → Fine L (Taken i ps) here (trying here 0 i s x (waits_for c)) (take_match s x (tried_to_match i s x (waits_for c)) (first_match_index i s x (waits_for c)) (first_match i s x (waits_for c)))
  at_rest i v a here s ps close x r = fine_fault L (Taken i ps) here [] (unmatched []) NoMatch tt refl
  at_rest i v a here s ps (when ks t c) x r = tries i s ps x here 0 (first_match_index i s x (case_list ks)) [] tt ks ((r.0 i s.min_time (le_itself i.from) v a).0 r.1) (omega arith)
  at_rest i v a here s ps (pay p y t n c) x r = absurd r
  at_rest i v a here s ps (if_obs o c d) x r = absurd r
  at_rest i v a here s ps (let_be y n c) x r = absurd r
  at_rest i v a here s ps (assert o c) x r = absurd r

  input : (i : Interval) → i.from ≤ℤ i.to → L.Admits i → (x : Input) (here : List PathStep) (b : Standing) (ps : List Payment) → Rests i here b ps → Fine L (Resting i ps) here (taking_one here i x b) (one_input i x b)
  unfolding one_input applied
  input i v a x here b ps r =
      let w = applied i x b in
      fine_then L (Ready i) (Rests i) ps here (trying here 0 i b.state x (waits_for b.contract)) w (λ d. settling (led here w.turns) i d.state d.contract) (λ d. settled i d.state d.contract)
      (at_rest i v a here b.state ps b.contract x r)
      (λ d qs k. settles i v a d.state qs d.contract (led here w.turns) k)

  inputs : (i : Interval) → i.from ≤ℤ i.to → L.Admits i → (xs : List Input) (here : List PathStep) (b : Standing) (ps : List Payment) → Rests i here b ps → Fine L (Resting i ps) here (taking_all here i xs b) (all_inputs i xs b)
  inputs i v a [] here b ps r = fine_ok L (Resting i ps) here [] (ended (Ok b)) b tt refl (λ z. subst (Rests i here b) (sym (append-nil ps)) r)
  inputs i v a (x ∷ xs) here b ps r =
      let w = one_input i x b in
      fine_then L (Rests i) (Rests i) ps here (taking_one here i x b) w (taking_all (led here w.turns) i xs) (all_inputs i xs) (input i v a x here b ps r) (λ d qs k. inputs i v a xs (led here w.turns) d qs k)

  -- ---- a transaction

  begins : (i : Interval) → i.from ≤ℤ i.to → L.Admits i → (here : List PathStep) (s : StateMaps) → s.min_time ≤ℤ i.from → (ps : List Payment) (c : ContractTree) (xs : List Input) → StandsAt here s ps c
      → Fine L (Resting i ps) here (marks_from here i (record s { min_time = i.from }) c xs) (from_start i s c xs)
  unfolding from_start
  begins i v a here s g ps c xs h =
      let u : StateMaps = record s { min_time = i.from } in
      let w = settled i u c in
      fine_finished L (Resting i ps) here (marks_from here i u c xs) (then_walk w (all_inputs i xs))
      (fine_then L (Rests i) (Rests i) ps here (settling here i u c) w (taking_all (led here w.turns) i xs) (all_inputs i xs) (settles i v a u ps c here (h i g v a)) (λ d qs k. inputs i v a xs (led here w.turns) d qs k))

-- behind a transaction that is accepted runs are spoken of
abbrev pub AcceptedPass : Limits → Type 0
AcceptedPass L = (here : List PathStep) (a : Standing) (t : Transaction) (d : Standing) → answer_of (walk_from a t) ≡ Ok d → Passed L (marks_of here a t)

module _ (L : Limits) (M : MayStartLater L) (N : AcceptedPass L) where
  pub transaction : (here : List PathStep) (b : Standing) (ps : List Payment) (t : Transaction) → L.Admits t.interval → Stands L here b ps → Fine L (Resting L (trimmed t.interval b.state) ps) here (marks_of here b t) (walk_from b t)
  unfolding computed
  transaction here b ps t a h = by_tests (int_lt t.interval.to t.interval.from) (int_lt t.interval.to b.state.min_time) refl refl
    where
      j : Interval
      j = trimmed t.interval b.state

      by_tests : (x e : Bool) → int_lt t.interval.to t.interval.from ≡ x → int_lt t.interval.to b.state.min_time ≡ e
          → Fine L (Resting L (trimmed t.interval b.state) ps) here (cond x [] (cond e [] (marks_from here (trimmed t.interval b.state) (record b.state { min_time = (trimmed t.interval b.state).from }) b.contract t.inputs)))
          (cond x (ended (Err InvalidInterval)) (cond e (ended (Err IntervalInPast)) (from_start (trimmed t.interval b.state) b.state b.contract t.inputs)))
      by_tests true e p q = fine_fault L (Resting L (trimmed t.interval b.state) ps) here [] (ended (Err InvalidInterval)) InvalidInterval tt refl
      by_tests false true p q = fine_fault L (Resting L (trimmed t.interval b.state) ps) here [] (ended (Err IntervalInPast)) IntervalInPast tt refl
      by_tests false false p q =
          let i = t.interval in
          let s = b.state in
          let end = max_within i.from s.min_time i.to (false_lt _ _ p) (false_lt _ _ q) in
          begins L (trimmed i s) end (M i (int_max i.from s.min_time) a (max_from i.from s.min_time) end) here s (max_after i.from s.min_time) ps b.contract t.inputs h

  -- ---- transactions

  again : (i : Interval) (here : List PathStep) (s : StateMaps) (ps : List Payment) (c : ContractTree) → s.min_time ≡ i.from → RestsAt L here i s ps c → StandsAt L here s ps c
  again i here s ps close e r = λ j g v a. r
  again i here s ps (when ks t c) e r = λ j g v a l now f. r.0 l now (reaches i.from j.from l.from (subst (λ n. n ≤ℤ j.from) e g) f)
  again i here s ps (pay p y t n c) e r = absurd r
  again i here s ps (if_obs o c d) e r = absurd r
  again i here s ps (let_be x n c) e r = absurd r
  again i here s ps (assert o c) e r = absurd r

  after_answer : TimeGoesOn → (here : List PathStep) (b : Standing) (ps : List Payment) (t : Transaction) → L.Admits t.interval → Stands L here b ps → (r : Result Standing SemFault) → answer_of (walk_from b t) ≡ r
      → Stands L (led_with r here (walk_from b t).turns) (result_unwrap_or r b) (ps ++ paid_with r (walk_from b t).payments)
  after_answer T here b ps t a h (Ok d) e =
      let w = walk_from b t in
      let k = (ok_answer (all_fit w.numbers) w.end d e).1 in
      again (trimmed t.interval b.state) (led here w.turns) d.state (ps ++ w.payments) d.contract (T t.interval b.state b.contract t.inputs d k).0 ((transaction here b ps t a h).rests (N here b t d e) d k)
  after_answer T here b ps t a h (Err f) e = subst (Stands L here b) (sym (append-nil ps)) h

  -- where a contract stands after transactions, and all that was paid
  pub stands : TimeGoesOn → (here : List PathStep) (b : Standing) (ps : List Payment) (ts : List Transaction) → AllByRecursion (λ t. L.Admits t.interval) ts → Stands L here b ps → Stands L (leads_after here b ts) (stands_after b ts) (ps ++ payments_of b ts)
  stands T here b ps [] a h = subst (Stands L here b) (sym (append-nil ps)) h
  stands T here b ps (t ∷ ts) a h =
      let r = answer_of (walk_from b t) in
      let qs = paid_with r (walk_from b t).payments in
      subst (Stands L (leads_after here b (t ∷ ts)) (stands_after b (t ∷ ts))) (append_assoc ps qs (payments_of (standing_after b t) ts))
      (stands T (place_after here b t) (standing_after b t) (ps ++ qs) ts a.1 (after_answer T here b ps t a.0 h r refl))

  -- a transaction after others keeps the limits
  pub runs : TimeGoesOn → (s : StateMaps) (c : ContractTree) → CoversFrom L s c → (earlier : List Transaction) (t : Transaction) → AllByRecursion (λ t. L.Admits t.interval) (t ∷ earlier)
      → Marked L (marks_of (leads_after [] (standing s c) earlier) (stands_after (standing s c) earlier) t)
  runs T s c h earlier t a =
      let b = stands_after (standing s c) earlier in
      let here = leads_after [] (standing s c) earlier in
      (transaction here b (payments_of (standing s c) earlier) t a.0 (stands T [] (standing s c) [] earlier a.1 h)).marked
