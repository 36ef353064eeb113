-- No run comes to a place where none takes the path to it.
use Rattle.std.proofs.Common.{◌≡◌, ◌≢◌, ℕ, zero, suc, ◌+◌, ℤ, pos, ◌≤ℤ◌, ◌<ℤ◌, int_lt, int_le, Bool, true, false, cond, ◌&&◌, List, [], ◌∷◌, ◌++◌, map, append_assoc, refl, sym, ap, ◌∙◌, subst, arith, Result, Ok, Err, is_ok, Option, Some, None}
use Rattle.std.proofs.lemmas.List.{append-nil}
use Rattle.std.specs.Prelude.{slice_get}
use Rattle.std.specs.List.{AllByRecursion}
use Rattle.std.specs.Option.{is_none}
use Rattle.std.specs.Int.{int_max}
use Rattle.std.specs.Result.{result_unwrap_or}
use Rattle.std.specs.FinMap.{entries, empty}
use Rattle.contract.specs.Names.declared.account.Account.{Account}
use Rattle.contract.specs.declared.fault.SemFault.{SemFault}
use Rattle.contract.specs.declared.fault.SemFault.TheVariants.{InvalidInterval, IntervalInPast, Ambiguous, NoMatch, Useless}
use Rattle.contract.specs.declared.input.Input.{Input}
use Rattle.contract.specs.declared.interval.Interval.{Interval}
use Rattle.contract.specs.declared.payment.Payment.{Payment}
use Rattle.contract.specs.declared.transaction.Transaction.{Transaction}
use Rattle.contract.specs.Tree.{ActionTree, ContractTree, CaseTrees, close, pay, if_obs, when, let_be, assert, no_cases, case_then}
use Rattle.contract.specs.States.States.{StateMaps}
use Rattle.semantics.specs.Evaluation.Evaluation.{eval, visited, holds, looked}
use Rattle.semantics.specs.Evaluation.Path.{case_list, waits_for}
use Rattle.semantics.specs.Evaluation.Numbers.{all_fit}
use Rattle.semantics.specs.Walk.{Turn, refund, next, Standing, standing, Walk, ended, then_from, then_walk, answer_of}
use Rattle.semantics.specs.Reduction.{Reduction, choosing, timing_out, binding, asserting}
use Rattle.semantics.specs.Settling.{reduction_then}
use Rattle.semantics.specs.Applying.{matches, taken}
use Rattle.semantics.specs.Transaction.{trimmed, finished}
use Rattle.semantics.specs.Computed.{pay_step, refunds, settled, first_match, first_match_index, tried_to_match, take_match, applied, one_input, all_inputs, from_start, computed}
use Rattle.semantics.specs.Laws.{TimeGoesOn}
use Rattle.analysis_spec.specs.Runs.{walk_from, standing_after, stands_after, paid_with, payments_of}
use Rattle.analysis_spec.specs.Marks.{step_of, led, passed, led_with, place_after, leads_after}
use Rattle.analysis_spec.specs.declared.path.PathStep.{PathStep}
use Rattle.analysis_spec.specs.declared.path.PathStep.TheVariants.{Then, Else, TimeoutContinuation, Case, Action}
use Rattle.analysis_walk.specs.Covered.{NoneTakes}
use Rattle.analysis_walk.specs.Avoided.{Avoids, AvoidsCase, AvoidsFrom}
use Rattle.analysis_walk.specs.Laws.{AvoidedIsNeverReached}
use Rattle.analysis_walk.proofs.NumberLemmas.{true_lt, false_lt, true_le, reaches, le_itself, max_within, max_after}
use Rattle.analysis_walk.proofs.FineLemmas.{Where, ok_same, led_on}
use Rattle.analysis_walk.proofs.SoundLemmas.{ok_answer, pay_goes_next}

-- ---- places of turns

first_passed : (P : List PathStep → Type 0) (here : List PathStep) (ts : List Turn) → AllByRecursion P (passed here ts) → P here
first_passed P here [] h = h.0
first_passed P here (t ∷ ts) h = h.0

last_passed : (P : List PathStep → Type 0) (here : List PathStep) (ts : List Turn) → AllByRecursion P (passed here ts) → P (led here ts)
last_passed P here [] h = h.0
last_passed P here (t ∷ ts) h = last_passed P (here ++ step_of t) ts h.1

passed_on : (P : List PathStep → Type 0) (here : List PathStep) (ts us : List Turn) → AllByRecursion P (passed here ts) → AllByRecursion P (passed (led here ts) us) → AllByRecursion P (passed here (ts ++ us))
passed_on P here [] us h k = k
passed_on P here (t ∷ ts) us h k = (h.0, passed_on P (here ++ step_of t) ts us h.1 k)

refunds_stay : (P : List PathStep → Type 0) (here : List PathStep) (es : List (Account × ℤ)) → P here → AllByRecursion P (passed here (map (λ _. refund) es))
refunds_stay P here [] h = (h, tt)
refunds_stay P here (e ∷ es) h = (h, refunds_stay P (here ++ []) es (subst P (sym (append-nil here)) h))

-- ---- paths

-- no run takes the rest of the path from a place to this one
abbrev Behind : List PathStep → (List PathStep → Type 0) → List PathStep → Type 0
Behind place P here = (path : List PathStep) → place ≡ here ++ path → P path

behind_step : (place : List PathStep) (P : List PathStep → Type 0) (here : List PathStep) (step : PathStep) → Behind place P here → Behind place (λ path. P (step ∷ path)) (here ++ step ∷ [])
behind_step place P here step h path e = h (step ∷ path) (e ∙ append_assoc here (step ∷ []) path)

not_here : (place : List PathStep) (i : Interval) (s : StateMaps) (ps : List Payment) (c : ContractTree) (here : List PathStep) → Behind place (Avoids i s ps c) here → here ≢ place
not_here place i s ps c here h e = h [] (sym e ∙ sym (append-nil here))

close_avoids : (place : List PathStep) (i : Interval) (s : StateMaps) (ps : List Payment) (here : List PathStep) → here ≢ place → Behind place (Avoids i s ps close) here
close_avoids place i s ps here n [] e = n (sym (e ∙ append-nil here))
close_avoids place i s ps here n (step ∷ path) e = tt

-- what is avoided where a When waits is so later on
when_later : (i j : Interval) (s : StateMaps) (ps : List Payment) (ks : CaseTrees) (t : ℤ) (c : ContractTree) (path : List PathStep) (m : ℤ) → i.from ≤ℤ j.from → Avoids i s ps (when ks t c) path → Avoids j (record s { min_time = m }) ps (when ks t c) path
when_later i j s ps ks t c [] m g h = h
when_later i j s ps ks t c (Then ∷ path) m g h = tt
when_later i j s ps ks t c (Else ∷ path) m g h = tt
when_later i j s ps ks t c (TimeoutContinuation ∷ path) m g h = λ l now f. h l now (reaches i.from j.from l.from g f)
when_later i j s ps ks t c (Case n ∷ path) m g h = λ l now f. h l now (reaches i.from j.from l.from g f)
when_later i j s ps ks t c (Action n ∷ path) m g h = tt

module _ (place : List PathStep) where
  abbrev Other : List PathStep → Type 0
  Other there = there ≢ place

  -- a part that begins at a place doesn't come to this one, and P holds of where it ends well and of what it paid
  pub record Clear (P : Where) (here : List PathStep) (w : Walk) : Type 0 where
    pub clear : AllByRecursion Other (passed here w.turns)
    pub rests : (b : Standing) → w.end ≡ Ok b → P (led here w.turns) b w.payments

  clear_ok : (P : Where) (here : List PathStep) (w : Walk) (a : Standing) → AllByRecursion Other (passed here w.turns) → w.end ≡ Ok a → P (led here w.turns) a w.payments → Clear P here w
  clear_ok P here w a n q k = record { clear = n; rests = λ b e. subst (λ c. P (led here w.turns) c w.payments) (ok_same a b (sym q ∙ e)) k }

  clear_fault : (P : Where) (here : List PathStep) (w : Walk) (f : SemFault) → AllByRecursion Other (passed here w.turns) → w.end ≡ Err f → Clear P here w
  clear_fault P here w f n q = record { clear = n; rests = λ b e. absurd (let k : ◌≡◌ {A = Result Standing SemFault} (Err f) (Ok b) = sym q ∙ e in cc) }

  -- a reduction that leads to a place, and what comes after it
  clear_after : (P : Where) (ps : List Payment) (here there : List PathStep) (r : Reduction) (w : Walk) → here ++ step_of r.turn ≡ there → here ≢ place → Clear (λ at b qs. P at b ((ps ++ r.payments) ++ qs)) there w
      → Clear (λ at b qs. P at b (ps ++ qs)) here (reduction_then r w)
  clear_after P ps here there r w e n k = record {
    clear = (n, subst (λ at. AllByRecursion Other (passed at w.turns)) (sym e) k.clear);
    rests = λ b q.
        subst (λ at. P at b (ps ++ (r.payments ++ w.payments))) (ap (λ at. led at w.turns) (sym e))
        (subst (P (led there w.turns) b) (append_assoc ps r.payments w.payments) (k.rests b q));
  }

  clear_from : (P Q : Where) (ps : List Payment) (here : List PathStep) (w : Walk) (end : Result Standing SemFault) (g : Standing → Walk) → w.end ≡ end → Clear (λ at b qs. P at b (ps ++ qs)) here w
      → ((a : Standing) (rs : List Payment) → P (led here w.turns) a rs → Clear (λ at b qs. Q at b (rs ++ qs)) (led here w.turns) (g a))
      → Clear (λ at b qs. Q at b (ps ++ qs)) here (then_from w end g)
  clear_from P Q ps here w (Ok a) g q h k =
      let n : Clear (λ at b qs. Q at b ((ps ++ w.payments) ++ qs)) (led here w.turns) (g a) = k a (ps ++ w.payments) (h.rests a q) in
      record {
        clear = passed_on Other here w.turns (g a).turns h.clear n.clear;
        rests = λ b e.
            subst (λ at. Q at b (ps ++ (w.payments ++ (g a).payments))) (sym (led_on here w.turns (g a).turns))
            (subst (Q (led (led here w.turns) (g a).turns) b) (append_assoc ps w.payments (g a).payments) (n.rests b e));
      }
  clear_from P Q ps here w (Err f) g q h k = clear_fault (λ at b qs. Q at b (ps ++ qs)) here w f h.clear q

  -- one part, and then the next
  clear_then : (P Q : Where) (ps : List Payment) (here : List PathStep) (w : Walk) (g : Standing → Walk) → Clear (λ at b qs. P at b (ps ++ qs)) here w
      → ((a : Standing) (rs : List Payment) → P (led here w.turns) a rs → Clear (λ at b qs. Q at b (rs ++ qs)) (led here w.turns) (g a))
      → Clear (λ at b qs. Q at b (ps ++ qs)) here (then_walk w g)
  clear_then P Q ps here w g h k = clear_from P Q ps here w w.end g refl h k

  clear_finished : (P : Where) (here : List PathStep) (w : Walk) → Clear P here w → Clear P here (finished w)
  clear_finished P here w h = by_turns (is_ok w.end && is_none (slice_get w.turns 0))
    where
      by_turns : (b : Bool) → Clear P here (record w { end = cond b (Err Useless) w.end })
      by_turns true = clear_fault P here (record w { end = Err Useless }) Useless h.clear refl
      by_turns false = h

  -- ---- where a contract stands

  -- it is about to settle
  abbrev Ready : Interval → Where
  Ready i here a ps = Behind place (Avoids i a.state ps a.contract) here

  -- it has settled: it is closed, or waits
  abbrev RestsAt : List PathStep → Interval → StateMaps → List Payment → ContractTree → Type 0
  RestsAt here i s ps close = here ≢ place
  RestsAt here i s ps (when ks t c) = Behind place (Avoids i s ps (when ks t c)) here × (i.to <ℤ t)
  RestsAt here i s ps (pay p y t v c) = ⊥
  RestsAt here i s ps (if_obs o c d) = ⊥
  RestsAt here i s ps (let_be x v c) = ⊥
  RestsAt here i s ps (assert o c) = ⊥

  abbrev Rests : Interval → Where
  Rests i here a ps = RestsAt here i a.state ps a.contract

  abbrev Resting : Interval → List Payment → Where
  Resting i ps = λ at b qs. Rests i at b (ps ++ qs)

  -- it is between two transactions
  abbrev StandsAt : List PathStep → StateMaps → List Payment → ContractTree → Type 0
  StandsAt here s ps c = (i : Interval) → s.min_time ≤ℤ i.from → i.from ≤ℤ i.to → Behind place (Avoids i (record s { min_time = i.from }) ps c) here

  abbrev Stands : Where
  Stands here a ps = StandsAt here a.state ps a.contract

  -- ---- a settling

  at_if : (i : Interval) (s : StateMaps) (ps : List Payment) (here : List PathStep) (c d : ContractTree) (ns : List ℤ) (b : Bool) → here ≢ place
      → (b ≡ true → Clear (Resting i ps) (here ++ Then ∷ []) (settled i s c)) → (b ≡ false → Clear (Resting i ps) (here ++ Else ∷ []) (settled i s d))
      → Clear (Resting i ps) here (reduction_then (choosing s b ns c d) (cond b (settled i s c) (settled i s d)))
  at_if i s ps here c d ns true n k l =
      clear_after (Rests i) ps here (here ++ Then ∷ []) (choosing s true ns c d) (settled i s c) refl n
      (subst (λ qs. Clear (λ at b rs. Rests i at b (qs ++ rs)) (here ++ Then ∷ []) (settled i s c)) (sym (append-nil ps)) (k refl))
  at_if i s ps here c d ns false n k l =
      clear_after (Rests i) ps here (here ++ Else ∷ []) (choosing s false ns c d) (settled i s d) refl n
      (subst (λ qs. Clear (λ at b rs. Rests i at b (qs ++ rs)) (here ++ Else ∷ []) (settled i s d)) (sym (append-nil ps)) (l refl))

  at_when : (i : Interval) → i.from ≤ℤ i.to → (s : StateMaps) (ps : List Payment) (ks : CaseTrees) (t : ℤ) (c : ContractTree) (here : List PathStep) → Behind place (Avoids i s ps (when ks t c)) here
      → (Behind place (Avoids i s ps c) (here ++ TimeoutContinuation ∷ []) → Clear (Resting i ps) (here ++ TimeoutContinuation ∷ []) (settled i s c))
      → Clear (Resting i ps) here (settled i s (when ks t c))
  at_when i v s ps ks t c here h go = by_tests (int_lt i.to t) (int_le t i.from) refl refl
    where
      n : here ≢ place
      n = not_here place i s ps (when ks t c) here h

      by_tests : (x y : Bool) → int_lt i.to t ≡ x → int_le t i.from ≡ y
          → Clear (Resting i ps) here (cond x (ended (Ok (standing s (when ks t c)))) (cond y (reduction_then (timing_out s c) (settled i s c)) (ended (Err Ambiguous))))
      by_tests true y p q =
          clear_ok (Resting i ps) here (ended (Ok (standing s (when ks t c)))) (standing s (when ks t c)) (n, tt) refl
          (subst (λ qs. Behind place (Avoids i s qs (when ks t c)) here) (sym (append-nil ps)) h, true_lt i.to t p)
      by_tests false true p q =
          clear_after (Rests i) ps here (here ++ TimeoutContinuation ∷ []) (timing_out s c) (settled i s c) refl n
          (subst (λ qs. Clear (λ at b rs. Rests i at b (qs ++ rs)) (here ++ TimeoutContinuation ∷ []) (settled i s c)) (sym (append-nil ps))
          (go (λ path e. behind_step place (Avoids i s ps (when ks t c)) here TimeoutContinuation h path e i s.min_time (le_itself i.from) v (true_le t i.from q))))
      by_tests false false p q = clear_fault (Resting i ps) here (ended (Err Ambiguous)) Ambiguous (n, tt) refl

  settles : (i : Interval) → i.from ≤ℤ i.to → (s : StateMaps) (ps : List Payment) (c : ContractTree) (here : List PathStep) → Behind place (Avoids i s ps c) here → Clear (Resting i ps) here (settled i s c)
  settles i v s ps close here h =
      let all = refunds_stay Other here (entries s.accounts) (not_here place i s ps close here h) in
      clear_ok (Resting i ps) here (refunds s) (standing (record s { accounts = empty }) close) all refl (last_passed Other here (map (λ _. refund) (entries s.accounts)) all)
  settles i v s ps (pay p y t n c) here h =
      let r = pay_step s p y t (eval i s n) (visited i s n) c in
      clear_after (Rests i) ps here (here ++ Then ∷ []) r (settled i r.state c) (ap (λ turn. here ++ step_of turn) (pay_goes_next s p y t (eval i s n) (visited i s n) c)) (not_here place i s ps (pay p y t n c) here h)
      (settles i v r.state (ps ++ r.payments) c (here ++ Then ∷ []) (behind_step place (Avoids i s ps (pay p y t n c)) here Then h))
  settles i v s ps (if_obs o c d) here h =
      at_if i s ps here c d (looked i s o) (holds i s o) (not_here place i s ps (if_obs o c d) here h)
      (λ q. settles i v s ps c (here ++ Then ∷ []) (λ path e. behind_step place (Avoids i s ps (if_obs o c d)) here Then h path e q))
      (λ q. settles i v s ps d (here ++ Else ∷ []) (λ path e. behind_step place (Avoids i s ps (if_obs o c d)) here Else h path e q))
  settles i v s ps (when ks t c) here h = at_when i v s ps ks t c here h (λ k. settles i v s ps c (here ++ TimeoutContinuation ∷ []) k)
  settles i v s ps (let_be x n c) here h =
      let r = binding s x (eval i s n) (visited i s n) c in
      clear_after (Rests i) ps here (here ++ Then ∷ []) r (settled i r.state c) refl (not_here place i s ps (let_be x n c) here h)
      (subst (λ qs. Clear (λ at b rs. Rests i at b (qs ++ rs)) (here ++ Then ∷ []) (settled i r.state c)) (sym (append-nil ps)) (settles i v r.state ps c (here ++ Then ∷ []) (behind_step place (Avoids i s ps (let_be x n c)) here Then h)))
  settles i v s ps (assert o c) here h =
      let r = asserting s (holds i s o) (looked i s o) c in
      clear_after (Rests i) ps here (here ++ Then ∷ []) r (settled i r.state c) refl (not_here place i s ps (assert o c) here h)
      (subst (λ qs. Clear (λ at b rs. Rests i at b (qs ++ rs)) (here ++ Then ∷ []) (settled i s c)) (sym (append-nil ps)) (settles i v s ps c (here ++ Then ∷ []) (behind_step place (Avoids i s ps (assert o c)) here Then h)))

  -- ---- an input

  abbrev Taken : Interval → List Payment → Where
  Taken i ps = λ at b qs. Ready i at b (ps ++ qs)

  takes : (i : Interval) (s : StateMaps) (ps : List Payment) (x : Input) (here : List PathStep) (ns : List ℤ) (n m : ℕ) (earlier : List ActionTree) → here ≢ place → NoneTakes i s x earlier → (ks : CaseTrees)
      → ((l j : ℕ) (path : List PathStep) → j ≡ n + l → place ≡ here ++ Case j ∷ path → AvoidsCase i s ps earlier ks l path)
      → m ≡ n + first_match_index i s x (case_list ks) → Clear (Taken i ps) here (take_match s x ns m (first_match i s x (case_list ks)))
  takes i s ps x here ns n m earlier o z no_cases h e = record { clear = (o, tt); rests = λ b r. absurd (cc) }
  takes i s ps x here ns n m earlier o z (case_then a c ks) h e =
      by_match (matches i s x a) refl (λ q. takes i s ps x here ns (suc n) m (a ∷ earlier) o (q, z) ks (λ l j path f. h (suc l) j path (omega (arith, f)))) e
    where
      by_match : (b : Bool) → matches i s x a ≡ b
          → (matches i s x a ≡ false → m ≡ suc n + first_match_index i s x (case_list ks) → Clear (Taken i ps) here (take_match s x ns m (first_match i s x (case_list ks))))
          → m ≡ n + cond b 0 (suc (first_match_index i s x (case_list ks))) → Clear (Taken i ps) here (take_match s x ns m (cond b (Some c) (first_match i s x (case_list ks))))
      by_match true q f e =
          let first : m ≡ n + 0 = e in
          let go : Behind place (Avoids i (taken s x) ps c) (here ++ Case m ∷ []) = λ path g. h 0 m path first (g ∙ append_assoc here (Case m ∷ []) path) x z q in
          record {
            clear = (o, (not_here place i (taken s x) ps c (here ++ Case m ∷ []) go, tt));
            rests = λ b r. subst (λ (d : Standing). Behind place (Avoids i d.state (ps ++ []) d.contract) (here ++ Case m ∷ [])) (ok_same (standing (taken s x) c) b r)
                (subst (λ qs. Behind place (Avoids i (taken s x) qs c) (here ++ Case m ∷ [])) (sym (append-nil ps)) go);
          }
      by_match false q f e = f q (omega (arith, e))

  at_rest : (i : Interval) → i.from ≤ℤ i.to → (here : List PathStep) (s : StateMaps) (ps : List Payment) (c : ContractTree) (x : Input) (ns : List ℤ) → RestsAt here i s ps c
      → Clear (Taken i ps) here (take_match s x ns (first_match_index i s x (waits_for c)) (first_match i s x (waits_for c)))
  at_rest i v here s ps close x ns r = record { clear = (r, tt); rests = λ b e. absurd (cc) }
  at_rest i v here s ps (when ks t c) x ns r =
      takes i s ps x here ns 0 (first_match_index i s x (case_list ks)) [] (not_here place i s ps (when ks t c) here r.0) tt ks
      (λ l j path f e. r.0 (Case l ∷ path) (e ∙ ap (λ k. here ++ Case k ∷ path) (let same : j ≡ l = omega (arith, f) in same)) i s.min_time (le_itself i.from) v r.1) (omega arith)
  at_rest i v here s ps (pay p y t n c) x ns r = absurd r
  at_rest i v here s ps (if_obs o c d) x ns r = absurd r
  at_rest i v here s ps (let_be y n c) x ns r = absurd r
  at_rest i v here s ps (assert o c) x ns r = absurd r

  input : (i : Interval) → i.from ≤ℤ i.to → (x : Input) (here : List PathStep) (b : Standing) (ps : List Payment) → Rests i here b ps → Clear (Resting i ps) here (one_input i x b)
  unfolding one_input applied
  input i v x here b ps r =
      let w = applied i x b in
      clear_then (Ready i) (Rests i) ps here w (λ d. settled i d.state d.contract) (at_rest i v here b.state ps b.contract x (tried_to_match i b.state x (waits_for b.contract)) r)
      (λ d qs k. settles i v d.state qs d.contract (led here w.turns) k)

  rests_there : (i : Interval) (here : List PathStep) (s : StateMaps) (ps : List Payment) (c : ContractTree) → RestsAt here i s ps c → here ≢ place
  rests_there i here s ps close r = r
  rests_there i here s ps (when ks t c) r = not_here place i s ps (when ks t c) here r.0
  rests_there i here s ps (pay p y t n c) r = absurd r
  rests_there i here s ps (if_obs o c d) r = absurd r
  rests_there i here s ps (let_be x n c) r = absurd r
  rests_there i here s ps (assert o c) r = absurd r

  inputs : (i : Interval) → i.from ≤ℤ i.to → (xs : List Input) (here : List PathStep) (b : Standing) (ps : List Payment) → Rests i here b ps → Clear (Resting i ps) here (all_inputs i xs b)
  inputs i v [] here b ps r = clear_ok (Resting i ps) here (ended (Ok b)) b (rests_there i here b.state ps b.contract r, tt) refl (subst (Rests i here b) (sym (append-nil ps)) r)
  inputs i v (x ∷ xs) here b ps r =
      let w = one_input i x b in
      clear_then (Rests i) (Rests i) ps here w (all_inputs i xs) (input i v x here b ps r) (λ d qs k. inputs i v xs (led here w.turns) d qs k)

  -- ---- a transaction

  begins : (i : Interval) → i.from ≤ℤ i.to → (here : List PathStep) (s : StateMaps) → s.min_time ≤ℤ i.from → (ps : List Payment) (c : ContractTree) (xs : List Input) → StandsAt here s ps c
      → Clear (Resting i ps) here (from_start i s c xs)
  unfolding from_start
  begins i v here s g ps c xs h =
      let u : StateMaps = record s { min_time = i.from } in
      let w = settled i u c in
      clear_finished (Resting i ps) here (then_walk w (all_inputs i xs))
      (clear_then (Rests i) (Rests i) ps here w (all_inputs i xs) (settles i v u ps c here (h i g v)) (λ d qs k. inputs i v xs (led here w.turns) d qs k))

  stands_there : (here : List PathStep) (b : Standing) (ps : List Payment) → Stands here b ps → here ≢ place
  stands_there here b ps h =
      let n = b.state.min_time in
      let now : Interval = record { from = n; to = n } in
      not_here place now (record b.state { min_time = n }) ps b.contract here (h now (le_itself n) (le_itself n))

  transaction : (here : List PathStep) (b : Standing) (ps : List Payment) (t : Transaction) → Stands here b ps → Clear (Resting (trimmed t.interval b.state) ps) here (walk_from b t)
  unfolding computed
  transaction here b ps t h = by_tests (int_lt t.interval.to t.interval.from) (int_lt t.interval.to b.state.min_time) refl refl
    where
      n : here ≢ place
      n = stands_there here b ps h

      by_tests : (x e : Bool) → int_lt t.interval.to t.interval.from ≡ x → int_lt t.interval.to b.state.min_time ≡ e
          → Clear (Resting (trimmed t.interval b.state) ps) here (cond x (ended (Err InvalidInterval)) (cond e (ended (Err IntervalInPast)) (from_start (trimmed t.interval b.state) b.state b.contract t.inputs)))
      by_tests true e p q = clear_fault (Resting (trimmed t.interval b.state) ps) here (ended (Err InvalidInterval)) InvalidInterval (n, tt) refl
      by_tests false true p q = clear_fault (Resting (trimmed t.interval b.state) ps) here (ended (Err IntervalInPast)) IntervalInPast (n, tt) refl
      by_tests false false p q =
          let i = t.interval in
          let s = b.state in
          begins (trimmed i s) (max_within i.from s.min_time i.to (false_lt _ _ p) (false_lt _ _ q)) here s (max_after i.from s.min_time) ps b.contract t.inputs h

  -- ---- transactions

  again : (i : Interval) (here : List PathStep) (s : StateMaps) (ps : List Payment) (c : ContractTree) → s.min_time ≡ i.from → RestsAt here i s ps c → StandsAt here s ps c
  again i here s ps close e r = λ j g v. close_avoids place j (record s { min_time = j.from }) ps here r
  again i here s ps (when ks t c) e r = λ j g v path f. when_later i j s ps ks t c path j.from (subst (λ n. n ≤ℤ j.from) e g) (r.0 path f)
  again i here s ps (pay p y t n c) e r = absurd r
  again i here s ps (if_obs o c d) e r = absurd r
  again i here s ps (let_be x n c) e r = absurd r
  again i here s ps (assert o c) e r = absurd r

  after_answer : TimeGoesOn → (here : List PathStep) (b : Standing) (ps : List Payment) (t : Transaction) → Stands here b ps → (r : Result Standing SemFault) → answer_of (walk_from b t) ≡ r
      → Stands (led_with r here (walk_from b t).turns) (result_unwrap_or r b) (ps ++ paid_with r (walk_from b t).payments)
  after_answer T here b ps t h (Ok d) e =
      let w = walk_from b t in
      let k = (ok_answer (all_fit w.numbers) w.end d e).1 in
      again (trimmed t.interval b.state) (led here w.turns) d.state (ps ++ w.payments) d.contract (T t.interval b.state b.contract t.inputs d k).0 ((transaction here b ps t h).rests d k)
  after_answer T here b ps t h (Err f) e = subst (Stands here b) (sym (append-nil ps)) h

  stands : TimeGoesOn → (here : List PathStep) (b : Standing) (ps : List Payment) (ts : List Transaction) → Stands here b ps → Stands (leads_after here b ts) (stands_after b ts) (ps ++ payments_of b ts)
  stands T here b ps [] h = subst (Stands here b) (sym (append-nil ps)) h
  stands T here b ps (t ∷ ts) h =
      let r = answer_of (walk_from b t) in
      let qs = paid_with r (walk_from b t).payments in
      subst (Stands (leads_after here b (t ∷ ts)) (stands_after b (t ∷ ts))) (append_assoc ps qs (payments_of (standing_after b t) ts))
      (stands T (place_after here b t) (standing_after b t) (ps ++ qs) ts (after_answer T here b ps t h r refl))

pub avoided_is_never_reached : TimeGoesOn → AvoidedIsNeverReached
avoided_is_never_reached T s c place h earlier t =
    let a = standing s c in
    let first : Stands place [] a [] = λ i g v path e. subst (Avoids i (record s { min_time = i.from }) [] c) e (h i g v) in
    (transaction place (leads_after [] a earlier) (stands_after a earlier) (payments_of a earlier) t (stands place T [] a [] earlier first)).clear
