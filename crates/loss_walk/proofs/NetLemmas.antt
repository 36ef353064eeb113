-- A floor along a contract's tree is one in every run.
use Rattle.std.proofs.Common.{◌≡◌, ℕ, ℤ, pos, neg_ℤ, ◌+ℤ◌, ◌-ℤ◌, ◌≤ℤ◌, ◌<ℤ◌, int_lt, int_le, Bool, true, false, cond, ◌&&◌, List, [], ◌∷◌, ◌++◌, map, length, refl, sym, ap, ◌∙◌, subst, arith, Result, Ok, Err, IfOk, Option, Some, None, IfSome, is_ok}
use Rattle.std.specs.Prelude.{slice_get}
use Rattle.std.proofs.lemmas.Int.{ints}
use Rattle.std.specs.Int.{int_max}
use Rattle.std.specs.Option.{is_none}
use Rattle.std.specs.Result.{result_unwrap_or}
use Rattle.std.specs.FinMap.{empty, entries, len-empty, len-entries}
use Rattle.contract.specs.Collections.Total.{total}
use Rattle.contract.specs.Names.declared.account.Account.{Account}
use Rattle.contract.specs.Names.declared.party.Party.{Party}
use Rattle.contract.specs.Names.declared.token.Token.{Token}
use Rattle.contract.specs.Names.Orders.{account_cmp}
use Rattle.contract.specs.declared.fault.SemFault.{SemFault}
use Rattle.contract.specs.declared.fault.SemFault.TheVariants.{InvalidInterval, IntervalInPast, Ambiguous, Useless, Leaves128}
use Rattle.contract.specs.declared.input.Input.{Input}
use Rattle.contract.specs.declared.interval.Interval.{Interval}
use Rattle.contract.specs.declared.payment.Payment.{Payment}
use Rattle.contract.specs.declared.transaction.Transaction.{Transaction}
use Rattle.contract.specs.Tree.{ActionTree, ContractTree, CaseTrees, close, pay, if_obs, when, let_be, assert, no_cases, case_then}
use Rattle.contract.specs.States.States.{StateMaps, counted}
use Rattle.semantics.specs.Evaluation.Evaluation.{eval, visited, holds}
use Rattle.semantics.specs.Evaluation.Path.{case_list, waits_for}
use Rattle.semantics.specs.Evaluation.Numbers.{all_fit}
use Rattle.semantics.specs.Walk.{Standing, standing, Walk, ended, then_from, then_walk, answer_of}
use Rattle.semantics.specs.Reduction.{Reduction, refund_of, timing_out, binding}
use Rattle.semantics.specs.Settling.{reduction_then}
use Rattle.semantics.specs.Applying.{matches, taken}
use Rattle.semantics.specs.Transaction.{trimmed, finished}
use Rattle.semantics.specs.Closing.{IsSpent}
use Rattle.semantics.specs.Computed.{pay_step, refunds, settled, first_match, first_match_index, tried_to_match, take_match, applied, one_input, all_inputs, from_start, computed}
use Rattle.semantics.specs.Laws.{TimeGoesOn}
use Rattle.analysis_spec.specs.Runs.{walk_from, standing_after, stands_after, paid_with, payments_of, reaches_party, paid_to}
use Rattle.losses.specs.Losses.{inputs_with, inputs_of, brought_by}
use Rattle.analysis_walk.specs.Covered.{NoneTakes}
use Rattle.analysis_walk.proofs.PaidLaws.{total_append}
use Rattle.keeping_up.specs.KeepsUp.{waits_at, IsInTime, KeepsUp}
use Rattle.loss_walk.specs.declared.question.Question.{Question}
use Rattle.loss_walk.specs.declared.quiet.Quiet.{Quiet}
use Rattle.loss_walk.specs.Cuts.{is_timeless, holds_timeless, quiet_from, quiet_before, after_reading, after_timeout, is_cut}
use Rattle.loss_walk.specs.Nets.{taken_off, Nets, NetsCases, NetsFrom, of_all_runs, while_keeping_up, NetsBoundLosses, NetsBoundKept}
use Rattle.loss_walk.proofs.KeepLemmas.{Keeps, KeepsBehind, waits_longer, keeps_pay, keeps_let, keeps_if, keeps_timeout, keeps_behind, never_left}

none_counted : (es : List (Account × ℤ)) → length es ≡ 0 → es ≡ []
none_counted [] h = refl
none_counted (e ∷ es) h = absurd (cc)

no_entries : entries (empty {X = ℤ} {R = account_cmp}) ≡ []
no_entries = none_counted (entries empty) (sym (len-entries (empty {X = ℤ} {R = account_cmp})) ∙ len-empty account_cmp ℤ)

-- a success: all numbers fit, and the part ended well
ok_answer : (b : Bool) (end : Result Standing SemFault) (a : Standing) → cond b end (Err Leaves128) ≡ Ok a → end ≡ Ok a
ok_answer true end a h = h
ok_answer false end a h = absurd (cc)

ok_same : (a b : Standing) → ◌≡◌ {A = Result Standing SemFault} (Ok a) (Ok b) → a ≡ b
ok_same a b e = cc

-- ---- times

true_lt : (a b : ℤ) → int_lt a b ≡ true → a <ℤ b
true_lt a b h = grind (arith, ints)

false_lt : (a b : ℤ) → int_lt a b ≡ false → b ≤ℤ a
false_lt a b h = grind (arith, ints)

true_le : (a b : ℤ) → int_le a b ≡ true → a ≤ℤ b
true_le a b h = grind (arith, ints)

reaches : (a b c : ℤ) → a ≤ℤ b → b ≤ℤ c → a ≤ℤ c
reaches a b c h k = omega (arith, ints)

le_itself : (a : ℤ) → a ≤ℤ a
le_itself a = omega (arith, ints)

before : (a b : ℤ) → b <ℤ a → b ≤ℤ a
before a b h = omega (arith, ints)

max_within : (a b c : ℤ) → a ≤ℤ c → b ≤ℤ c → int_max a b ≤ℤ c
max_within a b c h k = by_test (int_lt b a)
  where
    by_test : (t : Bool) → cond t a b ≤ℤ c
    by_test true = h
    by_test false = k

max_after : (a b : ℤ) → b ≤ℤ int_max a b
max_after a b = by_test (int_lt b a) refl
  where
    by_test : (t : Bool) → int_lt b a ≡ t → b ≤ℤ cond t a b
    by_test true h = before a b (true_lt b a h)
    by_test false h = le_itself b

-- ---- sums

nothing_more : (x m : ℤ) → x ≡ m +ℤ pos 0 → x ≡ m
nothing_more x m e = omega (arith, ints, e)

less_itself : (m b : ℤ) → m ≡ (m -ℤ pos 0) +ℤ pos 0
less_itself m b = omega (arith, ints)

joins : (x m k w v u : ℤ) → u ≡ w +ℤ v → x ≡ (m -ℤ k) +ℤ u → x ≡ ((m +ℤ w) -ℤ k) +ℤ v
joins x m k w v u e q = omega (arith, ints, e, q)

first_below : (a b c : ℤ) → a ≤ℤ b → b <ℤ c → a <ℤ c
first_below a b c h k = omega (arith, ints)

first_within : (a b c : ℤ) → a ≤ℤ b → b ≤ℤ c → a ≤ℤ c
first_within a b c h k = omega (arith, ints)

last_before : (a b : ℤ) → a <ℤ b → a ≤ℤ (b -ℤ pos 1)
last_before a b h = omega (arith, ints)

max_before : (a b : ℤ) → a ≤ℤ int_max a b
max_before a b = by_test (int_lt b a) refl
  where
    by_test : (t : Bool) → int_lt b a ≡ t → a ≤ℤ cond t a b
    by_test true h = le_itself a
    by_test false h = false_lt b a h

-- ---- who keeps up, where that is asked

abbrev InTimeIf : Option Party → Standing → Transaction → Type 0
InTimeIf None b t = Unit {0}
InTimeIf (Some p) b t = IsInTime p b t

abbrev AcceptedInTime : Option Party → Standing → Transaction → Result Standing SemFault → Type 0
AcceptedInTime None b t r = Unit {0}
AcceptedInTime (Some p) b t r = IfOk r (λ d. IsInTime p b t)

abbrev KeepsUpIf : Option Party → Standing → List Transaction → Type 0
KeepsUpIf None a ts = Unit {0}
KeepsUpIf (Some p) a ts = KeepsUp p a ts

in_time : (o : Option Party) (b : Standing) (t : Transaction) (d : Standing) → AcceptedInTime o b t (Ok d) → InTimeIf o b t
in_time None b t d h = tt
in_time (Some p) b t d h = h

first_keeps : (o : Option Party) (b : Standing) (t : Transaction) (ts : List Transaction) → KeepsUpIf o b (t ∷ ts) → AcceptedInTime o b t (answer_of (walk_from b t))
first_keeps None b t ts h = tt
first_keeps (Some p) b t ts h = h.0

rest_keeps : (o : Option Party) (b : Standing) (t : Transaction) (ts : List Transaction) → KeepsUpIf o b (t ∷ ts) → KeepsUpIf o (standing_after b t) ts
rest_keeps None b t ts h = tt
rest_keeps (Some p) b t ts h = h.1

module _ (question : Question) (party : Party) (token : Token) (floor : ℤ) where
  abbrev off : Input → ℤ
  off = taken_off question.net party token

  paid : List Payment → ℤ
  paid ps = paid_to party token ps

  paid_append : (ps qs : List Payment) → paid_to party token (ps ++ qs) ≡ paid_to party token ps +ℤ paid_to party token qs
  paid_append ps qs = total_append (λ (p : Payment). reaches_party party p.to (counted token p.token p.amount)) ps qs

  -- what holds where a contract stands, after so much
  abbrev Where : Type 1
  Where = Standing → ℤ → Type 0

  -- it holds wherever a part ends well that begins after so much
  abbrev Fine : Where → ℤ → Walk → Type 0
  Fine P m w = (d : Standing) (x : ℤ) → w.end ≡ Ok d → x ≡ m +ℤ paid_to party token w.payments → P d x

  -- a contract has settled: it is closed, or waits
  abbrev RestsAt : Interval → StateMaps → ℤ → ContractTree → Type 0
  RestsAt i s m close = floor ≤ℤ (m +ℤ paid_to party token (refunds s).payments)
  RestsAt i s m (when ks t c) = (q : Quiet) × Nets question party token floor q i s m (when ks t c) × (i.to <ℤ t) × (i.from <ℤ t)
  RestsAt i s m (pay p y t v c) = ⊥
  RestsAt i s m (if_obs o c d) = ⊥
  RestsAt i s m (let_be x v c) = ⊥
  RestsAt i s m (assert o c) = ⊥

  abbrev Rests : Interval → Where
  Rests i a m = RestsAt i a.state m a.contract

  -- a contract is about to settle behind an input
  abbrev Ready : Interval → Where
  Ready i a m = (q : Quiet) × Nets question party token floor q i a.state m a.contract × (i.to ≤ℤ q.latest)

  -- a contract is between two transactions: it settles well, if who keeps up has done so
  abbrev StandsAt : StateMaps → ℤ → ContractTree → Type 0
  StandsAt s m c =
      (i : Interval) → s.min_time ≤ℤ i.from → i.from ≤ℤ i.to → Keeps question.keeper true s.min_time i s c → Fine (Rests i) m (settled i (record s { min_time = i.from }) c)

  -- ---- parts

  fine_fault : (P : Where) (m : ℤ) (w : Walk) (f : SemFault) → w.end ≡ Err f → Fine P m w
  fine_fault P m w f q d x e g = absurd (let k : ◌≡◌ {A = Result Standing SemFault} (Err f) (Ok d) = sym q ∙ e in cc)

  fine_ok : (P : Where) (m : ℤ) (w : Walk) (a : Standing) → w.end ≡ Ok a → P a (m +ℤ paid_to party token w.payments) → Fine P m w
  fine_ok P m w a q k d x e g = subst (P d) (sym g) (subst (λ (b : Standing). P b (m +ℤ paid_to party token w.payments)) (ok_same a d (sym q ∙ e)) k)

  fine_from : (P Q : Where) (m k : ℤ) (w : Walk) (end : Result Standing SemFault) (g : Standing → Walk) → w.end ≡ end → Fine P m w → ((a : Standing) (n : ℤ) → P a n → Fine Q (n -ℤ k) (g a)) → Fine Q (m -ℤ k) (then_from w end g)
  fine_from P Q m k w (Ok a) g q h f d x e l =
      f a (m +ℤ paid_to party token w.payments) (h a (m +ℤ paid_to party token w.payments) q refl) d x e
      (joins x m k (paid_to party token w.payments) (paid_to party token (g a).payments) (paid_to party token (w.payments ++ (g a).payments)) (paid_append w.payments (g a).payments) l)
  fine_from P Q m k w (Err f) g q h r d x e l = absurd (let z : ◌≡◌ {A = Result Standing SemFault} (Err f) (Ok d) = sym q ∙ e in cc)

  fine_then : (P Q : Where) (m k : ℤ) (w : Walk) (g : Standing → Walk) → Fine P m w → ((a : Standing) (n : ℤ) → P a n → Fine Q (n -ℤ k) (g a)) → Fine Q (m -ℤ k) (then_walk w g)
  fine_then P Q m k w g h f = fine_from P Q m k w w.end g refl h f

  fine_same : (P : Where) (m n : ℤ) (w : Walk) → m ≡ n → Fine P m w → Fine P n w
  fine_same P m n w e h = subst (λ (z : ℤ). Fine P z w) e h

  fine_finished : (P : Where) (m : ℤ) (w : Walk) → Fine P m w → Fine P m (finished w)
  fine_finished P m w h = by_turns (is_ok w.end && is_none (slice_get w.turns 0))
    where
      by_turns : (b : Bool) → Fine P m (record w { end = cond b (Err Useless) w.end })
      by_turns true = fine_fault P m (record w { end = Err Useless }) Useless refl
      by_turns false = h

  -- ---- a settling

  after_pay : (m n u v w x : ℤ) → w ≡ u +ℤ v → x ≡ m +ℤ w → x ≡ (m +ℤ u) +ℤ v
  after_pay m n u v w x e q = omega (arith, ints, e, q)

  fine_after : (P : Where) (m : ℤ) (r : Reduction) (w : Walk) → Fine P (m +ℤ paid_to party token r.payments) w → Fine P m (reduction_then r w)
  fine_after P m r w h d x e q =
      h d x e (after_pay m m (paid_to party token r.payments) (paid_to party token w.payments) (paid_to party token (r.payments ++ w.payments)) x (paid_append r.payments w.payments) q)

  either : (P : Where) (m : ℤ) (b : Bool) (w v : Walk) → (b ≡ true → Fine P m w) → (b ≡ false → Fine P m v) → Fine P m (cond b w v)
  either P m true w v h k = h refl
  either P m false w v h k = k refl

  closed_again : (a b c : ℤ) → c ≡ pos 0 → a ≤ℤ b → a ≤ℤ (b +ℤ c)
  closed_again a b c e h = omega (arith, ints, e)

  closes : (i : Interval) (s : StateMaps) (m : ℤ) → floor ≤ℤ (m +ℤ paid_to party token (refunds s).payments) → Fine (Rests i) m (settled i s close)
  closes i s m h =
      fine_ok (Rests i) m (refunds s) (standing (record s { accounts = empty }) close) refl
      (closed_again floor (m +ℤ paid_to party token (refunds s).payments) (paid_to party token (map refund_of (entries (empty {X = ℤ} {R = account_cmp})))) (ap (λ es. paid_to party token (map refund_of es)) no_entries) h)

  -- a When, which may wait from a time on
  at_when : (i : Interval) → i.from ≤ℤ i.to → (q : Quiet) (since : ℤ) (s : StateMaps) (m : ℤ) (ks : CaseTrees) (t : ℤ) (c : ContractTree) → (q.latest <ℤ t → since <ℤ t) → since ≤ℤ int_max q.latest t
      → Nets question party token floor q i s m (when ks t c) → Keeps question.keeper q.timeless since i s (when ks t c)
      → (Nets question party token floor (after_timeout q t) i s m c → KeepsBehind question.keeper (after_timeout q t) i s c → Fine (Rests i) m (settled i s c)) → Fine (Rests i) m (settled i s (when ks t c))
  at_when i v q since s m ks t c early late h keeps go = by_tests (int_lt i.to t) (int_le t i.from) refl refl
    where
      by_cut : (b : Bool) → is_cut question.keeper q ks t ≡ b → t ≤ℤ i.from → Fine (Rests i) m (reduction_then (timing_out s c) (settled i s c))
      by_cut true e l = absurd (never_left question.keeper q since i s ks t c early keeps e l)
      by_cut false e l = go ((h i s.min_time (le_itself i.from) v).1 e l) (keeps_timeout question.keeper q since i s ks t c late keeps)

      by_tests : (a b : Bool) → int_lt i.to t ≡ a → int_le t i.from ≡ b
          → Fine (Rests i) m (cond a (ended (Ok (standing s (when ks t c)))) (cond b (reduction_then (timing_out s c) (settled i s c)) (ended (Err Ambiguous))))
      by_tests true b p e = fine_ok (Rests i) m (ended (Ok (standing s (when ks t c)))) (standing s (when ks t c)) refl
          (subst (λ (n : ℤ). RestsAt i s n (when ks t c)) (sym (nothing_more (m +ℤ pos 0) m refl)) (q, h, true_lt i.to t p, first_below i.from i.to t v (true_lt i.to t p)))
      by_tests false true p e = by_cut (is_cut question.keeper q ks t) refl (true_le t i.from e)
      by_tests false false p e = fine_fault (Rests i) m (ended (Err Ambiguous)) Ambiguous refl

  settles : (i : Interval) → i.from ≤ℤ i.to → (q : Quiet) (s : StateMaps) (m : ℤ) (c : ContractTree) → Nets question party token floor q i s m c → KeepsBehind question.keeper q i s c → Fine (Rests i) m (settled i s c)
  settles i v q s m close h keeps = closes i s m h
  settles i v q s m (pay p y t n c) h keeps =
      let r = pay_step s p y t (eval i s n) (visited i s n) c in
      fine_after (Rests i) m r (settled i r.state c)
      (settles i v (after_reading q (is_timeless n)) r.state (m +ℤ paid_to party token r.payments) c h (keeps_pay question.keeper q i s p y t n c keeps))
  settles i v q s m (if_obs o c d) h keeps =
      let next = after_reading q (holds_timeless o) in
      either (Rests i) m (holds i s o) (settled i s c) (settled i s d) (λ e. settles i v next s m c (h.0 e) (keeps_if question.keeper q i s o c d true e keeps))
      (λ e. settles i v next s m d (h.1 e) (keeps_if question.keeper q i s o c d false e keeps))
  settles i v q s m (when ks t c) h keeps =
      at_when i v q q.latest s m ks t c (λ l. l) (max_before q.latest t) h keeps (λ k l. settles i v (after_timeout q t) s m c k l)
  settles i v q s m (let_be x n c) h keeps =
      settles i v (after_reading q (is_timeless n)) (binding s x (eval i s n) (visited i s n) c).state m c h (keeps_let question.keeper q i s x n c keeps)
  settles i v q s m (assert o c) h keeps = settles i v q s m c h keeps

  -- ---- an input

  tries : (q : Quiet) (i : Interval) → i.to ≤ℤ q.latest → (s : StateMaps) (m : ℤ) (x : Input) (earlier : List ActionTree) → NoneTakes i s x earlier → (ks : CaseTrees) → NetsCases question party token floor q i s m earlier ks → (ns : List ℤ) (n : ℕ)
      → Fine (Ready i) (m -ℤ off x) (take_match s x ns n (first_match i s x (case_list ks)))
  tries q i b s m x earlier z no_cases h ns n = λ d y e l. absurd (cc)
  tries q i l s m x earlier z (case_then a c ks) h ns n = by_match (matches i s x a) refl (λ e. tries q i l s m x (a ∷ earlier) (e, z) ks h.1 ns n)
    where
      by_match : (b : Bool) → matches i s x a ≡ b → (matches i s x a ≡ false → Fine (Ready i) (m -ℤ off x) (take_match s x ns n (first_match i s x (case_list ks))))
          → Fine (Ready i) (m -ℤ off x) (take_match s x ns n (cond b (Some c) (first_match i s x (case_list ks))))
      by_match true k f = λ d y e g.
          subst (λ (z : Standing). Ready i z y) (ok_same (standing (taken s x) c) d e)
          (q, subst (λ (z : ℤ). Nets question party token floor q i (taken s x) z c) (sym (nothing_more y (m -ℤ off x) g)) (h.0 x z k), l)
      by_match false k f = f k

  at_rest : (i : Interval) → i.from ≤ℤ i.to → (s : StateMaps) (m : ℤ) (c : ContractTree) (x : Input) → RestsAt i s m c
      → Fine (Ready i) (m -ℤ off x) (take_match s x (tried_to_match i s x (waits_for c)) (first_match_index i s x (waits_for c)) (first_match i s x (waits_for c)))
  at_rest i v s m close x r = λ d y e q. absurd (cc)
  at_rest i v s m (when ks t c) x r = tries (quiet_before t) i (last_before i.to t r.2) s m x [] tt ks ((r.1 i s.min_time (le_itself i.from) v).0 r.2) (tried_to_match i s x (case_list ks)) (first_match_index i s x (case_list ks))
  at_rest i v s m (pay p y t n c) x r = absurd r
  at_rest i v s m (if_obs o c d) x r = absurd r
  at_rest i v s m (let_be y n c) x r = absurd r
  at_rest i v s m (assert o c) x r = absurd r

  less_nothing : (n : ℤ) → n ≡ n -ℤ pos 0
  less_nothing n = omega (arith, ints)

  input : (i : Interval) → i.from ≤ℤ i.to → (x : Input) (b : Standing) (m : ℤ) → Rests i b m → Fine (Rests i) (m -ℤ off x) (one_input i x b)
  unfolding one_input applied
  input i v x b m r =
      let n = m -ℤ off x in
      fine_same (Rests i) (n -ℤ pos 0) n (then_walk (applied i x b) (λ d. settled i d.state d.contract)) (sym (less_nothing n))
      (fine_then (Ready i) (Rests i) n (pos 0) (applied i x b) (λ d. settled i d.state d.contract) (at_rest i v b.state m b.contract x r)
      (λ d k h. fine_same (Rests i) k (k -ℤ pos 0) (settled i d.state d.contract) (less_nothing k)
      (settles i v h.0 d.state k d.contract h.1 (keeps_behind question.keeper h.0 i d.state d.contract (first_within i.from i.to h.0.latest v h.2)))))

  less_both : (m b n : ℤ) → (m -ℤ b) -ℤ n ≡ m -ℤ (b +ℤ n)
  less_both m b n = omega (arith, ints)

  inputs : (i : Interval) → i.from ≤ℤ i.to → (xs : List Input) (b : Standing) (m : ℤ) → Rests i b m → Fine (Rests i) (m -ℤ total off xs) (all_inputs i xs b)
  inputs i v [] b m r = fine_ok (Rests i) (m -ℤ pos 0) (ended (Ok b)) b refl (subst (Rests i b) (less_itself m m) r)
  inputs i v (x ∷ xs) b m r =
      fine_same (Rests i) ((m -ℤ off x) -ℤ total off xs) (m -ℤ (off x +ℤ total off xs)) (then_walk (one_input i x b) (all_inputs i xs))
      (less_both m (off x) (total off xs))
      (fine_then (Rests i) (Rests i) (m -ℤ off x) (total off xs) (one_input i x b) (all_inputs i xs) (input i v x b m r) (λ d n k. inputs i v xs d n k))

  -- ---- a transaction

  begins : (i : Interval) → i.from ≤ℤ i.to → (s : StateMaps) → s.min_time ≤ℤ i.from → (m : ℤ) (c : ContractTree) (xs : List Input) → StandsAt s m c → Keeps question.keeper true s.min_time i s c → Fine (Rests i) (m -ℤ total off xs) (from_start i s c xs)
  unfolding from_start
  begins i v s g m c xs h keeps =
      let u : StateMaps = record s { min_time = i.from } in
      fine_finished (Rests i) (m -ℤ total off xs) (then_walk (settled i u c) (all_inputs i xs))
      (fine_then (Rests i) (Rests i) m (total off xs) (settled i u c) (all_inputs i xs) (h i g v keeps) (λ d n k. inputs i v xs d n k))

  -- in time as it is told of the interval, and as it is fixed
  fixed_in_time : (b : Standing) (t : Transaction) → InTimeIf question.keeper b t → Keeps question.keeper true b.state.min_time (trimmed t.interval b.state) b.state b.contract
  fixed_in_time b t h p is timeless now g l = by_wait (waits_at p now b) refl (subst (λ (o : Option Party). InTimeIf o b t) is h now g)
    where
      both_before : (a b c d : ℤ) → a <ℤ d → b ≤ℤ c → c <ℤ d → int_max a b <ℤ d
      both_before a b c d h k l = by_test (int_lt b a)
        where
          between : (b c d : ℤ) → b ≤ℤ c → c <ℤ d → b <ℤ d
          between b c d k l = omega (arith, ints)

          by_test : (x : Bool) → cond x a b <ℤ d
          by_test true = h
          by_test false = between b c d k l

      by_wait : (o : Option ℤ) → waits_at p now b ≡ o → IfSome o (λ time. t.interval.from <ℤ time) → IfSome o (λ time. (trimmed t.interval b.state).from <ℤ time)
      by_wait None e k = tt
      by_wait (Some time) e k =
          both_before t.interval.from b.state.min_time now time k g
          (waits_longer p (record { from = now; to = now }) time (record (b.state) { min_time = now }) b.contract e)

  transaction : (b : Standing) (m : ℤ) (t : Transaction) → StandsAt b.state m b.contract → InTimeIf question.keeper b t → Fine (Rests (trimmed t.interval b.state)) (m -ℤ total off t.inputs) (walk_from b t)
  unfolding computed
  transaction b m t h keeps = by_tests (int_lt t.interval.to t.interval.from) (int_lt t.interval.to b.state.min_time) refl refl
    where
      n : ℤ
      n = m -ℤ total off t.inputs

      by_tests : (x e : Bool) → int_lt t.interval.to t.interval.from ≡ x → int_lt t.interval.to b.state.min_time ≡ e
          → Fine (Rests (trimmed t.interval b.state)) (m -ℤ total off t.inputs) (cond x (ended (Err InvalidInterval)) (cond e (ended (Err IntervalInPast)) (from_start (trimmed t.interval b.state) b.state b.contract t.inputs)))
      by_tests true e p q = fine_fault (Rests (trimmed t.interval b.state)) (m -ℤ total off t.inputs) (ended (Err InvalidInterval)) InvalidInterval refl
      by_tests false true p q = fine_fault (Rests (trimmed t.interval b.state)) (m -ℤ total off t.inputs) (ended (Err IntervalInPast)) IntervalInPast refl
      by_tests false false p q =
          let i = t.interval in
          let s = b.state in
          begins (trimmed i s) (max_within i.from s.min_time i.to (false_lt _ _ p) (false_lt _ _ q)) s (max_after i.from s.min_time) m b.contract t.inputs h (fixed_in_time b t keeps)

  -- ---- transactions

  again : (i : Interval) (s : StateMaps) (m : ℤ) (c : ContractTree) → s.min_time ≡ i.from → RestsAt i s m c → StandsAt s m c
  again i s m close e r = λ j g v keeps. closes j (record s { min_time = j.from }) m r
  again i s m (when ks t c) e r = λ j g v keeps.
      let q = r.0 in
      let from : i.from ≤ℤ j.from = subst (λ n. n ≤ℤ j.from) e g in
      let early : s.min_time <ℤ t = subst (λ n. n <ℤ t) (sym e) r.3 in
      let u : StateMaps = record s { min_time = j.from } in
      at_when j v q s.min_time u m ks t c (λ l. early) (reaches s.min_time t (int_max q.latest t) (before t s.min_time early) (max_after q.latest t))
      (λ l now f k. r.1 l now (reaches i.from j.from l.from from f) k) (λ p is timeless. keeps p is refl) (λ k l. settles j v (after_timeout q t) u m c k l)
  again i s m (pay p y t n c) e r = absurd r
  again i s m (if_obs o c d) e r = absurd r
  again i s m (let_be x n c) e r = absurd r
  again i s m (assert o c) e r = absurd r

  same_sum : (x m p b : ℤ) → x ≡ m +ℤ (p -ℤ b) → x ≡ (m -ℤ b) +ℤ p
  same_sum x m p b e = omega (arith, ints, e)

  after_answer : TimeGoesOn → (b : Standing) (m : ℤ) (t : Transaction) → StandsAt b.state m b.contract → (r : Result Standing SemFault) → answer_of (walk_from b t) ≡ r → AcceptedInTime question.keeper b t r → (x : ℤ)
      → x ≡ m +ℤ (paid_to party token (paid_with r (walk_from b t).payments) -ℤ total off (inputs_with r t.inputs)) → StandsAt (result_unwrap_or r b).state x (result_unwrap_or r b).contract
  after_answer T b m t h (Ok d) e keeps x q =
      let w = walk_from b t in
      let k = ok_answer (all_fit w.numbers) w.end d e in
      again (trimmed t.interval b.state) d.state x d.contract (T t.interval b.state b.contract t.inputs d k).0
      (transaction b m t h (in_time question.keeper b t d keeps) d x k (same_sum x m (paid_to party token w.payments) (total off t.inputs) q))
  after_answer T b m t h (Err f) e keeps x q = subst (λ (n : ℤ). StandsAt b.state n b.contract) (sym (unmoved x m q)) h
    where
      unmoved : (x m : ℤ) → x ≡ m +ℤ (pos 0 -ℤ pos 0) → x ≡ m
      unmoved x m e = omega (arith, ints, e)

  first_then : (x m p b ps bs pq bq : ℤ) → pq ≡ p +ℤ ps → bq ≡ b +ℤ bs → x ≡ m +ℤ (pq -ℤ bq) → x ≡ (m +ℤ (p -ℤ b)) +ℤ (ps -ℤ bs)
  first_then x m p b ps bs pq bq e f q = omega (arith, ints, e, f, q)

  -- where a contract stands after transactions, with all that was paid and brought
  stands : TimeGoesOn → (b : Standing) (m : ℤ) (ts : List Transaction) → StandsAt b.state m b.contract → KeepsUpIf question.keeper b ts → (x : ℤ)
      → x ≡ m +ℤ (paid_to party token (payments_of b ts) -ℤ total off (inputs_of b ts)) → StandsAt (stands_after b ts).state x (stands_after b ts).contract
  stands T b m [] h keeps x q = subst (λ (n : ℤ). StandsAt b.state n b.contract) (sym (unmoved x m q)) h
    where
      unmoved : (x m : ℤ) → x ≡ m +ℤ (pos 0 -ℤ pos 0) → x ≡ m
      unmoved x m e = omega (arith, ints, e)
  stands T b m (t ∷ ts) h keeps x q =
      let r = answer_of (walk_from b t) in
      let p = paid_to party token (paid_with r (walk_from b t).payments) in
      let g = total off (inputs_with r t.inputs) in
      let next = standing_after b t in
      stands T next (m +ℤ (p -ℤ g)) ts (after_answer T b m t h r refl (first_keeps question.keeper b t ts keeps) (m +ℤ (p -ℤ g)) refl) (rest_keeps question.keeper b t ts keeps) x
      (first_then x m p g (paid_to party token (payments_of next ts)) (total off (inputs_of next ts)) (paid_to party token (payments_of b (t ∷ ts))) (total off (inputs_of b (t ∷ ts)))
      (paid_append (paid_with r (walk_from b t).payments) (payments_of next ts)) (total_append off (inputs_with r t.inputs) (inputs_of next ts)) q)

  -- where it stands closed, the floor is kept
  closed_so : (s : StateMaps) (c : ContractTree) (x : ℤ) → StandsAt s x c → IsSpent s c → floor ≤ℤ x
  closed_so s c x h spent =
      let i : Interval = record { from = s.min_time; to = s.min_time } in
      let y = x +ℤ paid_to party token (map refund_of (entries s.accounts)) in
      let there : StandsAt s x close = subst (StandsAt s x) spent.0 h in
      let k = there i (le_itself s.min_time) (le_itself s.min_time) (λ p is timeless now g l. tt) (standing (record s { accounts = empty }) close) y refl refl in
      let none = nothing_more (y +ℤ paid_to party token (map refund_of (entries (empty {X = ℤ} {R = account_cmp})))) y (ap (λ es. y +ℤ paid_to party token (map refund_of es)) no_entries) in
      subst (λ (n : ℤ). floor ≤ℤ n) (nothing_more y x (ap (λ es. x +ℤ paid_to party token (map refund_of es)) spent.1)) (subst (λ (n : ℤ). floor ≤ℤ n) none k)

  -- so it is in each run in which who keeps up does so
  floor_kept : TimeGoesOn → (s : StateMaps) (c : ContractTree) → NetsFrom question party token floor s c → (ts : List Transaction) → let a = standing s c in let b = stands_after a ts in
      IsSpent b.state b.contract → KeepsUpIf question.keeper a ts → floor ≤ℤ (pos 0 +ℤ (paid_to party token (payments_of a ts) -ℤ total off (inputs_of a ts)))
  floor_kept T s c h ts spent keeps =
      let a = standing s c in
      let b = stands_after a ts in
      let x = pos 0 +ℤ (paid_to party token (payments_of a ts) -ℤ total off (inputs_of a ts)) in
      closed_so b.state b.contract x
      (stands T a (pos 0) ts (λ i g v keeps. settles i v (quiet_from s.min_time) (record s { min_time = i.from }) (pos 0) c (h i g v) keeps) keeps x refl) spent

turned : (n p b : ℤ) → n ≤ℤ (pos 0 +ℤ (p -ℤ b)) → b ≤ℤ (p +ℤ neg_ℤ n)
turned n p b h = omega (arith, ints)

pub nets_bound_losses : TimeGoesOn → NetsBoundLosses
nets_bound_losses T party token floor s c h ts spent =
    let a = standing s c in
    turned floor (paid_to party token (payments_of a ts)) (brought_by party token (inputs_of a ts)) (floor_kept of_all_runs party token floor T s c h ts spent tt)

none_off : (party : Party) (token : Token) (xs : List Input) → total (taken_off false party token) xs ≡ pos 0
none_off party token [] = refl
none_off party token (x ∷ xs) = ap (λ n. pos 0 +ℤ n) (none_off party token xs)

paid_alone : (n p b : ℤ) → b ≡ pos 0 → n ≤ℤ (pos 0 +ℤ (p -ℤ b)) → n ≤ℤ p
paid_alone n p b e h = omega (arith, ints, e)

pub nets_bound_kept : TimeGoesOn → NetsBoundKept
nets_bound_kept T true asked party token floor s c h = λ ts spent keeps.
    let a = standing s c in
    turned floor (paid_to party token (payments_of a ts)) (brought_by party token (inputs_of a ts)) (floor_kept (while_keeping_up party true asked) party token floor T s c h ts spent keeps)
nets_bound_kept T false asked party token floor s c h = λ ts spent keeps.
    let a = standing s c in
    paid_alone floor (paid_to party token (payments_of a ts)) (total (taken_off false party token) (inputs_of a ts)) (none_off party token (inputs_of a ts))
    (floor_kept (while_keeping_up party false asked) party token floor T s c h ts spent keeps)
