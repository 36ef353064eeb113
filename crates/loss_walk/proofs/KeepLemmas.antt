-- Where a contract waits for a party at a moment, step by step.
use Rattle.std.proofs.Common.{◌≡◌, ℕ, ℤ, pos, neg_ℤ, ◌+ℤ◌, ◌-ℤ◌, ◌*ℤ◌, ◌≤ℤ◌, ◌<ℤ◌, int_lt, int_le, Bool, true, false, cond, not, ◌&&◌, ◌||◌, List, refl, ap, ◌∙◌, subst, arith, Ok, Err, Option, Some, None, IfSome}
use Rattle.std.proofs.lemmas.Int.{ints}
use Rattle.std.specs.Int.{int_max, int_min}
use Rattle.std.specs.Ordering.{int_eq}
use Rattle.contract.specs.Names.declared.party.Party.{Party}
use Rattle.contract.specs.Names.declared.payee.Payee.{Payee}
use Rattle.contract.specs.Names.declared.payee.Payee.TheVariants.{Account as ToAccount, Party as ToParty}
use Rattle.contract.specs.Names.declared.token.Token.{Token}
use Rattle.contract.specs.declared.fault.SemFault.TheVariants.{Ambiguous}
use Rattle.contract.specs.declared.interval.Interval.{Interval}
use Rattle.contract.specs.Tree.{ValueTree, available_money, constant, neg_value, add_value, sub_value, mul_value, div_value, choice_value, time_interval_start, time_interval_end, use_value, cond_value}
use Rattle.contract.specs.Tree.{ObservationTree, and_obs, or_obs, not_obs, chose_something, value_ge, value_gt, value_lt, value_le, value_eq, true_obs, false_obs}
use Rattle.contract.specs.Tree.{ContractTree, CaseTrees, close, pay, if_obs, when, let_be, assert}
use Rattle.contract.specs.States.States.{StateMaps}
use Rattle.semantics.specs.Evaluation.Evaluation.{quotient, eval, visited, holds}
use Rattle.semantics.specs.Walk.{standing, Walk, ended}
use Rattle.semantics.specs.Reduction.{Reduction, balance, debited, credited, paying_lesser, not_paying, binding, timing_out}
use Rattle.semantics.specs.Settling.{reduction_then}
use Rattle.semantics.specs.Computed.{pay_step, settled}
use Rattle.keeping_up.specs.KeepsUp.{asks_for, waits_behind, waits_at}
use Rattle.loss_walk.specs.declared.quiet.Quiet.{Quiet}
use Rattle.loss_walk.specs.Cuts.{is_timeless, holds_timeless, after_reading, after_timeout, is_cut}

both_true : (a b : Bool) → a && b ≡ true → (a ≡ true) × (b ≡ true)
both_true true b e = (refl, e)
both_true false b e = absurd (cc)

-- ---- what reads no time is the same at all times

module _ (i j : Interval) (s : StateMaps) (now : ℤ) where
  abbrev at_now : StateMaps
  at_now = record s { min_time = now }

  mutual
    same_number : (v : ValueTree) → is_timeless v ≡ true → eval j at_now v ≡ eval i s v
    same_number (available_money p t) h = refl
    same_number (constant n) h = refl
    same_number (neg_value v) h = ap neg_ℤ (same_number v h)
    same_number (add_value v w) h = let k = both_true (is_timeless v) (is_timeless w) h in (λ n. same_number v k.0 n +ℤ same_number w k.1 n)
    same_number (sub_value v w) h = let k = both_true (is_timeless v) (is_timeless w) h in (λ n. same_number v k.0 n -ℤ same_number w k.1 n)
    same_number (mul_value v w) h = let k = both_true (is_timeless v) (is_timeless w) h in (λ n. same_number v k.0 n *ℤ same_number w k.1 n)
    same_number (div_value v w) h = let k = both_true (is_timeless v) (is_timeless w) h in (λ n. quotient (same_number v k.0 n) (same_number w k.1 n))
    same_number (choice_value id) h = refl
    same_number time_interval_start h = absurd (cc)
    same_number time_interval_end h = absurd (cc)
    same_number (use_value x) h = refl
    same_number (cond_value o v w) h =
        let k = both_true (holds_timeless o) (is_timeless v && is_timeless w) h in
        let l = both_true (is_timeless v) (is_timeless w) k.1 in
        (λ n. cond (same_truth o k.0 n) (same_number v l.0 n) (same_number w l.1 n))

    same_truth : (o : ObservationTree) → holds_timeless o ≡ true → holds j at_now o ≡ holds i s o
    same_truth (and_obs o q) h = let k = both_true (holds_timeless o) (holds_timeless q) h in (λ n. same_truth o k.0 n && same_truth q k.1 n)
    same_truth (or_obs o q) h = let k = both_true (holds_timeless o) (holds_timeless q) h in (λ n. same_truth o k.0 n || same_truth q k.1 n)
    same_truth (not_obs o) h = ap not (same_truth o h)
    same_truth (chose_something id) h = refl
    same_truth (value_ge v w) h = let k = both_true (is_timeless v) (is_timeless w) h in (λ n. int_le (same_number w k.1 n) (same_number v k.0 n))
    same_truth (value_gt v w) h = let k = both_true (is_timeless v) (is_timeless w) h in (λ n. int_lt (same_number w k.1 n) (same_number v k.0 n))
    same_truth (value_lt v w) h = let k = both_true (is_timeless v) (is_timeless w) h in (λ n. int_lt (same_number v k.0 n) (same_number w k.1 n))
    same_truth (value_le v w) h = let k = both_true (is_timeless v) (is_timeless w) h in (λ n. int_le (same_number v k.0 n) (same_number w k.1 n))
    same_truth (value_eq v w) h = let k = both_true (is_timeless v) (is_timeless w) h in (λ n. int_eq (same_number v k.0 n) (same_number w k.1 n))
    same_truth true_obs h = refl
    same_truth false_obs h = refl

-- ---- a step, and then the same wait

module _ (party : Party) (now : ℤ) (s : StateMaps) where
  abbrev moment : Interval
  moment = record { from = now; to = now }

  abbrev here : StateMaps
  here = record s { min_time = now }

  -- a Pay leaves the same state, but for the minimum time
  paid_same : (p : Party) (y : Payee) (t : Token) (due : ℤ) (ns ms : List ℤ) (c d : ContractTree) → (pay_step here p y t due ns c).state ≡ record ((pay_step s p y t due ms d).state) { min_time = now }
  paid_same p y t due ns ms c d = by_test (int_lt (pos 0) due)
    where
      by_payee : (z : Payee) (n : ℤ) → credited (debited here p t n) z t n ≡ record (credited (debited s p t n) z t n) { min_time = now }
      by_payee (ToAccount q) n = refl
      by_payee (ToParty q) n = refl

      by_test : (b : Bool) → let r : Reduction = cond b (paying_lesser here p y t due ns c) (not_paying here p y t due ns c) in
          let e : Reduction = cond b (paying_lesser s p y t due ms d) (not_paying s p y t due ms d) in r.state ≡ record (e.state) { min_time = now }
      by_test true = by_payee y (int_min (balance s p t) due)
      by_test false = refl

  waits_pay : (i : Interval) (p : Party) (y : Payee) (t : Token) (v : ValueTree) (c : ContractTree) → is_timeless v ≡ true → let r = pay_step s p y t (eval i s v) (visited i s v) c in
      waits_at party now (standing s (pay p y t v c)) ≡ waits_at party now (standing r.state c)
  waits_pay i p y t v c h =
      ap (λ (n : ℤ). waits_behind party (settled moment (pay_step here p y t n (visited moment here v) c).state c).end) (same_number i moment s now v h)
      ∙ ap (λ (u : StateMaps). waits_behind party (settled moment u c).end) (paid_same p y t (eval i s v) (visited moment here v) (visited i s v) c c)

  waits_let : (i : Interval) (x : List ℕ) (v : ValueTree) (c : ContractTree) → is_timeless v ≡ true → let r = binding s x (eval i s v) (visited i s v) c in
      waits_at party now (standing s (let_be x v c)) ≡ waits_at party now (standing r.state c)
  waits_let i x v c h = ap (λ (n : ℤ). waits_behind party (settled moment (binding here x n (visited moment here v) c).state c).end) (same_number i moment s now v h)

  chosen : (b e : Bool) (w v : Walk) → e ≡ b → waits_behind party (cond e w v).end ≡ waits_behind party (cond b w v).end
  chosen b e w v q = ap (λ (x : Bool). waits_behind party (cond x w v).end) q

  waits_if : (i : Interval) (o : ObservationTree) (c d : ContractTree) (b : Bool) → holds_timeless o ≡ true → holds i s o ≡ b → waits_at party now (standing s (if_obs o c d)) ≡ waits_at party now (standing s (cond b c d))
  waits_if i o c d true h q = chosen true (holds moment here o) (settled moment here c) (settled moment here d) (same_truth i moment s now o h ∙ q)
  waits_if i o c d false h q = chosen false (holds moment here o) (settled moment here c) (settled moment here d) (same_truth i moment s now o h ∙ q)

  -- a When: before its timeout it waits, and then its continuation does
  waits_before : (ks : CaseTrees) (t : ℤ) (c : ContractTree) → int_lt now t ≡ true → asks_for party ks ≡ true → waits_at party now (standing s (when ks t c)) ≡ Some t
  waits_before ks t c e f =
      ap
      (λ (b : Bool). waits_behind party (cond b (ended (Ok (standing here (when ks t c)))) (cond (int_le t now) (reduction_then (timing_out here c) (settled moment here c)) (ended (Err Ambiguous)))).end) e
      ∙ ap (λ (b : Bool). cond b (Some t) None) f

  waits_after : (ks : CaseTrees) (t : ℤ) (c : ContractTree) → int_lt now t ≡ false → int_le t now ≡ true → waits_at party now (standing s (when ks t c)) ≡ waits_at party now (standing s c)
  waits_after ks t c e f =
      ap
      (λ (b : Bool). waits_behind party (cond b (ended (Ok (standing here (when ks t c)))) (cond (int_le t now) (reduction_then (timing_out here c) (settled moment here c)) (ended (Err Ambiguous)))).end) e
      ∙ ap (λ (b : Bool). waits_behind party (cond b (reduction_then (timing_out here c) (settled moment here c)) (ended (Err Ambiguous))).end) f

-- ---- what waits waits up to a later time

module _ (party : Party) (i : Interval) (time : ℤ) where
  lt_is : (a b : ℤ) → int_lt a b ≡ true → a <ℤ b
  lt_is a b h = grind (arith, ints)

  at_when : (s : StateMaps) (ks : CaseTrees) (t : ℤ) (c : ContractTree) (w : Walk) (a b : Bool) → int_lt i.to t ≡ a → (waits_behind party w.end ≡ Some time → i.to <ℤ time)
      → waits_behind party (cond a (ended (Ok (standing s (when ks t c)))) (cond b (reduction_then (timing_out s c) w) (ended (Err Ambiguous)))).end ≡ Some time → i.to <ℤ time
  at_when s ks t c w true b e go h = asked (asks_for party ks) h
    where
      asked : (x : Bool) → cond x (Some t) None ≡ Some time → i.to <ℤ time
      asked true q = subst (λ (n : ℤ). i.to <ℤ n) (let k : t ≡ time = cc in k) (lt_is i.to t e)
      asked false q = absurd (let k : ◌≡◌ {A = Option ℤ} None (Some time) = q in cc)
  at_when s ks t c w false true e go h = go h
  at_when s ks t c w false false e go h = absurd (let k : ◌≡◌ {A = Option ℤ} None (Some time) = h in cc)

  either : (w v : Walk) (b : Bool) → (waits_behind party w.end ≡ Some time → i.to <ℤ time) → (waits_behind party v.end ≡ Some time → i.to <ℤ time) → waits_behind party (cond b w v).end ≡ Some time → i.to <ℤ time
  either w v true f g h = f h
  either w v false f g h = g h

  pub waits_longer : (s : StateMaps) (c : ContractTree) → waits_behind party (settled i s c).end ≡ Some time → i.to <ℤ time
  waits_longer s close h = absurd (let k : ◌≡◌ {A = Option ℤ} None (Some time) = h in cc)
  waits_longer s (pay p y t v c) h = waits_longer (pay_step s p y t (eval i s v) (visited i s v) c).state c h
  waits_longer s (if_obs o c d) h = either (settled i s c) (settled i s d) (holds i s o) (waits_longer s c) (waits_longer s d) h
  waits_longer s (when ks t c) h = at_when s ks t c (settled i s c) (int_lt i.to t) (int_le t i.from) refl (waits_longer s c) h
  waits_longer s (let_be x v c) h = waits_longer (binding s x (eval i s v) (visited i s v) c).state c h
  waits_longer s (assert o c) h = waits_longer s c h

-- ---- who keeps up, in a transaction

lt_true : (a b : ℤ) → a <ℤ b → int_lt a b ≡ true
lt_true a b h = grind (arith, ints)

lt_false : (a b : ℤ) → b ≤ℤ a → int_lt a b ≡ false
lt_false a b h = grind (arith, ints)

le_true : (a b : ℤ) → a ≤ℤ b → int_le a b ≡ true
le_true a b h = grind (arith, ints)

true_lt : (a b : ℤ) → int_lt a b ≡ true → a <ℤ b
true_lt a b h = grind (arith, ints)

module _ (keeper : Option Party) where
  -- at no moment from a time on up to its start did the contract wait for who keeps up, to a time that is over when it starts; or
  -- that isn't known
  abbrev pub Keeps : Bool → ℤ → Interval → StateMaps → ContractTree → Type 0
  Keeps timeless since i s c =
      (p : Party) → keeper ≡ Some p → timeless ≡ true → (now : ℤ) → since ≤ℤ now → now ≤ℤ i.from → IfSome (waits_at p now (standing s c)) (λ time. i.from <ℤ time)

  abbrev pub KeepsBehind : Quiet → Interval → StateMaps → ContractTree → Type 0
  KeepsBehind q = Keeps q.timeless q.latest

  -- behind a step that reads what is timeless, or not
  module _ (q : Quiet) (i : Interval) (s : StateMaps) where
    pub keeps_pay : (p : Party) (y : Payee) (t : Token) (v : ValueTree) (c : ContractTree) → KeepsBehind q i s (pay p y t v c) → KeepsBehind (after_reading q (is_timeless v)) i (pay_step s p y t (eval i s v) (visited i s v) c).state c
    keeps_pay p y t v c h w is timeless now g l =
        let k = both_true q.timeless (is_timeless v) timeless in
        subst (λ (o : Option ℤ). IfSome o (λ time. i.from <ℤ time)) (waits_pay w now s i p y t v c k.1) (h w is k.0 now g l)

    pub keeps_let : (x : List ℕ) (v : ValueTree) (c : ContractTree) → KeepsBehind q i s (let_be x v c) → KeepsBehind (after_reading q (is_timeless v)) i (binding s x (eval i s v) (visited i s v) c).state c
    keeps_let x v c h w is timeless now g l =
        let k = both_true q.timeless (is_timeless v) timeless in
        subst (λ (o : Option ℤ). IfSome o (λ time. i.from <ℤ time)) (waits_let w now s i x v c k.1) (h w is k.0 now g l)

    pub keeps_if : (o : ObservationTree) (c d : ContractTree) (b : Bool) → holds i s o ≡ b → KeepsBehind q i s (if_obs o c d) → KeepsBehind (after_reading q (holds_timeless o)) i s (cond b c d)
    keeps_if o c d b e h w is timeless now g l =
        let k = both_true q.timeless (holds_timeless o) timeless in
        subst (λ (x : Option ℤ). IfSome x (λ time. i.from <ℤ time)) (waits_if w now s i o c d b k.1 e) (h w is k.0 now g l)

  -- behind a timeout
  pub keeps_timeout : (q : Quiet) (since : ℤ) (i : Interval) (s : StateMaps) (ks : CaseTrees) (t : ℤ) (c : ContractTree) → since ≤ℤ int_max q.latest t → Keeps q.timeless since i s (when ks t c) → KeepsBehind (after_timeout q t) i s c
  keeps_timeout q since i s ks t c late h w is timeless now g l =
      let after = over q.latest t now g in
      subst (λ (o : Option ℤ). IfSome o (λ time. i.from <ℤ time)) (waits_after w now s ks t c (lt_false now t after) (le_true t now after)) (h w is timeless now (reaches since (int_max q.latest t) now late g) l)
    where
      reaches : (a b c : ℤ) → a ≤ℤ b → b ≤ℤ c → a ≤ℤ c
      reaches a b c h k = omega (arith, ints)

      over : (a b c : ℤ) → int_max a b ≤ℤ c → b ≤ℤ c
      over a b c h = by_test (int_lt b a) refl h
        where
          below : (a b c : ℤ) → int_lt b a ≡ true → a ≤ℤ c → b ≤ℤ c
          below a b c e h = let k = true_lt b a e in omega (arith, ints)

          by_test : (x : Bool) → int_lt b a ≡ x → cond x a b ≤ℤ c → b ≤ℤ c
          by_test true e h = below a b c e h
          by_test false e h = h

  -- behind an input: no moment is so late but its own, and what waits then waits up to a later time
  pub keeps_behind : (q : Quiet) (i : Interval) (s : StateMaps) (c : ContractTree) → i.from ≤ℤ q.latest → KeepsBehind q i s c
  keeps_behind q i s c late w is timeless now g l =
      if_waits (waits_at w now (standing s c)) (λ time waits. no_later q.latest now i.from time g late (waits_longer w (record { from = now; to = now }) time (record s { min_time = now }) c waits))
    where
      if_waits : (o : Option ℤ) → ((time : ℤ) → o ≡ Some time → i.from <ℤ time) → IfSome o (λ time. i.from <ℤ time)
      if_waits None f = tt
      if_waits (Some time) f = f time refl

      no_later : (a b c d : ℤ) → a ≤ℤ b → c ≤ℤ a → b <ℤ d → c <ℤ d
      no_later a b c d h k l = omega (arith, ints)

  cut_means : (o : Option Party) (q : Quiet) (ks : CaseTrees) (t : ℤ) → is_cut o q ks t ≡ true → (p : Party) × (o ≡ Some p) × (asks_for p ks ≡ true) × (q.timeless ≡ true) × (q.latest <ℤ t)
  cut_means None q ks t h = absurd (cc)
  cut_means (Some p) q ks t h =
      let k = both_true (q.timeless && int_lt q.latest t) (asks_for p ks) h in
      let l = both_true q.timeless (int_lt q.latest t) k.0 in
      (p, refl, k.1, l.0, true_lt q.latest t l.1)

  -- so a When that is cut isn't left by its timeout
  pub never_left : (q : Quiet) (since : ℤ) (i : Interval) (s : StateMaps) (ks : CaseTrees) (t : ℤ) (c : ContractTree) → (q.latest <ℤ t → since <ℤ t) → Keeps q.timeless since i s (when ks t c) → is_cut keeper q ks t ≡ true
      → t ≤ℤ i.from → ⊥
  never_left q since i s ks t c early h cut left =
      let k = cut_means keeper q ks t cut in
      let e = early k.4 in
      let there = h k.0 k.1 k.3 since (le_itself since) (in_time since t i.from e left) in
      let late : i.from <ℤ t = subst (λ (o : Option ℤ). IfSome o (λ time. i.from <ℤ time)) (waits_before k.0 since s ks t c (lt_true since t e) k.2) there in
      not_both i.from t late left
    where
      le_itself : (a : ℤ) → a ≤ℤ a
      le_itself a = omega (arith, ints)

      in_time : (a b c : ℤ) → a <ℤ b → b ≤ℤ c → a ≤ℤ c
      in_time a b c h k = omega (arith, ints)

      not_both : (a b : ℤ) → a <ℤ b → b ≤ℤ a → ⊥
      not_both a b h k = omega (arith, ints)
