-- The parts of a transaction.
use Rattle.std.proofs.Common.{◌≡◌, ℕ, ◌+◌, ◌<◌, ◌≤◌, ◌==◌, ℤ, ◌≤ℤ◌, ◌<ℤ◌, Bool, true, false, cond, ◌&&◌, List, [], ◌∷◌, ◌++◌, length, get_or, drop, map, int_lt, int_le, refl, sym, ap, ◌∙◌, Result, Ok, Err, is_ok, Option, Some, None, subst, arith}
use Rattle.std.specs.Prelude.{slice_get}
use Rattle.std.specs.Option.{is_none}
use Rattle.std.proofs.lemmas.List.{at_drop_more, drop_all}
use Rattle.std.proofs.lemmas.Bool.Decides.{nat_tests}
use Rattle.std.specs.FinMap.{entries, empty}
use Rattle.contract.specs.Names.declared.account.Account.{Account}
use Rattle.contract.specs.declared.fault.SemFault.{SemFault}
use Rattle.contract.specs.declared.fault.SemFault.TheVariants.{InvalidInterval, IntervalInPast, Useless, Ambiguous, Memory}
use Rattle.contract.specs.declared.input.Input.{Input}
use Rattle.contract.specs.declared.interval.Interval.{Interval}
use Rattle.contract.specs.States.States.{StateMaps}
use Rattle.contract.specs.Tree.{ContractTree, close, pay, if_obs, when, let_be, assert}
use Rattle.semantics.specs.Walk.{Turn, refund, Standing, standing, Walk, ended, joined, then_from, then_walk, answer_of}
use Rattle.contract.specs.Collections.Answers.{Aside}
use Rattle.evaluation.specs.Evaluation.{eval, visited, holds, looked}
use Rattle.evaluation.specs.Path.{waits_for}
use Rattle.semantics.specs.Reduction.{Reduction, refund_of, choosing, timing_out, binding, asserting}
use Rattle.semantics.specs.Settling.{reduction_then}
use Rattle.semantics.specs.Transaction.{trimmed, finished}
use Rattle.semantics.specs.Computed.{pay_step, settled, first_match, first_match_index, tried_to_match, take_match, applied, one_input, all_inputs, from_start, computed}
use Rattle.semantics.specs.Reduced.{fixed, is_quiet, is_none_left}
use Rattle.semantics.proofs.Integers.{lt_true, lt_false}
use Rattle.semantics.proofs.Walks.{Follows, follows, fails_first, finished_fails, finished_busy, Busy, busy_then, and_false}

-- ---- whether anything was done

busy_match : (s : StateMaps) (x : Input) (ns : List ℤ) (n : ℕ) (o : Option ContractTree) → Busy (take_match s x ns n o)
busy_match s x ns n None = refl
busy_match s x ns n (Some c) = refl

busy_input : (i : Interval) (x : Input) (a : Standing) → Busy (one_input i x a)
unfolding one_input applied
busy_input i x a =
    let ks = waits_for a.contract in
    busy_then (applied i x a) (λ b. settled i b.state b.contract) (busy_match a.state x (tried_to_match i a.state x ks) (first_match_index i a.state x ks) (first_match i a.state x ks))

-- a contract that isn't quiet takes a turn, or ends with a fault
busy_refunds : (s : StateMaps) (es : List (Account × ℤ)) → is_none_left es ≡ false → true && is_none (slice_get (map (λ _. refund) es) 0) ≡ false
busy_refunds s [] h = absurd (cc)
busy_refunds s (e ∷ es) h = refl

busy_after : (r : Reduction) (w : Walk) → Busy (reduction_then r w)
busy_after r w = and_false (is_ok w.end) false refl

busy_when : (b d : Bool) (a : Standing) (r : Reduction) (w : Walk) → b ≡ false → Busy (cond b (ended (Ok a)) (cond d (reduction_then r w) (ended (Err Ambiguous))))
busy_when true d a r w h = absurd (cc)
busy_when false true a r w h = busy_after r w
busy_when false false a r w h = refl

busy_settled : (i : Interval) (s : StateMaps) (c : ContractTree) → is_quiet i s c ≡ false → Busy (settled i s c)
busy_settled i s close h = busy_refunds s (entries s.accounts) h
busy_settled i s (pay p y t v c) h = let r = pay_step s p y t (eval i s v) (visited i s v) c in busy_after r (settled i r.state c)
busy_settled i s (if_obs o c d) h = busy_after (choosing s (holds i s o) (looked i s o) c d) (cond (holds i s o) (settled i s c) (settled i s d))
busy_settled i s (let_be x v c) h = let r = binding s x (eval i s v) (visited i s v) c in busy_after r (settled i r.state c)
busy_settled i s (assert o c) h = busy_after (asserting s (holds i s o) (looked i s o) c) (settled i s c)
busy_settled i s (when ks t c) h = busy_when (int_lt i.to t) (int_le t i.from) (standing s (when ks t c)) (timing_out s c) (settled i s c) h

turns_after : (b : Bool) (ts us : List Turn) → b && is_none (slice_get us 0) ≡ false → b && is_none (slice_get (ts ++ us) 0) ≡ false
turns_after b [] us h = h
turns_after b (t ∷ ts) us h = and_false b false refl

-- what is done later counts, too
busy_later : (w : Walk) (end : Result Standing SemFault) (f : Standing → Walk) → w.end ≡ end → ((a : Standing) → Busy (f a)) → Busy (then_from w end f)
busy_later w (Ok a) f q h = turns_after (is_ok (f a).end) w.turns (f a).turns (h a)
busy_later w (Err e) f q h = rw q refl

-- where an input is brought, or the contract isn't quiet, something is done or a fault is met
busy_by : (i : Interval) (s : StateMaps) (c : ContractTree) (xs : List Input) (b : Bool) → is_quiet i s c ≡ b → (length xs == 0) && b ≡ false → Busy (then_walk (settled i s c) (all_inputs i xs))
busy_by i s c xs false q h = busy_then (settled i s c) (all_inputs i xs) (busy_settled i s c q)
busy_by i s c [] true q h = absurd (cc)
busy_by i s c (x ∷ xs) true q h =
    busy_later (settled i s c) (settled i s c).end (all_inputs i (x ∷ xs)) refl (λ a. busy_then (one_input i x a) (all_inputs i xs) (busy_input i x a))

-- where nothing is done, the transaction is useless
useless_refunds : (es : List (Account × ℤ)) (a : Standing) → is_none_left es ≡ true →
    answer_of (finished (joined (record { numbers = []; warnings = []; payments = map refund_of es; turns = map (λ _. refund) es; end = Ok a }) (ended (Ok a)))) ≡ Err Useless
useless_refunds [] a h = refl
useless_refunds (e ∷ es) a h = absurd (cc)

useless_when : (i : Interval) (b d : Bool) (a : Standing) (w : Walk) → b ≡ true → answer_of (finished (then_walk (cond b (ended (Ok a)) (cond d w (ended (Err Ambiguous)))) (all_inputs i []))) ≡ Err Useless
useless_when i true d a w h = refl
useless_when i false d a w h = absurd (cc)

useless : (i : Interval) (s : StateMaps) (c : ContractTree) → is_quiet i s c ≡ true → answer_of (finished (then_walk (settled i s c) (all_inputs i []))) ≡ Err Useless
useless i s close h = useless_refunds (entries s.accounts) (standing (record s { accounts = empty }) close) h
useless i s (pay p y t v c) h = absurd (cc)
useless i s (if_obs o c d) h = absurd (cc)
useless i s (let_be x v c) h = absurd (cc)
useless i s (assert o c) h = absurd (cc)
useless i s (when ks t c) h = useless_when i (int_lt i.to t) (int_le t i.from) (standing s (when ks t c)) (reduction_then (timing_out s c) (settled i s c)) h

none_brought : (xs : List Input) → true ≡ (length xs == 0) → xs ≡ []
none_brought [] h = refl
none_brought (x ∷ xs) h = absurd (omega (arith, eqb_zero h))
  where
    eqb_zero : true ≡ (length (x ∷ xs) == 0) → length (x ∷ xs) ≡ 0
    eqb_zero k = grind (arith, nat_tests)

-- ---- from the interval on

abbrev by_tests : Bool → Bool → Interval → StateMaps → ContractTree → List Input → Walk
by_tests b d i s c xs = cond b (ended (Err InvalidInterval)) (cond d (ended (Err IntervalInPast)) (from_start (trimmed i s) s c xs))

-- what holds of both refusals, and of what follows the interval, holds of a transaction
module _ (P : Walk → Type 0) (i : Interval) (s : StateMaps) (c : ContractTree) (xs : List Input) (invalid : P (ended (Err InvalidInterval))) (past : P (ended (Err IntervalInPast))) (well : P (from_start (trimmed i s) s c xs)) where
  by_interval : (b d : Bool) → P (by_tests b d i s c xs)
  by_interval true d = invalid
  by_interval false true = past
  by_interval false false = well

  pub computed_by : P (computed i s c xs)
  unfolding computed
  computed_by = by_interval (int_lt i.to i.from) (int_lt i.to s.min_time)

pub computed_invalid : (i : Interval) (s : StateMaps) (c : ContractTree) (xs : List Input) → i.to <ℤ i.from → computed i s c xs ≡ ended (Err InvalidInterval)
unfolding computed
computed_invalid i s c xs h = rw (lt_true i.to i.from h) refl

pub computed_past : (i : Interval) (s : StateMaps) (c : ContractTree) (xs : List Input) → i.from ≤ℤ i.to → i.to <ℤ s.min_time → computed i s c xs ≡ ended (Err IntervalInPast)
unfolding computed
computed_past i s c xs h k = rw (lt_false i.to i.from h, lt_true i.to s.min_time k) refl

pub computed_well : (i : Interval) (s : StateMaps) (c : ContractTree) (xs : List Input) → i.from ≤ℤ i.to → s.min_time ≤ℤ i.to → computed i s c xs ≡ from_start (trimmed i s) s c xs
unfolding computed
computed_well i s c xs h k = rw (lt_false i.to i.from h, lt_false i.to s.min_time k) refl

-- what follows from how the interval is fixed
abbrev from_fixed : Result Interval SemFault → StateMaps → ContractTree → List Input → Walk
from_fixed (Err f) s c xs = ended (Err f)
from_fixed (Ok i) s c xs = from_start i s c xs

tests_fix : (i : Interval) (s : StateMaps) (c : ContractTree) (xs : List Input) (b d : Bool) → by_tests b d i s c xs ≡ from_fixed (cond b (Err InvalidInterval) (cond d (Err IntervalInPast) (Ok (trimmed i s)))) s c xs
tests_fix i s c xs true d = refl
tests_fix i s c xs false true = refl
tests_fix i s c xs false false = refl

computed_is : (i : Interval) (s : StateMaps) (c : ContractTree) (xs : List Input) → computed i s c xs ≡ from_fixed (fixed i s) s c xs
unfolding computed
computed_is i s c xs = tests_fix i s c xs (int_lt i.to i.from) (int_lt i.to s.min_time)

pub computed_refused : (i : Interval) (s : StateMaps) (c : ContractTree) (xs : List Input) (f : SemFault) → Err f ≡ fixed i s → Aside Memory (Err f) (answer_of (computed i s c xs))
computed_refused i s c xs f h = λ _. ap answer_of (computed_is i s c xs) ∙ sym (ap (λ r. answer_of (from_fixed r s c xs)) h)

pub computed_fixed : (i : Interval) (s : StateMaps) (j : Interval) (t : StateMaps) (c : ContractTree) (xs : List Input) → Ok j ≡ fixed i s → t ≡ record s { min_time = j.from } →
    computed i s c xs ≡ finished (then_walk (settled j t c) (all_inputs j xs))
unfolding from_start
computed_fixed i s j t c xs h k = computed_is i s c xs ∙ ap (λ r. from_fixed r s c xs) (sym h) ∙ ap (λ u. finished (then_walk (settled j u c) (all_inputs j xs))) (sym k)

pub computed_useless : (i : Interval) (s : StateMaps) (j : Interval) (t : StateMaps) (c : ContractTree) (xs : List Input) → Ok j ≡ fixed i s → t ≡ record s { min_time = j.from } →
    true ≡ (length xs == 0) → true ≡ is_quiet j t c → Aside Memory (Err Useless) (answer_of (computed i s c xs))
computed_useless i s j t c xs h k p q =
    λ _. ap answer_of (computed_fixed i s j t c xs h k) ∙ (ap (λ ys. answer_of (finished (then_walk (settled j t c) (all_inputs j ys)))) (none_brought xs p) ∙ useless j t c (sym q))

pub computed_fails : (i : Interval) (s : StateMaps) (j : Interval) (t : StateMaps) (c : ContractTree) (xs : List Input) (f : SemFault) → Ok j ≡ fixed i s → t ≡ record s { min_time = j.from } →
    Aside Memory (Err f) (answer_of (settled j t c)) → Aside Memory (Err f) (answer_of (computed i s c xs))
computed_fails i s j t c xs f h k q =
    rw (computed_fixed i s j t c xs h k) (finished_fails (then_walk (settled j t c) (all_inputs j xs)) f (fails_first (settled j t c) (all_inputs j xs) f q))

-- something is done
pub computed_busy : (i : Interval) (s : StateMaps) (j : Interval) (t : StateMaps) (c : ContractTree) (xs : List Input) (a : Standing) → Ok j ≡ fixed i s → t ≡ record s { min_time = j.from } →
    (length xs == 0) && is_quiet j t c ≡ false → answer_of (settled j t c) ≡ Ok a →
    Follows (computed i s c xs) (all_inputs j xs a) (settled j t c).warnings (settled j t c).payments (settled j t c).turns
computed_busy i s j t c xs a h k q r =
    let b = finished_busy (then_walk (settled j t c) (all_inputs j xs)) (busy_by j t c xs (is_quiet j t c) refl q) in
    let e = computed_fixed i s j t c xs h k ∙ b in
    subst (λ w. Follows w (all_inputs j xs a) (settled j t c).warnings (settled j t c).payments (settled j t c).turns) (sym e) (follows (settled j t c) (all_inputs j xs) a r)

pub not_left : (a b : Bool) → false ≡ a → a && b ≡ false
not_left true b h = absurd (cc)
not_left false b h = refl

pub not_right : (a b : Bool) → false ≡ b → a && b ≡ false
not_right true b h = sym h
not_right false b h = refl

-- ---- one input after another

pub inputs_here : (i : Interval) (xs : List Input) (n : ℕ) (x : Input) (a : Standing) → n < length xs → x ≡ get_or xs n x → all_inputs i (drop n xs) a ≡ then_walk (one_input i x a) (all_inputs i (drop (n + 1) xs))
inputs_here i xs n x a h e =
    at_drop_more (λ ys. all_inputs i ys a) xs n x h ∙ ap (λ y. then_walk (one_input i y a) (all_inputs i (drop (n + 1) xs))) (sym e)

pub inputs_done : (i : Interval) (xs : List Input) (n : ℕ) (a : Standing) → length xs ≤ n → all_inputs i (drop n xs) a ≡ ended (Ok a)
inputs_done i xs n a h = ap (λ ys. all_inputs i ys a) (drop_all n xs h)
