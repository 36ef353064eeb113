-- From the last timeout on a contract runs to its end.
use Rattle.std.proofs.Common.{◌≡◌, ℤ, pos, ◌+ℤ◌, ◌≤ℤ◌, int_lt, Bool, true, false, cond, List, [], ◌∷◌, ◌++◌, refl, sym, ap, ◌∙◌, subst, arith, Result, Ok, Err, Option, Some, None, inl, inr, append-nil}
use Rattle.std.specs.Prelude.{map, slice_get}
use Rattle.std.specs.Option.{is_none}
use Rattle.std.proofs.lemmas.Int.{ints}
use Rattle.std.specs.FinMap.{entries, empty, entries-from_sorted}
use Rattle.contract.specs.Collections.Total.{total}
use Rattle.contract.proofs.FromCollections.Maps.{no_entries}
use Rattle.contract.specs.Names.Orders.{account_cmp}
use Rattle.contract.specs.Names.declared.token.Token.{Token}
use Rattle.contract.specs.Names.declared.account.Account.{Account}
use Rattle.contract.specs.declared.fault.SemFault.{SemFault}
use Rattle.contract.specs.declared.fault.SemFault.TheVariants.{Useless, Leaves128}
use Rattle.contract.specs.declared.interval.Interval.{Interval}
use Rattle.contract.specs.States.States.{StateMaps, total_of, in_token}
use Rattle.contract.specs.Tree.{ContractTree, close, pay, if_obs, when, let_be, assert}
use Rattle.evaluation.specs.Evaluation.{eval, visited, holds}
use Rattle.evaluation.specs.Numbers.{all_fit}
use Rattle.evaluation.specs.Timeouts.{later, last, last_in}
use Rattle.semantics.specs.Walk.{Standing, standing, Walk, refund, then_from, then_walk, answer_of}
use Rattle.semantics.specs.Reduction.{binding}
use Rattle.semantics.specs.Transaction.{trimmed, begun, finished}
use Rattle.semantics.specs.Computed.{pay_step, settled, all_inputs, from_start, computed}
use Rattle.semantics.specs.Money.{paid_out}
use Rattle.semantics.specs.Closing.{HasReached, IsSpent, ClosesSo, ClosesAfterLast, SpentIsUseless}
use Rattle.semantics.proofs.Integers.{lt_false, le_true, reaches}
use Rattle.semantics.proofs.Computing.{computed_well}
use Rattle.semantics.proofs.MoneyKept.{money_is_kept}

-- ---- times

max_left : (a b t : ℤ) (c : Bool) → int_lt b a ≡ c → cond c a b ≤ℤ t → a ≤ℤ t
max_left a b t true e h = h
max_left a b t false e h = grind (arith, ints)

max_right : (a b t : ℤ) (c : Bool) → int_lt b a ≡ c → cond c a b ≤ℤ t → b ≤ℤ t
max_right a b t true e h = grind (arith, ints)
max_right a b t false e h = h

-- both of two times are reached where the later one is
reached_first : (a b : Option ℤ) (t : ℤ) → HasReached (later a b) t → HasReached a t
reached_first None b t h = tt
reached_first (Some x) None t h = h
reached_first (Some x) (Some y) t h = max_left x y t (int_lt y x) refl h

reached_second : (a b : Option ℤ) (t : ℤ) → HasReached (later a b) t → HasReached b t
reached_second None b t h = h
reached_second (Some x) None t h = tt
reached_second (Some x) (Some y) t h = max_right x y t (int_lt y x) refl h

-- ---- a settling

none_left : (s : StateMaps) → entries (record s { accounts = empty }).accounts ≡ []
none_left s = ap entries (sym (no_entries account_cmp)) ∙ entries-from_sorted account_cmp [] tt

-- a part ends at Close without accounts
abbrev Closes : Walk → Type 0
Closes w = (u : StateMaps) × (w.end ≡ Ok (standing u close)) × (entries u.accounts ≡ [])

-- and it does nothing only where there is nothing to do
abbrev IdleIsSpent : StateMaps → ContractTree → Walk → Type 0
IdleIsSpent s c w = is_none (slice_get w.turns 0) ≡ true → IsSpent s c

abbrev Both : StateMaps → ContractTree → Walk → Type 0
Both s c w = Closes w × IdleIsSpent s c w

busy : {A : Type 0} → false ≡ true → A
busy e = absurd (cc)

idle_refunds : {A : Type 0} (es : List A) → is_none (slice_get (map (λ _. refund) es) 0) ≡ true → es ≡ []
idle_refunds [] h = refl
idle_refunds (e ∷ es) h = busy h

either : (b : Bool) (w v : Walk) → Closes w → Closes v → Closes (cond b w v)
either true w v h k = h
either false w v h k = k

settled_closes : (i : Interval) (s : StateMaps) (c : ContractTree) → i.from ≤ℤ i.to → HasReached (last c) i.from → Both s c (settled i s c)
settled_closes i s close g h = ((record s { accounts = empty }, refl, none_left s), λ e. (refl, idle_refunds (entries s.accounts) e))
settled_closes i s (pay p y t v c) g h =
    let r = pay_step s p y t (eval i s v) (visited i s v) c in
    ((settled_closes i r.state c g h).0, busy)
settled_closes i s (if_obs o c d) g h =
    let a = settled_closes i s c g (reached_first (last c) (last d) i.from h) in
    let b = settled_closes i s d g (reached_second (last c) (last d) i.from h) in
    (either (holds i s o) (settled i s c) (settled i s d) a.0 b.0, busy)
settled_closes i s (let_be x v c) g h =
    let r = binding s x (eval i s v) (visited i s v) c in
    ((settled_closes i r.state c g h).0, busy)
settled_closes i s (assert o c) g h = ((settled_closes i s c g h).0, busy)
settled_closes i s (when ks t c) g h =
    let both = reached_first (later (Some t) (last c)) (last_in ks) i.from h in
    let t_reached : t ≤ℤ i.from = reached_first (Some t) (last c) i.from both in
    let k : HasReached (last c) i.from = reached_second (Some t) (last c) i.from both in
    rw (lt_false i.to t (reaches t i.from i.to t_reached g), le_true t i.from t_reached) ((settled_closes i s c g k).0, busy)

-- ---- a transaction without inputs

at_least : (a b t : ℤ) (c : Bool) → int_lt b a ≡ c → a ≤ℤ cond c a b
at_least a b t true e = omega (arith, ints)
at_least a b t false e = grind (arith, ints)

at_most : (a b t : ℤ) (c : Bool) → a ≤ℤ t → b ≤ℤ t → cond c a b ≤ℤ t
at_most a b t true h k = h
at_most a b t false h k = k

reached_later : (o : Option ℤ) (t u : ℤ) → t ≤ℤ u → HasReached o t → HasReached o u
reached_later None t u h k = tt
reached_later (Some x) t u h k = reaches x t u k h

started : (i : Interval) (s : StateMaps) (c : ContractTree) (a : Standing) → (settled i s c).end ≡ Ok a →
    finished (then_walk (settled i s c) (all_inputs i [])) ≡ finished (record (settled i s c) { numbers = (settled i s c).numbers ++ []; warnings = (settled i s c).warnings ++ []; payments = (settled i s c).payments ++ []; turns = (settled i s c).turns ++ []; end = Ok a })
started i s c a e = ap (λ (r : Result Standing SemFault). finished (then_from (settled i s c) r (all_inputs i []))) e

computed_begins : (i : Interval) (s : StateMaps) (c : ContractTree) → i.from ≤ℤ i.to → s.min_time ≤ℤ i.to →
    computed i s c [] ≡ finished (then_walk (settled (trimmed i s) (begun i s) c) (all_inputs (trimmed i s) []))
unfolding from_start
computed_begins i s c g m = computed_well i s c [] g m

nothing_else : (s t p : ℤ) → s +ℤ pos 0 ≡ t +ℤ p → t ≡ pos 0 → p ≡ s
nothing_else s t p h k = omega (arith, ints)

pays_all : (i : Interval) (s : StateMaps) (c : ContractTree) (a : Standing) → (computed i s c []).end ≡ Ok a → entries a.state.accounts ≡ [] →
    (token : Token) → paid_out token (computed i s c []).payments ≡ total_of token s
pays_all i s c a e n token =
    nothing_else (total_of token s) (total_of token a.state) (paid_out token (computed i s c []).payments) (money_is_kept token i s c [] a e) (ap (total (in_token token)) n)

closes_by : (i : Interval) (s : StateMaps) (c : ContractTree) (a : Standing) (b d : Bool) → IsSpent a.state a.contract → (d ≡ true → IsSpent s c) →
    (computed i s c []).end ≡ cond d (Err Useless) (Ok a) → ClosesSo i s c (cond b (cond d (Err Useless) (Ok a)) (Err Leaves128))
closes_by i s c a true true n k e = inr (refl, k refl)
closes_by i s c a true false n k e = (n, pays_all i s c a e n.1)
closes_by i s c a false d n k e = inl refl

pub closes_after_last : ClosesAfterLast
closes_after_last i s c h g m =
    let j = trimmed i s in
    let u : StateMaps = begun i s in
    let k : Both u c (settled j u c) =
    settled_closes j u c (at_most i.from s.min_time i.to (int_lt s.min_time i.from) g m) (reached_later (last c) i.from j.from (at_least i.from s.min_time i.to (int_lt s.min_time i.from) refl) h) in
    let a : Standing = standing k.0.0 close in
    let is = computed_begins i s c g m ∙ started j u c a k.0.1 in
    subst (ClosesSo i s c) (sym (ap answer_of is))
    (closes_by i s c a (all_fit ((settled j u c).numbers ++ [])) (is_none (slice_get ((settled j u c).turns ++ []) 0)) (refl, k.0.2) (λ e. k.1 (subst (λ ts. is_none (slice_get ts 0) ≡ true) (append-nil (settled j u c).turns) e))
    (ap (λ (w : Walk). w.end) is))

spent_close : (i : Interval) (s : StateMaps) → entries s.accounts ≡ [] → i.from ≤ℤ i.to → s.min_time ≤ℤ i.to → answer_of (computed i s close []) ≡ Err Useless
spent_close i s n g m =
    let j = trimmed i s in
    let u : StateMaps = begun i s in
    let a : Standing = standing (record u { accounts = empty }) close in
    ap answer_of (computed_begins i s close g m ∙ started j u close a refl)
    ∙ ap (λ (es : List (Account × ℤ)). cond (is_none (slice_get (map (λ _. refund) es ++ []) 0)) (Err Useless) (Ok a)) n

pub spent_is_useless : SpentIsUseless
spent_is_useless i s c h g m = subst (λ d. answer_of (computed i s d []) ≡ Err Useless) (sym h.0) (spent_close i s h.1 g m)
