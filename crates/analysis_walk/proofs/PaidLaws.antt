-- What parties are paid lies in ranges that hold wherever the contract is closed: from any standing it can be closed, and
-- payments are not below 0.
use Rattle.std.proofs.Common.{◌≡◌, ℤ, pos, ◌+ℤ◌, ◌≤ℤ◌, int_lt, int_le, Bool, true, false, cond, List, [], ◌∷◌, ◌++◌, map, refl, sym, ap, ◌∙◌, subst, arith, Result, Ok, Err, Option, Some, None, IfSome}
use Rattle.std.proofs.lemmas.Int.{ints}
use Rattle.std.proofs.lemmas.List.{append-nil}
use Rattle.std.specs.List.{AllByRecursion}
use Rattle.std.specs.Int.{int_max}
use Rattle.std.specs.Result.{result_unwrap_or}
use Rattle.std.specs.FinMap.{empty, entries}
use Rattle.contract.specs.Collections.Total.{total}
use Rattle.contract.specs.Names.declared.party.Party.{Party}
use Rattle.contract.specs.Names.declared.payee.Payee.{Payee}
use Rattle.contract.specs.Names.declared.payee.Payee.TheVariants.{Account as ToAccount, Party as ToParty}
use Rattle.contract.specs.Names.declared.token.Token.{Token}
use Rattle.contract.specs.Names.Equal.{same_party, same_token}
use Rattle.contract.specs.declared.fault.SemFault.{SemFault}
use Rattle.contract.specs.declared.fault.SemFault.TheVariants.{InvalidInterval, IntervalInPast, Ambiguous}
use Rattle.contract.specs.declared.interval.Interval.{Interval}
use Rattle.contract.specs.declared.payment.Payment.{Payment}
use Rattle.contract.specs.declared.transaction.Transaction.{Transaction}
use Rattle.contract.specs.Tree.{ContractTree, close, pay, if_obs, when, let_be, assert}
use Rattle.contract.specs.States.States.{StateMaps, AllPositive, counted}
use Rattle.semantics.specs.Evaluation.Evaluation.{eval, visited, holds}
use Rattle.semantics.specs.Evaluation.Timeouts.{later, last, last_in}
use Rattle.semantics.specs.Walk.{Standing, standing, Walk, ended, then_from, answer_of}
use Rattle.semantics.specs.Reduction.{refund_of, timing_out, binding}
use Rattle.semantics.specs.Settling.{reduction_then}
use Rattle.semantics.specs.Transaction.{trimmed, finished}
use Rattle.semantics.specs.Closing.{HasReached, IsSpent}
use Rattle.semantics.specs.Naturals.{AreNatural, PaymentsAreNatural, AccountsStayPositive}
use Rattle.semantics.specs.Computed.{pay_step, settled, all_inputs, from_start, computed}
use Rattle.semantics.specs.Laws.{TimeGoesOn}
use Rattle.semantics.specs.Evaluation.Numbers.{all_fit}
use Rattle.analysis_spec.specs.Runs.{walk_from, standing_after, stands_after, payments_of, reaches_party, paid_to}
use Rattle.analysis_spec.specs.Marks.{leads_after, settling}
use Rattle.analysis_spec.specs.Promises.{PaysBetween}
use Rattle.analysis_spec.specs.declared.path.PathStep.{PathStep}
use Rattle.analysis_spec.specs.declared.paid.PaidRange.{PaidRange}
use Rattle.analysis_spec.specs.declared.alarm.Alarm.{Alarm}
use Rattle.analysis_walk.specs.Limits.{any_runs, LiesIn, limits}
use Rattle.analysis_walk.specs.Covered.{Covers}
use Rattle.analysis_walk.specs.Laws.{PaymentsLieInRanges}
use Rattle.analysis_walk.proofs.ListLaws.{all_swap, all_with}
use Rattle.analysis_walk.proofs.NumberLemmas.{le_itself, max_from, max_after, reaches}
use Rattle.analysis_walk.proofs.SoundLemmas.{no_entries, ok_answer, Stands, stands, settles}
use Rattle.analysis_walk.proofs.PromiseLemmas.{may_start_later, all_admitted, accepted_pass, any_pass}

abbrev Positive : StateMaps → Type 0
Positive s = AllPositive (entries s.accounts)

-- ---- after the last timeout a contract settles to Close

-- a walk ends at Close without accounts
abbrev EndsClosed : Walk → Type 0
EndsClosed w = (s : StateMaps) × (w.end ≡ Ok (standing s close)) × (entries s.accounts ≡ [])

later_left : (a b : Option ℤ) (n : ℤ) → HasReached (later a b) n → HasReached a n
later_left None b n h = tt
later_left (Some a) None n h = h
later_left (Some a) (Some b) n h = reaches a (int_max a b) n (max_from a b) h

later_right : (a b : Option ℤ) (n : ℤ) → HasReached (later a b) n → HasReached b n
later_right None b n h = h
later_right (Some a) None n h = tt
later_right (Some a) (Some b) n h = reaches b (int_max a b) n (max_after a b) h

not_before : (t from to : ℤ) → t ≤ℤ from → from ≤ℤ to → int_lt to t ≡ false
not_before t from to h k = grind (arith, ints)

not_after : (t from : ℤ) → t ≤ℤ from → int_le t from ≡ true
not_after t from h = grind (arith, ints)

either_closes : (b : Bool) (w u : Walk) → EndsClosed w → EndsClosed u → EndsClosed (cond b w u)
either_closes true w u h k = h
either_closes false w u h k = k

closes : (j : Interval) → j.from ≤ℤ j.to → (s : StateMaps) (c : ContractTree) → HasReached (last c) j.from → EndsClosed (settled j s c)
closes j v s close h = (record s { accounts = empty }, refl, no_entries)
closes j v s (pay p y t n c) h = closes j v (pay_step s p y t (eval j s n) (visited j s n) c).state c h
closes j v s (if_obs o c d) h =
    either_closes (holds j s o) (settled j s c) (settled j s d) (closes j v s c (later_left (last c) (last d) j.from h)) (closes j v s d (later_right (last c) (last d) j.from h))
closes j v s (when ks t c) h =
    let k = later_left (later (Some t) (last c)) (last_in ks) j.from h in
    let reached : t ≤ℤ j.from = later_left (Some t) (last c) j.from k in
    let w = closes j v s c (later_right (Some t) (last c) j.from k) in
    subst EndsClosed
    (sym (ap (λ b. cond b (ended (Ok (standing s (when ks t c)))) (cond (int_le t j.from) (reduction_then (timing_out s c) (settled j s c)) (ended (Err Ambiguous)))) (not_before t j.from j.to reached v)
    ∙ ap (λ b. cond b (reduction_then (timing_out s c) (settled j s c)) (ended (Err Ambiguous))) (not_after t j.from reached))) w
closes j v s (let_be x n c) h = closes j v (binding s x (eval j s n) (visited j s n) c).state c h
closes j v s (assert o c) h = closes j v s c h

-- ---- sums

pub total_append : {A : Type 0} (f : A → ℤ) (xs ys : List A) → total f (xs ++ ys) ≡ total f xs +ℤ total f ys
total_append f [] ys = omega (arith, ints)
total_append f (x ∷ xs) ys = let e = total_append f xs ys in omega (arith, ints)

natural_share : (party : Party) (token : Token) (p : Payment) → pos 0 ≤ℤ p.amount → pos 0 ≤ℤ reaches_party party p.to (counted token p.token p.amount)
natural_share party token p h = by_payee p.to
  where
    by_test : (b d : Bool) → pos 0 ≤ℤ cond b (cond d p.amount (pos 0)) (pos 0)
    by_test true true = h
    by_test true false = le_itself (pos 0)
    by_test false d = le_itself (pos 0)

    by_payee : (y : Payee) → pos 0 ≤ℤ reaches_party party y (counted token p.token p.amount)
    by_payee (ToParty q) = by_test (same_party party q) (same_token token p.token)
    by_payee (ToAccount q) = le_itself (pos 0)

sum_natural : (a b : ℤ) → pos 0 ≤ℤ a → pos 0 ≤ℤ b → pos 0 ≤ℤ (a +ℤ b)
sum_natural a b h k = omega (arith, ints)

natural_paid : (party : Party) (token : Token) (ps : List Payment) → AreNatural ps → pos 0 ≤ℤ paid_to party token ps
natural_paid party token [] h = le_itself (pos 0)
natural_paid party token (p ∷ ps) h = sum_natural _ _ (natural_share party token p h.0) (natural_paid party token ps h.1)

grows : (a b c : ℤ) → c ≡ a +ℤ b → pos 0 ≤ℤ b → a ≤ℤ c
grows a b c e h = omega (arith, ints)

-- later payments add to what a party is paid
paid_grows : (party : Party) (token : Token) (ps qs : List Payment) → AreNatural qs → paid_to party token ps ≤ℤ paid_to party token (ps ++ qs)
paid_grows party token ps qs h = grows _ _ _ (total_append (λ (p : Payment). reaches_party party p.to (counted token p.token p.amount)) ps qs) (natural_paid party token qs h)

-- ---- a contract that is closed from any standing

natural_left : (ps qs : List Payment) → AreNatural (ps ++ qs) → AreNatural ps
natural_left [] qs h = tt
natural_left (p ∷ ps) qs h = (h.0, natural_left ps qs h.1)

-- a time that a last timeout has reached
reached_by : Option ℤ → ℤ → ℤ
reached_by None n = n
reached_by (Some t) n = int_max t n

reached : (o : Option ℤ) (n : ℤ) → HasReached o (reached_by o n) × (n ≤ℤ reached_by o n)
unfolding reached_by
reached None n = (tt, le_itself n)
reached (Some t) n = (max_from t n, max_after t n)

-- what the transaction without inputs pays there
pays_so : (j : Interval) (s : StateMaps) (c : ContractTree) (d : Standing) → int_lt j.to j.from ≡ false → int_lt j.to s.min_time ≡ false → (settled (trimmed j s) (record s { min_time = (trimmed j s).from }) c).end ≡ Ok d
    → (computed j s c []).payments ≡ (settled (trimmed j s) (record s { min_time = (trimmed j s).from }) c).payments ++ []
unfolding computed from_start
pays_so j s c d h k e =
    let w = settled (trimmed j s) (record s { min_time = (trimmed j s).from }) c in
    ap (λ b. (cond b (ended (Err InvalidInterval)) (cond (int_lt j.to s.min_time) (ended (Err IntervalInPast)) (finished (then_from w w.end (all_inputs (trimmed j s) []))))).payments) h
    ∙ (ap (λ b. (cond b (ended (Err IntervalInPast)) (finished (then_from w w.end (all_inputs (trimmed j s) [])))).payments) k
    ∙ ap (λ r. (finished (then_from w r (all_inputs (trimmed j s) []))).payments) e)

before_itself : (n : ℤ) → int_lt n n ≡ false
before_itself n = grind (arith, ints)

not_past : (a b : ℤ) → a ≤ℤ b → int_lt b a ≡ false
not_past a b h = grind (arith, ints)

max_here : (a b : ℤ) → b ≤ℤ a → int_max a b ≡ a
max_here a b h = by_test (int_lt b a) refl
  where
    same : (a b : ℤ) → int_lt b a ≡ false → b ≤ℤ a → b ≡ a
    same a b e h = grind (arith, ints)

    by_test : (t : Bool) → int_lt b a ≡ t → cond t a b ≡ a
    by_test true e = refl
    by_test false e = same a b e h

-- some more payments, none below 0, close it
can_close : (alarms : List Alarm) (ranges : List PaidRange) → PaymentsAreNatural → (here : List PathStep) (b : Standing) (ps : List Payment) → Positive b.state → Stands (limits any_runs alarms ranges) here b ps
    → (qs : List Payment) × AreNatural qs × AllByRecursion (LiesIn (ps ++ qs)) ranges
can_close alarms ranges N here b ps above h =
    let L = limits any_runs alarms ranges in
    let s = b.state in
    let n = reached_by (last b.contract) s.min_time in
    let r = reached (last b.contract) s.min_time in
    let j : Interval = record { from = n; to = n } in
    let i = trimmed j s in
    let u : StateMaps = record s { min_time = i.from } in
    let same : i.from ≡ n = max_here n s.min_time r.1 in
    let v : i.from ≤ℤ i.to = subst (λ m. m ≤ℤ n) (sym same) (le_itself n) in
    let w = settled i u b.contract in
    let c = closes i v u b.contract (subst (HasReached (last b.contract)) (sym same) r.0) in
    let f = settles L i v tt u ps b.contract here (h i (max_after n s.min_time) v tt) in
    let natural = subst AreNatural (pays_so j s b.contract (standing c.0 close) (before_itself n) (not_past s.min_time n r.1) c.1) (N j s b.contract [] above) in
    let end : AllByRecursion (LiesIn ((ps ++ w.payments) ++ map refund_of (entries c.0.accounts))) ranges = f.rests (any_pass alarms ranges (settling here i u b.contract)) (standing c.0 close) c.1 in
    (w.payments, natural_left w.payments [] natural, subst (λ rs. AllByRecursion (LiesIn rs) ranges) (ap (λ es. (ps ++ w.payments) ++ map refund_of es) c.2 ∙ append-nil (ps ++ w.payments)) end)

-- ---- runs

stays_positive : AccountsStayPositive → (b : Standing) (ts : List Transaction) → Positive b.state → Positive (stands_after b ts).state
stays_positive A b [] h = h
stays_positive A b (t ∷ ts) h = stays_positive A (standing_after b t) ts (by_answer (answer_of (walk_from b t)) refl)
  where
    by_answer : (r : Result Standing SemFault) → answer_of (walk_from b t) ≡ r → Positive (result_unwrap_or r b).state
    by_answer (Ok d) e = A t.interval b.state b.contract t.inputs d h (ok_answer (all_fit (walk_from b t).numbers) (walk_from b t).end d e).1
    by_answer (Err f) e = h

-- where a contract stands closed, what was paid lies in the ranges
closed_so : (alarms : List Alarm) (ranges : List PaidRange) (here : List PathStep) (s : StateMaps) (c : ContractTree) (ps : List Payment) → Stands (limits any_runs alarms ranges) here (standing s c) ps → IsSpent s c → AllByRecursion (LiesIn ps) ranges
closed_so alarms ranges here s c ps h spent =
    let L = limits any_runs alarms ranges in
    let i : Interval = record { from = s.min_time; to = s.min_time } in
    let e : Covers L here i s ps c = h i (le_itself s.min_time) (le_itself s.min_time) tt in
    let k : AllByRecursion (LiesIn (ps ++ map refund_of (entries s.accounts))) ranges = subst (Covers L here i s ps) spent.0 e in
    subst (λ rs. AllByRecursion (LiesIn rs) ranges) (ap (λ es. ps ++ map refund_of es) spent.1 ∙ append-nil ps) k

below : (o : Option ℤ) (a b : ℤ) → a ≤ℤ b → IfSome o (λ n. b ≤ℤ n) → IfSome o (λ n. a ≤ℤ n)
below None a b h k = tt
below (Some n) a b h k = reaches a b n h k

pub payments_lie_in_ranges : TimeGoesOn → PaymentsAreNatural → AccountsStayPositive → PaymentsLieInRanges
payments_lie_in_ranges T N A alarms ranges s c above h =
    let L = limits any_runs alarms ranges in
    let a = standing s c in
    let after : (ts : List Transaction) → Stands L (leads_after [] a ts) (stands_after a ts) (payments_of a ts) = λ ts. stands L (may_start_later any_runs) (accepted_pass alarms ranges any_runs) T [] a [] ts (all_admitted ts) h in
    all_with (λ (r : PaidRange). (ts : List Transaction) → IfSome r.most (λ n. paid_to r.party r.token (payments_of a ts) ≤ℤ n))
    (λ (r : PaidRange). (ts : List Transaction) → let b = stands_after a ts in IsSpent b.state b.contract → IfSome r.least (λ n. n ≤ℤ paid_to r.party r.token (payments_of a ts)))
    (λ (r : PaidRange). PaysBetween r.party r.token r.least r.most s c)
    (λ r m l. record { always = m; once_closed = l }) ranges
    (all_swap (λ ts (r : PaidRange). IfSome r.most (λ n. paid_to r.party r.token (payments_of a ts) ≤ℤ n)) ranges (λ ts. at_most ts ranges (can_close alarms ranges N (leads_after [] a ts) (stands_after a ts) (payments_of a ts) (stays_positive A a ts above) (after ts))))
    (all_swap (λ ts (r : PaidRange). let b = stands_after a ts in IsSpent b.state b.contract → IfSome r.least (λ n. n ≤ℤ paid_to r.party r.token (payments_of a ts))) ranges
    (λ ts. let b = stands_after a ts in all_swap (λ (spent : IsSpent b.state b.contract) (r : PaidRange). IfSome r.least (λ n. n ≤ℤ paid_to r.party r.token (payments_of a ts))) ranges
    (λ spent. at_least ts ranges (closed_so alarms ranges (leads_after [] a ts) b.state b.contract (payments_of a ts) (after ts) spent))))
  where
    at_most : (ts : List Transaction) (rs : List PaidRange) → ((qs : List Payment) × AreNatural qs × AllByRecursion (LiesIn (payments_of (standing s c) ts ++ qs)) rs)
        → AllByRecursion (λ (r : PaidRange). IfSome r.most (λ n. paid_to r.party r.token (payments_of (standing s c) ts) ≤ℤ n)) rs
    at_most ts [] k = tt
    at_most ts (r ∷ rs) k = (below r.most _ _ (paid_grows r.party r.token (payments_of (standing s c) ts) k.0 k.1) k.2.0.1, at_most ts rs (k.0, k.1, k.2.1))

    at_least : (ts : List Transaction) (rs : List PaidRange) → AllByRecursion (LiesIn (payments_of (standing s c) ts)) rs
        → AllByRecursion (λ (r : PaidRange). IfSome r.least (λ n. n ≤ℤ paid_to r.party r.token (payments_of (standing s c) ts))) rs
    at_least ts [] k = tt
    at_least ts (r ∷ rs) k = (k.0.0, at_least ts rs k.1)
