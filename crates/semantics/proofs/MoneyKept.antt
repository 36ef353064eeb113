-- Money is kept by every part of a transaction.
use Rattle.std.proofs.Common.{◌≡◌, ℕ, ℤ, pos, ◌+ℤ◌, int_lt, int_le, Bool, true, false, cond, ◌&&◌, List, [], ◌∷◌, refl, ap, sym, ◌∙◌, arith, subst, Result, Ok, Err, is_ok, Option, Some, None}
use Rattle.std.specs.Prelude.{slice_get}
use Rattle.std.specs.Option.{is_none}
use Rattle.std.proofs.lemmas.Int.{ints}
use Rattle.std.specs.Int.{int_min}
use Rattle.std.specs.FinMap.{entries, empty}
use Rattle.contract.specs.Names.declared.token.Token.{Token}
use Rattle.contract.specs.Names.declared.party.Party.{Party}
use Rattle.contract.specs.Names.declared.payee.Payee.{Payee}
use Rattle.contract.specs.Names.declared.payee.Payee.TheVariants.{Account as ToAccount, Party as ToParty}
use Rattle.contract.specs.declared.fault.SemFault.{SemFault}
use Rattle.contract.specs.declared.fault.SemFault.TheVariants.{InvalidInterval, IntervalInPast, Useless, Ambiguous, NoMatch}
use Rattle.contract.specs.declared.input.Input.{Input}
use Rattle.contract.specs.declared.input.Input.TheVariants.{Deposit, Choice, Notify}
use Rattle.contract.specs.declared.interval.Interval.{Interval}
use Rattle.contract.specs.States.States.{StateMaps, with_money, total_of}
use Rattle.contract.specs.Tree.{ContractTree, close, pay, if_obs, when, let_be, assert}
use Rattle.evaluation.specs.Evaluation.{eval, visited, holds, looked}
use Rattle.semantics.specs.Walk.{then_branch, else_branch, Standing, standing, Walk, ended, then_from, then_walk}
use Rattle.evaluation.specs.Path.{waits_for}
use Rattle.semantics.specs.Reduction.{Reduction, going, account_of, balance, debited, credited, paying, not_paying, timing_out, binding, asserting}
use Rattle.semantics.specs.Settling.{reduction_then}
use Rattle.semantics.specs.Applying.{taken, unmatched}
use Rattle.semantics.specs.Transaction.{trimmed}
use Rattle.semantics.specs.Computed.{pay_step, refunds, settled, first_match, first_match_index, tried_to_match, take_match, applied, one_input, all_inputs, from_start}
use Rattle.contract.specs.States.States.{counted}
use Rattle.semantics.specs.Money.{brought, deposited, paid_out, MoneyIsKept}
use Rattle.semantics.proofs.Computing.{computed_by}
use Rattle.semantics.proofs.MoneySums.{no_more, no_first, grows, shrinks, paid_out_append, refunds_pay_all, nothing_left}

-- where a part ends well: what the accounts had at its start and what was deposited is what they have and
-- what was paid out
abbrev Keeps : Token → ℤ → StateMaps → Walk → Type 0
Keeps token deposits s w = (a : Standing) → w.end ≡ Ok a → total_of token s +ℤ deposits ≡ total_of token a.state +ℤ paid_out token w.payments

ok_same : (a b : Standing) → ◌≡◌ {A = Result Standing SemFault} (Ok a) (Ok b) → a ≡ b
ok_same a b e = cc

keeps_fault : (token : Token) (n : ℤ) (s : StateMaps) (w : Walk) (f : SemFault) → w.end ≡ Err f → Keeps token n s w
keeps_fault token n s w f q a e = absurd (let k : ◌≡◌ {A = Result Standing SemFault} (Err f) (Ok a) = sym q ∙ e in cc)

-- where a part ends at a known place
keeps_at : (token : Token) (n : ℤ) (s : StateMaps) (w : Walk) (a : Standing) → w.end ≡ Ok a → total_of token s +ℤ n ≡ total_of token a.state +ℤ paid_out token w.payments → Keeps token n s w
keeps_at token n s w a q h b e = h ∙ ap (λ (x : Standing). total_of token x.state +ℤ paid_out token w.payments) (ok_same a b (sym q ∙ e))

keeps_ended : (token : Token) (a : Standing) → Keeps token (pos 0) a.state (ended (Ok a))
keeps_ended token a = keeps_at token (pos 0) a.state (ended (Ok a)) a refl refl

-- ---- one part after another

chained : (s n m t u p q pq : ℤ) → s +ℤ n ≡ t +ℤ p → t +ℤ m ≡ u +ℤ q → pq ≡ p +ℤ q → s +ℤ (n +ℤ m) ≡ u +ℤ pq
chained s n m t u p q pq h k e = omega (arith, ints)

keeps_from : (token : Token) (n m : ℤ) (s : StateMaps) (w : Walk) (end : Result Standing SemFault) (f : Standing → Walk) → w.end ≡ end →
    Keeps token n s w → ((a : Standing) → Keeps token m a.state (f a)) → Keeps token (n +ℤ m) s (then_from w end f)
keeps_from token n m s w (Ok a) f q h k = λ b e. chained _ _ _ _ _ _ _ _ (h a q) (k a b e) (paid_out_append token w.payments (f a).payments)
keeps_from token n m s w (Err d) f q h k = keeps_fault token (n +ℤ m) s w d q

keeps_then : (token : Token) (n m : ℤ) (s : StateMaps) (w : Walk) (f : Standing → Walk) →
    Keeps token n s w → ((a : Standing) → Keeps token m a.state (f a)) → Keeps token (n +ℤ m) s (then_walk w f)
keeps_then token n m s w f h k = keeps_from token n m s w w.end f refl h k

-- ---- a reduction

-- what the accounts had is what they have and what was paid out
abbrev ReducesMoney : Token → StateMaps → Reduction → Type 0
ReducesMoney token s r = total_of token s ≡ total_of token r.state +ℤ paid_out token r.payments

after_one : (s t u p q pq : ℤ) → s ≡ t +ℤ p → t +ℤ pos 0 ≡ u +ℤ q → pq ≡ p +ℤ q → s +ℤ pos 0 ≡ u +ℤ pq
after_one s t u p q pq h k e = omega (arith, ints)

keeps_after : (token : Token) (s : StateMaps) (r : Reduction) (w : Walk) → ReducesMoney token s r → Keeps token (pos 0) r.state w → Keeps token (pos 0) s (reduction_then r w)
keeps_after token s r w h k a e = after_one _ _ _ _ _ _ h (k a e) (paid_out_append token r.payments w.payments)

-- a reduction that pays nothing and leaves the accounts
unmoved : (token : Token) (s t : StateMaps) → s.accounts ≡ t.accounts → total_of token s ≡ total_of token t +ℤ pos 0
unmoved token s t e = ap (λ m. total_of token (record s { accounts = m })) e ∙ sym (no_more (total_of token t))

paid_one : (s d c : ℤ) → s ≡ d +ℤ c → s ≡ d +ℤ (c +ℤ pos 0)
paid_one s d c h = omega (arith, ints)

moved_one : (s d c u : ℤ) → s ≡ d +ℤ c → u ≡ d +ℤ c → s ≡ u +ℤ (pos 0 +ℤ pos 0)
moved_one s d c u h k = omega (arith, ints)

paying_keeps : (token : Token) (s : StateMaps) (p : Party) (y : Payee) (t : Token) (due paid : ℤ) (ns : List ℤ) (c : ContractTree) → ReducesMoney token s (paying s p y t due paid ns c)
paying_keeps token s p (ToParty q) t due paid ns c = paid_one (total_of token s) (total_of token (debited s p t paid)) (counted token t paid) (shrinks token s p t paid)
paying_keeps token s p (ToAccount q) t due paid ns c =
    moved_one (total_of token s) (total_of token (debited s p t paid)) (counted token t paid) (total_of token (credited (debited s p t paid) (ToAccount q) t paid)) (shrinks token s p t paid) (grows token (debited s p t paid) q t paid)

pays_keeps : (token : Token) (s : StateMaps) (p : Party) (y : Payee) (t : Token) (due : ℤ) (ns : List ℤ) (c : ContractTree) (b : Bool) →
    ReducesMoney token s (cond b (paying s p y t due (int_min (balance s p t) due) ns c) (not_paying s p y t due ns c))
pays_keeps token s p y t due ns c true = paying_keeps token s p y t due (int_min (balance s p t) due) ns c
pays_keeps token s p y t due ns c false = unmoved token s s refl

-- ---- a settling

all_out : (s e p : ℤ) → e ≡ pos 0 → p ≡ s → s +ℤ pos 0 ≡ e +ℤ p
all_out s e p h k = omega (arith, ints)

refunds_keep : (token : Token) (s : StateMaps) → Keeps token (pos 0) s (refunds s)
refunds_keep token s =
    keeps_at token (pos 0) s (refunds s) (standing (record s { accounts = empty }) close) refl (all_out _ _ _ (nothing_left token s) (refunds_pay_all token (entries s.accounts)))

when_keeps : (token : Token) (s : StateMaps) (w : Walk) (b d : Bool) (here : Standing) (c : ContractTree) → here.state ≡ s → Keeps token (pos 0) s w →
    Keeps token (pos 0) s (cond b (ended (Ok here)) (cond d (reduction_then (timing_out s c) w) (ended (Err Ambiguous))))
when_keeps token s w true d here c e h = subst (λ u. Keeps token (pos 0) u (ended (Ok here))) e (keeps_ended token here)
when_keeps token s w false true here c e h = keeps_after token s (timing_out s c) w (unmoved token s s refl) h
when_keeps token s w false false here c e h = keeps_fault token (pos 0) s (ended (Err Ambiguous)) Ambiguous refl

either_keeps : (token : Token) (s : StateMaps) (b : Bool) (w v : Walk) → Keeps token (pos 0) s w → Keeps token (pos 0) s v → Keeps token (pos 0) s (cond b w v)
either_keeps token s true w v h k = h
either_keeps token s false w v h k = k

settled_keeps : (token : Token) (i : Interval) (s : StateMaps) (c : ContractTree) → Keeps token (pos 0) s (settled i s c)
settled_keeps token i s close = refunds_keep token s
settled_keeps token i s (pay p y t v c) =
    let r = pay_step s p y t (eval i s v) (visited i s v) c in
    keeps_after token s r (settled i r.state c) (pays_keeps token s p y t (eval i s v) (visited i s v) c (int_lt (pos 0) (eval i s v))) (settled_keeps token i r.state c)
settled_keeps token i s (if_obs o c d) =
    either_keeps token s (holds i s o) _ _
    (keeps_after token s (going (looked i s o) [] then_branch s c) (settled i s c) (unmoved token s s refl) (settled_keeps token i s c))
    (keeps_after token s (going (looked i s o) [] else_branch s d) (settled i s d) (unmoved token s s refl) (settled_keeps token i s d))
settled_keeps token i s (when ks t c) =
    when_keeps token s (settled i s c) (int_lt i.to t) (int_le t i.from) (standing s (when ks t c)) c refl (settled_keeps token i s c)
settled_keeps token i s (let_be x v c) =
    let r = binding s x (eval i s v) (visited i s v) c in
    keeps_after token s r (settled i r.state c) (unmoved token s r.state refl) (settled_keeps token i r.state c)
settled_keeps token i s (assert o c) =
    keeps_after token s (asserting s (holds i s o) (looked i s o) c) (settled i s c) (unmoved token s s refl) (settled_keeps token i s c)

-- ---- an input

brought_once : (s u n : ℤ) → u ≡ s +ℤ n → s +ℤ n ≡ u +ℤ pos 0
brought_once s u n h = omega (arith, ints)

deposit_keeps : (token : Token) (s : StateMaps) (a p : Party) (t : Token) (n : ℤ) (b : Bool) → b ≡ int_lt (pos 0) n →
    total_of token s +ℤ brought token (Deposit a p t n) ≡ total_of token (taken s (Deposit a p t n)) +ℤ pos 0
deposit_keeps token s a p t n true e = rw (sym e) (brought_once (total_of token s) (total_of token (with_money s (account_of a t) (balance s a t +ℤ n))) (counted token t n) (grows token s a t n))
deposit_keeps token s a p t n false e = rw (sym e) refl

taken_keeps : (token : Token) (s : StateMaps) (x : Input) → total_of token s +ℤ brought token x ≡ total_of token (taken s x) +ℤ pos 0
taken_keeps token s (Deposit a p t n) = deposit_keeps token s a p t n (int_lt (pos 0) n) refl
taken_keeps token s (Choice id n) = refl
taken_keeps token s Notify = refl

match_keeps : (token : Token) (s : StateMaps) (x : Input) (ns : List ℤ) (n : ℕ) (o : Option ContractTree) → Keeps token (brought token x) s (take_match s x ns n o)
match_keeps token s x ns n None = keeps_fault token (brought token x) s (unmatched ns) NoMatch refl
match_keeps token s x ns n (Some c) = keeps_at token (brought token x) s (take_match s x ns n (Some c)) (standing (taken s x) c) refl (taken_keeps token s x)

input_keeps : (token : Token) (i : Interval) (x : Input) (a : Standing) → Keeps token (brought token x +ℤ pos 0) a.state (one_input i x a)
unfolding one_input applied
input_keeps token i x a =
    let ks = waits_for a.contract in
    keeps_then token (brought token x) (pos 0) a.state (applied i x a) (λ b. settled i b.state b.contract)
    (match_keeps token a.state x (tried_to_match i a.state x ks) (first_match_index i a.state x ks) (first_match i a.state x ks))
    (λ b. settled_keeps token i b.state b.contract)

inputs_keep : (token : Token) (i : Interval) (xs : List Input) (a : Standing) → Keeps token (deposited token xs) a.state (all_inputs i xs a)
inputs_keep token i [] a = keeps_ended token a
inputs_keep token i (x ∷ xs) a =
    subst (λ n. Keeps token (n +ℤ deposited token xs) a.state (all_inputs i (x ∷ xs) a)) (no_more (brought token x))
    (keeps_then token (brought token x +ℤ pos 0) (deposited token xs) a.state (one_input i x a) (all_inputs i xs) (input_keeps token i x a) (inputs_keep token i xs))

-- ---- a transaction

finished_keeps : (token : Token) (n : ℤ) (s : StateMaps) (w : Walk) (b : Bool) → Keeps token n s w → Keeps token n s (record w { end = cond b (Err Useless) w.end })
finished_keeps token n s w true h = keeps_fault token n s (record w { end = Err Useless }) Useless refl
finished_keeps token n s w false h = h

start_keeps : (token : Token) (i : Interval) (s : StateMaps) (c : ContractTree) (xs : List Input) → Keeps token (deposited token xs) s (from_start i s c xs)
unfolding from_start
start_keeps token i s c xs =
    let t : StateMaps = record s { min_time = i.from } in
    let w = then_walk (settled i t c) (all_inputs i xs) in
    finished_keeps token (deposited token xs) s w (is_ok w.end && is_none (slice_get w.turns 0))
    (subst (λ n. Keeps token n s w) (no_first (deposited token xs))
    (keeps_then token (pos 0) (deposited token xs) s (settled i t c) (all_inputs i xs) (settled_keeps token i t c) (inputs_keep token i xs)))

pub money_is_kept : MoneyIsKept
money_is_kept token i s c xs =
    let n = deposited token xs in
    computed_by (Keeps token n s) i s c xs
    (keeps_fault token n s (ended (Err InvalidInterval)) InvalidInterval refl)
    (keeps_fault token n s (ended (Err IntervalInPast)) IntervalInPast refl)
    (start_keeps token (trimmed i s) s c xs)
