-- Payments are not below 0, and accounts stay above 0.
use Rattle.std.proofs.Common.{◌≡◌, ℕ, ℤ, pos, ◌+ℤ◌, ◌-ℤ◌, ◌≤ℤ◌, ◌<ℤ◌, int_lt, int_le, Bool, true, false, cond, List, [], ◌∷◌, ◌++◌, ◌&&◌, map, refl, ap, sym, ◌∙◌, arith, subst, Result, Ok, Err, is_ok, Option, Some, None}
use Rattle.std.proofs.lemmas.Int.{ints}
use Rattle.std.proofs.lemmas.Bool.Decides.{Decides-int_eq}
use Rattle.std.specs.Int.{int_min}
use Rattle.std.specs.Prelude.{slice_get}
use Rattle.std.specs.Option.{is_none, unwrap_or}
use Rattle.std.specs.Ordering.{int_eq}
use Rattle.std.specs.FinMap.{entries, empty, get-entries, entries-insert, entries-from_sorted}
use Rattle.contract.proofs.FromCollections.Maps.{no_entries}
use Rattle.contract.proofs.FromCollections.Total.{entries-remove}
use Rattle.contract.specs.Names.declared.token.Token.{Token}
use Rattle.contract.specs.Names.declared.party.Party.{Party}
use Rattle.contract.specs.Names.declared.account.Account.{Account}
use Rattle.contract.specs.Names.declared.payee.Payee.{Payee}
use Rattle.contract.specs.Names.declared.payee.Payee.TheVariants.{Account as ToAccount, Party as ToParty}
use Rattle.contract.specs.Names.Orders.{account_cmp}
use Rattle.contract.specs.Names.Totals.{account_total}
use Rattle.contract.proofs.FromNames.Exact.{account_exact}
use Rattle.contract.specs.declared.fault.SemFault.{SemFault}
use Rattle.contract.specs.declared.fault.SemFault.TheVariants.{InvalidInterval, IntervalInPast, Useless, Ambiguous, NoMatch}
use Rattle.contract.specs.declared.input.Input.{Input}
use Rattle.contract.specs.declared.input.Input.TheVariants.{Deposit, Choice, Notify}
use Rattle.contract.specs.declared.interval.Interval.{Interval}
use Rattle.contract.specs.declared.payment.Payment.{Payment}
use Rattle.contract.specs.States.States.{StateMaps, AllPositive, with_money, money_of}
use Rattle.contract.specs.Tree.{ContractTree, close, pay, if_obs, when, let_be, assert}
use Rattle.contract.proofs.FromCollections.Positive.{AllPositive-put, AllPositive-where_key, AllPositive-find}
use Rattle.evaluation.specs.Evaluation.{eval, visited, holds, looked}
use Rattle.semantics.specs.Walk.{Standing, standing, Walk, ended, then_from, then_walk}
use Rattle.evaluation.specs.Path.{waits_for}
use Rattle.semantics.specs.Reduction.{Reduction, account_of, balance, debited, credited, refund_of, paying, not_paying, choosing, timing_out, binding}
use Rattle.semantics.specs.Settling.{reduction_then}
use Rattle.semantics.specs.Applying.{taken, unmatched}
use Rattle.semantics.specs.Transaction.{trimmed}
use Rattle.semantics.specs.Computed.{pay_step, refunds, settled, first_match, first_match_index, tried_to_match, take_match, applied, one_input, all_inputs, from_start, computed}
use Rattle.semantics.proofs.Integers.{true_lt}
use Rattle.semantics.proofs.Computing.{computed_by}
use Rattle.semantics.specs.Naturals.{AreNatural, PaymentsAreNatural, AccountsStayPositive}

abbrev Positive : StateMaps → Type 0
Positive s = AllPositive (entries s.accounts)

-- ---- one account

above : (n : ℤ) → pos 0 ≤ℤ n → (n ≡ pos 0 → ⊥) → pos 0 <ℤ n
above n h k = omega (arith, ints, k)

set_by : (b : Bool) (s : StateMaps) (a : Account) (v : ℤ) → int_eq v (pos 0) ≡ b → Positive s → pos 0 ≤ℤ v → Positive (with_money s a v)
set_by true s a v e h k =
    rw e (subst AllPositive (sym (entries-remove account_cmp account_total account_exact s.accounts a)) (AllPositive-where_key account_cmp _ (entries s.accounts) h))
set_by false s a v e h k =
    rw e (subst AllPositive (sym (entries-insert account_total s.accounts a v)) (AllPositive-put account_cmp a v (entries s.accounts) (above v k (λ z. absurd (let n : int_eq v (pos 0) ≡ true = (Decides-int_eq v (pos 0)).1 z in cc))) h))

set_positive : (s : StateMaps) (a : Account) (v : ℤ) → Positive s → pos 0 ≤ℤ v → Positive (with_money s a v)
set_positive s a v h k = set_by (int_eq v (pos 0)) s a v refl h k

held_natural : (s : StateMaps) (a : Account) → Positive s → pos 0 ≤ℤ money_of s a
held_natural s a h = subst (λ o. pos 0 ≤ℤ unwrap_or o (pos 0)) (sym (get-entries s.accounts a)) (AllPositive-find account_cmp a (entries s.accounts) h)

-- ---- parts

-- a part pays nothing below 0, and where it ends well its accounts are above 0
abbrev IsSound : Walk → Type 0
IsSound w = AreNatural w.payments × ((a : Standing) → w.end ≡ Ok a → Positive a.state)

ok_same : (a b : Standing) → ◌≡◌ {A = Result Standing SemFault} (Ok a) (Ok b) → a ≡ b
ok_same a b e = cc

sound_at : (w : Walk) (a : Standing) → w.end ≡ Ok a → AreNatural w.payments → Positive a.state → IsSound w
sound_at w a q h k = (h, λ b e. subst (λ (x : Standing). Positive x.state) (ok_same a b (sym q ∙ e)) k)

sound_fault : (w : Walk) (f : SemFault) → w.end ≡ Err f → AreNatural w.payments → IsSound w
sound_fault w f q h = (h, λ a e. absurd (let k : ◌≡◌ {A = Result Standing SemFault} (Err f) (Ok a) = sym q ∙ e in cc))

natural_append : (ps qs : List Payment) → AreNatural ps → AreNatural qs → AreNatural (ps ++ qs)
natural_append [] qs h k = k
natural_append (p ∷ ps) qs h k = (h.0, natural_append ps qs h.1 k)

sound_from : (w : Walk) (end : Result Standing SemFault) (f : Standing → Walk) → w.end ≡ end → IsSound w → ((a : Standing) → Positive a.state → IsSound (f a)) → IsSound (then_from w end f)
sound_from w (Ok a) f q h k = let n = k a (h.1 a q) in (natural_append w.payments (f a).payments h.0 n.0, n.1)
sound_from w (Err d) f q h k = h

sound_then : (w : Walk) (f : Standing → Walk) → IsSound w → ((a : Standing) → Positive a.state → IsSound (f a)) → IsSound (then_walk w f)
sound_then w f h k = sound_from w w.end f refl h k

-- ---- a settling

sound_after : (r : Reduction) (w : Walk) → AreNatural r.payments → IsSound w → IsSound (reduction_then r w)
sound_after r w h k = (natural_append r.payments w.payments h k.0, k.1)

least : (b d : ℤ) (t : Bool) → int_lt d b ≡ t → pos 0 ≤ℤ b → pos 0 <ℤ d → (pos 0 ≤ℤ cond t d b) × (cond t d b ≤ℤ b)
least b d true e h k = (grind (arith, ints), grind (arith, ints))
least b d false e h k = (h, omega (arith, ints))

rest_natural : (b p : ℤ) → p ≤ℤ b → pos 0 ≤ℤ (b -ℤ p)
rest_natural b p h = omega (arith, ints)

sum_natural : (b p : ℤ) → pos 0 ≤ℤ b → pos 0 ≤ℤ p → pos 0 ≤ℤ (b +ℤ p)
sum_natural b p h k = omega (arith, ints)

refunds_natural : (es : List (Account × ℤ)) → AllPositive es → AreNatural (map refund_of es)
refunds_natural [] h = tt
refunds_natural (e ∷ es) h = (at_least e.1 h.0, refunds_natural es h.1)
  where
    at_least : (n : ℤ) → pos 0 <ℤ n → pos 0 ≤ℤ n
    at_least n h = omega (arith, ints)

none_positive : (s : StateMaps) → Positive (record s { accounts = empty })
none_positive s = subst AllPositive (sym (ap entries (sym (no_entries account_cmp)) ∙ entries-from_sorted account_cmp [] tt)) tt

-- what a Pay leaves, where what is paid lies between 0 and the balance
paid_positive : (s : StateMaps) (p : Party) (y : Payee) (t : Token) (paid : ℤ) → Positive s → pos 0 ≤ℤ paid → paid ≤ℤ balance s p t → Positive (credited (debited s p t paid) y t paid)
paid_positive s p (ToParty q) t paid h k l = set_positive s (account_of p t) (balance s p t -ℤ paid) h (rest_natural (balance s p t) paid l)
paid_positive s p (ToAccount q) t paid h k l =
    let d : Positive (debited s p t paid) = set_positive s (account_of p t) (balance s p t -ℤ paid) h (rest_natural (balance s p t) paid l) in
    set_positive (debited s p t paid) (account_of q t) (balance (debited s p t paid) q t +ℤ paid) d
    (sum_natural (balance (debited s p t paid) q t) paid (held_natural (debited s p t paid) (account_of q t) d) k)

pays_sound : (s : StateMaps) (p : Party) (y : Payee) (t : Token) (due : ℤ) (ns : List ℤ) (c : ContractTree) (b : Bool) → int_lt (pos 0) due ≡ b → Positive s →
    AreNatural (cond b (paying s p y t due (int_min (balance s p t) due) ns c) (not_paying s p y t due ns c)).payments × Positive (cond b (paying s p y t due (int_min (balance s p t) due) ns c) (not_paying s p y t due ns c)).state
pays_sound s p y t due ns c true e h =
    let k = least (balance s p t) due (int_lt due (balance s p t)) refl (held_natural s (account_of p t) h) (true_lt (pos 0) due e) in
    ((k.0, tt), paid_positive s p y t (int_min (balance s p t) due) h k.0 k.1)
pays_sound s p y t due ns c false e h = (tt, h)

when_sound : (w : Walk) (b d : Bool) (here : Standing) (c : ContractTree) → Positive here.state → IsSound w →
    IsSound (cond b (ended (Ok here)) (cond d (reduction_then (timing_out here.state c) w) (ended (Err Ambiguous))))
when_sound w true d here c h k = sound_at (ended (Ok here)) here refl tt h
when_sound w false true here c h k = sound_after (timing_out here.state c) w tt k
when_sound w false false here c h k = sound_fault (ended (Err Ambiguous)) Ambiguous refl tt

either_sound : (b : Bool) (w v : Walk) → IsSound w → IsSound v → IsSound (cond b w v)
either_sound true w v h k = h
either_sound false w v h k = k

settled_sound : (i : Interval) (s : StateMaps) (c : ContractTree) → Positive s → IsSound (settled i s c)
settled_sound i s close h = sound_at (refunds s) (standing (record s { accounts = empty }) close) refl (refunds_natural (entries s.accounts) h) (none_positive s)
settled_sound i s (pay p y t v c) h =
    let r = pay_step s p y t (eval i s v) (visited i s v) c in
    let k = pays_sound s p y t (eval i s v) (visited i s v) c (int_lt (pos 0) (eval i s v)) refl h in
    sound_after r (settled i r.state c) k.0 (settled_sound i r.state c k.1)
settled_sound i s (if_obs o c d) h =
    sound_after (choosing s (holds i s o) (looked i s o) c d) (cond (holds i s o) (settled i s c) (settled i s d)) tt (either_sound (holds i s o) (settled i s c) (settled i s d) (settled_sound i s c h) (settled_sound i s d h))
settled_sound i s (when ks t c) h = when_sound (settled i s c) (int_lt i.to t) (int_le t i.from) (standing s (when ks t c)) c h (settled_sound i s c h)
settled_sound i s (let_be x v c) h = settled_sound i (binding s x (eval i s v) (visited i s v) c).state c h
settled_sound i s (assert o c) h = settled_sound i s c h

-- ---- an input

deposit_positive : (s : StateMaps) (a p : Party) (t : Token) (n : ℤ) (b : Bool) → int_lt (pos 0) n ≡ b → Positive s → Positive (cond b (with_money s (account_of a t) (balance s a t +ℤ n)) s)
deposit_positive s a p t n true e h = set_positive s (account_of a t) (balance s a t +ℤ n) h (sum_natural (balance s a t) n (held_natural s (account_of a t) h) (at_least n (true_lt (pos 0) n e)))
  where
    at_least : (n : ℤ) → pos 0 <ℤ n → pos 0 ≤ℤ n
    at_least n h = omega (arith, ints)
deposit_positive s a p t n false e h = h

taken_positive : (s : StateMaps) (x : Input) → Positive s → Positive (taken s x)
taken_positive s (Deposit a p t n) h = deposit_positive s a p t n (int_lt (pos 0) n) refl h
taken_positive s (Choice id n) h = h
taken_positive s Notify h = h

match_sound : (s : StateMaps) (x : Input) (ns : List ℤ) (n : ℕ) (o : Option ContractTree) → Positive s → IsSound (take_match s x ns n o)
match_sound s x ns n None h = sound_fault (unmatched ns) NoMatch refl tt
match_sound s x ns n (Some c) h = sound_at (take_match s x ns n (Some c)) (standing (taken s x) c) refl tt (taken_positive s x h)

input_sound : (i : Interval) (x : Input) (a : Standing) → Positive a.state → IsSound (one_input i x a)
unfolding one_input applied
input_sound i x a h =
    let ks = waits_for a.contract in
    sound_then (applied i x a) (λ b. settled i b.state b.contract)
    (match_sound a.state x (tried_to_match i a.state x ks) (first_match_index i a.state x ks) (first_match i a.state x ks) h) (λ b k. settled_sound i b.state b.contract k)

inputs_sound : (i : Interval) (xs : List Input) (a : Standing) → Positive a.state → IsSound (all_inputs i xs a)
inputs_sound i [] a h = sound_at (ended (Ok a)) a refl tt h
inputs_sound i (x ∷ xs) a h = sound_then (one_input i x a) (all_inputs i xs) (input_sound i x a h) (λ b k. inputs_sound i xs b k)

-- ---- a transaction

finished_sound : (w : Walk) (b : Bool) → IsSound w → IsSound (record w { end = cond b (Err Useless) w.end })
finished_sound w true h = sound_fault (record w { end = Err Useless }) Useless refl h.0
finished_sound w false h = h

start_sound : (i : Interval) (s : StateMaps) (c : ContractTree) (xs : List Input) → Positive s → IsSound (from_start i s c xs)
unfolding from_start
start_sound i s c xs h =
    let t : StateMaps = record s { min_time = i.from } in
    let w = then_walk (settled i t c) (all_inputs i xs) in
    finished_sound w (is_ok w.end && is_none (slice_get w.turns 0)) (sound_then (settled i t c) (all_inputs i xs) (settled_sound i t c h) (λ b k. inputs_sound i xs b k))

computed_sound : (i : Interval) (s : StateMaps) (c : ContractTree) (xs : List Input) → Positive s → IsSound (computed i s c xs)
computed_sound i s c xs h =
    computed_by IsSound i s c xs
    (sound_fault (ended (Err InvalidInterval)) InvalidInterval refl tt)
    (sound_fault (ended (Err IntervalInPast)) IntervalInPast refl tt)
    (start_sound (trimmed i s) s c xs h)

pub payments_are_natural : PaymentsAreNatural
payments_are_natural i s c xs h = (computed_sound i s c xs h).0

pub accounts_stay_positive : AccountsStayPositive
accounts_stay_positive i s c xs a h e = (computed_sound i s c xs h).1 a e
