-- Who brings nothing loses nothing.
use Rattle.std.proofs.Common.{◌≡◌, ℤ, pos, neg_ℤ, ◌+ℤ◌, ◌-ℤ◌, ◌≤ℤ◌, ◌<ℤ◌, int_lt, Bool, true, false, ◌||◌, ◌&&◌, cond, not, List, [], ◌∷◌, refl, sym, ap, ◌∙◌, subst, arith, Option, Some, None}
use Rattle.std.proofs.lemmas.Int.{ints}
use Rattle.std.specs.Int.{int_min, int_max}
use Rattle.std.specs.Option.{unwrap_or}
use Rattle.std.specs.Ordering.{int_eq, eq_by_cmp}
use Rattle.std.specs.FinMap.{entries, get-entries}
use Rattle.contract.proofs.FromCollections.Positive.{AllPositive-find}
use Rattle.contract.specs.Names.declared.account.Account.{Account}
use Rattle.contract.specs.Names.declared.party.Party.{Party}
use Rattle.contract.specs.Names.declared.payee.Payee.{Payee}
use Rattle.contract.specs.Names.declared.payee.Payee.TheVariants.{Account as ToAccount, Party as ToParty}
use Rattle.contract.specs.Names.declared.token.Token.{Token}
use Rattle.contract.specs.Names.Equal.{same_party, same_token}
use Rattle.contract.proofs.FromNames.EqualLaws.{same_party_decides, same_token_decides}
use Rattle.contract.specs.Names.Orders.{account_cmp}
use Rattle.contract.specs.declared.input.Input.{Input}
use Rattle.contract.specs.declared.input.Input.TheVariants.{Deposit, Choice, Notify}
use Rattle.contract.specs.declared.interval.Interval.{Interval}
use Rattle.contract.specs.Tree.{ActionTree, deposit, choice, notify, ContractTree, CaseTrees, close, pay, if_obs, when, let_be, assert, no_cases, case_then}
use Rattle.contract.specs.States.States.{StateMaps, AllPositive, money_of, with_money, counted}
use Rattle.contract.proofs.FromStates.Accounts.{money_of-with_money}
use Rattle.semantics.specs.Evaluation.Evaluation.{eval, visited}
use Rattle.semantics.specs.Reduction.{Reduction, account_of, balance, debited, credited, paying_lesser, not_paying, binding}
use Rattle.semantics.specs.Applying.{agrees, matches, taken}
use Rattle.semantics.specs.Computed.{pay_step, refunds}
use Rattle.analysis_spec.specs.Runs.{reaches_party, paid_to}
use Rattle.losses.specs.Losses.{brought, LosesAtMost}
use Rattle.losses.specs.Told.{OthersLoseNothing}
use Rattle.analysis_values.proofs.AccountLaws.{sum_natural, refunded_is}
use Rattle.semantics.proofs.Integers.{true_lt}
use Rattle.analysis_steps.proofs.AmountLemmas.{paid_natural, paid_up}
use Rattle.loss_walk.specs.declared.quiet.Quiet.{Quiet}
use Rattle.loss_walk.specs.Cuts.{is_timeless, holds_timeless, quiet_from, quiet_before, after_reading, after_timeout}
use Rattle.loss_walk.specs.Nets.{Nets, NetsCases, of_all_runs, NetsBoundLosses}
use Rattle.loss_walk.specs.Asked.{is_beyond, waits_beyond, asks_beyond, ask_beyond}

left : (b c : Bool) → b || c ≡ false → b ≡ false
left true c e = absurd (cc)
left false c e = refl

right : (b c : Bool) → b || c ≡ false → c ≡ false
right true c e = absurd (cc)
right false c e = e

le_self : (a : ℤ) → a ≤ℤ a
le_self a = omega (arith, ints)

gap : (a b : ℤ) → b ≤ℤ a → pos 0 ≤ℤ (a -ℤ b)
gap a b h = omega (arith, ints)

and_none : (a : ℤ) → pos 0 ≤ℤ a → pos 0 ≤ℤ (a +ℤ pos 0)
and_none a h = omega (arith, ints)

less_none : (m b : ℤ) → b ≡ pos 0 → pos 0 ≤ℤ m → pos 0 ≤ℤ (m -ℤ b)
less_none m b e h = omega (arith, ints, e)

-- ---- no account is below 0

abbrev IsNatural : StateMaps → Type 0
IsNatural s = (a : Account) → pos 0 ≤ℤ money_of s a

started : (s : StateMaps) → AllPositive (entries s.accounts) → IsNatural s
started s h a = subst (λ o. pos 0 ≤ℤ unwrap_or o (pos 0)) (sym (get-entries s.accounts a)) (AllPositive-find account_cmp a (entries s.accounts) h)

set_natural : (s : StateMaps) (x : Account) (v : ℤ) → IsNatural s → pos 0 ≤ℤ v → IsNatural (with_money s x v)
set_natural s x v h k a = subst (λ z. pos 0 ≤ℤ z) (sym (money_of-with_money s x v a)) (by_test (eq_by_cmp account_cmp a x))
  where
    by_test : (b : Bool) → pos 0 ≤ℤ cond b v (money_of s a)
    by_test true = k
    by_test false = h a

debited_natural : (s : StateMaps) (p : Party) (t : Token) (n : ℤ) → IsNatural s → n ≤ℤ balance s p t → IsNatural (debited s p t n)
debited_natural s p t n h up = set_natural s (account_of p t) (balance s p t -ℤ n) h (gap (balance s p t) n up)

credited_natural : (s : StateMaps) (y : Payee) (t : Token) (n : ℤ) → IsNatural s → pos 0 ≤ℤ n → IsNatural (credited s y t n)
credited_natural s (ToParty q) t n h k = h
credited_natural s (ToAccount q) t n h k = set_natural s (account_of q t) (balance s q t +ℤ n) h (sum_natural (balance s q t) n (h (account_of q t)) k)

module _ (party : Party) (token : Token) where
  reached_natural : (y : Payee) (t : Token) (n : ℤ) → pos 0 ≤ℤ n → pos 0 ≤ℤ reaches_party party y (counted token t n)
  reached_natural (ToAccount q) t n h = le_self (pos 0)
  reached_natural (ToParty q) t n h = by_tests (same_party party q) (same_token token t)
    where
      by_tests : (b d : Bool) → pos 0 ≤ℤ cond b (cond d n (pos 0)) (pos 0)
      by_tests true true = h
      by_tests true false = le_self (pos 0)
      by_tests false d = le_self (pos 0)

  -- ---- steps

  -- what a Pay leaves isn't below 0, nor what it pays
  module _ (s : StateMaps) (p : Party) (y : Payee) (t : Token) (due : ℤ) (h : IsNatural s) (ns : List ℤ) (c : ContractTree) where
    paid_by : (b : Bool) → int_lt (pos 0) due ≡ b → let r : Reduction = cond b (paying_lesser s p y t due ns c) (not_paying s p y t due ns c) in IsNatural r.state × (pos 0 ≤ℤ paid_to party token r.payments)
    paid_by true e =
        let least : pos 0 ≤ℤ int_min (balance s p t) due = subst (λ b. pos 0 ≤ℤ cond b (int_min (balance s p t) due) (pos 0)) e (paid_natural (balance s p t) due (h (account_of p t))) in
        let most : int_min (balance s p t) due ≤ℤ balance s p t = subst (λ b. cond b (int_min (balance s p t) due) (pos 0) ≤ℤ balance s p t) e (paid_up (balance s p t) due (h (account_of p t))) in (
          credited_natural (debited s p t (int_min (balance s p t) due)) y t (int_min (balance s p t) due) (debited_natural s p t (int_min (balance s p t) due) h most) least,
          and_none (reaches_party party y (counted token t (int_min (balance s p t) due))) (reached_natural y t (int_min (balance s p t) due) least),
        )
    paid_by false e = (h, le_self (pos 0))

  pays_natural : (s : StateMaps) (p : Party) (y : Payee) (t : Token) (due : ℤ) (ns : List ℤ) (c : ContractTree) → IsNatural s
      → let r : Reduction = pay_step s p y t due ns c in IsNatural r.state × (pos 0 ≤ℤ paid_to party token r.payments)
  pays_natural s p y t due ns c h = paid_by s p y t due h ns c (int_lt (pos 0) due) refl

  -- ---- inputs

  module _ (o : Option Account) (none : o ≡ Some (account_of party token) → ⊥) where
    -- a deposit that isn't beyond is one of the account
    sole_is : (p : Party) (t : Token) → is_beyond o p t ≡ false → o ≡ Some (account_of p t)
    sole_is p t = by_sole o
      where
        both_same : (a : Account) (b d : Bool) → same_party a.owner p ≡ b → same_token a.token t ≡ d → not (b && d) ≡ false → ◌≡◌ {A = Option Account} (Some a) (Some (account_of p t))
        both_same a true true e f h = ap (λ (x : Account). Some x) (same_account a ((same_party_decides a.owner p).0 e) ((same_token_decides a.token t).0 f))
          where
            same_account : (a : Account) → a.owner ≡ p → a.token ≡ t → a ≡ account_of p t
            same_account a e f = (λ i. record { owner = e i; token = f i })
        both_same a true false e f h = absurd (cc)
        both_same a false d e f h = absurd (cc)

        by_sole : (x : Option Account) → is_beyond x p t ≡ false → x ≡ Some (account_of p t)
        by_sole None h = absurd (cc)
        by_sole (Some a) h = both_same a (same_party a.owner p) (same_token a.token t) refl refl h

    -- so by one that isn't of the account, this party brings nothing of this token
    brings_none : (p q : Party) (t u : Token) (n : ℤ) → p ≡ q → t ≡ u → is_beyond o q u ≡ false → cond (same_party party p) (counted token t n) (pos 0) ≡ pos 0
    brings_none p q t u n e f h = by_tests (same_party party p) (same_token token t) refl refl
      where
        never : party ≡ p → token ≡ t → ⊥
        never x y = none (sole_is q u h ∙ ap (λ (z : Party). Some (account_of z u)) (sym e ∙ sym x) ∙ ap (λ (z : Token). Some (account_of party z)) (sym f ∙ sym y))

        by_tests : (b d : Bool) → same_party party p ≡ b → same_token token t ≡ d → cond b (cond d n (pos 0)) (pos 0) ≡ pos 0
        by_tests true true x y = absurd (never ((same_party_decides party p).0 x) ((same_token_decides token t).0 y))
        by_tests true false x y = refl
        by_tests false d x y = refl

    all_true : (a b c : Bool) → a && (b && c) ≡ true → (b ≡ true) × (c ≡ true)
    all_true true true true e = (refl, refl)
    all_true true true false e = absurd (cc)
    all_true true false c e = absurd (cc)
    all_true false b c e = absurd (cc)

    first_true : (a b : Bool) → a && b ≡ true → a ≡ true
    first_true true b e = refl
    first_true false b e = absurd (cc)

    deposit_natural : (s : StateMaps) (x : Account) (n : ℤ) (b : Bool) → int_lt (pos 0) n ≡ b → IsNatural s → IsNatural (cond b (with_money s x (money_of s x +ℤ n)) s)
    deposit_natural s x n true e h = set_natural s x (money_of s x +ℤ n) h (sum_natural (money_of s x) n (h x) (at_least n (true_lt (pos 0) n e)))
      where
        at_least : (n : ℤ) → pos 0 <ℤ n → pos 0 ≤ℤ n
        at_least n h = omega (arith, ints)
    deposit_natural s x n false e h = h

    takes_natural : (i : Interval) (s : StateMaps) (x : Input) (a : ActionTree) → matches i s x a ≡ true → waits_beyond o a ≡ false → IsNatural s → IsNatural (taken s x) × (brought party token x ≡ pos 0)
    takes_natural i s (Deposit b p t n) (deposit c q u v) g e h =
        let k = first_true (agrees b p t c q u) (int_eq n (eval i s v)) g in
        let same = all_true (same_party b c) (same_party p q) (same_token t u) k in (
          deposit_natural s (account_of b t) n (int_lt (pos 0) n) refl h,
          brings_none p q t u (int_max (pos 0) n) ((same_party_decides p q).0 same.0) ((same_token_decides t u).0 same.1) e,
        )
    takes_natural i s (Deposit b p t n) (choice id bounds) g e h = absurd (cc)
    takes_natural i s (Deposit b p t n) (notify x) g e h = absurd (cc)
    takes_natural i s (Choice id n) a g e h = (h, refl)
    takes_natural i s Notify a g e h = (h, refl)

    -- ---- contracts

    mutual
      kept : (w : Quiet) (i : Interval) (s : StateMaps) (m : ℤ) (c : ContractTree) → IsNatural s → pos 0 ≤ℤ m → asks_beyond o c ≡ false → Nets of_all_runs party token (pos 0) w i s m c
      kept w i s m close h k e =
          sum_natural m (paid_to party token (refunds s).payments) k (subst (λ z. pos 0 ≤ℤ z) (sym (refunded_is party token s)) (h (account_of party token)))
      kept w i s m (pay p y t v c) h k e =
          let r = pay_step s p y t (eval i s v) (visited i s v) c in
          let u = pays_natural s p y t (eval i s v) (visited i s v) c h in
          kept (after_reading w (is_timeless v)) i r.state (m +ℤ paid_to party token r.payments) c u.0 (sum_natural m (paid_to party token r.payments) k u.1) e
      kept w i s m (if_obs x c d) h k e =
          let next = after_reading w (holds_timeless x) in
          (λ q. kept next i s m c h k (left (asks_beyond o c) (asks_beyond o d) e), λ q. kept next i s m d h k (right (asks_beyond o c) (asks_beyond o d) e))
      kept w i s m (when ks t c) h k e =
          λ j now g v. (
            λ q. kept_cases (quiet_before t) j (record s { min_time = now }) m [] ks h k (left (ask_beyond o ks) (asks_beyond o c) e),
            λ cut q. kept (after_timeout w t) j (record s { min_time = now }) m c h k (right (ask_beyond o ks) (asks_beyond o c) e),
          )
      kept w i s m (let_be x v c) h k e = kept (after_reading w (is_timeless v)) i (binding s x (eval i s v) (visited i s v) c).state m c h k e
      kept w i s m (assert x c) h k e = kept w i s m c h k e

      kept_cases : (w : Quiet) (i : Interval) (s : StateMaps) (m : ℤ) (earlier : List ActionTree) (ks : CaseTrees) → IsNatural s → pos 0 ≤ℤ m → ask_beyond o ks ≡ false → NetsCases of_all_runs party token (pos 0) w i s m earlier ks
      kept_cases w i s m earlier no_cases h k e = tt
      kept_cases w i s m earlier (case_then a c ks) h k e =
          let here = left (waits_beyond o a || asks_beyond o c) (ask_beyond o ks) e in (
            λ x z q.
                let u = takes_natural i s x a q (left (waits_beyond o a) (asks_beyond o c) here) h in
                kept w i (taken s x) (m -ℤ brought party token x) c u.0 (less_none m (brought party token x) u.1 k) (right (waits_beyond o a) (asks_beyond o c) here),
            kept_cases w i s m (a ∷ earlier) ks h k (right (waits_beyond o a || asks_beyond o c) (ask_beyond o ks) e),
          )

no_loss : neg_ℤ (pos 0) ≡ pos 0
no_loss = omega (arith, ints)

-- who isn't the only one that may bring something brings nothing, and so loses nothing
pub loses_nothing : NetsBoundLosses → (s : StateMaps) (c : ContractTree) → AllPositive (entries s.accounts) → (o : Option Account) → asks_beyond o c ≡ false → (p : Party) (t : Token) → (o ≡ Some (account_of p t) → ⊥) → LosesAtMost p t (pos 0) s c
loses_nothing law s c above o e p t none =
    subst (λ (m : ℤ). LosesAtMost p t m s c) no_loss (law p t (pos 0) s c (λ i g v. kept p t o none (quiet_from s.min_time) i (record s { min_time = i.from }) (pos 0) c (started s above) (le_self (pos 0)) e))

pub none_lose : NetsBoundLosses → (s : StateMaps) (c : ContractTree) → AllPositive (entries s.accounts) → asks_beyond None c ≡ false → OthersLoseNothing [] s c
none_lose law s c above e p t u = loses_nothing law s c above None e p t (λ q. absurd (let k : ◌≡◌ {A = Option Account} None (Some (account_of p t)) = q in cc))
