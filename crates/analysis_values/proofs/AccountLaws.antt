-- Views of states whose accounts change, and of what was paid.
use Rattle.std.proofs.Common.{◌≡◌, ℕ, ℤ, pos, neg_ℤ, ◌+ℤ◌, ◌^◌, ◌≤ℤ◌, ◌<ℤ◌, int_lt, int_le, Bool, true, false, cond, List, [], ◌∷◌, ◌++◌, map, refl, sym, ap, ◌∙◌, subst, arith, Option, Some, IfSome}
use Rattle.std.proofs.lemmas.Int.{ints}
use Rattle.std.specs.Prelude.{not}
use Rattle.std.specs.Option.{unwrap_or}
use Rattle.std.specs.Ordering.{eq_by_cmp}
use Rattle.std.specs.FinMap.Entries.{find}
use Rattle.std.specs.FinMap.{get, entries, remove}
use Rattle.contract.specs.Collections.Total.{total}
use Rattle.contract.proofs.FromCollections.Total.{by, total-remove, entries-remove}
use Rattle.contract.specs.Collections.Keys.{without}
use Rattle.contract.specs.Names.declared.account.Account.{Account}
use Rattle.contract.specs.Names.declared.party.Party.{Party}
use Rattle.contract.specs.Names.declared.payee.Payee.{Payee}
use Rattle.contract.specs.Names.declared.payee.Payee.TheVariants.{Account as ToAccount, Party as ToParty}
use Rattle.contract.specs.Names.declared.token.Token.{Token}
use Rattle.contract.specs.Names.Equal.{same_party, same_token}
use Rattle.contract.specs.Names.Orders.{account_cmp}
use Rattle.contract.specs.Names.Totals.{account_total}
use Rattle.contract.proofs.FromNames.Exact.{account_exact}
use Rattle.contract.proofs.FromNames.EqualLaws.{order_decides, same_party_decides, same_token_decides}
use Rattle.contract.specs.declared.interval.Interval.{Interval}
use Rattle.contract.specs.declared.payment.Payment.{Payment}
use Rattle.contract.specs.States.States.{StateMaps, money_of, with_money, counted}
use Rattle.contract.proofs.FromStates.Accounts.{money_of-with_money}
use Rattle.semantics.specs.Evaluation.Numbers.{fits}
use Rattle.semantics.specs.Reduction.{account_of, refund_of}
use Rattle.linear.specs.Linear.{Linear, Valuation, number_at, number}
use Rattle.linear.proofs.NumberLaws.{both, true_lt}
use Rattle.analysis_spec.specs.Runs.{reaches_party, paid_to}
use Rattle.analysis_walk.specs.Limits.{Scope, any_runs, written_runs, Allowed}
use Rattle.analysis_walk.proofs.PaidLaws.{total_append}
use Rattle.analysis_values.specs.Known.{View, with_amount, IsSeen}
use Rattle.analysis_values.proofs.KnownLaws.{fits_between}

-- ---- numbers

amount_at : (r : Valuation) (b : Bool) (n : ℤ) (l : Linear) (o : Option Linear) → n ≡ number_at r l → cond b n (number_at r (unwrap_or o (number (pos 0)))) ≡ number_at r (unwrap_or (cond b (Some l) o) (number (pos 0)))
amount_at r true n l o e = e
amount_at r false n l o e = refl

one_of_both : (P : ℤ → Type 0) (b : Bool) (n m : ℤ) → P n → P m → P (cond b n m)
one_of_both P true n m h k = h
one_of_both P false n m h k = k

no_less : (n : ℤ) → pos 0 ≤ℤ n → neg_ℤ (pos (2 ^ 127)) ≤ℤ n
no_less n h = reach (neg_ℤ (pos (2 ^ 127))) (pos 0) n (negative (2 ^ 127)) h
  where
    negative : (m : ℕ) → neg_ℤ (pos m) ≤ℤ pos 0
    negative m = omega (arith, ints)

    reach : (a b c : ℤ) → a ≤ℤ b → b ≤ℤ c → a ≤ℤ c
    reach a b c h k = omega (arith, ints)

less_than : (n b c : ℤ) → n ≤ℤ b → b <ℤ c → n <ℤ c
less_than n b c h k = omega (arith, ints)

-- what lies between 0 and an allowed number is allowed
pub allowed_below : (scope : Scope) (n b : ℤ) → pos 0 ≤ℤ n → n ≤ℤ b → Allowed scope b → Allowed scope n
unfolding fits
allowed_below any_runs n b h k a = tt
allowed_below written_runs n b h k a =
    fits_between n (no_less n h) (less_than n b (pos (2 ^ 127)) k (true_lt b (pos (2 ^ 127)) (both (int_le (neg_ℤ (pos (2 ^ 127))) b) (int_lt b (pos (2 ^ 127))) a).1))

pub sum_natural : (a b : ℤ) → pos 0 ≤ℤ a → pos 0 ≤ℤ b → pos 0 ≤ℤ (a +ℤ b)
sum_natural a b h k = omega (arith, ints)

and_none : (a b : ℤ) → a +ℤ (b +ℤ pos 0) ≡ a +ℤ b
and_none a b = omega (arith, ints)

-- ---- an account

module _ (scope : Scope) (r : Valuation) (i : Interval) where
  pub amount_seen : (v : View) (s : StateMaps) (ps : List Payment) (p : Party) (t : Token) (l : Linear) (n : ℤ) → IsSeen scope r v i s ps → n ≡ number_at r l → pos 0 ≤ℤ n → Allowed scope n
      → IsSeen scope r (with_amount v p t l) i (with_money s (account_of p t) n) ps
  amount_seen v s ps p t l n e f g h =
      let m : (a : Account) → money_of (with_money s (account_of p t) n) a ≡ cond (eq_by_cmp account_cmp a (account_of p t)) n (money_of s a) = λ a. money_of-with_money s (account_of p t) n a in
      record {
        accounts = λ a. m a ∙ ap (cond (eq_by_cmp account_cmp a (account_of p t)) n) (e.accounts a) ∙ amount_at r (eq_by_cmp account_cmp a (account_of p t)) n l (find account_cmp a v.accounts) f;
        choices = e.choices;
        bound = e.bound;
        paid = e.paid;
        start = e.start;
        end = e.end;
        valid = e.valid;
        times = e.times;
        natural = λ a. subst (λ z. pos 0 ≤ℤ z) (sym (m a)) (one_of_both (λ z. pos 0 ≤ℤ z) (eq_by_cmp account_cmp a (account_of p t)) n (money_of s a) g (e.natural a));
        money = λ a. subst (Allowed scope) (sym (m a)) (one_of_both (Allowed scope) (eq_by_cmp account_cmp a (account_of p t)) n (money_of s a) h (e.money a));
        chosen = e.chosen;
        values = e.values;
        from = e.from;
        to = e.to;
      }

  -- the same accounts in another state
  pub same_money_seen : (v : View) (s u : StateMaps) (ps qs : List Payment) → ((a : Account) → money_of u a ≡ money_of s a) → u.choices ≡ s.choices → u.bound_values ≡ s.bound_values
      → ((a : Account) → paid_to a.owner a.token qs ≡ paid_to a.owner a.token ps) → IsSeen scope r v i s ps → IsSeen scope r v i u qs
  same_money_seen v s u ps qs m c b p e = record {
    accounts = λ a. m a ∙ e.accounts a;
    choices = λ id. ap (λ z. get z id) c ∙ e.choices id;
    bound = λ x. ap (λ z. get z x) b ∙ e.bound x;
    paid = λ a. p a ∙ e.paid a;
    start = e.start;
    end = e.end;
    valid = e.valid;
    times = e.times;
    natural = λ a. subst (λ z. pos 0 ≤ℤ z) (sym (m a)) (e.natural a);
    money = λ a. subst (Allowed scope) (sym (m a)) (e.money a);
    chosen = λ id. subst (λ z. IfSome (get z id) (Allowed scope)) (sym c) (e.chosen id);
    values = λ x. subst (λ z. IfSome (get z x) (Allowed scope)) (sym b) (e.values x);
    from = e.from;
    to = e.to;
  }

-- ---- what is paid

pub account_decides : (a b : Account) → (eq_by_cmp account_cmp a b ≡ true → a ≡ b) × (a ≡ b → eq_by_cmp account_cmp a b ≡ true)
account_decides a b = let d = order_decides account_cmp account_total account_exact a b in (d.0, d.1)

same_account : (a : Account) (p : Party) (t : Token) → a.owner ≡ p → a.token ≡ t → a ≡ account_of p t
same_account a p t h k = ap (λ q. account_of q a.token) h ∙ ap (λ u. account_of p u) k

-- a payment reaches a party in a token where it is of this account
pub share_is : (a : Account) (p : Party) (t : Token) (n : ℤ) → reaches_party a.owner (ToParty p) (counted a.token t n) ≡ cond (eq_by_cmp account_cmp a (account_of p t)) n (pos 0)
share_is a p t n = by_tests (same_party a.owner p) (same_token a.token t) (eq_by_cmp account_cmp a (account_of p t)) refl refl refl
  where
    never : {P : Type 0} (b : Bool) → b ≡ true → b ≡ false → P
    never b h k = absurd (cc)

    by_tests : (b d e : Bool) → same_party a.owner p ≡ b → same_token a.token t ≡ d → eq_by_cmp account_cmp a (account_of p t) ≡ e → cond b (cond d n (pos 0)) (pos 0) ≡ cond e n (pos 0)
    by_tests true true true x y z = refl
    by_tests true true false x y z = never (eq_by_cmp account_cmp a (account_of p t)) ((account_decides a (account_of p t)).1 (same_account a p t ((same_party_decides a.owner p).0 x) ((same_token_decides a.token t).0 y))) z
    by_tests true false true x y z = never (same_token a.token t) ((same_token_decides a.token t).1 (ap (λ (c : Account). c.token) ((account_decides a (account_of p t)).0 z))) y
    by_tests true false false x y z = refl
    by_tests false d true x y z = never (same_party a.owner p) ((same_party_decides a.owner p).1 (ap (λ (c : Account). c.owner) ((account_decides a (account_of p t)).0 z))) x
    by_tests false d false x y z = refl

-- with so much more paid to a payee
abbrev pub Pays : List Payment → List Payment → Payee → Token → ℤ → Type 0
Pays ps qs y t n = (a : Account) → paid_to a.owner a.token qs ≡ paid_to a.owner a.token ps +ℤ reaches_party a.owner y (counted a.token t n)

pub pays_one : (ps : List Payment) (p : Party) (y : Payee) (t : Token) (n : ℤ) → Pays ps (ps ++ record { from = p; to = y; token = t; amount = n } ∷ []) y t n
pays_one ps p y t n a =
    let f : Payment → ℤ = λ q. reaches_party a.owner q.to (counted a.token q.token q.amount) in
    total_append f ps (record { from = p; to = y; token = t; amount = n } ∷ []) ∙ and_none (paid_to a.owner a.token ps) (reaches_party a.owner y (counted a.token t n))

none_reaches : (party : Party) (token t : Token) (y : Payee) → reaches_party party y (counted token t (pos 0)) ≡ pos 0
none_reaches party token t (ToParty p) = by_tests (same_party party p) (same_token token t)
  where
    by_tests : (b d : Bool) → cond b (cond d (pos 0) (pos 0)) (pos 0) ≡ pos 0
    by_tests true true = refl
    by_tests true false = refl
    by_tests false d = refl
none_reaches party token t (ToAccount p) = refl

pub pays_none : (ps : List Payment) (y : Payee) (t : Token) → Pays ps (ps ++ []) y t (pos 0)
pays_none ps y t a =
    let f : Payment → ℤ = λ q. reaches_party a.owner q.to (counted a.token q.token q.amount) in
    total_append f ps [] ∙ ap (λ z. paid_to a.owner a.token ps +ℤ z) (sym (none_reaches a.owner a.token t y))

-- ---- what is refunded

sum_none : (a b c : ℤ) → a +ℤ b ≡ c → a ≡ pos 0 → c ≡ b
sum_none a b c h k = omega (arith, ints)

both_none : (a b : ℤ) → a ≡ pos 0 → b ≡ pos 0 → a +ℤ b ≡ pos 0
both_none a b h k = omega (arith, ints)

module _ (p : Party) (t : Token) where
  abbrev weigh : Account → ℤ → ℤ
  weigh a n = reaches_party p (ToParty a.owner) (counted t a.token n)

  weigh_none : (a : Account) → weigh a (pos 0) ≡ pos 0
  weigh_none a = none_reaches p t a.token (ToParty a.owner)

  weigh_other : (a : Account) (n : ℤ) → eq_by_cmp account_cmp (account_of p t) a ≡ false → weigh a n ≡ pos 0
  weigh_other a n h = share_is (account_of p t) a.owner a.token n ∙ ap (λ b. cond b n (pos 0)) h

  weigh_own : (n : ℤ) → weigh (account_of p t) n ≡ n
  weigh_own n = share_is (account_of p t) p t n ∙ ap (λ b. cond b n (pos 0)) ((account_decides (account_of p t) (account_of p t)).1 refl)

  others_weigh_none : (es : List (Account × ℤ)) → total (by weigh) (without account_cmp (account_of p t) es) ≡ pos 0
  others_weigh_none [] = refl
  others_weigh_none (e ∷ es) = by_test (eq_by_cmp account_cmp (account_of p t) e.0) refl (others_weigh_none es)
    where
      by_test : (b : Bool) → eq_by_cmp account_cmp (account_of p t) e.0 ≡ b → total (by weigh) (without account_cmp (account_of p t) es) ≡ pos 0
          → total (by weigh) (cond (not b) (e ∷ without account_cmp (account_of p t) es) (without account_cmp (account_of p t) es)) ≡ pos 0
      by_test true q h = h
      by_test false q h = both_none (weigh e.0 e.1) (total (by weigh) (without account_cmp (account_of p t) es)) (weigh_other e.0 e.1 q) h

  same_total : (es : List (Account × ℤ)) → paid_to p t (map refund_of es) ≡ total (by weigh) es
  same_total [] = refl
  same_total (e ∷ es) = ap (λ z. weigh e.0 e.1 +ℤ z) (same_total es)

  -- a Close pays a party what its account has
  pub refunded_is : (s : StateMaps) → paid_to p t (map refund_of (entries s.accounts)) ≡ money_of s (account_of p t)
  refunded_is s =
      same_total (entries s.accounts)
      ∙ sum_none (total (by weigh) (entries (remove s.accounts (account_of p t)))) (weigh (account_of p t) (money_of s (account_of p t))) (total (by weigh) (entries s.accounts))
      (total-remove account_cmp account_total account_exact weigh weigh_none s.accounts (account_of p t))
      (ap (total (by weigh)) (entries-remove account_cmp account_total account_exact s.accounts (account_of p t)) ∙ others_weigh_none (entries s.accounts))
      ∙ weigh_own (money_of s (account_of p t))
