-- What a state holds after its accounts are changed.
use Rattle.std.proofs.Common.{◌≡◌, ℤ, pos, ◌+ℤ◌, Bool, true, false, cond, List, ◌∷◌, Option, Some, None, refl, ap, sym, ◌∙◌, arith}
use Rattle.std.proofs.lemmas.Int.{ints}
use Rattle.std.proofs.lemmas.Bool.Decides.{Decides-int_eq}
use Rattle.std.specs.Option.{unwrap_or}
use Rattle.std.specs.Ordering.{int_eq, eq_by_cmp}
use Rattle.std.specs.FinMap.{entries, get, insert, remove, get-insert, get-remove}
use Rattle.names.specs.declared.token.Token.{Token}
use Rattle.names.specs.declared.account.Account.{Account}
use Rattle.names.specs.Equal.{same_token}
use Rattle.names.specs.Orders.{account_cmp}
use Rattle.names.specs.Totals.{account_total}
use Rattle.states.specs.States.{StateMaps, money_of, with_money, counted, total_of}
use Rattle.names.proofs.Exact.{account_exact}
use Rattle.names.proofs.FromCollections.Total.{total-insert, total-remove, entries-remove_first}

-- a change of one account: what stands after it depends on whether the amount is 0
by_zero : (s : StateMaps) (a : Account) (v : ℤ) (P : StateMaps → Type 0) → (v ≡ pos 0 → P (record s { accounts = remove s.accounts a })) → P (record s { accounts = insert s.accounts a v }) → P (with_money s a v)
by_zero s a v P removed inserted =
    elim (int_eq v (pos 0)) as (λ b. int_eq v (pos 0) ≡ b → P (record s { accounts = cond b (remove s.accounts a) (insert s.accounts a v) })) [
      | true ↦ λ e. removed ((Decides-int_eq v (pos 0)).0 e)
      | false ↦ λ e. inserted
    ] refl

held_after : (b : Bool) (v : ℤ) (o : Option ℤ) → unwrap_or (cond b (Some v) o) (pos 0) ≡ cond b v (unwrap_or o (pos 0))
held_after true v o = refl
held_after false v o = refl

held_without : (b : Bool) (v : ℤ) (o : Option ℤ) → v ≡ pos 0 → unwrap_or (cond b None o) (pos 0) ≡ cond b v (unwrap_or o (pos 0))
held_without true v o e = sym e
held_without false v o e = refl

-- the account has the amount, and each other has what it had
pub money_of-with_money : (s : StateMaps) (a : Account) (v : ℤ) (b : Account) → money_of (with_money s a v) b ≡ cond (eq_by_cmp account_cmp b a) v (money_of s b)
money_of-with_money s a v b = by_zero s a v (λ t. money_of t b ≡ cond (eq_by_cmp account_cmp b a) v (money_of s b))
    (λ e. ap (λ o. unwrap_or o (pos 0)) (get-remove account_total s.accounts a b) ∙ held_without (eq_by_cmp account_cmp b a) v (get s.accounts b) e)
    (ap (λ o. unwrap_or o (pos 0)) (get-insert account_total s.accounts a v b) ∙ held_after (eq_by_cmp account_cmp b a) v (get s.accounts b))

-- what an account counts of a token
abbrev counts : Token → Account → ℤ → ℤ
counts t a v = counted t a.token v

nothing : (t : Token) (a : Account) → counted t a.token (pos 0) ≡ pos 0
nothing t a = elim (same_token t a.token) as (λ b. cond b (pos 0) (pos 0) ≡ pos 0) [ true ↦ refl | false ↦ refl ]

none_more : (x y z w : ℤ) → x +ℤ y ≡ z → w ≡ pos 0 → x +ℤ y ≡ z +ℤ w
none_more x y z w e h = omega (arith, ints)

-- a token's total changes by what the account has more
pub total_of-with_money : (t : Token) (s : StateMaps) (a : Account) (v : ℤ) → total_of t (with_money s a v) +ℤ counted t a.token (money_of s a) ≡ total_of t s +ℤ counted t a.token v
total_of-with_money t s a v = by_zero s a v (λ u. total_of t u +ℤ counted t a.token (money_of s a) ≡ total_of t s +ℤ counted t a.token v)
    (λ e. none_more (total_of t (record s { accounts = remove s.accounts a })) (counted t a.token (money_of s a)) (total_of t s) (counted t a.token v)
    (total-remove account_cmp account_total account_exact (counts t) (nothing t) s.accounts a) (ap (counted t a.token) e ∙ nothing t a))
    (total-insert account_cmp account_total account_exact (counts t) (nothing t) s.accounts a v)

-- to empty the first account leaves the others
pub entries-refund : (s : StateMaps) (e : Account × ℤ) (es : List (Account × ℤ)) → entries s.accounts ≡ e ∷ es → entries (with_money s e.0 (pos 0)).accounts ≡ es
entries-refund s e es is = entries-remove_first account_cmp account_total account_exact s.accounts e es is
