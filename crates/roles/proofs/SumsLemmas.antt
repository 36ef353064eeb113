-- What accounts hold together, and what is left of an amount from which they are taken.
use Rattle.std.proofs.Common.{◌≡◌, ℕ, ◌+◌, ◌<◌, ℤ, pos, ◌+ℤ◌, ◌-ℤ◌, ◌≤ℤ◌, ◌<ℤ◌, true, false, cond, List, [], ◌∷◌, length, map, drop, get_or, refl, sym, ◌∙◌, ap, subst, arith}
use Rattle.std.proofs.lemmas.Int.{ints}
use Rattle.std.proofs.lemmas.List.{drop_more, length-map}
use Rattle.std.specs.Prelude.{int_lt}
use Rattle.std.specs.Option.{unwrap_or}
use Rattle.std.specs.Ordering.{is_eq, eq_by_cmp}
use Rattle.std.specs.Cmp.{tied_itself}
use Rattle.std.specs.declared.cmp.Ordering.TheVariants.{Less, Equal, Greater}
use Rattle.std.specs.FinMap.{FinMap, empty, entries, insert, from_sorted, same_entries_map, entries-insert, entries-from_sorted, get-empty, get-entries, entries_sorted}
use Rattle.std.specs.FinMap.Entries.{put}
use Rattle.contract.specs.Collections.Total.{total}
use Rattle.contract.proofs.FromCollections.Maps.{no_entries}
use Rattle.contract.proofs.FromCollections.Total.{entries-remove}
use Rattle.contract.specs.Names.declared.token.Token.{Token}
use Rattle.contract.specs.Names.declared.account.Account.{Account}
use Rattle.contract.specs.Names.Orders.{token_cmp}
use Rattle.contract.specs.Names.Totals.{token_total}
use Rattle.contract.proofs.FromNames.Exact.{token_exact}
use Rattle.contract.specs.States.States as states
use Rattle.contract.specs.States.States.{in_token}
use Rattle.eutxo.specs.Bundle.Bundles.{Amounts, amount_of, AllPositive}
use Rattle.eutxo.proofs.FromBundle.AmountLaws.{amount_of-with_amount, by_zero}
use Rattle.eutxo.proofs.FromBundle.PositiveLaws.{AllPositive-put, AllPositive-where_key}
use Rattle.eutxo.proofs.FromBundle.ApartLaws.{amounts_tell_apart}
use Rattle.roles.specs.LeftSupport.{left_of, IsTaken}
use Rattle.roles.specs.Sums.{sums_in}
use Rattle.roles.specs.Steps.{only}
use Rattle.roles.proofs.LeftLemmas.{left_first, left_none, none_left, all_zero}

pub entries-empty : entries (empty {X = ℤ} {R = token_cmp}) ≡ []
entries-empty = ap entries (sym (no_entries token_cmp)) ∙ entries-from_sorted token_cmp [] tt

pub entries-only : (t : Token) (n : ℤ) → entries (only t n) ≡ (t, n) ∷ []
entries-only t n = entries-insert token_total empty t n ∙ ap (put token_cmp t n) entries-empty

-- the map of one entry
pub only_is : (t : Token) (n : ℤ) → from_sorted {R = token_cmp} ((t, n) ∷ []) ≡ only t n
only_is t n = same_entries_map (from_sorted ((t, n) ∷ [])) (only t n) (entries-from_sorted token_cmp ((t, n) ∷ []) tt ∙ sym (entries-only t n))

pub amount_of-empty : (t : Token) → amount_of empty t ≡ pos 0
amount_of-empty t = ap (λ o. unwrap_or o (pos 0)) (get-empty token_cmp t)

swap : (a b : ℤ) → a +ℤ b ≡ b +ℤ a
swap a b = omega (arith, ints)

none_more : (a : ℤ) → a ≡ pos 0 +ℤ a
none_more a = omega (arith, ints)

-- the sums are, token by token, what the accounts hold
pub amount_of-sums : (es : List (Account × ℤ)) (t : Token) → amount_of (sums_in es) t ≡ total (in_token t) es
amount_of-sums [] t = amount_of-empty t
amount_of-sums (e ∷ es) t =
    amount_of-with_amount (sums_in es) e.0.token (amount_of (sums_in es) e.0.token +ℤ e.1) t
    ∙ elim (token_cmp t e.0.token) as (λ r. token_cmp t e.0.token ≡ r → cond (is_eq r) (amount_of (sums_in es) e.0.token +ℤ e.1) (amount_of (sums_in es) t) ≡ cond (is_eq r) e.1 (pos 0) +ℤ total (in_token t) es) [
      | Less ↦ λ p. amount_of-sums es t ∙ none_more (total (in_token t) es)
      | Equal ↦ λ p. ap (λ u. amount_of (sums_in es) u +ℤ e.1) (sym (token_exact t e.0.token p)) ∙ ap (λ n. n +ℤ e.1) (amount_of-sums es t) ∙ swap (total (in_token t) es) e.1
      | Greater ↦ λ p. amount_of-sums es t ∙ none_more (total (in_token t) es)
    ] refl

above : (v : ℤ) → pos 0 ≤ℤ v → ((v ≡ pos 0) → ⊥) → pos 0 <ℤ v
above v h ne = omega (arith, ints, h, ne)

positive_put : (m : Amounts) (t : Token) (v : ℤ) → pos 0 <ℤ v → AllPositive (entries m) → AllPositive (entries (insert m t v))
positive_put m t v p h = subst AllPositive (sym (entries-insert token_total m t v)) (AllPositive-put t v (entries m) p h)

positive_without : (m : Amounts) (t : Token) → AllPositive (entries m) → AllPositive (entries (Rattle.std.specs.FinMap.remove m t))
positive_without m t h = subst AllPositive (sym (entries-remove token_cmp token_total token_exact m t)) (AllPositive-where_key _ (entries m) h)

two : (a b : ℤ) → pos 0 ≤ℤ a → pos 0 <ℤ b → pos 0 <ℤ (a +ℤ b)
two a b h k = omega (arith, ints, h, k)

more : (a b : ℤ) → pos 0 ≤ℤ a → pos 0 ≤ℤ b → pos 0 ≤ℤ (a +ℤ b)
more a b h k = omega (arith, ints, h, k)

at_least : (a : ℤ) → pos 0 <ℤ a → pos 0 ≤ℤ a
at_least a h = omega (arith, ints, h)

nothing : pos 0 ≤ℤ pos 0
nothing = omega (arith, ints)

-- what accounts above 0 hold is 0 or more
pub total-natural : (es : List (Account × ℤ)) (t : Token) → states.AllPositive es → pos 0 ≤ℤ total (in_token t) es
total-natural [] t h = nothing
total-natural (e ∷ es) t h = more (cond (eq_by_cmp token_cmp t e.0.token) e.1 (pos 0)) (total (in_token t) es)
    (elim (eq_by_cmp token_cmp t e.0.token) as (λ b. pos 0 ≤ℤ cond b e.1 (pos 0)) [ true ↦ at_least e.1 h.0 | false ↦ nothing ])
    (total-natural es t h.1)

not_zero : (v : ℤ) → pos 0 <ℤ v → v ≡ pos 0 → ⊥
not_zero v h e = omega (arith, ints, h, e)

pub positive_sums : (es : List (Account × ℤ)) → states.AllPositive es → AllPositive (entries (sums_in es))
positive_sums [] h = subst AllPositive (sym entries-empty) tt
positive_sums (e ∷ es) h =
    let n : pos 0 <ℤ (amount_of (sums_in es) e.0.token +ℤ e.1) = two (amount_of (sums_in es) e.0.token) e.1 (subst (λ n. pos 0 ≤ℤ n) (sym (amount_of-sums es e.0.token)) (total-natural es e.0.token h.1)) h.0 in
    by_zero (sums_in es) e.0.token (amount_of (sums_in es) e.0.token +ℤ e.1) (λ m. AllPositive (entries m))
    (λ z. absurd (not_zero _ n z))
    (positive_put (sums_in es) e.0.token _ n (positive_sums es h.1))

-- what is left of an amount from which the first of the accounts were taken
pub record IsLeft (held : Amounts) (left : List ℤ) (all rest : List (Account × ℤ)) : Type 0 where
  pub each : length left ≡ length (entries held)
  pub whole : (t : Token) → amount_of held t +ℤ total (in_token t) rest ≡ left_of (entries held) left t +ℤ total (in_token t) all
  pub positive : states.AllPositive rest

pub at_first : (held : Amounts) (all : List (Account × ℤ)) → states.AllPositive all → IsLeft held (map (λ e. e.1) (entries held)) all all
at_first held all h = record {
  each = length-map (entries held) (λ e. e.1);
  whole = λ t. ap (λ n. n +ℤ total (in_token t) all) (ap (λ o. unwrap_or o (pos 0)) (get-entries held t) ∙ sym (left_first (entries held) t));
  positive = h;
}

less : (h e r l a : ℤ) → h +ℤ (e +ℤ r) ≡ l +ℤ a → h +ℤ r ≡ (l -ℤ e) +ℤ a
less h e r l a q = omega (arith, ints, q)

others : (h r l a : ℤ) → h +ℤ (pos 0 +ℤ r) ≡ l +ℤ a → h +ℤ r ≡ l +ℤ a
others h r l a q = omega (arith, ints, q)

pub taken : (held : Amounts) (left new : List ℤ) (all : List (Account × ℤ)) (e : Account × ℤ) (rest : List (Account × ℤ)) → IsLeft held left all (e ∷ rest) → length new ≡ length (entries held) →
    IsTaken (entries held) left new e.0.token e.1 → IsLeft held new all rest
taken held left new all e rest h l k =
    let es = entries held in
    record {
      each = l;
      positive = h.positive.1;
      whole = λ t. elim (token_cmp t e.0.token) as (λ r. token_cmp t e.0.token ≡ r → amount_of held t +ℤ (cond (is_eq r) e.1 (pos 0) +ℤ total (in_token t) rest) ≡ left_of es left t +ℤ total (in_token t) all → amount_of held t +ℤ total (in_token t) rest ≡ cond (is_eq r) (left_of es left e.0.token -ℤ e.1) (left_of es left t) +ℤ total (in_token t) all) [
        | Less ↦ λ p q. others (amount_of held t) (total (in_token t) rest) (left_of es left t) (total (in_token t) all) q
        | Equal ↦ λ p q. less (amount_of held t) e.1 (total (in_token t) rest) (left_of es left t) (total (in_token t) all) q ∙ ap (λ u. (left_of es left u -ℤ e.1) +ℤ total (in_token t) all) (token_exact t e.0.token p)
        | Greater ↦ λ p q. others (amount_of held t) (total (in_token t) rest) (left_of es left t) (total (in_token t) all) q
      ] refl (h.whole t) ∙ ap (λ n. n +ℤ total (in_token t) all) (sym (k t));
    }

lacking : (h e r l a : ℤ) → h +ℤ (e +ℤ r) ≡ l +ℤ a → l <ℤ e → pos 0 ≤ℤ r → h ≡ a → ⊥
lacking h e r l a q s n w = omega (arith, ints, q, s, n, w)

below : (a b : ℤ) → int_lt a b ≡ true → a <ℤ b
below a b h = grind (arith, ints)

not_below : (a b : ℤ) → int_lt a b ≡ false → b ≤ℤ a
not_below a b h = grind (arith, ints)

-- where an account can't be taken, the amount isn't the sums
pub too_little : (held : Amounts) (left : List ℤ) (all : List (Account × ℤ)) (e : Account × ℤ) (rest : List (Account × ℤ)) → IsLeft held left all (e ∷ rest) → int_lt (left_of (entries held) left e.0.token) e.1 ≡ true → held ≡ sums_in all → ⊥
too_little held left all e rest h s q =
    let t = e.0.token in
    lacking (amount_of held t) e.1 (total (in_token t) rest) (left_of (entries held) left t) (total (in_token t) all)
    (subst (λ b. amount_of held t +ℤ (cond b e.1 (pos 0) +ℤ total (in_token t) rest) ≡ left_of (entries held) left t +ℤ total (in_token t) all) (ap is_eq (tied_itself token_total t)) (h.whole t))
    (below (left_of (entries held) left t) e.1 s) (total-natural rest t h.positive.1) (ap (λ m. amount_of m t) q ∙ amount_of-sums all t)

used : (h l a : ℤ) → h +ℤ pos 0 ≡ l +ℤ a → l ≡ pos 0 → h ≡ a
used h l a q z = omega (arith, ints, q, z)

rest_none : (h l a : ℤ) → h +ℤ pos 0 ≡ l +ℤ a → h ≡ a → l ≡ pos 0
rest_none h l a q w = omega (arith, ints, q, w)

-- where nothing is left in the end it is
pub all_taken : (held : Amounts) (left : List ℤ) (all : List (Account × ℤ)) → IsLeft held left all [] → states.AllPositive all → AllPositive (entries held) → all_zero left ≡ true → held ≡ sums_in all
all_taken held left all h p q z = amounts_tell_apart held (sums_in all) q (positive_sums all p)
    (λ t. used (amount_of held t) (left_of (entries held) left t) (total (in_token t) all) (h.whole t) (left_none (entries held) left t z) ∙ sym (amount_of-sums all t))

-- and only there
pub nothing_left : (held : Amounts) (left : List ℤ) (all : List (Account × ℤ)) → IsLeft held left all [] → held ≡ sums_in all → all_zero left ≡ true
nothing_left held left all h q = none_left (entries held) left (entries_sorted held) h.each
    (λ t. rest_none (amount_of held t) (left_of (entries held) left t) (total (in_token t) all) (h.whole t) (ap (λ m. amount_of m t) q ∙ amount_of-sums all t))

pub here : (es : List (Account × ℤ)) (i : ℕ) (e : Account × ℤ) → i < length es → e ≡ get_or es i e → drop i es ≡ e ∷ drop (i + 1) es
here es i e l is = drop_more es i e l ∙ ap (λ x. x ∷ drop (i + 1) es) (sym is)
