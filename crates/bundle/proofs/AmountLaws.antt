-- What a change of one amount and of many leaves of each token.
use Rattle.std.proofs.Common.{◌≡◌, ℤ, pos, ◌+ℤ◌, ◌-ℤ◌, Bool, true, false, cond, List, [], ◌∷◌, Option, Some, None, refl, ap, sym, ◌∙◌, arith}
use Rattle.std.proofs.Math.Dec.{T}
use Rattle.std.proofs.lemmas.Int.{ints}
use Rattle.std.proofs.lemmas.Bool.Decides.{Decides-int_eq}
use Rattle.std.specs.Option.{unwrap_or}
use Rattle.std.specs.Ordering.{int_eq, is_eq, eq_by_cmp}
use Rattle.std.specs.declared.cmp.Ordering.TheVariants.{Less, Equal, Greater}
use Rattle.std.specs.FinMap.{entries, entries_sorted, get, insert, remove, get-insert, get-remove, get-entries}
use Rattle.std.specs.FinMap.Entries.{find, is_sorted}
use Rattle.names.proofs.FromCollections.Places.{second, third, find_below, below_equal}
use Rattle.names.specs.declared.token.Token.{Token}
use Rattle.names.specs.Orders.{token_cmp}
use Rattle.names.specs.Totals.{token_total}
use Rattle.names.proofs.Exact.{token_exact}
use Rattle.bundle.specs.Bundles.{Amounts, amount_of, with_amount, each}
use Rattle.bundle.specs.Laws.{SumsAreOfEachToken, RestsAreOfEachToken}

-- a change of one amount: what stands after it depends on whether the amount is 0
pub by_zero : (m : Amounts) (t : Token) (v : ℤ) (P : Amounts → Type 0) → (v ≡ pos 0 → P (remove m t)) → P (insert m t v) → P (with_amount m t v)
by_zero m t v P removed inserted =
    elim (int_eq v (pos 0)) as (λ b. int_eq v (pos 0) ≡ b → P (cond b (remove m t) (insert m t v))) [
      | true ↦ λ e. removed ((Decides-int_eq v (pos 0)).0 e)
      | false ↦ λ e. inserted
    ] refl

held_after : (b : Bool) (v : ℤ) (o : Option ℤ) → unwrap_or (cond b (Some v) o) (pos 0) ≡ cond b v (unwrap_or o (pos 0))
held_after true v o = refl
held_after false v o = refl

held_without : (b : Bool) (v : ℤ) (o : Option ℤ) → v ≡ pos 0 → unwrap_or (cond b None o) (pos 0) ≡ cond b v (unwrap_or o (pos 0))
held_without true v o e = sym e
held_without false v o e = refl

-- the token has the amount, and each other has what it had
pub amount_of-with_amount : (m : Amounts) (t : Token) (v : ℤ) (u : Token) → amount_of (with_amount m t v) u ≡ cond (eq_by_cmp token_cmp u t) v (amount_of m u)
amount_of-with_amount m t v u = by_zero m t v (λ n. amount_of n u ≡ cond (eq_by_cmp token_cmp u t) v (amount_of m u))
    (λ e. ap (λ o. unwrap_or o (pos 0)) (get-remove token_total m t u) ∙ held_without (eq_by_cmp token_cmp u t) v (get m u) e)
    (ap (λ o. unwrap_or o (pos 0)) (get-insert token_total m t v u) ∙ held_after (eq_by_cmp token_cmp u t) v (get m u))

-- what an entry makes of an amount, if there is one
abbrev pub changed : (ℤ → ℤ → ℤ) → ℤ → Option ℤ → ℤ
changed f n None = n
changed f n (Some k) = f n k

-- the first token's amount is changed once, since no other entry is of it
pub amount_of-each : (f : ℤ → ℤ → ℤ) (m : Amounts) (es : List (Token × ℤ)) (u : Token) → T (is_sorted token_cmp es) → amount_of (each f m es) u ≡ changed f (amount_of m u) (find token_cmp u es)
amount_of-each f m [] u s = refl
amount_of-each f m (e ∷ es) u s =
    amount_of-each f (with_amount m e.0 (f (amount_of m e.0) e.1)) es u (third _ _ s)
    ∙ ap (λ n. changed f n (find token_cmp u es)) (amount_of-with_amount m e.0 (f (amount_of m e.0) e.1) u)
    ∙ elim (token_cmp u e.0) as (λ r. token_cmp u e.0 ≡ r → changed f (cond (is_eq r) (f (amount_of m e.0) e.1) (amount_of m u)) (find token_cmp u es) ≡ changed f (amount_of m u) (cond (is_eq r) (Some e.1) (find token_cmp u es))) [
      | Less ↦ λ p. refl
      | Equal ↦ λ p.
          ap (changed f (f (amount_of m e.0) e.1)) (find_below token_cmp u es (below_equal token_cmp u token_total e.0 es p (second _ _ s)))
          ∙ ap (λ t. f (amount_of m t) e.1) (sym (token_exact u e.0 p))
      | Greater ↦ λ p. refl
    ] refl

none_more : (n : ℤ) → n ≡ n +ℤ pos 0
none_more n = omega (arith, ints)

none_less : (n : ℤ) → n ≡ n -ℤ pos 0
none_less n = omega (arith, ints)

more_of : (n : ℤ) (o : Option ℤ) → changed (λ m k. m +ℤ k) n o ≡ n +ℤ unwrap_or o (pos 0)
more_of n None = none_more n
more_of n (Some k) = refl

less_of : (n : ℤ) (o : Option ℤ) → changed (λ m k. m -ℤ k) n o ≡ n -ℤ unwrap_or o (pos 0)
less_of n None = none_less n
less_of n (Some k) = refl

pub sums_are_of_each_token : SumsAreOfEachToken
sums_are_of_each_token a b t =
    amount_of-each (λ m n. m +ℤ n) a (entries b) t (entries_sorted b)
    ∙ more_of (amount_of a t) (find token_cmp t (entries b))
    ∙ ap (λ o. amount_of a t +ℤ unwrap_or o (pos 0)) (sym (get-entries b t))

pub rests_are_of_each_token : RestsAreOfEachToken
rests_are_of_each_token a b t =
    amount_of-each (λ m n. m -ℤ n) a (entries b) t (entries_sorted b)
    ∙ less_of (amount_of a t) (find token_cmp t (entries b))
    ∙ ap (λ o. amount_of a t -ℤ unwrap_or o (pos 0)) (sym (get-entries b t))
