-- What covers another bundle, and what is left to be covered after a change.
use Rattle.std.proofs.Common.{◌≡◌, ℤ, pos, ◌≤ℤ◌, true, false, cond, if◌then◌else◌, List, [], ◌∷◌, Option, Some, None, refl, ap, sym, ◌∙◌, subst, arith}
use Rattle.std.proofs.Math.Dec.{T}
use Rattle.std.proofs.lemmas.Int.{ints}
use Rattle.std.specs.Prelude.{int_lt, is_none}
use Rattle.std.specs.Option.{unwrap_or}
use Rattle.std.specs.Ordering.{is_eq, eq_by_cmp}
use Rattle.std.specs.Cmp.{tied_itself}
use Rattle.std.specs.declared.cmp.Ordering.TheVariants.{Less, Equal, Greater}
use Rattle.std.specs.FinMap.{entries, entries_sorted, get-entries}
use Rattle.std.specs.FinMap.Entries.{find, is_sorted, below_all}
use Rattle.names.proofs.FromCollections.Places.{second, third, below_head, below_tail, below_equal, find_below}
use Rattle.names.specs.declared.token.Token.{Token}
use Rattle.names.specs.Orders.{token_cmp}
use Rattle.names.specs.Totals.{token_total}
use Rattle.names.proofs.Exact.{token_exact}
use Rattle.bundle.specs.Bundles.{Amounts, amount_of, with_amount, first_short, any_large}
use Rattle.bundle.specs.Laws.{CoversEachToken, EachTokenIsCovered}
use Rattle.bundle.proofs.PositiveLaws.{amount_of-natural}
use Rattle.bundle.proofs.AmountLaws.{amount_of-with_amount}

-- where nothing is short there is as much of each entry
abbrev pub AllCovered : Amounts → List (Token × ℤ) → Type 0
AllCovered m [] = Unit {0}
AllCovered m (e ∷ es) = (e.1 ≤ℤ amount_of m e.0) × AllCovered m es

not_less : (a b : ℤ) → int_lt a b ≡ false → b ≤ℤ a
not_less a b h = grind (arith, ints)

less : (a b : ℤ) → b ≤ℤ a → int_lt a b ≡ false
less a b h = grind (arith, ints)

pub all_covered : (m : Amounts) (es : List (Token × ℤ)) → first_short m es ≡ None → AllCovered m es
all_covered m [] h = tt
all_covered m (e ∷ es) h =
    elim (int_lt (amount_of m e.0) e.1) as (λ b. int_lt (amount_of m e.0) e.1 ≡ b → (if b then Some e.0 else first_short m es) ≡ None → AllCovered m (e ∷ es)) [
      | true ↦ λ e h. cc
      | false ↦ λ q h. (not_less _ _ q, all_covered m es h)
    ] refl h

pub none_short : (m : Amounts) (es : List (Token × ℤ)) → AllCovered m es → first_short m es ≡ None
none_short m [] h = refl
none_short m (e ∷ es) h = ap (λ b. if b then Some e.0 else first_short m es) (less _ _ h.0) ∙ none_short m es h.1

-- a token that stands before others is none of them
other : (k t : Token) → token_cmp k t ≡ Less → eq_by_cmp token_cmp t k ≡ false
other k t h = elim (token_cmp t k) as (λ r. token_cmp t k ≡ r → is_eq r ≡ false) [
  | Less ↦ λ e. refl
  | Equal ↦ λ e. absurd (less_is_not (sym h ∙ ap (λ x. token_cmp k x) (token_exact t k e) ∙ tied_itself token_total k))
  | Greater ↦ λ e. refl
] refl
  where
    less_is_not : Less ≡ Equal → ⊥
    less_is_not e = cc

-- a change of a token before all of these leaves their amounts
pub unchanged : (m : Amounts) (k : Token) (v : ℤ) (t : Token) → token_cmp k t ≡ Less → amount_of (with_amount m k v) t ≡ amount_of m t
unchanged m k v t h = amount_of-with_amount m k v t ∙ ap (λ b. cond b v (amount_of m t)) (other k t h)

pub covered_after : (m : Amounts) (k : Token) (v : ℤ) (es : List (Token × ℤ)) → T (below_all token_cmp k es) → AllCovered m es → AllCovered (with_amount m k v) es
covered_after m k v [] b h = tt
covered_after m k v (e ∷ es) b h =
    (subst (λ n. e.1 ≤ℤ n) (sym (unchanged m k v e.0 (below_head token_cmp k e es b))) h.0, covered_after m k v es (below_tail token_cmp k e es b) h.1)

pub large_after : (m : Amounts) (k : Token) (v : ℤ) (es : List (Token × ℤ)) → T (below_all token_cmp k es) → any_large (with_amount m k v) es ≡ any_large m es
large_after m k v [] b = refl
large_after m k v (e ∷ es) b =
    rw (unchanged m k v e.0 (below_head token_cmp k e es b), large_after m k v es (below_tail token_cmp k e es b)) refl

at_most_found : (m : Amounts) (es : List (Token × ℤ)) (t : Token) → pos 0 ≤ℤ amount_of m t → AllCovered m es → unwrap_or (find token_cmp t es) (pos 0) ≤ℤ amount_of m t
at_most_found m [] t n h = n
at_most_found m (e ∷ es) t n h =
    elim (token_cmp t e.0) as (λ r. token_cmp t e.0 ≡ r → unwrap_or (cond (is_eq r) (Some e.1) (find token_cmp t es)) (pos 0) ≤ℤ amount_of m t) [
      | Less ↦ λ p. at_most_found m es t n h.1
      | Equal ↦ λ p. subst (λ u. e.1 ≤ℤ amount_of m u) (sym (token_exact t e.0 p)) h.0
      | Greater ↦ λ p. at_most_found m es t n h.1
    ] refl

nothing_short : (o : Option Token) → is_none o ≡ true → o ≡ None
nothing_short None h = refl
nothing_short (Some t) h = cc

pub covers_each_token : CoversEachToken
covers_each_token a b p h t =
    subst (λ o. unwrap_or o (pos 0) ≤ℤ amount_of a t) (sym (get-entries b t))
    (at_most_found a (entries b) t (amount_of-natural a t p) (all_covered a (entries b) (nothing_short _ h)))

-- of entries in order each is found
all_found : (m : Amounts) (es : List (Token × ℤ)) → T (is_sorted token_cmp es) → ((t : Token) → unwrap_or (find token_cmp t es) (pos 0) ≤ℤ amount_of m t) → ((t : Token) → pos 0 ≤ℤ amount_of m t) → AllCovered m es
all_found m [] s h n = tt
all_found m (e ∷ es) s h n = (
  subst (λ b. unwrap_or (cond b (Some e.1) (find token_cmp e.0 es)) (pos 0) ≤ℤ amount_of m e.0) (ap is_eq (tied_itself token_total e.0)) (h e.0),
  all_found m es (third _ _ s) (λ t.
      elim (token_cmp t e.0) as (λ r. token_cmp t e.0 ≡ r → unwrap_or (cond (is_eq r) (Some e.1) (find token_cmp t es)) (pos 0) ≤ℤ amount_of m t → unwrap_or (find token_cmp t es) (pos 0) ≤ℤ amount_of m t) [
        | Less ↦ λ p k. k
        | Equal ↦ λ p k. subst (λ o. unwrap_or o (pos 0) ≤ℤ amount_of m t) (sym (find_below token_cmp t es (below_equal token_cmp t token_total e.0 es p (second _ _ s)))) (n t)
        | Greater ↦ λ p k. k
      ] refl (h t)) n,
)

pub each_token_is_covered : EachTokenIsCovered
each_token_is_covered a b p h =
    ap is_none (none_short a (entries b) (all_found a (entries b) (entries_sorted b) (λ t. subst (λ o. unwrap_or o (pos 0) ≤ℤ amount_of a t) (get-entries b t) (h t)) (λ t. amount_of-natural a t p)))
