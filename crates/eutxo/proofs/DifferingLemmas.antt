-- The walk along what is spent and made finds the least token of which the sums differ.
use Rattle.std.proofs.Common.{◌≡◌, ◌≢◌, ℤ, pos, ◌+ℤ◌, neg_ℤ, Bool, true, false, not, ◌||◌, List, [], ◌∷◌, ◌++◌, map, Option, Some, None, refl, sym, ◌∙◌, ap, subst, arith}
use Rattle.std.proofs.lemmas.Int.{ints}
use Rattle.std.proofs.lemmas.Bool.{both_ways, or_parts}
use Rattle.std.proofs.lemmas.Bool.Decides.{Decides-int_eq}
use Rattle.std.specs.List.{list_any}
use Rattle.std.specs.List.Sorted.{IsPermutation}
use Rattle.std.specs.Option.{unwrap_or, is_some}
use Rattle.std.specs.Ordering.{eq_by_cmp, int_eq}
use Rattle.std.specs.FinMap.{entries, get-entries}
use Rattle.std.specs.FinMap.Entries.{find, is_some-find}
use Rattle.contract.specs.Names.declared.token.Token.{Token}
use Rattle.contract.specs.Names.Orders.{token_cmp}
use Rattle.eutxo_types.specs.Bundle.Bundles.{Amounts, amount_of}
use Rattle.eutxo_types.specs.Bundle.Totals.{total_of}
use Rattle.eutxo.specs.Differing.{tokens_of, differs, first_differing}
use Rattle.eutxo.specs.ChangesSupport.{changes_of, NeverFalls, uneven}
use Rattle.eutxo.proofs.TallyLemmas.{tally, tally-append, tally-changes, tally-permutation}
use Rattle.eutxo.proofs.LeastLemmas.{has, IsLeastIn, least_in}
use Rattle.eutxo.proofs.ChangesLemmas.{IsLeastOf, least_alike, one_least, uneven_is_least}

any_append : (p : Token → Bool) (xs ys : List Token) → list_any p (xs ++ ys) ≡ (list_any p xs || list_any p ys)
any_append p [] ys = refl
any_append p (x ∷ xs) ys = elim (p x) as (λ b. (b || list_any p (xs ++ ys)) ≡ ((b || list_any p xs) || list_any p ys)) [ true ↦ refl | false ↦ any_append p xs ys ]

none_of : (o : Option ℤ) → is_some o ≡ false → unwrap_or o (pos 0) ≡ pos 0
none_of None h = refl
none_of (Some n) h = cc

no_amount : (m : Amounts) (u : Token) → has u (map (λ e. e.0) (entries m)) ≡ false → amount_of m u ≡ pos 0
no_amount m u h = ap (λ o. unwrap_or o (pos 0)) (get-entries m u) ∙ none_of (find token_cmp u (entries m)) (is_some-find token_cmp u (entries m) ∙ h)

-- of a token that none holds the sum is 0
no_total : {A : Type 0} (held : A → Amounts) (u : Token) (xs : List A) → has u (tokens_of held xs) ≡ false → total_of held u xs ≡ pos 0
no_total held u [] h = refl
no_total held u (x ∷ xs) h =
    let parts = or_parts _ _ (sym (any_append (eq_by_cmp token_cmp u) (map (λ e. e.0) (entries (held x))) (tokens_of held xs)) ∙ h) in
    ap (λ n. n +ℤ total_of held u xs) (no_amount (held x) u parts.0) ∙ ap (λ n. pos 0 +ℤ n) (no_total held u xs parts.1)

balance : (a b : ℤ) → a ≡ b → a +ℤ neg_ℤ b ≡ pos 0
balance a b h = omega (arith, ints)

balanced : (a b : ℤ) → a +ℤ neg_ℤ b ≡ pos 0 → a ≡ b
balanced a b h = omega (arith, ints)

nothing_left : (a b : ℤ) → a ≡ pos 0 → b ≡ pos 0 → a +ℤ neg_ℤ b ≡ pos 0
nothing_left a b h k = omega (arith, ints)

passes : (a b : ℤ) → not (int_eq a b) ≡ false → a ≡ b
passes a b h = elim (int_eq a b) as (λ c. int_eq a b ≡ c → not c ≡ false → a ≡ b) [
  | true ↦ λ e _. (Decides-int_eq a b).0 e
  | false ↦ λ e k. cc
] refl h

fails : (a b : ℤ) → not (int_eq a b) ≡ true → a ≢ b
fails a b h e = both_ways _ (ap not ((Decides-int_eq a b).1 e)) h

module _ {A B : Type 0} (held : A → Amounts) (had : B → Amounts) (xs : List A) (ys : List B) where
  -- how much more of a token the first hold
  abbrev rest : Token → ℤ
  rest u = total_of held u xs +ℤ neg_ℤ (total_of had u ys)

  -- it is 0 where the test fails at each token that is held
  even : (u : Token) → (has u (tokens_of held xs ++ tokens_of had ys) ≡ true → differs held had xs ys u ≡ false) → rest u ≡ pos 0
  even u h =
      elim (has u (tokens_of held xs ++ tokens_of had ys)) as (λ b. has u (tokens_of held xs ++ tokens_of had ys) ≡ b → rest u ≡ pos 0) [
        | true ↦ λ e. balance (total_of held u xs) (total_of had u ys) (passes (total_of held u xs) (total_of had u ys) (h e))
        | false ↦ λ e.
            let parts = or_parts _ _ (sym (any_append (eq_by_cmp token_cmp u) (tokens_of held xs) (tokens_of had ys)) ∙ e) in
            nothing_left (total_of held u xs) (total_of had u ys) (no_total held u xs parts.0) (no_total had u ys parts.1)
      ] refl

  least_rest : (r : Option Token) → IsLeastIn (differs held had xs ys) (tokens_of held xs ++ tokens_of had ys) r → IsLeastOf rest r
  least_rest None h = λ u. even u (h u)
  least_rest (Some t) h = (λ z. fails (total_of held t xs) (total_of had t ys) h.0 (balanced (total_of held t xs) (total_of had t ys) z), λ u l. even u (λ k. h.1 u k l))

  pub first_is_least : IsLeastOf rest (first_differing held had xs ys)
  first_is_least = least_rest _ (least_in (differs held had xs ys) (tokens_of held xs ++ tokens_of had ys))

  -- where no token is named, no sums differ
  pub none_differs : first_differing held had xs ys ≡ None → (u : Token) → total_of held u xs ≡ total_of had u ys
  none_differs h u = balanced (total_of held u xs) (total_of had u ys) (subst (IsLeastOf rest) h first_is_least u)

  pub walk_decides : (es : List (Token × ℤ)) → IsPermutation (changes_of held false xs ++ changes_of had true ys) es → NeverFalls es → uneven (pos 0) es ≡ first_differing held had xs ys
  walk_decides es p n =
      one_least rest _ _
      (least_alike (λ u. tally u es) rest
      (λ u. tally-permutation u _ es p ∙ tally-append u (changes_of held false xs) (changes_of had true ys)
      ∙ ap (λ z. z +ℤ tally u (changes_of had true ys)) (tally-changes held false u xs)
      ∙ ap (λ z. total_of held u xs +ℤ z) (tally-changes had true u ys))
      (uneven (pos 0) es) (uneven_is_least es n))
      first_is_least
