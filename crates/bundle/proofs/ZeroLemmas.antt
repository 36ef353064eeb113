-- Entries as finite maps, where one with 0 stands for nothing.
use Rattle.std.proofs.Common.{◌≡◌, ℤ, pos, ◌≤ℤ◌, ◌<ℤ◌, Bool, true, false, cond, not, List, [], ◌∷◌, Option, Some, None, refl, sym, ◌∙◌, ap, subst, arith}
use Rattle.std.proofs.Math.Dec.{T}
use Rattle.std.proofs.lemmas.Int.{ints}
use Rattle.std.proofs.lemmas.Bool.Decides.{Decides-int_eq}
use Rattle.std.specs.Option.{unwrap_or}
use Rattle.std.specs.Ordering.{int_eq, is_eq, eq_by_cmp}
use Rattle.std.specs.declared.cmp.Ordering.TheVariants.{Less, Equal, Greater}
use Rattle.std.specs.FinMap.{from_sorted, get, insert, remove, get-from_sorted, get-insert, get-remove, same_map}
use Rattle.std.specs.FinMap.Entries.{by_order, find, put, below_all, is_sorted, is_sorted-put, find-put}
use Rattle.names.proofs.FromCollections.Places.{both, second, third, below_equal, find_below}
use Rattle.names.proofs.FromCollections.Maps.{put_is_insert}
use Rattle.names.specs.declared.token.Token.{Token}
use Rattle.names.specs.Orders.{token_cmp}
use Rattle.names.specs.Totals.{token_total}
use Rattle.names.proofs.Exact.{token_exact}
use Rattle.bundle.specs.Bundles.{amount_of, with_amount, AllPositive}
use Rattle.bundle.specs.WalksSupport.{amount_in, without_zeros, AllNatural}

-- an amount that isn't 0
abbrev pub not_zero : Option ℤ → Option ℤ
not_zero None = None
not_zero (Some n) = cond (int_eq n (pos 0)) None (Some n)

no_less : pos 0 <ℤ pos 0 → ⊥
no_less h = omega (arith, ints, h)

pub is_not_zero : (n : ℤ) → pos 0 <ℤ n → int_eq n (pos 0) ≡ false
is_not_zero n h = elim (int_eq n (pos 0)) as (λ b. int_eq n (pos 0) ≡ b → b ≡ false) [
  | true ↦ λ e. absurd (no_less (subst (λ m. pos 0 <ℤ m) ((Decides-int_eq n (pos 0)).0 e) h))
  | false ↦ λ e. refl
] refl

below-without_zeros : (t : Token) (es : List (Token × ℤ)) → T (below_all token_cmp t es) → T (below_all token_cmp t (without_zeros es))
below-without_zeros t [] h = tt
below-without_zeros t (e ∷ es) h =
    let rest = below-without_zeros t es (third _ _ h) in
    elim (not (int_eq e.1 (pos 0))) as (λ b. T (below_all token_cmp t (cond b (e ∷ without_zeros es) (without_zeros es)))) [ true ↦ both _ _ (second _ _ h) rest | false ↦ rest ]

pub sorted-without_zeros : (es : List (Token × ℤ)) → T (is_sorted token_cmp es) → T (is_sorted token_cmp (without_zeros es))
sorted-without_zeros [] s = tt
sorted-without_zeros (e ∷ es) s =
    let rest = sorted-without_zeros es (third _ _ s) in
    elim (not (int_eq e.1 (pos 0))) as (λ b. T (is_sorted token_cmp (cond b (e ∷ without_zeros es) (without_zeros es)))) [ true ↦ both _ _ (below-without_zeros e.0 es (second _ _ s)) rest | false ↦ rest ]

-- what is found is what isn't 0
pub find-without_zeros : (q : Token) (es : List (Token × ℤ)) → T (is_sorted token_cmp es) → find token_cmp q (without_zeros es) ≡ not_zero (find token_cmp q es)
find-without_zeros q [] s = refl
find-without_zeros q (e ∷ es) s =
    let rest = find-without_zeros q es (third _ _ s) in
    elim (token_cmp q e.0) as (λ r. token_cmp q e.0 ≡ r → find token_cmp q (without_zeros (e ∷ es)) ≡ not_zero (cond (is_eq r) (Some e.1) (find token_cmp q es))) [
      | Less ↦ λ p. passed Less p refl rest
      | Equal ↦ λ p.
          let none = rest ∙ ap not_zero (find_below token_cmp q es (below_equal token_cmp q token_total e.0 es p (second _ _ s))) in
          elim (int_eq e.1 (pos 0)) as (λ b. find token_cmp q (cond (not b) (e ∷ without_zeros es) (without_zeros es)) ≡ cond b None (Some e.1)) [
            | true ↦ none
            | false ↦ ap (λ r. cond (is_eq r) (Some e.1) (find token_cmp q (without_zeros es))) p
          ]
      | Greater ↦ λ p. passed Greater p refl rest
    ] refl
  where
    passed : (r : _) → token_cmp q e.0 ≡ r → is_eq r ≡ false → find token_cmp q (without_zeros es) ≡ not_zero (find token_cmp q es) → find token_cmp q (without_zeros (e ∷ es)) ≡ not_zero (find token_cmp q es)
    passed r p n rest = elim (int_eq e.1 (pos 0)) as (λ b. find token_cmp q (cond (not b) (e ∷ without_zeros es) (without_zeros es)) ≡ not_zero (find token_cmp q es)) [
      | true ↦ rest
      | false ↦ ap (λ x. cond x (Some e.1) (find token_cmp q (without_zeros es))) (ap is_eq p ∙ n) ∙ rest
    ]

or_zero : (o : Option ℤ) → unwrap_or (not_zero o) (pos 0) ≡ unwrap_or o (pos 0)
or_zero None = refl
or_zero (Some n) = elim (int_eq n (pos 0)) as (λ b. int_eq n (pos 0) ≡ b → unwrap_or (cond b None (Some n)) (pos 0) ≡ n) [
  | true ↦ λ e. sym ((Decides-int_eq n (pos 0)).0 e)
  | false ↦ λ e. refl
] refl

-- what the map of entries in order has of a token
pub amount_of-from_sorted : (es : List (Token × ℤ)) (t : Token) → T (is_sorted token_cmp es) → amount_of (from_sorted es) t ≡ amount_in es t
amount_of-from_sorted es t s = ap (λ o. unwrap_or o (pos 0)) (get-from_sorted token_cmp es t s)

pub amount_of-without_zeros : (es : List (Token × ℤ)) (t : Token) → T (is_sorted token_cmp es) → amount_of (from_sorted (without_zeros es)) t ≡ amount_in es t
amount_of-without_zeros es t s =
    amount_of-from_sorted (without_zeros es) t (sorted-without_zeros es s)
    ∙ ap (λ o. unwrap_or o (pos 0)) (find-without_zeros t es s)
    ∙ or_zero (find token_cmp t es)

-- a put above 0 is the map's change
pub put_is_change : (es : List (Token × ℤ)) (t : Token) (v : ℤ) → T (is_sorted token_cmp es) → pos 0 <ℤ v → from_sorted (put token_cmp t v es) ≡ with_amount (from_sorted es) t v
put_is_change es t v s h =
    put_is_insert token_cmp token_total es s t v
    ∙ ap (λ b. cond b (remove (from_sorted es) t) (insert (from_sorted es) t v)) (sym (is_not_zero v h))

zero_gone : (b : Bool) (o : Option ℤ) → not_zero (cond b (Some (pos 0)) o) ≡ cond b None (not_zero o)
zero_gone true o = refl
zero_gone false o = refl

new_found : (v : ℤ) (n : int_eq v (pos 0) ≡ false) (b : Bool) (o : Option ℤ) → not_zero (cond b (Some v) o) ≡ cond b (Some v) (not_zero o)
new_found v n true o = ap (λ b. cond b None (Some v)) n
new_found v n false o = refl

module _ (es : List (Token × ℤ)) (t : Token) (v : ℤ) (s : T (is_sorted token_cmp es)) where
  found_after : (q : Token) → get (from_sorted {R = token_cmp} (without_zeros (put token_cmp t v es))) q ≡ not_zero (cond (eq_by_cmp token_cmp q t) (Some v) (find token_cmp q es))
  found_after q =
      let after = is_sorted-put token_cmp token_total t v es s in
      get-from_sorted token_cmp (without_zeros (put token_cmp t v es)) q (sorted-without_zeros (put token_cmp t v es) after)
      ∙ find-without_zeros q (put token_cmp t v es) after
      ∙ ap not_zero (find-put token_cmp token_total q t v es)

  found_before : (q : Token) → get (from_sorted {R = token_cmp} (without_zeros es)) q ≡ not_zero (find token_cmp q es)
  found_before q = get-from_sorted token_cmp (without_zeros es) q (sorted-without_zeros es s) ∙ find-without_zeros q es s

  found_same : (q : Token) → get (from_sorted {R = token_cmp} (without_zeros (put token_cmp t v es))) q ≡ get (with_amount (from_sorted (without_zeros es)) t v) q
  found_same q =
      found_after q
      ∙ elim (int_eq v (pos 0)) as (λ b. int_eq v (pos 0) ≡ b → not_zero (cond (eq_by_cmp token_cmp q t) (Some v) (find token_cmp q es)) ≡ get (cond b (remove (from_sorted {R = token_cmp} (without_zeros es)) t) (insert (from_sorted (without_zeros es)) t v)) q) [
        | true ↦ λ e.
            ap (λ n. not_zero (cond (eq_by_cmp token_cmp q t) (Some n) (find token_cmp q es))) ((Decides-int_eq v (pos 0)).0 e)
            ∙ zero_gone (eq_by_cmp token_cmp q t) (find token_cmp q es)
            ∙ ap (λ o. cond (eq_by_cmp token_cmp q t) None o) (sym (found_before q))
            ∙ sym (get-remove token_total (from_sorted (without_zeros es)) t q)
        | false ↦ λ e.
            new_found v e (eq_by_cmp token_cmp q t) (find token_cmp q es)
            ∙ ap (λ o. cond (eq_by_cmp token_cmp q t) (Some v) o) (sym (found_before q))
            ∙ sym (get-insert token_total (from_sorted (without_zeros es)) t v q)
      ] refl

  -- a put is the map's change, where 0 stands for nothing
  pub put_without_zeros : from_sorted (without_zeros (put token_cmp t v es)) ≡ with_amount (from_sorted (without_zeros es)) t v
  put_without_zeros = same_map token_total token_exact (from_sorted (without_zeros (put token_cmp t v es))) (with_amount (from_sorted (without_zeros es)) t v) found_same

pub natural-put : (t : Token) (v : ℤ) (es : List (Token × ℤ)) → pos 0 ≤ℤ v → AllNatural es → AllNatural (put token_cmp t v es)
natural-put t v [] p h = (p, tt)
natural-put t v (e ∷ es) p h =
    elim (token_cmp t e.0) as (λ o. AllNatural (by_order o ((t, v) ∷ e ∷ es) ((e.0, v) ∷ es) (e ∷ put token_cmp t v es))) [
      | Less ↦ (p, h)
      | Equal ↦ (p, h.1)
      | Greater ↦ (h.0, natural-put t v es p h.1)
    ]

at_least : (n : ℤ) → pos 0 <ℤ n → pos 0 ≤ℤ n
at_least n h = omega (arith, ints)

pub natural_of_positive : (es : List (Token × ℤ)) → AllPositive es → AllNatural es
natural_of_positive [] h = tt
natural_of_positive (e ∷ es) h = (at_least e.1 h.0, natural_of_positive es h.1)

above : (n : ℤ) → pos 0 ≤ℤ n → (n ≡ pos 0 → ⊥) → pos 0 <ℤ n
above n h d = omega (arith, ints, h, d)

true_not_false : true ≡ false → ⊥
true_not_false e = cc

pub positive-without_zeros : (es : List (Token × ℤ)) → AllNatural es → AllPositive (without_zeros es)
positive-without_zeros [] h = tt
positive-without_zeros (e ∷ es) h =
    let rest = positive-without_zeros es h.1 in
    elim (int_eq e.1 (pos 0)) as (λ b. int_eq e.1 (pos 0) ≡ b → AllPositive (cond (not b) (e ∷ without_zeros es) (without_zeros es))) [
      | true ↦ λ p. rest
      | false ↦ λ p. (above e.1 h.0 (λ z. true_not_false (sym ((Decides-int_eq e.1 (pos 0)).1 z) ∙ p)), rest)
    ] refl

-- amounts above 0 all stay
pub no_zeros : (es : List (Token × ℤ)) → AllPositive es → without_zeros es ≡ es
no_zeros [] h = refl
no_zeros (e ∷ es) h = ap (λ b. cond (not b) (e ∷ without_zeros es) (without_zeros es)) (is_not_zero e.1 h.0) ∙ ap (λ xs. e ∷ xs) (no_zeros es h.1)
