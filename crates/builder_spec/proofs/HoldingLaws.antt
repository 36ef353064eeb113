-- What several hold together, token by token.
use Rattle.std.proofs.Common.{◌≡◌, ℤ, pos, ◌+ℤ◌, ◌<ℤ◌, ◌≤ℤ◌, ◌-◌, ◌^◌, int_lt, Bool, true, false, cond, ◌||◌, List, [], ◌∷◌, ◌++◌, Some, refl, sym, ◌∙◌, ap, subst, arith}
use Rattle.std.proofs.Math.Dec.{T}
use Rattle.std.proofs.lemmas.Int.{ints}
use Rattle.std.specs.List.{list_any}
use Rattle.std.specs.Option.{unwrap_or}
use Rattle.std.specs.Ordering.{is_eq}
use Rattle.std.specs.Cmp.{tied_itself}
use Rattle.std.specs.declared.cmp.Ordering.TheVariants.{Less, Equal, Greater}
use Rattle.std.specs.FinMap.{empty, entries, entries_sorted, insert, entries-insert, entries-from_sorted, get-empty, get-entries}
use Rattle.std.specs.FinMap.Entries.{find, is_sorted}
use Rattle.contract.proofs.FromCollections.Maps.{no_entries}
use Rattle.contract.proofs.FromCollections.Places.{second, third, find_below, below_equal}
use Rattle.contract.specs.Names.declared.token.Token.{Token}
use Rattle.contract.specs.Names.Orders.{token_cmp}
use Rattle.contract.specs.Names.Totals.{token_total}
use Rattle.ledger.specs.Bundle.Bundles.{Amounts, amount_of, with_amount, each, plus, is_large, any_large, too_large, AllPositive}
use Rattle.ledger.specs.Bundle.Totals.{total_of}
use Rattle.ledger.proofs.FromBundle.AmountLaws.{by_zero, sums_are_of_each_token}
use Rattle.ledger.proofs.FromBundle.PositiveLaws.{AllPositive-put, amount_of-natural}
use Rattle.ledger.proofs.FromBundle.ApartLaws.{amounts_tell_apart}
use Rattle.builder_spec.specs.Holding.{sums, AreBundles}
use Rattle.builder_spec.specs.Causes.{is_much}

pub entries-empty : entries (empty {X = ℤ} {R = token_cmp}) ≡ []
entries-empty = ap entries (sym (no_entries token_cmp)) ∙ entries-from_sorted token_cmp [] tt

pub amount_of-empty : (t : Token) → amount_of empty t ≡ pos 0
amount_of-empty t = ap (λ o. unwrap_or o (pos 0)) (get-empty token_cmp t)

-- the sums are of each token
pub amount_of-sums : {A : Type 0} (held : A → Amounts) (xs : List A) (t : Token) → amount_of (sums held xs) t ≡ total_of held t xs
amount_of-sums held [] t = amount_of-empty t
amount_of-sums held (x ∷ xs) t = sums_are_of_each_token (held x) (sums held xs) t ∙ ap (λ n. amount_of (held x) t +ℤ n) (amount_of-sums held xs t)

-- ---- all above 0

not_zero : (v : ℤ) → pos 0 <ℤ v → v ≡ pos 0 → ⊥
not_zero v h e = omega (arith, ints, h, e)

two : (a b : ℤ) → pos 0 ≤ℤ a → pos 0 <ℤ b → pos 0 <ℤ (a +ℤ b)
two a b h k = omega (arith, ints, h, k)

positive_insert : (m : Amounts) (t : Token) (v : ℤ) → pos 0 <ℤ v → AllPositive (entries m) → AllPositive (entries (insert m t v))
positive_insert m t v p h = subst AllPositive (sym (entries-insert token_total m t v)) (AllPositive-put t v (entries m) p h)

pub positive_with : (m : Amounts) (t : Token) (v : ℤ) → pos 0 <ℤ v → AllPositive (entries m) → AllPositive (entries (with_amount m t v))
positive_with m t v p h = by_zero m t v (λ n. AllPositive (entries n)) (λ z. absurd (not_zero v p z)) (positive_insert m t v p h)

positive_each : (m : Amounts) (es : List (Token × ℤ)) → AllPositive (entries m) → AllPositive es → AllPositive (entries (each (λ a b. a +ℤ b) m es))
positive_each m [] h k = h
positive_each m (e ∷ es) h k =
    positive_each (with_amount m e.0 (amount_of m e.0 +ℤ e.1)) es
    (positive_with m e.0 (amount_of m e.0 +ℤ e.1) (two (amount_of m e.0) e.1 (amount_of-natural m e.0 h) k.0) h) k.1

pub positive_plus : (a b : Amounts) → AllPositive (entries a) → AllPositive (entries b) → AllPositive (entries (plus a b))
positive_plus a b h k = positive_each a (entries b) h k

pub positive_sums : {A : Type 0} (held : A → Amounts) (xs : List A) → AreBundles held xs → AllPositive (entries (sums held xs))
positive_sums held [] h = subst AllPositive (sym entries-empty) tt
positive_sums held (x ∷ xs) h = positive_plus (held x) (sums held xs) h.0 (positive_sums held xs h.1)

pub total_of-natural : {A : Type 0} (held : A → Amounts) (t : Token) (xs : List A) → AreBundles held xs → pos 0 ≤ℤ total_of held t xs
total_of-natural held t xs h = subst (λ n. pos 0 ≤ℤ n) (amount_of-sums held xs t) (amount_of-natural (sums held xs) t (positive_sums held xs h))

-- ---- one list after another

regroup : (a b c : ℤ) → a +ℤ (b +ℤ c) ≡ (a +ℤ b) +ℤ c
regroup a b c = omega (arith, ints)

none_first : (a : ℤ) → a ≡ pos 0 +ℤ a
none_first a = omega (arith, ints)

pub total_of-append : {A : Type 0} (held : A → Amounts) (t : Token) (xs ys : List A) → total_of held t (xs ++ ys) ≡ total_of held t xs +ℤ total_of held t ys
total_of-append held t [] ys = none_first (total_of held t ys)
total_of-append held t (x ∷ xs) ys =
    ap (λ n. amount_of (held x) t +ℤ n) (total_of-append held t xs ys) ∙ regroup (amount_of (held x) t) (total_of held t xs) (total_of held t ys)

pub bundles_append : {A : Type 0} (held : A → Amounts) (xs ys : List A) → AreBundles held xs → AreBundles held ys → AreBundles held (xs ++ ys)
bundles_append held [] ys h k = k
bundles_append held (x ∷ xs) ys h k = (h.0, bundles_append held xs ys h.1 k)

pub sums_append : {A : Type 0} (held : A → Amounts) (xs ys : List A) → AreBundles held xs → AreBundles held ys → plus (sums held xs) (sums held ys) ≡ sums held (xs ++ ys)
sums_append held xs ys h k =
    amounts_tell_apart (plus (sums held xs) (sums held ys)) (sums held (xs ++ ys))
    (positive_plus (sums held xs) (sums held ys) (positive_sums held xs h) (positive_sums held ys k))
    (positive_sums held (xs ++ ys) (bundles_append held xs ys h k))
    (λ t. sums_are_of_each_token (sums held xs) (sums held ys) t
    ∙ ap (λ n. n +ℤ amount_of (sums held ys) t) (amount_of-sums held xs t)
    ∙ ap (λ n. total_of held t xs +ℤ n) (amount_of-sums held ys t)
    ∙ sym (total_of-append held t xs ys)
    ∙ sym (amount_of-sums held (xs ++ ys) t))

-- ---- more than there is room for

abbrev pub most : ℤ
most = pos (2 ^ 127 - 1)

below : (a b : ℤ) → int_lt a b ≡ true → a <ℤ b
below a b h = grind (arith, ints)

lesser : (a b : ℤ) → a <ℤ b → int_lt a b ≡ true
lesser a b h = grind (arith, ints)

not_lesser : (a b : ℤ) → int_lt a b ≡ false → b ≤ℤ a
not_lesser a b h = grind (arith, ints)

or_left : (a b : Bool) → a ≡ true → a || b ≡ true
or_left a b h = rw h refl

or_right : (a b : Bool) → b ≡ true → a || b ≡ true
or_right true b h = refl
or_right false b h = h

much_found : (t : Token) (es : List (Token × ℤ)) → most <ℤ unwrap_or (find token_cmp t es) (pos 0) → list_any (λ e. int_lt most e.1) es ≡ true
much_found t [] h = absurd (omega (arith, ints, h))
much_found t (e ∷ es) h =
    elim (token_cmp t e.0) as (λ r. most <ℤ unwrap_or (cond (is_eq r) (Some e.1) (find token_cmp t es)) (pos 0) → int_lt most e.1 || list_any (λ x. int_lt most x.1) es ≡ true) [
      | Less ↦ λ k. or_right (int_lt most e.1) _ (much_found t es k)
      | Equal ↦ λ k. or_left (int_lt most e.1) _ (lesser most e.1 k)
      | Greater ↦ λ k. or_right (int_lt most e.1) _ (much_found t es k)
    ] h

-- where there is more of a token, there is too much
pub much_at : (m : Amounts) (t : Token) → most <ℤ amount_of m t → is_much m ≡ true
much_at m t h = much_found t (entries m) (subst (λ o. most <ℤ unwrap_or o (pos 0)) (get-entries m t) h)

less : (a b : ℤ) → a <ℤ b → b ≤ℤ pos 0 → pos 0 ≤ℤ a → ⊥
less a b h k l = omega (arith, ints, h, k, l)

found_first : (e : Token × ℤ) (es : List (Token × ℤ)) → find token_cmp e.0 (e ∷ es) ≡ Some e.1
found_first e es = ap (λ r. cond (is_eq r) (Some e.1) (find token_cmp e.0 es)) (tied_itself token_total e.0)

-- what is found further on is found, or 0
found_later : (t : Token) (e : Token × ℤ) (es : List (Token × ℤ)) (P : ℤ → Type 0) → T (is_sorted token_cmp (e ∷ es)) → (P (pos 0) → P e.1) → P (unwrap_or (find token_cmp t es) (pos 0)) → P (unwrap_or (find token_cmp t (e ∷ es)) (pos 0))
found_later t e es P s f h =
    elim (token_cmp t e.0) as (λ r. token_cmp t e.0 ≡ r → P (unwrap_or (cond (is_eq r) (Some e.1) (find token_cmp t es)) (pos 0))) [
      | Less ↦ λ p. h
      | Equal ↦ λ p. f (subst (λ o. P (unwrap_or o (pos 0))) (find_below token_cmp t es (below_equal token_cmp t token_total e.0 es p (second _ _ s))) h)
      | Greater ↦ λ p. h
    ] refl

none_above : most <ℤ pos 0 → ⊥
none_above h = omega (arith, ints, h)

much_in : (es : List (Token × ℤ)) → T (is_sorted token_cmp es) → list_any (λ e. int_lt most e.1) es ≡ true → (t : Token) × (most <ℤ unwrap_or (find token_cmp t es) (pos 0))
much_in [] s h = absurd (cc)
much_in (e ∷ es) s h = by (int_lt most e.1) refl (much_in es (third _ _ s))
  where
    by : (b : Bool) → int_lt most e.1 ≡ b → (list_any (λ x. int_lt most x.1) es ≡ true → (t : Token) × (most <ℤ unwrap_or (find token_cmp t es) (pos 0))) → (t : Token) × (most <ℤ unwrap_or (find token_cmp t (e ∷ es)) (pos 0))
    by true q f = (e.0, subst (λ o. most <ℤ unwrap_or o (pos 0)) (sym (found_first e es)) (below most e.1 q))
    by false q f =
        let k = f (subst (λ b. b || list_any (λ x. int_lt most x.1) es ≡ true) q h) in
        (k.0, found_later k.0 e es (λ n. most <ℤ n) s (λ z. absurd (none_above z)) k.1)

-- and where there is too much, there is more of a token
pub much_of : (m : Amounts) → is_much m ≡ true → (t : Token) × (most <ℤ amount_of m t)
much_of m h =
    let k = much_in (entries m) (entries_sorted m) h in
    (k.0, subst (λ o. most <ℤ unwrap_or o (pos 0)) (sym (get-entries m k.0)) k.1)

more_than : (a b e : ℤ) → most <ℤ (a +ℤ pos 0) → pos 0 <ℤ e → most <ℤ (a +ℤ e)
more_than a b e h k = omega (arith, ints, h, k)

large_in : (a : Amounts) (es : List (Token × ℤ)) → T (is_sorted token_cmp es) → AllPositive es → any_large a es ≡ true → (t : Token) × (most <ℤ (amount_of a t +ℤ unwrap_or (find token_cmp t es) (pos 0)))
large_in a [] s p h = absurd (cc)
large_in a (e ∷ es) s p h = by (is_large (amount_of a e.0) e.1) refl (large_in a es (third _ _ s) p.1)
  where
    by : (b : Bool) → is_large (amount_of a e.0) e.1 ≡ b → (any_large a es ≡ true → (t : Token) × (most <ℤ (amount_of a t +ℤ unwrap_or (find token_cmp t es) (pos 0)))) → (t : Token) × (most <ℤ (amount_of a t +ℤ unwrap_or (find token_cmp t (e ∷ es)) (pos 0)))
    by true q f = (e.0, subst (λ o. most <ℤ (amount_of a e.0 +ℤ unwrap_or o (pos 0))) (sym (found_first e es)) (below most (amount_of a e.0 +ℤ e.1) q))
    by false q f =
        let k = f (subst (λ b. b || any_large a es ≡ true) q h) in
        (k.0, found_later k.0 e es (λ n. most <ℤ (amount_of a k.0 +ℤ n)) s (λ z. more_than (amount_of a k.0) (pos 0) e.1 z p.0) k.1)

-- two bundles of which a sum is too large hold too much
pub too_large_much : (a b : Amounts) → AllPositive (entries b) → too_large a b ≡ true → is_much (plus a b) ≡ true
too_large_much a b p h =
    let k = large_in a (entries b) (entries_sorted b) p h in
    much_at (plus a b) k.0 (subst (λ n. most <ℤ n) (sym (sums_are_of_each_token a b k.0)) (subst (λ o. most <ℤ (amount_of a k.0 +ℤ unwrap_or o (pos 0))) (sym (get-entries b k.0)) k.1))

more_left : (m a b : ℤ) → most <ℤ a → pos 0 ≤ℤ b → most <ℤ (a +ℤ b)
more_left m a b h k = omega (arith, ints, h, k)

more_right : (m a b : ℤ) → most <ℤ b → pos 0 ≤ℤ a → most <ℤ (a +ℤ b)
more_right m a b h k = omega (arith, ints, h, k)

-- what is too much stays too much
pub much_left : (a b : Amounts) → AllPositive (entries b) → is_much a ≡ true → is_much (plus a b) ≡ true
much_left a b p h =
    let k = much_of a h in
    much_at (plus a b) k.0 (subst (λ n. most <ℤ n) (sym (sums_are_of_each_token a b k.0)) (more_left most (amount_of a k.0) (amount_of b k.0) k.1 (amount_of-natural b k.0 p)))

pub much_right : (a b : Amounts) → AllPositive (entries a) → is_much b ≡ true → is_much (plus a b) ≡ true
much_right a b p h =
    let k = much_of b h in
    much_at (plus a b) k.0 (subst (λ n. most <ℤ n) (sym (sums_are_of_each_token a b k.0)) (more_right most (amount_of a k.0) (amount_of b k.0) k.1 (amount_of-natural a k.0 p)))
