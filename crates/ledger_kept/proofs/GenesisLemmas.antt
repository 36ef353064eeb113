-- Sums of each token that are amounts, or aren't.
use Rattle.std.proofs.Common.{◌≡◌, ℕ, zero, suc, ◌+◌, ◌<◌, ℤ, pos, ◌+ℤ◌, ◌≤ℤ◌, ◌<ℤ◌, Bool, true, false, ◌||◌, cond, List, [], ◌∷◌, Option, Some, None, refl, sym, ◌∙◌, ap, subst, arith, drop, length, get_or, All}
use Rattle.std.proofs.Math.Dec.{T}
use Rattle.std.proofs.lemmas.Int.{ints}
use Rattle.std.proofs.lemmas.List.{at_drop_more}
use Rattle.std.proofs.lemmas.List.Elements.{All-drop}
use Rattle.std.specs.Option.{unwrap_or}
use Rattle.std.specs.Ordering.{is_eq}
use Rattle.std.specs.Cmp.{tied_itself}
use Rattle.std.specs.declared.cmp.Ordering.{Ordering}
use Rattle.std.specs.declared.cmp.Ordering.TheVariants.{Less, Equal, Greater}
use Rattle.std.specs.FinMap as maps
use Rattle.std.specs.FinMap.{entries, entries_sorted, get-entries, get-empty}
use Rattle.std.specs.FinMap.Entries.{find, is_sorted}
use Rattle.contract.proofs.FromCollections.Places.{second, third, below_equal, find_below}
use Rattle.contract.specs.Names.declared.token.Token.{Token}
use Rattle.contract.specs.Names.Orders.{token_cmp}
use Rattle.contract.specs.Names.Totals.{token_total}
use Rattle.contract.proofs.FromNames.Exact.{token_exact}
use Rattle.chain_index.specs.Bundle.Bundles.{Amounts, amount_of, plus, is_large, any_large, too_large}
use Rattle.chain_index.specs.Bundle.Totals.{total_of}
use Rattle.chain_index.proofs.FromBundle.AmountLaws.{sums_are_of_each_token}
use Rattle.chain_index.specs.EutxoTypes.declared.output.Output.{Output}
use Rattle.chain_index.specs.LedgerSpec.Genesis.{most, SumsFit, HasLargeSum}
use Rattle.ledger_kept.specs.GenesisSupport.{IsNatural}

above : (m n : ℤ) → is_large m n ≡ true → most <ℤ (m +ℤ n)
above m n h = grind (arith, ints)

not_above : (m n : ℤ) → is_large m n ≡ false → (m +ℤ n) ≤ℤ most
not_above m n h = grind (arith, ints)

neither : (a b : Bool) → (a || b) ≡ false → (a ≡ false) × (b ≡ false)
neither false b h = (refl, h)
neither true b h = cc

-- ---- one sum

found_first : (e : Token × ℤ) (es : List (Token × ℤ)) → find token_cmp e.0 (e ∷ es) ≡ Some e.1
found_first e es = ap (λ (r : Ordering). cond (is_eq r) (Some e.1) (find token_cmp e.0 es)) (tied_itself token_total e.0)

found_later : (e : Token × ℤ) (es : List (Token × ℤ)) (t : Token) (n : ℤ) → T (is_sorted token_cmp (e ∷ es)) → find token_cmp t es ≡ Some n → find token_cmp t (e ∷ es) ≡ Some n
found_later e es t n s h = elim (token_cmp t e.0) as (λ r. token_cmp t e.0 ≡ r → cond (is_eq r) (Some e.1) (find token_cmp t es) ≡ Some n) [
  | Less ↦ λ p. h
  | Equal ↦ λ p. let none : find token_cmp t es ≡ None = find_below token_cmp t es (below_equal token_cmp t token_total e.0 es p (second _ _ s)) in cc
  | Greater ↦ λ p. h
] refl

-- an entry of which the sum is too large
large_entry : (m : Amounts) (es : List (Token × ℤ)) → T (is_sorted token_cmp es) → any_large m es ≡ true → (t : Token) × (n : ℤ) × (find token_cmp t es ≡ Some n) × (most <ℤ (amount_of m t +ℤ n))
large_entry m [] s h = cc
large_entry m (e ∷ es) s h = by (is_large (amount_of m e.0) e.1) refl h (large_entry m es (third _ _ s))
  where
    by : (b : Bool) → is_large (amount_of m e.0) e.1 ≡ b → (b || any_large m es) ≡ true →
        (any_large m es ≡ true → (t : Token) × (n : ℤ) × (find token_cmp t es ≡ Some n) × (most <ℤ (amount_of m t +ℤ n))) →
        (t : Token) × (n : ℤ) × (find token_cmp t (e ∷ es) ≡ Some n) × (most <ℤ (amount_of m t +ℤ n))
    by true q k go = (e.0, e.1, found_first e es, above (amount_of m e.0) e.1 q)
    by false q k go = let r = go k in (r.0, r.1, found_later e es r.0 r.1 s r.2, r.3)

first_is : {A : Type 0} {x y : A} → Some x ≡ Some y → x ≡ y
first_is h = cc

fit_entry : (m : Amounts) (es : List (Token × ℤ)) (t : Token) (n : ℤ) → any_large m es ≡ false → find token_cmp t es ≡ Some n → (amount_of m t +ℤ n) ≤ℤ most
fit_entry m [] t n h f = cc
fit_entry m (e ∷ es) t n h f =
    let q = neither _ _ h in
    elim (token_cmp t e.0) as (λ r. token_cmp t e.0 ≡ r → cond (is_eq r) (Some e.1) (find token_cmp t es) ≡ Some n → (amount_of m t +ℤ n) ≤ℤ most) [
      | Less ↦ λ p k. fit_entry m es t n q.1 k
      | Equal ↦ λ p k.
          let same : e.1 ≡ n = first_is k in
          subst (λ u. (amount_of m u +ℤ n) ≤ℤ most) (sym (token_exact t e.0 p)) (subst (λ x. (amount_of m e.0 +ℤ x) ≤ℤ most) same (not_above (amount_of m e.0) e.1 q.0))
      | Greater ↦ λ p k. fit_entry m es t n q.1 k
    ] refl f

held : (m : Amounts) (t : Token) (o : Option ℤ) → find token_cmp t (entries m) ≡ o → amount_of m t ≡ unwrap_or o (pos 0)
held m t o h = ap (λ x. unwrap_or x (pos 0)) (get-entries m t ∙ h)

pub large_sum : (a b : Amounts) → too_large a b ≡ true → (t : Token) × (most <ℤ (amount_of a t +ℤ amount_of b t))
large_sum a b h =
    let r = large_entry a (entries b) (entries_sorted b) h in
    (r.0, subst (λ n. most <ℤ (amount_of a r.0 +ℤ n)) (sym (held b r.0 (Some r.1) r.2)) r.3)

nothing_more : (m n z : ℤ) → z ≡ pos 0 → m ≤ℤ n → (m +ℤ z) ≤ℤ n
nothing_more m n z e h = omega (arith, ints)

-- each token has at most what an amount can be
abbrev pub AreAmounts : Amounts → Type 0
AreAmounts m = (t : Token) → amount_of m t ≤ℤ most

pub fitting_sum : (a b : Amounts) → AreAmounts a → too_large a b ≡ false → AreAmounts (plus a b)
fitting_sum a b bound h t = subst (λ n. n ≤ℤ most) (sym (sums_are_of_each_token a b t)) (by (find token_cmp t (entries b)) refl)
  where
    by : (o : Option ℤ) → find token_cmp t (entries b) ≡ o → (amount_of a t +ℤ amount_of b t) ≤ℤ most
    by None e = nothing_more (amount_of a t) most (amount_of b t) (held b t None e) (bound t)
    by (Some n) e = subst (λ x. (amount_of a t +ℤ x) ≤ℤ most) (sym (held b t (Some n) e)) (fit_entry a (entries b) t n h e)

-- ---- sums over outputs

abbrev sum : Token → List Output → ℤ
sum t os = total_of (λ o. o.amount) t os

none_below : (a b : ℤ) → pos 0 ≤ℤ a → pos 0 ≤ℤ b → pos 0 ≤ℤ (a +ℤ b)
none_below a b p q = omega (arith, ints)

zero_natural : pos 0 ≤ℤ pos 0
zero_natural = omega (arith, ints)

sum_natural : (os : List Output) → All IsNatural os → (t : Token) → pos 0 ≤ℤ sum t os
sum_natural [] h t = zero_natural
sum_natural (o ∷ os) h t = none_below (amount_of o.amount t) (sum t os) (h zero o (omega arith) t) (sum_natural os (λ k d l. h (suc k) d (omega (arith, l))) t)

-- the sums over these are what is held with the sums over the rest
abbrev pub AreSums : List Output → Amounts → List Output → Type 0
AreSums os m rest = (t : Token) → sum t os ≡ amount_of m t +ℤ sum t rest

empty_has_none : (t : Token) → amount_of (maps.empty) t ≡ pos 0
empty_has_none t = ap (λ x. unwrap_or x (pos 0)) (get-empty token_cmp t)

none_first : (n z : ℤ) → z ≡ pos 0 → n ≡ z +ℤ n
none_first n z e = omega (arith, ints)

pub sums_start : (os : List Output) → AreSums os maps.empty os
sums_start os t = none_first (sum t os) (amount_of maps.empty t) (empty_has_none t)

none_is_amount : (z : ℤ) → z ≡ pos 0 → z ≤ℤ most
none_is_amount z e = subst (λ n. n ≤ℤ most) (sym e) (omega (arith, ints))

pub amounts_start : AreAmounts maps.empty
amounts_start t = none_is_amount (amount_of maps.empty t) (empty_has_none t)

moved : (s a b c d : ℤ) → s ≡ a +ℤ (b +ℤ c) → d ≡ a +ℤ b → s ≡ d +ℤ c
moved s a b c d h e = omega (arith, ints)

here : (os : List Output) (m : Amounts) (i : ℕ) (o : Output) → i < length os → o ≡ get_or os i o → AreSums os m (drop i os) → AreSums os m (o ∷ drop (i + 1) os)
here os m i o h e sums t =
    sums t ∙ ap (λ n. amount_of m t +ℤ n) (at_drop_more (λ l. sum t l) os i o h ∙ ap (λ (x : Output). sum t (x ∷ drop (i + 1) os)) (sym e))

pub sums_next : (os : List Output) (m : Amounts) (i : ℕ) (o : Output) → i < length os → o ≡ get_or os i o → AreSums os m (drop i os) → AreSums os (plus m o.amount) (drop (i + 1) os)
sums_next os m i o h e sums t =
    moved (sum t os) (amount_of m t) (amount_of o.amount t) (sum t (drop (i + 1) os)) (amount_of (plus m o.amount) t) (here os m i o h e sums t) (sums_are_of_each_token m o.amount t)

at_the_end : (s a z n : ℤ) → s ≡ a +ℤ z → z ≡ pos 0 → a ≤ℤ n → s ≤ℤ n
at_the_end s a z n h e k = omega (arith, ints)

pub sums_fit : (os rest : List Output) (m : Amounts) → AreSums os m rest → rest ≡ [] → AreAmounts m → SumsFit os
sums_fit os rest m sums none bound t = at_the_end (sum t os) (amount_of m t) (sum t rest) most (sums t) (ap (sum t) none) (bound t)

larger : (s a b c n : ℤ) → s ≡ a +ℤ (b +ℤ c) → pos 0 ≤ℤ c → n <ℤ (a +ℤ b) → n <ℤ s
larger s a b c n h k l = omega (arith, ints)

pub sum_is_large : (os : List Output) (m : Amounts) (i : ℕ) (o : Output) → i < length os → o ≡ get_or os i o → All IsNatural os → AreSums os m (drop i os) → too_large m o.amount ≡ true → HasLargeSum os
sum_is_large os m i o h e natural sums large =
    let r = large_sum m o.amount large in
    let t = r.0 in
    (t, larger (sum t os) (amount_of m t) (amount_of o.amount t) (sum t (drop (i + 1) os)) most (here os m i o h e sums t) (sum_natural (drop (i + 1) os) (All-drop IsNatural (i + 1) os natural) t) r.1)
