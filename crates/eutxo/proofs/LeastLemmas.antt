-- What the least of the tokens that pass a test is.
use Rattle.std.proofs.Common.{◌≡◌, Bool, true, false, cond, ◌||◌, List, [], ◌∷◌, Option, Some, None, refl, sym, ◌∙◌, ap, subst}
use Rattle.std.proofs.lemmas.Bool.{both_ways}
use Rattle.std.specs.Cmp.{Equal-is, tied_itself}
use Rattle.std.specs.List.{filter, list_any}
use Rattle.std.specs.Ordering.{eq_by_cmp, is_lt, ordering_reverse}
use Rattle.std.specs.declared.cmp.Ordering.{Ordering}
use Rattle.std.specs.declared.cmp.Ordering.TheVariants.{Less, Equal, Greater}
use Rattle.contract.specs.Names.declared.token.Token.{Token}
use Rattle.contract.specs.Names.Orders.{token_cmp}
use Rattle.contract.specs.Names.Totals.{token_total}
use Rattle.contract.proofs.FromNames.Exact.{token_exact}
use Rattle.eutxo.specs.Differing.{lesser, least}

-- whether a token is one of these
abbrev pub has : Token → List Token → Bool
has u ts = list_any (eq_by_cmp token_cmp u) ts

-- the least of these tokens that passes a test
abbrev pub IsLeastIn : (Token → Bool) → List Token → Option Token → Type 0
IsLeastIn p ts None = (u : Token) → has u ts ≡ true → p u ≡ false
IsLeastIn p ts (Some t) = (p t ≡ true) × ((u : Token) → has u ts ≡ true → token_cmp u t ≡ Less → p u ≡ false)

-- one of the list is its first or one of the others
either : (u t : Token) (ts : List Token) (A : Type 0) → (u ≡ t → A) → (has u ts ≡ true → A) → has u (t ∷ ts) ≡ true → A
either u t ts A first other h =
    elim (eq_by_cmp token_cmp u t) as (λ b. eq_by_cmp token_cmp u t ≡ b → (b || has u ts) ≡ true → A) [
      | true ↦ λ e _. first (token_exact u t ((Equal-is _).0 e))
      | false ↦ λ e k. other k
    ] refl h

-- the first of the list fails the test
passed_over : (p : Token → Bool) (t : Token) (ts : List Token) → p t ≡ false → (r : Option Token) → IsLeastIn p ts r → IsLeastIn p (t ∷ ts) r
passed_over p t ts f None h = λ u k. either u t ts (p u ≡ false) (λ e. ap p e ∙ f) (h u) k
passed_over p t ts f (Some v) h = (h.0, λ u k l. either u t ts (p u ≡ false) (λ e. ap p e ∙ f) (λ o. h.1 u o l) k)

-- no token is less than itself
not_itself : (u t : Token) → u ≡ t → token_cmp u t ≡ Less → ⊥
not_itself u t e l = let q : is_lt (token_cmp u t) ≡ false = ap (λ x. is_lt (token_cmp u x)) (sym e) ∙ ap is_lt (tied_itself token_total u) in both_ways _ q (ap is_lt l)

-- what is less than a token that isn't above another is less than that
below : (u t v : Token) → token_cmp u t ≡ Less → is_lt (token_cmp v t) ≡ false → token_cmp u v ≡ Less
below u t v l n =
    elim (token_cmp t v) as (λ r. token_cmp t v ≡ r → token_cmp u v ≡ Less) [
      | Less ↦ λ p. token_total.trans u t v l p
      | Equal ↦ λ p. ap (token_cmp u) (sym (token_exact t v p)) ∙ l
      | Greater ↦ λ p. absurd (both_ways _ n (ap is_lt (token_total.antisymm v t ∙ ap ordering_reverse p)))
    ] refl

less : (r : Ordering) → is_lt r ≡ true → r ≡ Less
less Less h = refl
less Equal h = cc
less Greater h = cc

-- the first of the list passes it
chosen : (p : Token → Bool) (t : Token) (ts : List Token) → p t ≡ true → (r : Option Token) → IsLeastIn p ts r → IsLeastIn p (t ∷ ts) (lesser t r)
chosen p t ts f None h = (f, λ u k l. either u t ts (p u ≡ false) (λ e. absurd (not_itself u t e l)) (h u) k)
chosen p t ts f (Some v) h =
    elim (is_lt (token_cmp v t)) as (λ b. is_lt (token_cmp v t) ≡ b → IsLeastIn p (t ∷ ts) (cond b (Some v) (Some t))) [
      | true ↦ λ e. (
        h.0,
        λ u k l. either u t ts (p u ≡ false)
            (λ i. absurd (not_itself v v refl (token_total.trans v t v (less _ e) (subst (λ x. token_cmp x v ≡ Less) i l))))
            (λ o. h.1 u o l) k,
      )
      | false ↦ λ e. (f, λ u k l. either u t ts (p u ≡ false) (λ i. absurd (not_itself u t i l)) (λ o. h.1 u o (below u t v l e)) k)
    ] refl

pub least_in : (p : Token → Bool) (ts : List Token) → IsLeastIn p ts (least (filter p ts))
least_in p [] = λ u h. cc
least_in p (t ∷ ts) =
    elim (p t) as (λ b. p t ≡ b → IsLeastIn p (t ∷ ts) (least (cond b (t ∷ filter p ts) (filter p ts)))) [
      | true ↦ λ f. chosen p t ts f (least (filter p ts)) (least_in p ts)
      | false ↦ λ f. passed_over p t ts f (least (filter p ts)) (least_in p ts)
    ] refl
