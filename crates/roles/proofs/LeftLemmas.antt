-- How much is left of tokens, of entries with what is left of each.
use Rattle.std.proofs.Common.{◌≡◌, ℕ, zero, suc, ◌<◌, ℤ, pos, Bool, true, false, cond, List, [], ◌∷◌, None, Some, length, map, set, get_or, refl, sym, ◌∙◌, ap, subst, arith}
use Rattle.std.specs.Prelude.{◌&&◌, not, int_lt, ◌<ℤ◌}
use Rattle.std.proofs.Math.Dec.{T}
use Rattle.std.proofs.lemmas.Cmp.{tied_itself}
use Rattle.std.proofs.lemmas.Int.{ints}
use Rattle.std.specs.List.{list_all}
use Rattle.std.specs.Option.{unwrap_or}
use Rattle.std.specs.Ordering.{is_eq, int_eq, eq_by_cmp}
use Rattle.std.specs.declared.cmp.Ordering.TheVariants.{Less, Equal, Greater}
use Rattle.std.specs.FinMap.Entries.{find, is_sorted}
use Rattle.contract.proofs.FromCollections.Places.{IsAt, IsGap, second, third, find_below, find_gap, below_equal}
use Rattle.contract.specs.Names.declared.token.Token.{Token}
use Rattle.contract.specs.Names.Orders.{token_cmp}
use Rattle.contract.specs.Names.Totals.{token_total}
use Rattle.contract.proofs.FromNames.Exact.{token_exact}
use Rattle.roles.specs.LeftSupport.{left_of}

-- at first there is left what the entries have
pub left_first : (es : List (Token × ℤ)) (t : Token) → left_of es (map (λ e. e.1) es) t ≡ unwrap_or (find token_cmp t es) (pos 0)
left_first [] t = refl
left_first (e ∷ es) t =
    elim (eq_by_cmp token_cmp t e.0) as (λ b. cond b e.1 (left_of es (map (λ x. x.1) es) t) ≡ unwrap_or (cond b (Some e.1) (find token_cmp t es)) (pos 0)) [ true ↦ refl | false ↦ left_first es t ]

-- of a token at a place there is left what is left there
pub left_at : (t : Token) (es : List (Token × ℤ)) (ns : List ℤ) (i : ℕ) (d : ℤ) → IsAt token_cmp t es i → i < length ns → left_of es ns t ≡ get_or ns i d
left_at t [] ns i d h l = absurd h
left_at t (e ∷ es) [] i d h l = absurd (omega (arith, l))
left_at t (e ∷ es) (n ∷ ns) zero d h l = ap (λ r. cond (is_eq r) n (left_of es ns t)) h
left_at t (e ∷ es) (n ∷ ns) (suc i) d h l = ap (λ r. cond (is_eq r) n (left_of es ns t)) h.0 ∙ left_at t es ns i d h.1 (omega (arith, l))

-- and of one that isn't among them nothing
unfound : (es : List (Token × ℤ)) (ns : List ℤ) (t : Token) → find token_cmp t es ≡ None → left_of es ns t ≡ pos 0
unfound [] ns t h = refl
unfound (e ∷ es) [] t h = refl
unfound (e ∷ es) (n ∷ ns) t h =
    elim (eq_by_cmp token_cmp t e.0) as (λ b. cond b (Some e.1) (find token_cmp t es) ≡ None → cond b n (left_of es ns t) ≡ pos 0) [ true ↦ λ q. absurd (cc) | false ↦ λ q. unfound es ns t q ] h

pub left_gap : (t : Token) (es : List (Token × ℤ)) (ns : List ℤ) (i : ℕ) → T (is_sorted token_cmp es) → IsGap token_cmp t es i → left_of es ns t ≡ pos 0
left_gap t es ns i s h = unfound es ns t (find_gap token_cmp t token_total es i s h)

-- of two tokens only one is x
apart : (u t x : Token) → token_cmp u x ≡ Equal → token_cmp t x ≡ Greater → is_eq (token_cmp u t) ≡ false
apart u t x p h = elim (token_cmp u t) as (λ s. token_cmp u t ≡ s → is_eq s ≡ false) [
  | Less ↦ λ q. refl
  | Equal ↦ λ q. let e : Equal ≡ Greater = sym p ∙ ap (λ y. token_cmp y x) (token_exact u t q) ∙ h in absurd (cc)
  | Greater ↦ λ q. refl
] refl

-- what is left after a change at a token's place
pub left_set : (t : Token) (v : ℤ) (es : List (Token × ℤ)) (ns : List ℤ) (i : ℕ) (u : Token) → IsAt token_cmp t es i → i < length ns →
    left_of es (set ns i v) u ≡ cond (eq_by_cmp token_cmp u t) v (left_of es ns u)
left_set t v [] ns i u h l = absurd h
left_set t v (e ∷ es) [] i u h l = absurd (omega (arith, l))
left_set t v (e ∷ es) (n ∷ ns) zero u h l =
    subst (λ x. cond (is_eq (token_cmp u x)) v (left_of es ns u) ≡ cond (is_eq (token_cmp u t)) v (cond (is_eq (token_cmp u x)) n (left_of es ns u))) (token_exact t e.0 h)
    (elim (is_eq (token_cmp u t)) as (λ b. cond b v (left_of es ns u) ≡ cond b v (cond b n (left_of es ns u))) [ true ↦ refl | false ↦ refl ])
left_set t v (e ∷ es) (n ∷ ns) (suc i) u h l =
    let rest = left_set t v es ns i u h.1 (omega (arith, l)) in
    elim (token_cmp u e.0) as (λ r. token_cmp u e.0 ≡ r → cond (is_eq r) n (left_of es (set ns i v) u) ≡ cond (is_eq (token_cmp u t)) v (cond (is_eq r) n (left_of es ns u))) [
      | Less ↦ λ p. rest
      | Equal ↦ λ p. ap (λ b. cond b v n) (sym (apart u t e.0 p h.0))
      | Greater ↦ λ p. rest
    ] refl

is_zero : (n : ℤ) → n ≡ pos 0 → int_eq n (pos 0) ≡ true
is_zero n h = grind (arith, ints)

zero_is : (n : ℤ) → int_eq n (pos 0) ≡ true → n ≡ pos 0
zero_is n h = grind (arith, ints)

abbrev pub all_zero : List ℤ → Bool
all_zero ns = list_all (λ n. int_eq n (pos 0)) ns

-- of two tests that pass together each passes
each : (a b : Bool) → (a && b) ≡ true → (a ≡ true) × (b ≡ true)
each true b h = (refl, h)
each false b h = cc

together : (a b : Bool) → a ≡ true → b ≡ true → (a && b) ≡ true
together a b p q = cc

-- where nothing is left of any entry, nothing is left of any token
pub left_none : (es : List (Token × ℤ)) (ns : List ℤ) (t : Token) → all_zero ns ≡ true → left_of es ns t ≡ pos 0
left_none [] ns t h = refl
left_none (e ∷ es) [] t h = refl
left_none (e ∷ es) (n ∷ ns) t h =
    let p = each (int_eq n (pos 0)) (all_zero ns) h in
    elim (eq_by_cmp token_cmp t e.0) as (λ b. cond b n (left_of es ns t) ≡ pos 0) [ true ↦ zero_is n p.0 | false ↦ left_none es ns t p.1 ]

-- and the other way round
pub none_left : (es : List (Token × ℤ)) (ns : List ℤ) → T (is_sorted token_cmp es) → length ns ≡ length es → ((t : Token) → left_of es ns t ≡ pos 0) → all_zero ns ≡ true
none_left es [] s l h = refl
none_left [] (n ∷ ns) s l h = absurd (omega (arith, l))
none_left (e ∷ es) (n ∷ ns) s l h =
    together (int_eq n (pos 0)) (all_zero ns) (is_zero n (sym (ap (λ r. cond (is_eq r) n (left_of es ns e.0)) (tied_itself token_total e.0)) ∙ h e.0))
    (none_left es ns (third _ _ s) (omega (arith, l)) (λ t.
    elim (token_cmp t e.0) as (λ r. token_cmp t e.0 ≡ r → cond (is_eq r) n (left_of es ns t) ≡ pos 0 → left_of es ns t ≡ pos 0) [
      | Less ↦ λ p q. q
      | Equal ↦ λ p q. unfound es ns t (find_below token_cmp t es (below_equal token_cmp t token_total e.0 es p (second _ _ s)))
      | Greater ↦ λ p q. q
    ] refl (h t)))

-- where nothing is left, no number above 0 can be taken
pub too_few : (m n : ℤ) → m ≡ pos 0 → pos 0 <ℤ n → false ≡ not (int_lt m n)
too_few m n z p = let h : int_lt m n ≡ true = grind (arith, ints) in ap not (sym h)

pub refused : (r b : Bool) → r ≡ not b → r ≡ false → b ≡ true
refused r true h k = refl
refused r false h k = cc
