-- A walk along entries in the order of their tokens, which adds up those of one token at a time.
use Rattle.std.proofs.Common.{◌≡◌, ◌≢◌, ℕ, ℤ, pos, ◌+◌, ◌<◌, ◌+ℤ◌, Bool, true, false, cond, List, [], ◌∷◌, Option, Some, None, length, get_or, drop, refl, sym, ◌∙◌, ap, arith}
use Rattle.std.proofs.lemmas.Int.{ints}
use Rattle.std.proofs.lemmas.Bool.{both_ways}
use Rattle.std.proofs.lemmas.Bool.Decides.{Decides-int_eq}
use Rattle.std.proofs.lemmas.List.{at_drop_more}
use Rattle.std.specs.Cmp.{Equal-is, tied_itself}
use Rattle.std.specs.Ordering.{eq_by_cmp, int_eq, is_eq, is_lt, ordering_reverse}
use Rattle.std.specs.declared.cmp.Ordering.{Ordering}
use Rattle.std.specs.declared.cmp.Ordering.TheVariants.{Less, Equal, Greater}
use Rattle.contract.specs.Names.declared.token.Token.{Token}
use Rattle.contract.specs.Names.Orders.{token_cmp}
use Rattle.contract.specs.Names.Totals.{token_total}
use Rattle.contract.proofs.FromNames.Exact.{token_exact}
use Rattle.eutxo.specs.ChangesSupport.{NoneBelow, NeverFalls, goes_on, uneven}
use Rattle.eutxo.proofs.TallyLemmas.{share, tally}

-- the least token at which a number isn't 0
abbrev pub IsLeastOf : (Token → ℤ) → Option Token → Type 0
IsLeastOf f None = (u : Token) → f u ≡ pos 0
IsLeastOf f (Some t) = (f t ≢ pos 0) × ((u : Token) → token_cmp u t ≡ Less → f u ≡ pos 0)

pub least_alike : (f g : Token → ℤ) → ((u : Token) → f u ≡ g u) → (r : Option Token) → IsLeastOf f r → IsLeastOf g r
least_alike f g same None h = λ u. sym (same u) ∙ h u
least_alike f g same (Some t) h = (λ z. h.0 (same t ∙ z), λ u l. sym (same u) ∙ h.1 u l)

turned : (a b : Token) (r : Ordering) → token_cmp a b ≡ r → token_cmp b a ≡ ordering_reverse r
turned a b r h = token_total.antisymm b a ∙ ap ordering_reverse h

-- there is one such token
pub one_least : (f : Token → ℤ) (r s : Option Token) → IsLeastOf f r → IsLeastOf f s → r ≡ s
one_least f None None h k = refl
one_least f None (Some t) h k = absurd (k.0 (h t))
one_least f (Some t) None h k = absurd (h.0 (k t))
one_least f (Some t) (Some u) h k =
    elim (token_cmp t u) as (λ r. token_cmp t u ≡ r → Some t ≡ Some u) [
      | Less ↦ λ p. absurd (h.0 (k.1 t p))
      | Equal ↦ λ p. ap Some (token_exact t u p)
      | Greater ↦ λ p. absurd (k.0 (h.1 u (turned t u Greater p)))
    ] refl

nothing : (z : ℤ) → z ≡ pos 0 → pos 0 +ℤ z ≡ pos 0
nothing z h = omega (arith, ints)

-- what is before all has no share
none_before : (u t : Token) (es : List (Token × ℤ)) → token_cmp u t ≡ Less → NoneBelow t es → tally u es ≡ pos 0
none_before u t [] l h = refl
none_before u t (e ∷ es) l h =
    ap (λ z. share u e +ℤ z) (none_before u t es l h.1)
    ∙ elim (token_cmp u e.0) as (λ r. token_cmp u e.0 ≡ r → cond (is_eq r) e.1 (pos 0) +ℤ pos 0 ≡ pos 0) [
      | Less ↦ λ p. refl
      | Equal ↦ λ p.
          let low : is_lt (token_cmp e.0 t) ≡ true = ap is_lt (ap (λ x. token_cmp x t) (sym (token_exact u e.0 p)) ∙ l) in
          absurd (both_ways _ h.0 low)
      | Greater ↦ λ p. refl
    ] refl

apart : (t : Token) (es : List (Token × ℤ)) → NoneBelow t es → NeverFalls es → goes_on t es ≡ false → tally t es ≡ pos 0
apart t [] b n g = refl
apart t (e ∷ es) b n g =
    elim (token_cmp t e.0) as (λ r. token_cmp t e.0 ≡ r → tally t (e ∷ es) ≡ pos 0) [
      | Less ↦ λ p. ap (λ r. cond (is_eq r) e.1 (pos 0) +ℤ tally t es) p ∙ nothing (tally t es) (none_before t e.0 es p n.0)
      | Equal ↦ λ p. let q : is_eq (token_cmp t e.0) ≡ true = ap is_eq p in absurd (both_ways _ g q)
      | Greater ↦ λ p. let q : is_lt (token_cmp e.0 t) ≡ true = ap is_lt (turned t e.0 Greater p) in absurd (both_ways _ b.0 q)
    ] refl

-- what the first token begins with
abbrev pending : ℤ → Token → List (Token × ℤ) → ℤ
pending s u [] = pos 0
pending s u (e ∷ es) = cond (eq_by_cmp token_cmp u e.0) s (pos 0)

joined : (b : Bool) (s n z : ℤ) → cond b (s +ℤ n) (pos 0) +ℤ z ≡ cond b s (pos 0) +ℤ (cond b n (pos 0) +ℤ z)
joined true s n z = omega (arith, ints)
joined false s n z = omega (arith, ints)

settled : (b : Bool) (s n z : ℤ) → s +ℤ n ≡ pos 0 → pos 0 +ℤ z ≡ cond b s (pos 0) +ℤ (cond b n (pos 0) +ℤ z)
settled true s n z h = omega (arith, ints)
settled false s n z h = omega (arith, ints)

whole : (s n z : ℤ) → z ≡ pos 0 → s +ℤ (n +ℤ z) ≡ s +ℤ n
whole s n z h = omega (arith, ints)

no_pending : (u : Token) (es : List (Token × ℤ)) → pending (pos 0) u es ≡ pos 0
no_pending u [] = refl
no_pending u (e ∷ es) = elim (eq_by_cmp token_cmp u e.0) as (λ b. cond b (pos 0) (pos 0) ≡ pos 0) [ true ↦ refl | false ↦ refl ]

-- the pending sum goes to the next entry of the token
carried : (e : Token × ℤ) (es : List (Token × ℤ)) (s : ℤ) (u : Token) → goes_on e.0 es ≡ true → pending s u es ≡ cond (eq_by_cmp token_cmp u e.0) s (pos 0)
carried e [] s u g = cc
carried e (f ∷ fs) s u g = ap (λ t. cond (eq_by_cmp token_cmp u t) s (pos 0)) (sym (token_exact e.0 f.0 ((Equal-is _).0 g)))

walked : (s : ℤ) (es : List (Token × ℤ)) → NeverFalls es → IsLeastOf (λ u. pending s u es +ℤ tally u es) (uneven s es)
walked s [] n = λ u. refl
walked s (e ∷ es) n =
    elim (goes_on e.0 es) as (λ b. goes_on e.0 es ≡ b → IsLeastOf (λ u. pending s u (e ∷ es) +ℤ tally u (e ∷ es)) (cond b (uneven (s +ℤ e.1) es) (cond (int_eq (s +ℤ e.1) (pos 0)) (uneven (pos 0) es) (Some e.0)))) [
      | true ↦ λ g. least_alike (λ u. pending (s +ℤ e.1) u es +ℤ tally u es) _
          (λ u. ap (λ z. z +ℤ tally u es) (carried e es (s +ℤ e.1) u g) ∙ joined (eq_by_cmp token_cmp u e.0) s e.1 (tally u es))
          (uneven (s +ℤ e.1) es) (walked (s +ℤ e.1) es n.1)
      | false ↦ λ g. elim (int_eq (s +ℤ e.1) (pos 0)) as (λ b. int_eq (s +ℤ e.1) (pos 0) ≡ b → IsLeastOf (λ u. pending s u (e ∷ es) +ℤ tally u (e ∷ es)) (cond b (uneven (pos 0) es) (Some e.0))) [
        | true ↦ λ z. least_alike (λ u. pending (pos 0) u es +ℤ tally u es) _
            (λ u. ap (λ y. y +ℤ tally u es) (no_pending u es) ∙ settled (eq_by_cmp token_cmp u e.0) s e.1 (tally u es) ((Decides-int_eq (s +ℤ e.1) (pos 0)).0 z))
            (uneven (pos 0) es) (walked (pos 0) es n.1)
        | false ↦ λ z. (λ y. both_ways _ z ((Decides-int_eq (s +ℤ e.1) (pos 0)).1 (sym (here g) ∙ y)), λ u l. before u l)
      ] refl
    ] refl
  where
    here : goes_on e.0 es ≡ false → pending s e.0 (e ∷ es) +ℤ tally e.0 (e ∷ es) ≡ s +ℤ e.1
    here g =
        ap (λ r. cond (is_eq r) s (pos 0) +ℤ (cond (is_eq r) e.1 (pos 0) +ℤ tally e.0 es)) (tied_itself token_total e.0)
        ∙ whole s e.1 (tally e.0 es) (apart e.0 es n.0 n.1 g)

    before : (u : Token) → token_cmp u e.0 ≡ Less → pending s u (e ∷ es) +ℤ tally u (e ∷ es) ≡ pos 0
    before u l =
        ap (λ r. cond (is_eq r) s (pos 0) +ℤ (cond (is_eq r) e.1 (pos 0) +ℤ tally u es)) l
        ∙ nothing (pos 0 +ℤ tally u es) (nothing (tally u es) (none_before u e.0 es l n.0))

pub uneven_is_least : (es : List (Token × ℤ)) → NeverFalls es → IsLeastOf (λ u. tally u es) (uneven (pos 0) es)
uneven_is_least es n =
    least_alike (λ u. pending (pos 0) u es +ℤ tally u es) _ (λ u. ap (λ z. z +ℤ tally u es) (no_pending u es) ∙ plain (tally u es)) (uneven (pos 0) es) (walked (pos 0) es n)
  where
    plain : (z : ℤ) → pos 0 +ℤ z ≡ z
    plain z = omega (arith, ints)

-- ---- one more entry

uneven_more : (s : ℤ) (es : List (Token × ℤ)) (i : ℕ) (e : Token × ℤ) → i < length es → e ≡ get_or es i e →
    uneven s (drop i es) ≡ cond (goes_on e.0 (drop (i + 1) es)) (uneven (s +ℤ e.1) (drop (i + 1) es)) (cond (int_eq (s +ℤ e.1) (pos 0)) (uneven (pos 0) (drop (i + 1) es)) (Some e.0))
uneven_more s es i e l is =
    at_drop_more (uneven s) es i e l
    ∙ ap (λ (x : Token × ℤ). cond (goes_on x.0 (drop (i + 1) es)) (uneven (s +ℤ x.1) (drop (i + 1) es)) (cond (int_eq (s +ℤ x.1) (pos 0)) (uneven (pos 0) (drop (i + 1) es)) (Some x.0))) (sym is)

-- the next entry is of the same token
pub uneven_on : (s n : ℤ) (es : List (Token × ℤ)) (i : ℕ) (e : Token × ℤ) → i < length es → e ≡ get_or es i e → n ≡ s +ℤ e.1 → goes_on e.0 (drop (i + 1) es) ≡ true → uneven s (drop i es) ≡ uneven n (drop (i + 1) es)
uneven_on s n es i e l is m g =
    uneven_more s es i e l is
    ∙ ap (λ b. cond b (uneven (s +ℤ e.1) (drop (i + 1) es)) (cond (int_eq (s +ℤ e.1) (pos 0)) (uneven (pos 0) (drop (i + 1) es)) (Some e.0))) g
    ∙ ap (λ z. uneven z (drop (i + 1) es)) (sym m)

-- it isn't, and the token's entries come to 0
pub uneven_next : (s n : ℤ) (es : List (Token × ℤ)) (i : ℕ) (e : Token × ℤ) → i < length es → e ≡ get_or es i e → n ≡ s +ℤ e.1 → goes_on e.0 (drop (i + 1) es) ≡ false → int_eq n (pos 0) ≡ true → uneven s (drop i es) ≡ uneven (pos 0) (drop (i + 1) es)
uneven_next s n es i e l is m g z =
    uneven_more s es i e l is
    ∙ ap (λ b. cond b (uneven (s +ℤ e.1) (drop (i + 1) es)) (cond (int_eq (s +ℤ e.1) (pos 0)) (uneven (pos 0) (drop (i + 1) es)) (Some e.0))) g
    ∙ ap (λ b. cond b (uneven (pos 0) (drop (i + 1) es)) (Some e.0)) (ap (λ y. int_eq y (pos 0)) (sym m) ∙ z)

-- it isn't, and they come to another number
pub uneven_here : (s n : ℤ) (es : List (Token × ℤ)) (i : ℕ) (e : Token × ℤ) → i < length es → e ≡ get_or es i e → n ≡ s +ℤ e.1 → goes_on e.0 (drop (i + 1) es) ≡ false → int_eq n (pos 0) ≡ false → uneven s (drop i es) ≡ Some e.0
uneven_here s n es i e l is m g z =
    uneven_more s es i e l is
    ∙ ap (λ b. cond b (uneven (s +ℤ e.1) (drop (i + 1) es)) (cond (int_eq (s +ℤ e.1) (pos 0)) (uneven (pos 0) (drop (i + 1) es)) (Some e.0))) g
    ∙ ap (λ b. cond b (uneven (pos 0) (drop (i + 1) es)) (Some e.0)) (ap (λ y. int_eq y (pos 0)) (sym m) ∙ z)
