-- Who has a number.
use Rattle.std.proofs.Common.{◌≡◌, ℕ, ℤ, pos, ◌+ℤ◌, ◌-ℤ◌, ◌≤ℤ◌, ◌<ℤ◌, int_lt, int_le, Bool, true, false, cond, ◌&&◌, List, [], ◌∷◌, ◌++◌, ◌⊎◌, inl, inr, refl, sym, ap, ◌∙◌, subst, arith, Option, Some, None}
use Rattle.std.proofs.lemmas.Int.{ints}
use Rattle.std.specs.declared.cmp.Ordering.{Ordering}
use Rattle.std.specs.declared.cmp.Ordering.TheVariants.{Less, Equal, Greater}
use Rattle.std.specs.Cmp.{IsTotalOrder}
use Rattle.claims.specs.declared.claim.Claim.{Claim}
use Rattle.claims.specs.Claims.{takes, owner, IsLane, is_before, BeforeAll}
use Rattle.claims.proofs.Numbers.{both, le_true, le_false, true_le}
use Rattle.claims.proofs.Apart.{lies}

clash : (a b n : ℤ) → n ≤ℤ a → a <ℤ b → b ≤ℤ n → ⊥
clash a b n h k l = omega (arith, ints)

-- the first, or else the second
abbrev pub or_else : Option ℕ → Option ℕ → Option ℕ
or_else None p = p
or_else (Some m) p = Some m

or_under : (b : Bool) (m : ℕ) (p q : Option ℕ) → cond b (Some m) (or_else p q) ≡ or_else (cond b (Some m) p) q
or_under true m p q = refl
or_under false m p q = refl

module _ {K : Type 0} (is_lane : K → Bool) (n : ℤ) where
  -- what a claim that takes a number says of it
  pub record Taken (c : Claim K) : Type 0 where
    pub lane : is_lane c.lane ≡ true
    pub from : c.from ≤ℤ n
    pub to : n ≤ℤ c.to

  pub taken : (c : Claim K) → takes is_lane n c ≡ true → Taken c
  taken c h =
      let p = both (is_lane c.lane) (int_le c.from n && int_le n c.to) h in
      let q = both (int_le c.from n) (int_le n c.to) p.1 in
      record { lane = p.0; from = true_le c.from n q.0; to = true_le n c.to q.1 }

  pub takes_it : (c : Claim K) → Taken c → takes is_lane n c ≡ true
  takes_it c t = rw (t.lane, le_true c.from n t.from, le_true n c.to t.to) refl

  -- one that takes it with the other takes it for both
  pub alike : (c d : Claim K) → (Taken c → Taken d) → (Taken d → Taken c) → takes is_lane n c ≡ takes is_lane n d
  alike c d f g = by (takes is_lane n c) (takes is_lane n d) refl refl
    where
      by : (s t : Bool) → takes is_lane n c ≡ s → takes is_lane n d ≡ t → takes is_lane n c ≡ takes is_lane n d
      by true t e k = e ∙ sym (takes_it d (f (taken c e)))
      by false true e k = let h = takes_it c (g (taken d k)) in absurd (cc)
      by false false e k = e ∙ sym k

  pub owner_or : (xs ys : List (Claim K)) → owner is_lane n (xs ++ ys) ≡ or_else (owner is_lane n xs) (owner is_lane n ys)
  owner_or [] ys = refl
  owner_or (x ∷ xs) ys = ap (λ z. cond (takes is_lane n x) (Some x.by) z) (owner_or xs ys) ∙ or_under (takes is_lane n x) x.by (owner is_lane n xs) (owner is_lane n ys)

  pub owner_under : (out xs ys : List (Claim K)) → owner is_lane n xs ≡ owner is_lane n ys → owner is_lane n (out ++ xs) ≡ owner is_lane n (out ++ ys)
  owner_under [] xs ys h = h
  owner_under (c ∷ out) xs ys h = ap (λ z. cond (takes is_lane n c) (Some c.by) z) (owner_under out xs ys h)

  -- two lists, each with its own owners, have those of two others together
  pub owner_joined : (xs xs' ys ys' : List (Claim K)) → owner is_lane n xs ≡ owner is_lane n xs' → owner is_lane n ys ≡ owner is_lane n ys' → owner is_lane n (xs ++ ys) ≡ owner is_lane n (xs' ++ ys')
  owner_joined xs xs' ys ys' h k =
      owner_or xs ys ∙ (ap (λ z. or_else z (owner is_lane n ys)) h ∙ (ap (or_else (owner is_lane n xs')) k ∙ sym (owner_or xs' ys')))

  module _ (R : K → K → Ordering) (o : IsTotalOrder R) (l : IsLane R is_lane) where
    -- of two claims one of which lies before the other at most one takes a number
    pub not_both : (a b : Claim K) → is_before R a b ≡ true → Taken a → Taken b → ⊥
    not_both a b h t u = by (lies R o a b h)
      where
        by : (R a.lane b.lane ≡ Less) ⊎ ((R a.lane b.lane ≡ Equal) × (a.to <ℤ b.from)) → ⊥
        by (inl e) = let k = l.one a.lane b.lane t.lane u.lane in absurd (cc)
        by (inr e) = clash a.to b.from n t.to e.1 u.from

    -- none behind it takes its numbers
    pub none_behind : (a : Claim K) (xs ys : List (Claim K)) → BeforeAll R a xs → Taken a → owner is_lane n (xs ++ ys) ≡ owner is_lane n ys
    none_behind a [] ys h t = refl
    none_behind a (x ∷ xs) ys h t = by (takes is_lane n x) refl (none_behind a xs ys h.1 t)
      where
        by : (s : Bool) → takes is_lane n x ≡ s → owner is_lane n (xs ++ ys) ≡ owner is_lane n ys → owner is_lane n (x ∷ xs ++ ys) ≡ owner is_lane n ys
        by true e k = absurd (not_both a x h.0 t (taken x e))
        by false e k = ap (λ z. cond z (Some x.by) (owner is_lane n (xs ++ ys))) e ∙ k

    -- so it may stand before them or behind
    pub owner_moved : (a : Claim K) (xs ys : List (Claim K)) → BeforeAll R a xs → owner is_lane n (a ∷ xs ++ ys) ≡ owner is_lane n (xs ++ a ∷ ys)
    owner_moved a xs ys h = by (takes is_lane n a) refl
      where
        by : (s : Bool) → takes is_lane n a ≡ s → owner is_lane n (a ∷ xs ++ ys) ≡ owner is_lane n (xs ++ a ∷ ys)
        by true e =
            let q = none_behind a xs (a ∷ ys) h (taken a e) in
            let p : cond (takes is_lane n a) (Some a.by) (owner is_lane n (xs ++ ys)) ≡ Some a.by = ap (λ z. cond z (Some a.by) (owner is_lane n (xs ++ ys))) e in
            let r : cond (takes is_lane n a) (Some a.by) (owner is_lane n ys) ≡ Some a.by = ap (λ z. cond z (Some a.by) (owner is_lane n ys)) e in
            p ∙ sym (q ∙ r)
        by false e =
            let p : cond (takes is_lane n a) (Some a.by) (owner is_lane n (xs ++ ys)) ≡ owner is_lane n (xs ++ ys) = ap (λ z. cond z (Some a.by) (owner is_lane n (xs ++ ys))) e in
            let r : cond (takes is_lane n a) (Some a.by) (owner is_lane n ys) ≡ owner is_lane n ys = ap (λ z. cond z (Some a.by) (owner is_lane n ys)) e in
            p ∙ sym (owner_under xs (a ∷ ys) ys r)
