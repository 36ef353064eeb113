-- What each case gets.
use Rattle.std.proofs.Common.{◌≡◌, ℕ, zero, suc, ◌==◌, ℤ, pos, ◌+ℤ◌, ◌≤ℤ◌, ◌<ℤ◌, int_le, int_lt, Bool, true, false, cond, ◌&&◌, ◌||◌, List, [], ◌∷◌, ◌++◌, ◌⊎◌, inl, inr, refl, sym, ap, ◌∙◌, subst, append_assoc, arith, Option, Some, None}
use Rattle.std.specs.Prelude.{slice_get}
use Rattle.std.specs.List.{list_any, AllByRecursion}
use Rattle.std.specs.Ordering.{int_eq, eq_by_cmp}
use Rattle.std.specs.declared.cmp.Ordering.{Ordering}
use Rattle.std.specs.declared.cmp.Ordering.TheVariants.{Less, Equal, Greater}
use Rattle.std.proofs.lemmas.Int.{ints}
use Rattle.std.proofs.lemmas.Bool.Decides.{Decides-eqb}
use Rattle.claims.specs.declared.claim.Claim.{Claim}
use Rattle.claims.specs.Claims.{takes, owner, IsLane, is_before, BeforeAll, AreApart}
use Rattle.claims.proofs.Numbers.{both, le_true, true_le}
use Rattle.claims.proofs.Apart.{lies, all_right, apart_head}
use Rattle.claims.proofs.Owners.{Taken, taken, takes_it, not_both}
use Rattle.contract.specs.Names.declared.bound.Bound.{Bound}
use Rattle.contract.specs.Tree.{ActionTree, ContractTree}
use Rattle.semantics.specs.Applying.{in_bound}
use Rattle.next_inputs.specs.declared.lane.Lane.{Lane}
use Rattle.next_inputs.specs.Lanes.{Way, way, way_in, way_cmp, lane_cmp, lane_total}
use Rattle.next_inputs.specs.Offers.{AreApart as AreBounds}
use Rattle.next_inputs.specs.Claiming.{put, gathered, is_way, IsOf}
use Rattle.next_inputs.proofs.Ranges.{itself, one_range, true_eq, apart_next}
use Rattle.next_inputs.proofs.Ways.{way_lane, way_itself, tested_back, tested_for}

abbrev Pair : Type 0
Pair = ActionTree × ContractTree

-- ---- each claim that was settled is one of a case

-- a claim among those that lie apart has its own numbers
own : (pre post : List (Claim Lane)) (c : Claim Lane) → AreApart lane_cmp (pre ++ c ∷ post) → owner (is_way (way c.lane)) c.from (pre ++ c ∷ post) ≡ Some c.by
own [] post c h =
    let t : takes (is_way (way c.lane)) c.from c ≡ true = takes_it (is_way (way c.lane)) c.from c (record { lane = way_itself (way c.lane); from = itself c.from; to = h.0 }) in
    ap (λ z. cond z (Some c.by) (owner (is_way (way c.lane)) c.from post)) t
own (d ∷ pre) post c h = by (takes (is_way (way c.lane)) c.from d) refl (own pre post c h.2)
  where
    ends : c.from ≤ℤ c.to
    ends = (apart_head lane_cmp lane_total (d ∷ pre) post c h).0

    by : (b : Bool) → takes (is_way (way c.lane)) c.from d ≡ b → owner (is_way (way c.lane)) c.from (pre ++ c ∷ post) ≡ Some c.by → owner (is_way (way c.lane)) c.from (d ∷ (pre ++ c ∷ post)) ≡ Some c.by
    by true e r =
        absurd (not_both (is_way (way c.lane)) c.from lane_cmp lane_total (way_lane (way c.lane)) d c (all_right lane_cmp lane_total d pre (c ∷ post) h.1).0 (taken (is_way (way c.lane)) c.from d e)
        (record { lane = way_itself (way c.lane); from = itself c.from; to = ends }))
    by false e r = ap (λ z. cond z (Some d.by) (owner (is_way (way c.lane)) c.from (pre ++ c ∷ post))) e ∙ r

-- who has a number is one of a case
of_owner : (ks : List Pair) (w : Way) (n : ℤ) (cs : List (Claim Lane)) (m : ℕ) → AllByRecursion (IsOf ks) cs → owner (is_way w) n cs ≡ Some m → (k : Pair) × (slice_get ks m ≡ Some k) × (eq_by_cmp way_cmp (way_in k.0) w ≡ true)
of_owner ks w n [] m h e = absurd (cc)
of_owner ks w n (c ∷ cs) m h e = by (takes (is_way w) n c) refl e (λ g. of_owner ks w n cs m h.1 g)
  where
    by : (b : Bool) → takes (is_way w) n c ≡ b → cond b (Some c.by) (owner (is_way w) n cs) ≡ Some m
        → (owner (is_way w) n cs ≡ Some m → (k : Pair) × (slice_get ks m ≡ Some k) × (eq_by_cmp way_cmp (way_in k.0) w ≡ true))
        → (k : Pair) × (slice_get ks m ≡ Some k) × (eq_by_cmp way_cmp (way_in k.0) w ≡ true)
    by true f g r =
        let q : c.by ≡ m = cc in
        let k = h.0.0 in
        let t = taken (is_way w) n c f in
        (k, ap (slice_get ks) (sym q) ∙ h.0.1, sym (tested_for (way c.lane) (way_in k.0) w (tested_back (way_in k.0) (way c.lane) h.0.2)) ∙ tested_back w (way c.lane) t.lane)
    by false f g r = r g

-- so settled claims are, where they have the owners of claims that are
pub settled_cases : (ks : List Pair) (xs cs : List (Claim Lane)) → AreApart lane_cmp cs → AllByRecursion (IsOf ks) xs
    → ((w : Way) (n : ℤ) → owner (is_way w) n cs ≡ owner (is_way w) n xs) → AllByRecursion (IsOf ks) cs
settled_cases ks xs cs h a e = from [] cs h e
  where
    from : (pre rest : List (Claim Lane)) → AreApart lane_cmp (pre ++ rest) → ((w : Way) (n : ℤ) → owner (is_way w) n (pre ++ rest) ≡ owner (is_way w) n xs) → AllByRecursion (IsOf ks) rest
    from pre [] h e = tt
    from pre (c ∷ rest) h e =
        let q = of_owner ks (way c.lane) c.from xs c.by a (sym (e (way c.lane) c.from) ∙ own pre rest c h) in
        let g = append_assoc pre (c ∷ []) rest in
        ((q.0, q.1, q.2), from (pre ++ c ∷ []) rest (subst (AreApart lane_cmp) (sym g) h) (λ w n. ap (owner (is_way w) n) g ∙ e w n))

-- ---- numbers of a share

-- the last of some bounds ends below a number
abbrev pub Ahead : List Bound → ℤ → Type 0
Ahead [] n = Unit {0}
Ahead (b ∷ []) n = b.to <ℤ n
Ahead (b ∷ c ∷ bs) n = Ahead (c ∷ bs) n

or_assoc : (a b c : Bool) → a || (b || c) ≡ (a || b) || c
or_assoc true b c = refl
or_assoc false b c = refl

or_false : (b : Bool) → b || false ≡ b
or_false true = refl
or_false false = refl

pub in_put : (bs : List Bound) (f t n : ℤ) → AreBounds bs → Ahead bs f → f ≤ℤ t → list_any (in_bound n) (put bs f t) ≡ list_any (in_bound n) bs || (int_le f n && int_le n t)
in_put [] f t n h a k = or_false (int_le f n && int_le n t)
in_put (b ∷ []) f t n h a k = by (int_eq (b.to +ℤ pos 1) f) refl
  where
    by : (e : Bool) → int_eq (b.to +ℤ pos 1) f ≡ e
        → list_any (in_bound n) (cond (int_eq (b.to +ℤ pos 1) f) (record { from = b.from; to = t } ∷ []) (b ∷ record { from = f; to = t } ∷ [])) ≡ (in_bound n b || false) || (int_le f n && int_le n t)
    by true e =
        ap (λ z. list_any (in_bound n) (cond z (record { from = b.from; to = t } ∷ []) (b ∷ record { from = f; to = t } ∷ []))) e
        ∙ (or_false (int_le b.from n && int_le n t) ∙ (one_range b.from b.to f t n h (true_eq (b.to +ℤ pos 1) f e) k ∙ ap (λ z. z || (int_le f n && int_le n t)) (sym (or_false (in_bound n b)))))
    by false e =
        ap (λ z. list_any (in_bound n) (cond z (record { from = b.from; to = t } ∷ []) (b ∷ record { from = f; to = t } ∷ []))) e
        ∙ (ap (λ z. in_bound n b || z) (or_false (int_le f n && int_le n t)) ∙ ap (λ z. z || (int_le f n && int_le n t)) (sym (or_false (in_bound n b))))
in_put (b ∷ c ∷ bs) f t n h a k = ap (λ z. in_bound n b || z) (in_put (c ∷ bs) f t n h.2 a k) ∙ or_assoc (in_bound n b) (list_any (in_bound n) (c ∷ bs)) (int_le f n && int_le n t)

longer : (a b f t : ℤ) → a ≤ℤ b → b <ℤ f → f ≤ℤ t → a ≤ℤ t
longer a b f t h k l = omega (arith, ints)

-- where another bound is put behind, all lie apart
pub put_apart : (bs : List Bound) (f t : ℤ) → AreBounds bs → Ahead bs f → f ≤ℤ t → AreBounds (put bs f t)
put_apart [] f t h a k = k
put_apart (b ∷ []) f t h a k = by (int_eq (b.to +ℤ pos 1) f) refl
  where
    by : (e : Bool) → int_eq (b.to +ℤ pos 1) f ≡ e → AreBounds (cond (int_eq (b.to +ℤ pos 1) f) (record { from = b.from; to = t } ∷ []) (b ∷ record { from = f; to = t } ∷ []))
    by true e = subst (λ (z : Bool). AreBounds (cond z (record { from = b.from; to = t } ∷ []) (b ∷ record { from = f; to = t } ∷ []))) (sym e) (longer b.from b.to f t h a k)
    by false e = subst (λ (z : Bool). AreBounds (cond z (record { from = b.from; to = t } ∷ []) (b ∷ record { from = f; to = t } ∷ []))) (sym e) (h, apart_next b.to f a e, k)
put_apart (b ∷ c ∷ []) f t h a k = by (int_eq (c.to +ℤ pos 1) f) refl
  where
    by : (e : Bool) → int_eq (c.to +ℤ pos 1) f ≡ e → AreBounds (b ∷ cond (int_eq (c.to +ℤ pos 1) f) (record { from = c.from; to = t } ∷ []) (c ∷ record { from = f; to = t } ∷ []))
    by true e = subst (λ (z : Bool). AreBounds (b ∷ cond z (record { from = c.from; to = t } ∷ []) (c ∷ record { from = f; to = t } ∷ []))) (sym e) (h.0, h.1, longer c.from c.to f t h.2 a k)
    by false e = subst (λ (z : Bool). AreBounds (b ∷ cond z (record { from = c.from; to = t } ∷ []) (c ∷ record { from = f; to = t } ∷ []))) (sym e) (h.0, h.1, (h.2, apart_next c.to f a e, k))
put_apart (b ∷ c ∷ d ∷ bs) f t h a k = (h.0, h.1, put_apart (c ∷ d ∷ bs) f t h.2 a k)

pub put_ahead : (bs : List Bound) (f t n : ℤ) → t <ℤ n → Ahead (put bs f t) n
put_ahead [] f t n h = h
put_ahead (b ∷ []) f t n h = by (int_eq (b.to +ℤ pos 1) f)
  where
    by : (e : Bool) → Ahead (cond e (record { from = b.from; to = t } ∷ []) (b ∷ record { from = f; to = t } ∷ [])) n
    by true = h
    by false = h
put_ahead (b ∷ c ∷ []) f t n h = by (int_eq (c.to +ℤ pos 1) f)
  where
    by : (e : Bool) → Ahead (b ∷ cond e (record { from = c.from; to = t } ∷ []) (c ∷ record { from = f; to = t } ∷ [])) n
    by true = h
    by false = h
put_ahead (b ∷ c ∷ d ∷ bs) f t n h = put_ahead (c ∷ d ∷ bs) f t n h

-- ---- what is gathered

module _ (m : ℕ) (w : Way) where
  -- claims by the case are of its way, and lie ahead
  abbrev pub IsBy : Claim Lane → Type 0
  IsBy c = (c.by == m) ≡ true → is_way w c.lane ≡ true

  abbrev pub LiesAhead : List Bound → Claim Lane → Type 0
  LiesAhead bs c = (c.by == m) ≡ true → Ahead bs c.from

  -- a number lies in a claim by the case
  abbrev pub in_claim : ℤ → Claim Lane → Bool
  in_claim n c = (c.by == m) && (int_le c.from n && int_le n c.to)

  next_ahead : (bs : List Bound) (c : Claim Lane) (cs : List (Claim Lane)) → is_way w c.lane ≡ true → BeforeAll lane_cmp c cs → AllByRecursion IsBy cs → AllByRecursion (LiesAhead (put bs c.from c.to)) cs
  next_ahead bs c [] e b s = tt
  next_ahead bs c (d ∷ cs) e b s = (λ g. put_ahead bs c.from c.to d.from (by (s.0 g) (lies lane_cmp lane_total c d b.0)), next_ahead bs c cs e b.1 s.1)
    where
      by : is_way w d.lane ≡ true → (lane_cmp c.lane d.lane ≡ Less) ⊎ ((lane_cmp c.lane d.lane ≡ Equal) × (c.to <ℤ d.from)) → c.to <ℤ d.from
      by f (inl l) = let q = (way_lane w).one c.lane d.lane e f in absurd (cc)
      by f (inr l) = l.1

  pub gathered_so : (bs : List Bound) (cs : List (Claim Lane)) → AreBounds bs → AreApart lane_cmp cs → AllByRecursion IsBy cs → AllByRecursion (LiesAhead bs) cs
      → AreBounds (gathered bs m cs) × ((n : ℤ) → list_any (in_bound n) (gathered bs m cs) ≡ list_any (in_bound n) bs || list_any (in_claim n) cs)
  gathered_so bs [] h a s l = (h, λ n. sym (or_false (list_any (in_bound n) bs)))
  gathered_so bs (c ∷ cs) h a s l = by (c.by == m) refl (λ bs' h' l'. gathered_so bs' cs h' a.2 s.1 l')
    where
      by : (b : Bool) → (c.by == m) ≡ b
          → ((bs' : List Bound) → AreBounds bs' → AllByRecursion (LiesAhead bs') cs
          → AreBounds (gathered bs' m cs) × ((n : ℤ) → list_any (in_bound n) (gathered bs' m cs) ≡ list_any (in_bound n) bs' || list_any (in_claim n) cs))
          → AreBounds (gathered (cond (c.by == m) (put bs c.from c.to) bs) m cs)
          × ((n : ℤ) → list_any (in_bound n) (gathered (cond (c.by == m) (put bs c.from c.to) bs) m cs) ≡ list_any (in_bound n) bs || (((c.by == m) && (int_le c.from n && int_le n c.to)) || list_any (in_claim n) cs))
      by true e r =
          let q = r (put bs c.from c.to) (put_apart bs c.from c.to h (l.0 e) a.0) (next_ahead bs c cs (s.0 e) a.1 s.1) in
          rw e (q.0, λ n. q.1 n ∙ (ap (λ z. z || list_any (in_claim n) cs) (in_put bs c.from c.to n h (l.0 e) a.0) ∙ sym (or_assoc (list_any (in_bound n) bs) (int_le c.from n && int_le n c.to) (list_any (in_claim n) cs))))
      by false e r = rw e (r bs h l.1)

  -- ---- and who has it

  none_behind : (n : ℤ) (c : Claim Lane) (cs : List (Claim Lane)) → BeforeAll lane_cmp c cs → AllByRecursion IsBy cs → Taken (is_way w) n c → list_any (in_claim n) cs ≡ true → ⊥
  none_behind n c [] b s t h = absurd (cc)
  none_behind n c (d ∷ cs) b s t h = by (in_claim n d) refl h (λ g. none_behind n c cs b.1 s.1 t g)
    where
      by : (e : Bool) → in_claim n d ≡ e → e || list_any (in_claim n) cs ≡ true → (list_any (in_claim n) cs ≡ true → ⊥) → ⊥
      by true e g r =
          let p = both (d.by == m) (int_le d.from n && int_le n d.to) e in
          let q = both (int_le d.from n) (int_le n d.to) p.1 in
          not_both (is_way w) n lane_cmp lane_total (way_lane w) c d b.0 t (record { lane = s.0 p.0; from = true_le d.from n q.0; to = true_le n d.to q.1 })
      by false e g r = r g

  claim_itself : (c : Claim Lane) → (c.by == m) ≡ true → Some c.by ≡ Some m
  claim_itself c e = ap Some ((Decides-eqb c.by m).0 e)

  pub owner_in : (n : ℤ) (cs : List (Claim Lane)) → AreApart lane_cmp cs → AllByRecursion IsBy cs → list_any (in_claim n) cs ≡ true → owner (is_way w) n cs ≡ Some m
  owner_in n [] a s h = absurd (cc)
  owner_in n (c ∷ cs) a s h = by (in_claim n c) refl h (λ g. owner_in n cs a.2 s.1 g)
    where
      later : (b : Bool) → takes (is_way w) n c ≡ b → list_any (in_claim n) cs ≡ true → (list_any (in_claim n) cs ≡ true → owner (is_way w) n cs ≡ Some m) → owner (is_way w) n (c ∷ cs) ≡ Some m
      later true f g r = absurd (none_behind n c cs a.1 s.1 (taken (is_way w) n c f) g)
      later false f g r = ap (λ z. cond z (Some c.by) (owner (is_way w) n cs)) f ∙ r g

      by : (e : Bool) → in_claim n c ≡ e → e || list_any (in_claim n) cs ≡ true → (list_any (in_claim n) cs ≡ true → owner (is_way w) n cs ≡ Some m) → owner (is_way w) n (c ∷ cs) ≡ Some m
      by true e g r =
          let p = both (c.by == m) (int_le c.from n && int_le n c.to) e in
          let q = both (int_le c.from n) (int_le n c.to) p.1 in
          let t = takes_it (is_way w) n c (record { lane = s.0 p.0; from = true_le c.from n q.0; to = true_le n c.to q.1 }) in
          ap (λ z. cond z (Some c.by) (owner (is_way w) n cs)) t ∙ claim_itself c p.0
      by false e g r = later (takes (is_way w) n c) refl g r

  by_itself : (c : Claim Lane) → Some c.by ≡ Some m → (c.by == m) ≡ true
  by_itself c e = let g : c.by ≡ m = cc in (Decides-eqb c.by m).1 g

  pub in_owner : (n : ℤ) (cs : List (Claim Lane)) → owner (is_way w) n cs ≡ Some m → list_any (in_claim n) cs ≡ true
  in_owner n [] h = absurd (cc)
  in_owner n (c ∷ cs) h = by (takes (is_way w) n c) refl h (λ g. in_owner n cs g)
    where
      or_true : (b : Bool) → b || true ≡ true
      or_true true = refl
      or_true false = refl

      by : (e : Bool) → takes (is_way w) n c ≡ e → cond e (Some c.by) (owner (is_way w) n cs) ≡ Some m → (owner (is_way w) n cs ≡ Some m → list_any (in_claim n) cs ≡ true) → in_claim n c || list_any (in_claim n) cs ≡ true
      by true e g r =
          let t = taken (is_way w) n c e in
          rw (by_itself c g, le_true c.from n t.from, le_true n c.to t.to) refl
      by false e g r = ap (λ z. in_claim n c || z) (r g) ∙ or_true (in_claim n c)

-- the case of a way gets just the numbers that it has
pub gathers : (ks : List Pair) (cs : List (Claim Lane)) (m : ℕ) (k : Pair) → slice_get ks m ≡ Some k → AreApart lane_cmp cs → AllByRecursion (IsOf ks) cs
    → AreBounds (gathered [] m cs)
    × ((n : ℤ) → list_any (in_bound n) (gathered [] m cs) ≡ true → owner (is_way (way_in k.0)) n cs ≡ Some m)
    × ((n : ℤ) → owner (is_way (way_in k.0)) n cs ≡ Some m → list_any (in_bound n) (gathered [] m cs) ≡ true)
gathers ks cs m k h a s =
    let w = way_in k.0 in
    let q = gathered_so m w [] cs tt a (by_case cs s) (ahead cs) in
    (q.0, λ n e. owner_in m w n cs a (by_case cs s) (sym (q.1 n) ∙ e), λ n e. q.1 n ∙ in_owner m w n cs e)
  where
    by_case : (cs : List (Claim Lane)) → AllByRecursion (IsOf ks) cs → AllByRecursion (IsBy m (way_in k.0)) cs
    by_case [] s = tt
    by_case (c ∷ cs) s = (λ e. one c s.0 e, by_case cs s.1)
      where
        one : (c : Claim Lane) → IsOf ks c → (c.by == m) ≡ true → is_way (way_in k.0) c.lane ≡ true
        one c o e =
            let g : c.by ≡ m = (Decides-eqb c.by m).0 e in
            let f : o.0 ≡ k = let r : Some o.0 ≡ Some k = sym o.1 ∙ (ap (slice_get ks) g ∙ h) in cc in
            subst (λ (j : Pair). is_way (way_in j.0) c.lane ≡ true) f o.2

    ahead : (cs : List (Claim Lane)) → AllByRecursion (LiesAhead m (way_in k.0) []) cs
    ahead [] = tt
    ahead (c ∷ cs) = (λ e. tt, ahead cs)
