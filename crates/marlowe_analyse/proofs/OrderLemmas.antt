-- Alarms in their order.
use Rattle.std.proofs.Common.{◌≡◌, ◌≢◌, ℕ, ◌+◌, ◌-◌, ◌<◌, Bool, true, false, List, [], ◌∷◌, ◌++◌, length, refl, sym, ap, ◌∙◌, subst, ◌⊎◌, inl, inr, arith}
use Rattle.std.specs.Prelude.{Contains}
use Rattle.std.specs.List.{AllByRecursion}
use Rattle.std.specs.List.Sorted.{IsPermutation}
use Rattle.std.specs.declared.cmp.Ordering.{Ordering}
use Rattle.std.specs.declared.cmp.Ordering.TheVariants.{Less, Equal, Greater}
use Rattle.std.specs.Ordering.{is_lt, ordering_reverse}
use Rattle.std.specs.Cmp.Lexicographic.{nat_list_cmp_total}
use Rattle.std.proofs.Math.ListN.{get_or}
use Rattle.std.proofs.lemmas.List.{get_or_default}
use Rattle.std.proofs.lemmas.List.Elements.{Contains-push, Contains-append_left, Contains-push_cases}
use Rattle.std.proofs.lemmas.List.Sorted.{Contains-permutation}
use Rattle.std.proofs.lemmas.Map.Lookups.{exact_bytes}
use Rattle.analysis_spec.specs.declared.alarm.Alarm.{Alarm}
use Rattle.analysis_walk.proofs.ListLaws.{all_append}
use Rattle.marlowe_analyse.specs.declared.order.Standing.{Standing}
use Rattle.marlowe_analyse.specs.Order.{alarm_key, key_cmp, IsBefore, AreInOrder}
use Rattle.marlowe_analyse.specs.OrderSupport.{StandForAll, IsNewAt, IsOldAt, IsUpTo}

-- what stands up to a key stands before one that is behind it
pub before : (key : List ℕ) (b : Alarm) (rest : List Alarm) → key_cmp key (alarm_key b) ≡ Less → AllByRecursion (IsUpTo key) rest → AllByRecursion (λ a. IsBefore a b) rest
before key b [] h all = tt
before key b (a ∷ rest) h all = (by all.0, before key b rest h all.1)
  where
    by : IsUpTo key a → IsBefore a b
    by (inl e) = subst (λ k. key_cmp k (alarm_key b) ≡ Less) (sym e) h
    by (inr l) = nat_list_cmp_total.trans (alarm_key a) key (alarm_key b) l h

-- one more, behind all
pub ordered_more : (rest : List Alarm) (b : Alarm) → AreInOrder rest → AllByRecursion (λ a. IsBefore a b) rest → AreInOrder (rest ++ b ∷ [])
ordered_more [] b h all = (tt, tt)
ordered_more (a ∷ rest) b h all = (all_append (IsBefore a) rest (b ∷ []) h.0 (all.0, tt), ordered_more rest b h.1 all.1)

pub up_to_more : (rest : List Alarm) (b : Alarm) → AllByRecursion (λ a. IsBefore a b) rest → AllByRecursion (IsUpTo (alarm_key b)) (rest ++ b ∷ [])
up_to_more [] b all = (inl refl, tt)
up_to_more (a ∷ rest) b all = (inr all.0, up_to_more rest b all.1)

-- where neither stands before the other they are one key
pub ties : (k l : List ℕ) → is_lt (key_cmp l k) ≡ false → key_cmp k l ≢ Less → k ≡ l
ties k l h g = by (key_cmp k l) (key_cmp l k) refl (nat_list_cmp_total.antisymm k l) h
  where
    by : (o p : Ordering) → key_cmp k l ≡ o → key_cmp k l ≡ ordering_reverse p → is_lt p ≡ false → k ≡ l
    by Less p e f q = absurd (g e)
    by Equal p e f q = exact_bytes k l e
    by Greater Less e f q = absurd (cc)
    by Greater Equal e f q = absurd (let u : Greater ≡ Equal = sym e ∙ f in cc)
    by Greater Greater e f q = absurd (let u : Greater ≡ Less = sym e ∙ f in cc)

is_less : (o : Ordering) → is_lt o ≡ true → o ≡ Less
is_less Less e = refl
is_less Equal e = absurd (cc)
is_less Greater e = absurd (cc)

is_not_less : (o : Ordering) → is_lt o ≡ false → o ≢ Less
is_not_less Less e = absurd (cc)
is_not_less Equal e = λ f. cc
is_not_less Greater e = λ f. cc

pub new_at_first : (ss : List Standing) → IsNewAt ss 0
new_at_first ss i s t e f g = absurd (omega (arith, e))

module _ (ss : List Standing) (n : ℕ) (p t : Standing) (few : n < length ss) (some : 0 < n) (p_is : p ≡ get_or ss (n - 1) p) (t_is : t ≡ get_or ss n t) where
  -- the one before it, and it, as others have them
  same_two : (i : ℕ) (q u : Standing) → i + 1 ≡ n → q ≡ get_or ss i q → u ≡ get_or ss n u → (q ≡ p) × (u ≡ t)
  same_two i q u e f g =
      let d : i ≡ n - 1 = omega (arith, e, some) in
      (f ∙ (get_or_default ss i q p (omega (arith, e, few)) ∙ (ap (λ j. get_or ss j p) d ∙ sym p_is)), g ∙ (get_or_default ss n u t few ∙ sym t_is))

  moved : (P : Standing → Standing → Type 0) (i : ℕ) (q u : Standing) → i + 1 ≡ n → q ≡ get_or ss i q → u ≡ get_or ss n u → P p t → P q u
  moved P i q u e f g h = let z = same_two i q u e f g in subst (λ x. P x u) (sym z.0) (subst (λ x. P p x) (sym z.1) h)

  pub new_at : (b : Bool) → b ≡ is_lt (key_cmp p.key.items t.key.items) → b ≡ true → IsNewAt ss n
  new_at b e h i q u f g k = moved (λ (x y : Standing). key_cmp x.key.items y.key.items ≡ Less) i q u f g k (is_less (key_cmp p.key.items t.key.items) (sym e ∙ h))

  pub old_at : (b : Bool) → b ≡ is_lt (key_cmp p.key.items t.key.items) → b ≡ false → IsOldAt ss n
  old_at b e h = (some, λ i q u f g k. moved (λ (x y : Standing). key_cmp x.key.items y.key.items ≢ Less) i q u f g k (is_not_less (key_cmp p.key.items t.key.items) (sym e ∙ h)))

-- ---- all alarms

pub none_stand : (ss : List Standing) → StandForAll [] ss
none_stand ss a h = absurd (omega (arith, h.1))

pub one_stands : (alarms : List Alarm) (ss : List Standing) (b : Alarm) (s : Standing) → s.alarm.now ≡ b → StandForAll alarms ss → StandForAll (alarms ++ b ∷ []) (ss ++ s ∷ [])
one_stands alarms ss b s e h a p = by (Contains-push_cases alarms b a p)
  where
    by : Contains alarms a ⊎ (b ≡ a) → (t : Standing) × (t.alarm.now ≡ a) × Contains (ss ++ s ∷ []) t
    by (inl q) = let t = h a q in (t.0, t.1, Contains-append_left ss (s ∷ []) t.0 t.2)
    by (inr q) = (s, e ∙ q, Contains-push ss s)

pub still_stand : (alarms : List Alarm) (ss ts : List Standing) → StandForAll alarms ss → IsPermutation ss ts → StandForAll alarms ts
still_stand alarms ss ts h p a q = let t = h a q in (t.0, t.1, Contains-permutation ss ts t.0 p t.2)
