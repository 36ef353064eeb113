-- A number that is one of two.
use Rattle.std.proofs.Common.{◌≡◌, ℕ, ◌<◌, ◌≤◌, ℤ, pos, negsuc, ◌-ℤ◌, ◌≤ℤ◌, ◌⊎◌, inl, inr, Option, sym, ap, ◌∙◌, subst, arith}
use Rattle.std.proofs.lemmas.Int.{ints}
use Rattle.linear.specs.Linear.{Linear, Valuation, number_at, symbol, IsBelow, IsFrom, IsUpTo, Agree, IsFromEither, IsUpToEither}
use Rattle.linear.specs.Combined.{StandsFor, AreBelow}
use Rattle.linear.specs.Bounded.{IsShown, IsFromAll, IsUpToAll}
use Rattle.symbols.specs.Symbols.{Symbols, Gives}
use Rattle.symbols.specs.Held.{GivesAny, Learns, Cancels}
use Rattle.symbols.specs.Either.{GivesEither, IsUnder, IsOver, LiesBetween, Relates, IsAtLeast, LearnsLeast}
use Rattle.symbols.specs.Branches.{Comes, KeepsSides}
use Rattle.linear.proofs.LinearLaws.{same_number, symbol_at}
use Rattle.symbols.proofs.KnownLaws.{terms_more, knows_itself, knows_then, gives_here}
use Rattle.symbols.proofs.HeldLemmas.{same_as}

gap_back : (a b : ℤ) → pos 0 ≤ℤ (a -ℤ b) → b ≤ℤ a
gap_back a b h = omega (arith, ints)

gap : (a b : ℤ) → b ≤ℤ a → pos 0 ≤ℤ (a -ℤ b)
gap a b h = omega (arith, ints)

pub at_least_by : (k : Symbols) (l m d : Linear) → StandsFor (λ r. number_at r l -ℤ number_at r m) (AreBelow l m) d → IsShown k.ranges k.facts d → IsAtLeast k l m
at_least_by k l m d s h r v = gap_back (number_at r l) (number_at r m) (subst (λ z. pos 0 ≤ℤ z) (s.number r) (h r v.ranges v.facts))

pub learns_least_by : (k n : Symbols) (l m d : Linear) → StandsFor (λ r. number_at r l -ℤ number_at r m) (AreBelow l m) d → Learns k n d → LearnsLeast k n l m
learns_least_by k n l m d s h r c v x y g = h r c v (s.below k.next (x, y)) (subst (λ z. pos 0 ≤ℤ z) (sym (s.number r)) (gap (number_at r l) (number_at r m) g))

pub learns_least_none : (k : Symbols) (l m : Linear) → LearnsLeast k k l m
learns_least_none k l m r c v x y g = knows_itself k r c v

pub under_both : (a : Symbols) (x : Linear) (b : Symbols) (y z : Linear) → IsAtLeast a x z → IsAtLeast b y z → IsUnder a x b y z
under_both a x b y z h k = record { left = h; right = k }

pub over_both : (a : Symbols) (x : Linear) (b : Symbols) (y z : Linear) → IsAtLeast a z x → IsAtLeast b z y → IsOver a x b y z
over_both a x b y z h k = record { left = h; right = k }

pub relates_none : (k a : Symbols) (x : Linear) (b : Symbols) (y : Linear) (count : ℕ) (e : Linear) → Relates k k a x b y count e
relates_none k a x b y count e r c v u w l = knows_itself k r c v

pub relates_below : (k m a : Symbols) (x : Linear) (b : Symbols) (y : Linear) (count : ℕ) (e z : Linear) → IsBelow count z → IsUnder a x b y z → LearnsLeast k m e z → Relates k m a x b y count e
relates_below k m a x b y count e z g h i r c v u w l = i r c v w (terms_more count k.next u z.terms g) (l.low z g h)

pub relates_above : (k m a : Symbols) (x : Linear) (b : Symbols) (y : Linear) (count : ℕ) (e z : Linear) → IsBelow count z → IsOver a x b y z → LearnsLeast k m z e → Relates k m a x b y count e
relates_above k m a x b y count e z g h i r c v u w l = i r c v (terms_more count k.next u z.terms g) w (l.high z g h)

pub relates_then : (k m n a : Symbols) (x : Linear) (b : Symbols) (y : Linear) (count : ℕ) (e : Linear) → Relates k m a x b y count e → Relates m n a x b y count e → Relates k n a x b y count e
relates_then k m n a x b y count e h i r c v u w l =
    let g = h r c v u w l in
    knows_then k r m n g (i r g.closed g.valued (subst (λ p. count ≤ p) (sym g.next) u) (subst (λ p. IsBelow p e) (sym g.next) w) l)

module _ (k : Symbols) (a : Symbols) (x : Linear) (b : Symbols) (y : Linear) (r : Valuation) (n : ℤ) where
  lies : Gives k r (a, x) n ⊎ Gives k r (b, y) n → (q : Valuation) → Agree k.next q r → LiesBetween a x b y k.next q n
  lies (inl g) q h = record {
    low = λ z i u. subst (λ w. w ≤ℤ n) (same_number k.next g.values r g.agrees z i ∙ sym (same_number k.next q r h z i))
        (subst (λ w. number_at g.values z ≤ℤ w) (sym g.number) (u.left g.values g.valued));
    high = λ z i u. subst (λ w. n ≤ℤ w) (same_number k.next g.values r g.agrees z i ∙ sym (same_number k.next q r h z i))
        (subst (λ w. w ≤ℤ number_at g.values z) (sym g.number) (u.left g.values g.valued));
  }
  lies (inr g) q h = record {
    low = λ z i u. subst (λ w. w ≤ℤ n) (same_number k.next g.values r g.agrees z i ∙ sym (same_number k.next q r h z i))
        (subst (λ w. number_at g.values z ≤ℤ w) (sym g.number) (u.right g.values g.valued));
    high = λ z i u. subst (λ w. n ≤ℤ w) (same_number k.next g.values r g.agrees z i ∙ sym (same_number k.next q r h z i))
        (subst (λ w. w ≤ℤ number_at g.values z) (sym g.number) (u.right g.values g.valued));
  }

  low_of : (o p : Option ℤ) → IsFromAll a.ranges a.facts (λ q. number_at q x) o → IsFromAll b.ranges b.facts (λ q. number_at q y) p → Gives k r (a, x) n ⊎ Gives k r (b, y) n → IsFrom o n ⊎ IsFrom p n
  low_of o p h i (inl g) = inl (subst (λ w. IsFrom o w) (sym g.number) (h g.values g.valued.ranges g.valued.facts))
  low_of o p h i (inr g) = inr (subst (λ w. IsFrom p w) (sym g.number) (i g.values g.valued.ranges g.valued.facts))

  high_of : (o p : Option ℤ) → IsUpToAll a.ranges a.facts (λ q. number_at q x) o → IsUpToAll b.ranges b.facts (λ q. number_at q y) p → Gives k r (a, x) n ⊎ Gives k r (b, y) n → IsUpTo o n ⊎ IsUpTo p n
  high_of o p h i (inl g) = inl (subst (λ w. IsUpTo o w) (sym g.number) (h g.values g.valued.ranges g.valued.facts))
  high_of o p h i (inr g) = inr (subst (λ w. IsUpTo p w) (sym g.number) (i g.values g.valued.ranges g.valued.facts))

pub new_number_gives : (k m z a : Symbols) (x : Linear) (b : Symbols) (y e : Linear) (count : ℕ) (o p s t low high : Option ℤ) → count ≡ k.next
    → IsFromAll a.ranges a.facts (λ q. number_at q x) o → IsFromAll b.ranges b.facts (λ q. number_at q y) p
    → IsUpToAll a.ranges a.facts (λ q. number_at q x) s → IsUpToAll b.ranges b.facts (λ q. number_at q y) t → IsFromEither o p low → IsUpToEither s t high → GivesAny k m e low high → Relates m z
    a x b y count e → GivesEither k z a x b y e
new_number_gives k m z a x b y e count o p s t low high i fo fp us ut f u g h r n c v w =
    let d = g r n c v (f n (low_of k a x b y r n o p fo fp w)) (u n (high_of k a x b y r n s t us ut w)) in
    let l = subst (λ j. LiesBetween a x b y j d.values n) (sym i) (lies k a x b y r n w d.values d.agrees) in
    let j = h d.values d.closed d.valued (subst (λ q. q ≤ m.next) (sym i) d.grows) d.below (subst (λ q. LiesBetween a x b y count d.values q) d.number l) in
    record {
      closed = j.closed;
      below = subst (λ q. IsBelow q e) (sym j.next) d.below;
      grows = subst (λ q. k.next ≤ q) (sym j.next) d.grows;
      values = d.values;
      agrees = d.agrees;
      valued = j.valued;
      number = d.number;
    }

-- the new symbol's number is kept, too
pub kept_gives : (k z w a : Symbols) (x : Linear) (b : Symbols) (y e : Linear) (count s : ℕ) → count ≡ k.next → e ≡ symbol s → GivesEither k z a x b y e → KeepsSides z w a x b y count s → GivesEither k w a x b y e
kept_gives k z w a x b y e count s i q h f r n c v g =
    let d = h r n c v g in
    let l : s < z.next = (subst (λ (o : Linear). IsBelow z.next o) q d.below).0 in
    let at : n ≡ d.values s = d.number ∙ ap (number_at d.values) q ∙ symbol_at d.values s in
    let j = f d.values d.closed d.valued (subst (λ p. p ≤ z.next) (sym i) d.grows) l (comes d.values d.agrees at g) in
    record {
      closed = j.closed;
      below = subst (λ p. IsBelow p e) (sym j.next) d.below;
      grows = subst (λ p. k.next ≤ p) (sym j.next) d.grows;
      values = d.values;
      agrees = d.agrees;
      valued = j.valued;
      number = d.number;
    }
  where
    alike : (p q : Valuation) → Agree k.next p r → Agree k.next q r → Agree count p q
    alike p q g h m l = let u = subst (λ t. m < t) i l in g m u ∙ sym (h m u)

    comes : (q : Valuation) → Agree k.next q r → n ≡ q s → Gives k r (a, x) n ⊎ Gives k r (b, y) n → Comes a x count q (q s) ⊎ Comes b y count q (q s)
    comes q h at (inl g) = inl (record { stands = record { values = g.values; agrees = alike g.values q g.agrees h; valued = g.valued }; number = sym at ∙ g.number })
    comes q h at (inr g) = inr (record { stands = record { values = g.values; agrees = alike g.values q g.agrees h; valued = g.valued }; number = sym at ∙ g.number })

pub same_gives : (k a : Symbols) (x : Linear) (b : Symbols) (y e : Linear) (count : ℕ) → count ≡ k.next → IsBelow count x → Cancels x (negsuc 0) y → e ≡ x → GivesEither k k a x b y e
same_gives k a x b y e count i l c q r n cl v h = subst (λ w. Gives k r (k, w) n) (sym q) (gives_here k r x n cl v (subst (λ p. IsBelow p x) i l) (number_is h))
  where
    number_is : Gives k r (a, x) n ⊎ Gives k r (b, y) n → n ≡ number_at r x
    number_is (inl g) = g.number ∙ same_number k.next g.values r g.agrees x (subst (λ p. IsBelow p x) i l)
    number_is (inr g) = g.number ∙ same_as (number_at g.values x) (number_at g.values y) (c g.values) ∙ same_number k.next g.values r g.agrees x (subst (λ p. IsBelow p x) i l)
