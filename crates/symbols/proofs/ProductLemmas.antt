-- Products, and multiples of their factors.
use Rattle.std.proofs.Common.{◌≡◌, ◌≤◌, ℤ, pos, negsuc, neg_ℤ, ◌+ℤ◌, ◌*ℤ◌, ◌≤ℤ◌, false, Option, Some, None, sym, ap, ◌∙◌, subst, arith}
use Rattle.std.proofs.lemmas.Int.{ints}
use Rattle.std.specs.Option.{IfSome}
use Rattle.linear.specs.declared.bounds.Bounds.{Bounds}
use Rattle.linear.specs.Linear.{Linear, number_at, IsBelow, IsFrom, IsUpTo}
use Rattle.linear.specs.Combined.{StandsFor, AreBelow, combined_at}
use Rattle.linear.specs.Bounded.{IsFromAll, IsUpToAll}
use Rattle.symbols.specs.Symbols.{Symbols}
use Rattle.symbols.specs.Held.{Learns}
use Rattle.symbols.specs.Results.{GivesResult}
use Rattle.symbols.specs.Products.{LearnsSum, LearnsFromMultiple, LearnsUpToMultiple, LearnsProduct}
use Rattle.linear.proofs.LinearLaws.{grows, shrinks, flipped, product_neg, same_number}
use Rattle.symbols.proofs.KnownLaws.{knows_itself, knows_then, terms_more}

-- ---- multiples

pub from_none : (k : Symbols) (e l : Linear) (o : Option ℤ) → LearnsFromMultiple k k e l o
from_none k e l o r cl v x y f = knows_itself k r cl v

pub up_to_none : (k : Symbols) (e l : Linear) (o : Option ℤ) → LearnsUpToMultiple k k e l o
up_to_none k e l o r cl v x y f = knows_itself k r cl v

pub sum_none : (k : Symbols) (p : ℤ) (e : Linear) (q : ℤ) (l : Linear) → LearnsSum k k p e q l
sum_none k p e q l r cl v x y f = knows_itself k r cl v

pub sum_learned : (k m : Symbols) (e l g : Linear) (p q : ℤ) → StandsFor (combined_at p e q l) (AreBelow e l) g → Learns k m g → LearnsSum k m p e q l
sum_learned k m e l g p q s h r cl v x y f = h r cl v (s.below k.next (x, y)) (subst (λ z. pos 0 ≤ℤ z) (sym (s.number r)) f)

pub from_sum : (k m : Symbols) (e l : Linear) (d c : ℤ) → d ≡ neg_ℤ c → LearnsSum k m (pos 1) e d l → LearnsFromMultiple k m e l (Some c)
from_sum k m e l d c i h r cl v x y f =
    let q : d *ℤ number_at r l ≡ neg_ℤ (c *ℤ number_at r l) = ap (λ z. z *ℤ number_at r l) i ∙ product_neg c (number_at r l) in
    h r cl v x y (subst (λ z. pos 0 ≤ℤ ((pos 1 *ℤ number_at r e) +ℤ z)) (sym q) (no_less (number_at r e) (c *ℤ number_at r l) f))
  where
    no_less : (a b : ℤ) → b ≤ℤ a → pos 0 ≤ℤ ((pos 1 *ℤ a) +ℤ neg_ℤ b)
    no_less a b h = omega (arith, ints)

pub up_to_sum : (k m : Symbols) (e l : Linear) (c : ℤ) → LearnsSum k m (negsuc 0) e c l → LearnsUpToMultiple k m e l (Some c)
up_to_sum k m e l c h r cl v x y f = h r cl v x y (no_more (number_at r e) (c *ℤ number_at r l) f)
  where
    no_more : (a b : ℤ) → a ≤ℤ b → pos 0 ≤ℤ ((negsuc 0 *ℤ a) +ℤ b)
    no_more a b h = omega (arith, ints)

-- ---- products

high_natural : (o : Option ℤ) (x y : ℤ) → pos 0 ≤ℤ x → IsUpTo o y → IfSome o (λ c. (x *ℤ y) ≤ℤ (c *ℤ x))
high_natural None x y h k = tt
high_natural (Some c) x y h k = subst (λ z. (x *ℤ y) ≤ℤ z) (flipped x c) (grows x y c h k)

low_opposite : (o : Option ℤ) (x y : ℤ) → x ≤ℤ pos 0 → IsUpTo o y → IfSome o (λ c. (c *ℤ x) ≤ℤ (x *ℤ y))
low_opposite None x y h k = tt
low_opposite (Some c) x y h k = subst (λ z. z ≤ℤ (x *ℤ y)) (flipped x c) (shrinks x c y h k)

pub product_none : (a b : Bounds) (k : Symbols) (l n e : Linear) → LearnsProduct a b k k l n e
product_none a b k l n e r cl v x y z f g h i q = knows_itself k r cl v

pub product_natural : (a b : Bounds) (k m : Symbols) (l n e : Linear) → ((z : ℤ) → IsFrom a.least z → pos 0 ≤ℤ z) → LearnsUpToMultiple k m e l b.greatest → LearnsProduct a b k m l n e
product_natural a b k m l n e s t r cl v x y z f g h i q =
    let p = number_at r l in
    let u = number_at r n in
    t r cl v z x (subst (λ w. IfSome b.greatest (λ c. w ≤ℤ (c *ℤ p))) (sym q) (high_natural b.greatest p u (s p f) i))

pub product_opposite : (a b : Bounds) (k m : Symbols) (l n e : Linear) → ((z : ℤ) → IsUpTo a.greatest z → z ≤ℤ pos 0) → LearnsFromMultiple k m e l b.greatest → LearnsProduct a b k m l n e
product_opposite a b k m l n e s t r cl v x y z f g h i q =
    let p = number_at r l in
    let u = number_at r n in
    t r cl v z x (subst (λ w. IfSome b.greatest (λ c. (c *ℤ p) ≤ℤ w)) (sym q) (low_opposite b.greatest p u (s p g) i))

pub product_both : (a b : Bounds) (k m p : Symbols) (l n e : Linear) → LearnsProduct a b k m l n e → LearnsProduct a b m p l n e → LearnsProduct a b k p l n e
product_both a b k m p l n e s t r cl v x y z f g h i q =
    let j = s r cl v x y z f g h i q in
    knows_then k r m p j
    (t r j.closed j.valued (subst (λ w. IsBelow w l) (sym j.next) x) (subst (λ w. IsBelow w n) (sym j.next) y) (subst (λ w. IsBelow w e) (sym j.next) z) f g h i q)

pub product_turned : (a b : Bounds) (k m : Symbols) (l n e : Linear) → LearnsProduct b a k m n l e → LearnsProduct a b k m l n e
product_turned a b k m l n e t r cl v x y z f g h i q = t r cl v y x z h i f g (q ∙ flipped (number_at r l) (number_at r n))

pub product_learned : (k m p : Symbols) (l n e : Linear) (a b : Bounds) → IsFromAll k.ranges k.facts (λ r. number_at r l) a.least → IsUpToAll k.ranges k.facts (λ r. number_at r l) a.greatest
    → IsFromAll k.ranges k.facts (λ r. number_at r n) b.least → IsUpToAll k.ranges k.facts (λ r. number_at r n) b.greatest → GivesResult false k m l n e → LearnsProduct a b m p l n e → GivesResult false k p l n e
product_learned k m p l n e a b f g h i s t r cl v x y =
    let d = s r cl v x y in
    let u = same_number k.next d.values r d.agrees l x in
    let w = same_number k.next d.values r d.agrees n y in
    let q : number_at d.values e ≡ number_at d.values l *ℤ number_at d.values n =
    sym d.number ∙ ap (λ z. z *ℤ number_at r n) (sym u) ∙ ap (λ z. number_at d.values l *ℤ z) (sym w) in
    let j = t d.values d.closed d.valued (terms_more k.next m.next d.grows l.terms x) (terms_more k.next m.next d.grows n.terms y) d.below
    (subst (λ z. IsFrom a.least z) (sym u) (f r v.ranges v.facts))
    (subst (λ z. IsUpTo a.greatest z) (sym u) (g r v.ranges v.facts))
    (subst (λ z. IsFrom b.least z) (sym w) (h r v.ranges v.facts))
    (subst (λ z. IsUpTo b.greatest z) (sym w) (i r v.ranges v.facts))
    q
    in
    record {
      closed = j.closed;
      below = subst (λ z. IsBelow z e) (sym j.next) d.below;
      grows = subst (λ z. k.next ≤ z) (sym j.next) d.grows;
      values = d.values;
      agrees = d.agrees;
      valued = j.valued;
      number = d.number;
    }
