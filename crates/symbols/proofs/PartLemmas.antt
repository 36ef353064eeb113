-- Products of sums.
use Rattle.std.proofs.Common.{◌≡◌, ℕ, ◌<◌, ◌≤◌, ℤ, pos, neg_ℤ, ◌+ℤ◌, ◌-ℤ◌, ◌*ℤ◌, ◌≤ℤ◌, false, Option, Some, None, sym, ap, ◌∙◌, subst, arith}
use Rattle.std.proofs.lemmas.Int.{ints}
use Rattle.std.specs.Option.{IfSome}
use Rattle.linear.specs.declared.bounds.Bounds.{Bounds}
use Rattle.linear.specs.Linear.{Linear, Valuation, number, symbol, number_at, IsBelow, IsFrom, IsUpTo}
use Rattle.linear.specs.Combined.{StandsFor, AreBelow}
use Rattle.linear.specs.ResultRanges.{IsProductRange}
use Rattle.symbols.specs.Symbols.{Symbols, Gives}
use Rattle.symbols.specs.Held.{GivesAny, Cancels}
use Rattle.symbols.specs.Results.{GivesResult, GivesMultiple}
use Rattle.symbols.specs.Products.{LearnsFromMultiple, LearnsUpToMultiple, LearnsProduct}
use Rattle.symbols.specs.Parts.{IsParted, IsMultiple, GivesSum}
use Rattle.linear.proofs.LinearLaws.{spread_left, times_assoc, flipped, product_neg, same_number}
use Rattle.symbols.proofs.KnownLaws.{knows_then, gives_here, gives_then, terms_more}

-- ---- the range of a product

from_least : (o : Option ℤ) (x : ℤ) → IsFrom o x → IfSome o (λ c. (c *ℤ (pos 1 +ℤ pos 0)) ≤ℤ x)
from_least None x h = tt
from_least (Some c) x h = omega (arith, ints)

up_to_greatest : (o : Option ℤ) (x : ℤ) → IsUpTo o x → IfSome o (λ c. x ≤ℤ (c *ℤ (pos 1 +ℤ pos 0)))
up_to_greatest None x h = tt
up_to_greatest (Some c) x h = omega (arith, ints)

pub range_learned : (a b : Bounds) (k m p : Symbols) (l n e one : Linear) (low high least greatest : Option ℤ) → one ≡ number (pos 1) → IsProductRange a.least a.greatest b.least b.greatest low high
    → ((z : ℤ) → IsFrom low z → IsFrom least z) → ((z : ℤ) → IsUpTo high z → IsUpTo greatest z) → LearnsFromMultiple k m e one least → LearnsUpToMultiple m p e one greatest → LearnsProduct a b k p l n e
range_learned a b k m p l n e one low high least greatest is range below above first second r cl v x y z f g h i q =
    let product = number_at r l *ℤ number_at r n in
    let u = below product (range.low (number_at r l) (number_at r n) f g h i) in
    let w = above product (range.high (number_at r l) (number_at r n) f g h i) in
    let j = first r cl v z (subst (λ (o : Linear). IsBelow k.next o) (sym is) tt)
    (subst (λ (o : Linear). IfSome least (λ c. (c *ℤ number_at r o) ≤ℤ number_at r e)) (sym is) (from_least least (number_at r e) (subst (λ t. IsFrom least t) (sym q) u)))
    in
    knows_then k r m p j
    (second r j.closed j.valued (subst (λ t. IsBelow t e) (sym j.next) z) (subst (λ (o : Linear). IsBelow m.next o) (sym is) tt)
    (subst (λ (o : Linear). IfSome greatest (λ c. number_at r e ≤ℤ (c *ℤ number_at r o))) (sym is) (up_to_greatest greatest (number_at r e) (subst (λ t. IsUpTo greatest t) (sym q) w))))

-- ---- parts

pub number_below : (count : ℕ) (e : Linear) (c : ℤ) → e ≡ number c → IsBelow count e
number_below count e c is = subst (λ (o : Linear). IsBelow count o) (sym is) tt

pub times_below : (count : ℕ) (s : Linear) (x : ℕ) (value : Valuation → ℤ) (o : Option Linear) → s ≡ symbol x → x < count → IfSome o (StandsFor value (λ n. IsBelow n s)) → IfSome o (λ e. IsBelow count e)
times_below count s x value None is h g = tt
times_below count s x value (Some e) is h g = g.below count (subst (λ (o : Linear). IsBelow count o) (sym is) (h, tt))

rest_back : (a b c : ℤ) → c ≡ a -ℤ b → a ≡ b +ℤ c
rest_back a b c h = omega (arith, ints)

pub parted_by : (count : ℕ) (l head tail : Linear) → IsBelow count head → StandsFor (λ r. number_at r l -ℤ number_at r head) (AreBelow l head) tail → IsParted count l head tail
parted_by count l head tail h s = record {
  first = h;
  rest = λ x. s.below count (x, h);
  number = λ r. rest_back (number_at r l) (number_at r head) (number_at r tail) (s.number r);
}

times_back : (a x : ℤ) → a +ℤ neg_ℤ x ≡ pos 0 → a ≡ x
times_back a x h = omega (arith, ints)

pub multiple_by : (count : ℕ) (l s : Linear) (x : ℕ) (c d : ℤ) → x < count → s ≡ symbol x → d ≡ neg_ℤ c → Cancels l d s → IsMultiple count l s c
multiple_by count l s x c d h is opposite zero = record {
  below = subst (λ (o : Linear). IsBelow count o) (sym is) (h, tt);
  number = λ r.
      times_back (number_at r l) (c *ℤ number_at r s)
      (subst (λ z. number_at r l +ℤ z ≡ pos 0) (ap (λ z. z *ℤ number_at r s) opposite ∙ product_neg c (number_at r s)) (zero r));
}

-- ---- sums

pub sum_exact : (k : Symbols) (a b e : Linear) → StandsFor (λ r. number_at r a +ℤ number_at r b) (AreBelow a b) e → GivesSum k k a b e
sum_exact k a b e s r c v x y = gives_here k r e (number_at r a +ℤ number_at r b) c v (s.below k.next (x, y)) (sym (s.number r))

pub sum_unknown : (k m : Symbols) (a b e : Linear) → GivesAny k m e None None → GivesSum k m a b e
sum_unknown k m a b e h r c v x y = h r (number_at r a +ℤ number_at r b) c v tt tt

pub sum_of_parts : (k m p q : Symbols) (l n h t a b e : Linear) → IsParted k.next l h t → GivesResult false k m h n a → GivesResult false m p t n b → GivesSum p q a b e → GivesResult false k q l n e
sum_of_parts k m p q l n h t a b e parted first second third r c v x y =
    let g = first r c v parted.first y in
    let s = g.values in
    let tail = parted.rest x in
    let u = second s g.closed g.valued (terms_more k.next m.next g.grows t.terms tail) (terms_more k.next m.next g.grows n.terms y) in
    let z = u.values in
    let w = third z u.closed u.valued (terms_more m.next p.next u.grows a.terms g.below) u.below in
    let left : number_at z a ≡ number_at r h *ℤ number_at r n = same_number m.next z s u.agrees a g.below ∙ sym g.number in
    let right : number_at z b ≡ number_at r t *ℤ number_at r n =
    sym u.number ∙ ap (λ i. i *ℤ number_at s n) (same_number k.next s r g.agrees t tail) ∙ ap (λ i. number_at r t *ℤ i) (same_number k.next s r g.agrees n y) in
    let all : number_at z a +ℤ number_at z b ≡ number_at r l *ℤ number_at r n =
    ap (λ i. i +ℤ number_at z b) left ∙ ap (λ i. (number_at r h *ℤ number_at r n) +ℤ i) right ∙ sym (spread_left (number_at r h) (number_at r t) (number_at r n))
    ∙ ap (λ i. i *ℤ number_at r n) (sym (parted.number r)) in
    subst (λ i. Gives k r (q, e) i) all
    (gives_then k r (m, a) (q, e) (number_at r h *ℤ number_at r n) (number_at z a +ℤ number_at z b) g
    (gives_then m s (p, b) (q, e) (number_at s t *ℤ number_at s n) (number_at z a +ℤ number_at z b) u w))

-- ---- products of symbols

pub other_way : (k m : Symbols) (l n e : Linear) → GivesResult false k m n l e → GivesResult false k m l n e
other_way k m l n e h r c v x y = subst (λ z. Gives k r (m, e) z) (flipped (number_at r n) (number_at r l)) (h r c v y x)

four_factors : (c d x y : ℤ) → (c *ℤ d) *ℤ (x *ℤ y) ≡ (c *ℤ x) *ℤ (d *ℤ y)
four_factors c d x y =
    times_assoc c d (x *ℤ y)
    ∙ ap (λ z. c *ℤ z) (sym (times_assoc d x y) ∙ ap (λ z. z *ℤ y) (flipped d x) ∙ times_assoc x d y)
    ∙ sym (times_assoc c x (d *ℤ y))

pub multiple_of_both : (k m p : Symbols) (l n x y b e : Linear) (c d f : ℤ) → IsMultiple k.next l x c → IsMultiple k.next n y d → f ≡ c *ℤ d → GivesResult false k m x y b → GivesMultiple f m p b e
    → GivesResult false k p l n e
multiple_of_both k m p l n x y b e c d f one other is first second r cl v lb nb =
    let g = first r cl v one.below other.below in
    let w = second g.values g.closed g.valued g.below in
    let i = number_at r x in
    let j = number_at r y in
    let all : f *ℤ number_at g.values b ≡ number_at r l *ℤ number_at r n =
    ap (λ z. f *ℤ z) (sym g.number) ∙ ap (λ z. z *ℤ (i *ℤ j)) is ∙ four_factors c d i j ∙ ap (λ z. z *ℤ (d *ℤ j)) (sym (one.number r)) ∙ ap (λ z. number_at r l *ℤ z) (sym (other.number r)) in
    subst (λ z. Gives k r (p, e) z) all (gives_then k r (m, b) (p, e) (i *ℤ j) (f *ℤ number_at g.values b) g w)
