-- Ranges in parts.
use Rattle.std.proofs.Common.{◌≡◌, ℕ, zero, suc, ◌+◌, List, [], ◌∷◌, ◌++◌, length, set, subst, arith, ◌*◌, ◌/◌, ◌%◌, ◌<◌, ◌⊎◌, inl, inr, ℤ, pos, ◌≤ℤ◌, get_or, Option, refl, sym, ap, ◌∙◌, length-append}
use Rattle.std.proofs.Math.Nat.{div-add-mod}
use Rattle.std.proofs.lemmas.List.{length-set, append-nil, append_assoc}
use Rattle.linear.specs.declared.bounds.Bounds.{Bounds}
use Rattle.linear.specs.Linear.{Valuation, IsFrom, IsUpTo, AreInRange, Linear, number_at, symbol, greater_of, lesser_of, IsFromEither, IsUpToEither}
use Rattle.linear.specs.Bounded.{numbered}
use Rattle.linear.specs.Ranged.{AreWithin, AreNarrowed, IsRangeBy, before, AreFull, IsRangeAt, IsRangeOf, ArePut, HoldInBoth, IsHull}
use Rattle.linear.proofs.LinearLaws.{symbol_at, greater_is, lesser_is}

-- ---- one range more, and another

pub in_range_append : (r : Valuation) (n : ℕ) (bs : List Bounds) (b : Bounds) → AreInRange r (numbered n bs) → IsFrom b.least (r (n + length bs)) → IsUpTo b.greatest (r (n + length bs))
    → AreInRange r (numbered n (bs ++ b ∷ []))
in_range_append r n [] b h f g = let e : n + 0 ≡ n = omega arith in (subst (λ m. IsFrom b.least (r m)) e f, subst (λ m. IsUpTo b.greatest (r m)) e g, tt)
in_range_append r n (c ∷ bs) b h f g =
    let e : n + suc (length bs) ≡ suc n + length bs = omega arith in
    (h.0, h.1, in_range_append r (suc n) bs b h.2 (subst (λ m. IsFrom b.least (r m)) e f) (subst (λ m. IsUpTo b.greatest (r m)) e g))

pub in_range_set : (r : Valuation) (n i : ℕ) (bs : List Bounds) (b : Bounds) → AreInRange r (numbered n bs) → IsFrom b.least (r (n + i)) → IsUpTo b.greatest (r (n + i))
    → AreInRange r (numbered n (set bs i b))
in_range_set r n i [] b h f g = tt
in_range_set r n zero (c ∷ bs) b h f g = let e : n + 0 ≡ n = omega arith in (subst (λ m. IsFrom b.least (r m)) e f, subst (λ m. IsUpTo b.greatest (r m)) e g, h.2)
in_range_set r n (suc i) (c ∷ bs) b h f g =
    let e : n + suc i ≡ suc n + i = omega arith in
    (h.0, h.1, in_range_set r (suc n) i bs b h.2 (subst (λ m. IsFrom b.least (r m)) e f) (subst (λ m. IsUpTo b.greatest (r m)) e g))

-- ---- one list behind another

in_first : (r : Valuation) (n : ℕ) (bs cs : List Bounds) → AreInRange r (numbered n (bs ++ cs)) → AreInRange r (numbered n bs)
in_first r n [] cs h = tt
in_first r n (b ∷ bs) cs h = (h.0, h.1, in_first r (suc n) bs cs h.2)

in_second : (r : Valuation) (n : ℕ) (bs cs : List Bounds) → AreInRange r (numbered n (bs ++ cs)) → AreInRange r (numbered (n + length bs) cs)
in_second r n [] cs h = let e : n ≡ n + 0 = omega arith in subst (λ m. AreInRange r (numbered m cs)) e h
in_second r n (b ∷ bs) cs h = let e : suc n + length bs ≡ n + suc (length bs) = omega arith in subst (λ m. AreInRange r (numbered m cs)) e (in_second r (suc n) bs cs h.2)

in_both : (r : Valuation) (n : ℕ) (bs cs : List Bounds) → AreInRange r (numbered n bs) → AreInRange r (numbered (n + length bs) cs) → AreInRange r (numbered n (bs ++ cs))
in_both r n [] cs h k = let e : n + 0 ≡ n = omega arith in subst (λ m. AreInRange r (numbered m cs)) e k
in_both r n (b ∷ bs) cs h k = let e : n + suc (length bs) ≡ suc n + length bs = omega arith in (h.0, h.1, in_both r (suc n) bs cs h.2 (subst (λ m. AreInRange r (numbered m cs)) e k))

-- ---- parts

in_part : (r : Valuation) (n : ℕ) (ps : List (List Bounds)) (bs : List Bounds) (i : ℕ) (d : List Bounds) → AreFull ps → i < length ps → AreInRange r (numbered n (before ps bs)) → AreInRange r (numbered (n + 64 * i) (get_or ps i d))
in_part r n [] bs i d f l h = absurd (omega arith)
in_part r n (p ∷ ps) bs zero d f l h = let e : n ≡ n + 64 * 0 = omega arith in subst (λ m. AreInRange r (numbered m p)) e (in_first r n p (before ps bs) h)
in_part r n (p ∷ ps) bs (suc i) d f l h =
    let e : (n + length p) + 64 * i ≡ n + 64 * suc i = omega (arith, f.0) in
    subst (λ m. AreInRange r (numbered m (get_or ps i d))) e (in_part r (n + length p) ps bs i d f.1 (omega arith) (in_second r n p (before ps bs) h))

in_newest : (r : Valuation) (n : ℕ) (ps : List (List Bounds)) (bs : List Bounds) → AreFull ps → AreInRange r (numbered n (before ps bs)) → AreInRange r (numbered (n + 64 * length ps) bs)
in_newest r n [] bs f h = let e : n ≡ n + 64 * 0 = omega arith in subst (λ m. AreInRange r (numbered m bs)) e h
in_newest r n (p ∷ ps) bs f h =
    let e : (n + length p) + 64 * length ps ≡ n + 64 * suc (length ps) = omega (arith, f.0) in
    subst (λ m. AreInRange r (numbered m bs)) e (in_newest r (n + length p) ps bs f.1 (in_second r n p (before ps bs) h))

length_before : (ps : List (List Bounds)) (bs : List Bounds) → AreFull ps → length (before ps bs) ≡ 64 * length ps + length bs
length_before [] bs f = omega arith
length_before (p ∷ ps) bs f = omega (arith, length-append p (before ps bs), length_before ps bs f.1, f.0)

pub full_at : (ps : List (List Bounds)) (i : ℕ) (d : List Bounds) → AreFull ps → i < length ps → length (get_or ps i d) ≡ 64
full_at [] i d f l = absurd (omega arith)
full_at (p ∷ ps) zero d f l = f.0
full_at (p ∷ ps) (suc i) d f l = full_at ps i d f.1 (omega arith)

pub full_set : (ps : List (List Bounds)) (i : ℕ) (p : List Bounds) → AreFull ps → length p ≡ 64 → AreFull (set ps i p)
full_set [] i p f l = tt
full_set (q ∷ ps) zero p f l = (l, f.1)
full_set (q ∷ ps) (suc i) p f l = (f.0, full_set ps i p f.1 l)

pub length_set_before : (ps : List (List Bounds)) (bs : List Bounds) (i : ℕ) (p : List Bounds) → AreFull ps → length p ≡ 64 → length (before (set ps i p) bs) ≡ length (before ps bs)
length_set_before ps bs i p f l = omega (arith, length_before ps bs f, length_before (set ps i p) bs (full_set ps i p f l), length-set ps i p)

pub length_newest : (ps : List (List Bounds)) (bs cs : List Bounds) → AreFull ps → length cs ≡ length bs → length (before ps cs) ≡ length (before ps bs)
length_newest ps bs cs f l = omega (arith, length_before ps bs f, length_before ps cs f, l)

in_set : (r : Valuation) (n : ℕ) (ps : List (List Bounds)) (bs : List Bounds) (i : ℕ) (p : List Bounds) → AreFull ps → length p ≡ 64 → AreInRange r (numbered n (before ps bs)) → AreInRange r (numbered (n + 64 * i) p)
    → AreInRange r (numbered n (before (set ps i p) bs))
in_set r n [] bs i p f l h k = h
in_set r n (q ∷ ps) bs zero p f l h k =
    let e : n + 64 * 0 ≡ n = omega arith in
    let g : n + length q ≡ n + length p = omega (arith, f.0, l) in
    in_both r n p (before ps bs) (subst (λ m. AreInRange r (numbered m p)) e k) (subst (λ m. AreInRange r (numbered m (before ps bs))) g (in_second r n q (before ps bs) h))
in_set r n (q ∷ ps) bs (suc i) p f l h k =
    let e : n + 64 * suc i ≡ (n + length q) + 64 * i = omega (arith, f.0) in
    in_both r n q (before (set ps i p) bs) (in_first r n q (before ps bs) h)
    (in_set r (n + length q) ps bs i p f.1 l (in_second r n q (before ps bs) h) (subst (λ m. AreInRange r (numbered m p)) e k))

in_other : (r : Valuation) (n : ℕ) (ps : List (List Bounds)) (bs cs : List Bounds) → AreFull ps → AreInRange r (numbered n (before ps bs)) → AreInRange r (numbered (n + 64 * length ps) cs) → AreInRange r (numbered n (before ps cs))
in_other r n [] bs cs f h k = let e : n + 64 * 0 ≡ n = omega arith in subst (λ m. AreInRange r (numbered m cs)) e k
in_other r n (p ∷ ps) bs cs f h k =
    let e : n + 64 * suc (length ps) ≡ (n + length p) + 64 * length ps = omega (arith, f.0) in
    in_both r n p (before ps cs) (in_first r n p (before ps bs) h)
    (in_other r (n + length p) ps bs cs f.1 (in_second r n p (before ps bs) h) (subst (λ m. AreInRange r (numbered m cs)) e k))

full_more : (ps : List (List Bounds)) (p : List Bounds) → AreFull ps → length p ≡ 64 → AreFull (ps ++ p ∷ [])
full_more [] p f l = (l, tt)
full_more (q ∷ ps) p f l = (f.0, full_more ps p f.1 l)

before_more : (ps : List (List Bounds)) (p : List Bounds) → before (ps ++ p ∷ []) [] ≡ before ps p
before_more [] p = append-nil p
before_more (q ∷ ps) p = ap (λ x. q ++ x) (before_more ps p)

before_one : (ps : List (List Bounds)) (bs : List Bounds) (b : Bounds) → before ps (bs ++ b ∷ []) ≡ before ps bs ++ b ∷ []
before_one [] bs b = refl
before_one (p ∷ ps) bs b = ap (λ x. p ++ x) (before_one ps bs b) ∙ sym (append_assoc p (before ps bs) (b ∷ []))

pub closed_full : (ps qs : List (List Bounds)) (p bs : List Bounds) → AreFull ps → length bs ≡ 64 → p ≡ bs → qs ≡ ps ++ p ∷ [] → AreFull qs
closed_full ps qs p bs f l e q = subst AreFull (sym q) (full_more ps p f (ap length e ∙ l))

pub closed_same : (ps qs : List (List Bounds)) (p bs cs : List Bounds) → p ≡ bs → qs ≡ ps ++ p ∷ [] → cs ≡ [] → before qs cs ≡ before ps bs
closed_same ps qs p bs cs e q z = ap (λ x. before qs x) z ∙ ap (λ x. before x []) q ∙ before_more ps p ∙ ap (λ x. before ps x) e

pub put_behind : (ps : List (List Bounds)) (bs cs all : List Bounds) (b : Bounds) → cs ≡ bs ++ b ∷ [] → before ps bs ≡ all → before ps cs ≡ all ++ b ∷ []
put_behind ps bs cs all b e q = ap (λ x. before ps x) e ∙ before_one ps bs b ∙ ap (λ x. x ++ b ∷ []) q

-- ---- a symbol's range

pub of_part : (ps : List (List Bounds)) (bs p d : List Bounds) (i at : ℕ) (b : Bounds) → AreFull ps → i < length ps → p ≡ get_or ps i d → IsRangeAt p at b → IsRangeOf (before ps bs) (64 * i + at) b
of_part ps bs p d i at b f l e h r g =
    h (64 * i) r (subst (λ x. AreInRange r (numbered (64 * i) x)) (sym e) (subst (λ m. AreInRange r (numbered m (get_or ps i d))) z (in_part r 0 ps bs i d f l g)))
  where
    z : 0 + 64 * i ≡ 64 * i
    z = omega arith

pub of_newest : (ps : List (List Bounds)) (bs : List Bounds) (i at : ℕ) (b : Bounds) → AreFull ps → i ≡ length ps → IsRangeAt bs at b → IsRangeOf (before ps bs) (64 * i + at) b
of_newest ps bs i at b f e h r g = h (64 * i) r (subst (λ m. AreInRange r (numbered m bs)) z (in_newest r 0 ps bs f g))
  where
    z : 0 + 64 * length ps ≡ 64 * i
    z = omega (arith, e)

place_of : (x : ℕ) → 64 * (x / 64) + x % 64 ≡ x
place_of x = div-add-mod x 64

pub of_symbol : (bs : List Bounds) (x : ℕ) (b : Bounds) → IsRangeOf bs (64 * (x / 64) + x % 64) b → IsRangeOf bs x b
of_symbol bs x b h = subst (λ m. IsRangeOf bs m b) (place_of x) h

-- ---- another range

pub put_set : (bs : List Bounds) (i : ℕ) (b : Bounds) → ArePut bs (set bs i b) i b
put_set bs i b = record { same = length-set bs i b; ranges = λ n r h f g. in_range_set r n i bs b h f g }

pub put_long : (ps : List (List Bounds)) (p c d : List Bounds) (i at : ℕ) (b : Bounds) → AreFull ps → i < length ps → p ≡ get_or ps i d → ArePut p c at b → length c ≡ 64
put_long ps p c d i at b f l e h = h.same ∙ ap length e ∙ full_at ps i d f l

pub within_part : (ps : List (List Bounds)) (bs p c d : List Bounds) (i at : ℕ) (b : Bounds) → AreFull ps → i < length ps → p ≡ get_or ps i d → ArePut p c at b
    → AreWithin (before ps bs) (before (set ps i c) bs) (64 * i + at) b.least b.greatest
within_part ps bs p c d i at b f l e h = record {
  same = length_set_before ps bs i c f long;
  ranges = λ r g x y.
      let k = subst (λ x. AreInRange r (numbered (64 * i) x)) (sym e) (subst (λ m. AreInRange r (numbered m (get_or ps i d))) z (in_part r 0 ps bs i d f l g)) in
      in_set r 0 ps bs i c f long g (subst (λ m. AreInRange r (numbered m c)) (sym z) (h.ranges (64 * i) r k x y));
}
  where
    z : 0 + 64 * i ≡ 64 * i
    z = omega arith

    long : length c ≡ 64
    long = put_long ps p c d i at b f l e h

pub within_newest : (ps : List (List Bounds)) (bs cs : List Bounds) (i at : ℕ) (b : Bounds) → AreFull ps → i ≡ length ps → ArePut bs cs at b → AreWithin (before ps bs) (before ps cs) (64 * i + at) b.least b.greatest
within_newest ps bs cs i at b f e h = record {
  same = length_newest ps bs cs f h.same;
  ranges = λ r g x y.
      let k = subst (λ m. AreInRange r (numbered m bs)) z (in_newest r 0 ps bs f g) in
      in_other r 0 ps bs cs f g (subst (λ m. AreInRange r (numbered m cs)) (sym z) (h.ranges (64 * i) r k x y));
}
  where
    z : 0 + 64 * length ps ≡ 64 * i
    z = omega (arith, e)

pub narrowed_by : (bs cs : List Bounds) (l : Linear) (x : ℕ) (b : Bounds) → IsRangeBy bs l x b → AreWithin bs cs x b.least b.greatest → AreNarrowed bs cs l
narrowed_by bs cs l x b h k = record { same = k.same; ranges = λ r g n. let i = h r g n in k.ranges r g i.0 i.1 }

pub within_by : (bs cs : List Bounds) (x : ℕ) (b : Bounds) (old low most high : Option ℤ) → ((r : Valuation) → AreInRange r (numbered 0 bs) → IsFrom old (r x)) → ((r : Valuation) → AreInRange r (numbered 0 bs) → IsUpTo most (r x))
    → b.least ≡ greater_of old low → b.greatest ≡ lesser_of most high → AreWithin bs cs x b.least b.greatest → AreWithin bs cs x low high
within_by bs cs x b old low most high f g d e k = record {
  same = k.same;
  ranges = λ r h i j.
      k.ranges r h (subst (λ o. IsFrom o (r x)) (sym d) (greater_is old low (r x) (f r h) i)) (subst (λ o. IsUpTo o (r x)) (sym e) (lesser_is most high (r x) (g r h) j));
}

-- ---- what holds in both

pub both_on : (n : ℕ) (bs cs out new : List Bounds) (i : ℕ) (l m : Bounds) (b : Bounds) → length out ≡ i → HoldInBoth n bs cs out → new ≡ out ++ b ∷ [] → IsRangeOf bs (n + i) l → IsRangeOf cs (n + i) m
    → IsFromEither l.least m.least b.least → IsUpToEither l.greatest m.greatest b.greatest
    → (length new ≡ i + 1) × HoldInBoth n bs cs new
both_on n bs cs out new i l m b e h p x y f g = (
  ap length p ∙ length-append out (b ∷ []) ∙ ap (λ k. k + 1) e,
  subst (HoldInBoth n bs cs) (sym p) (λ q r a j.
      let k : n + length out < n + length (out ++ b ∷ []) = omega (arith, length-append out (b ∷ [])) in
      let s : n + i ≡ n + length out = ap (λ z. n + z) (sym e) in
      let t = a (n + length out) k in
      in_range_append r n out b (h q r (λ z c. a z (omega (arith, length-append out (b ∷ [])))) j)
      (subst (λ z. IsFrom b.least z) t (subst (λ z. IsFrom b.least (q z)) s (f (q (n + i)) (least_in q j))))
      (subst (λ z. IsUpTo b.greatest z) t (subst (λ z. IsUpTo b.greatest (q z)) s (g (q (n + i)) (greatest_in q j))))),
)
  where
    least_in : (q : Valuation) → AreInRange q (numbered 0 bs) ⊎ AreInRange q (numbered 0 cs) → IsFrom l.least (q (n + i)) ⊎ IsFrom m.least (q (n + i))
    least_in q (inl j) = inl (x q j).0
    least_in q (inr j) = inr (y q j).0

    greatest_in : (q : Valuation) → AreInRange q (numbered 0 bs) ⊎ AreInRange q (numbered 0 cs) → IsUpTo l.greatest (q (n + i)) ⊎ IsUpTo m.greatest (q (n + i))
    greatest_in q (inl j) = inl (x q j).1
    greatest_in q (inr j) = inr (y q j).1

pub hull_part : (bs cs : List Bounds) (ps : List (List Bounds)) (newest p : List Bounds) (i : ℕ) → AreFull ps → i < length ps → length p ≡ 64 → HoldInBoth (64 * i) bs cs p
    → IsHull bs cs (before ps newest) (before (set ps i p) newest)
hull_part bs cs ps newest p i f l e h = record {
  same = length_set_before ps newest i p f e;
  ranges = λ q r a g j.
      in_set r 0 ps newest i p f e g (subst (λ m. AreInRange r (numbered m p)) (sym z) (h q r (λ x k. a x (omega (arith, k, e, l, length_before ps newest f))) j));
}
  where
    z : 0 + 64 * i ≡ 64 * i
    z = omega arith

pub hull_newest : (bs cs : List Bounds) (ps : List (List Bounds)) (newest p : List Bounds) (i : ℕ) → AreFull ps → i ≡ length ps → length p ≡ length newest → HoldInBoth (64 * i) bs cs p
    → IsHull bs cs (before ps newest) (before ps p)
hull_newest bs cs ps newest p i f l e h = record {
  same = length_newest ps newest p f e;
  ranges = λ q r a g j.
      in_other r 0 ps newest p f g (subst (λ m. AreInRange r (numbered m p)) (sym z) (h q r (λ x k. a x (omega (arith, k, e, l, length_before ps newest f))) j));
}
  where
    z : 0 + 64 * length ps ≡ 64 * i
    z = omega (arith, l)

-- ---- the range of a symbol where an expression is at least 0

pub risen : (bs : List Bounds) (l e : Linear) (x : ℕ) (least low most : Option ℤ) (b : Bounds) → e ≡ symbol x → ((r : Valuation) → AreInRange r (numbered 0 bs) → IsFrom least (r x))
    → ((r : Valuation) → AreInRange r (numbered 0 bs) → IsUpTo most (r x)) → ((r : Valuation) → AreInRange r (numbered 0 bs) → pos 0 ≤ℤ number_at r l → IsFrom low (number_at r e)) → b.least ≡ greater_of least low → b.greatest ≡ most
    → IsRangeBy bs l x b
risen bs l e x least low most b i f g h d m r a n =
    let k : number_at r e ≡ r x = ap (number_at r) i ∙ symbol_at r x in
    (subst (λ o. IsFrom o (r x)) (sym d) (greater_is least low (r x) (f r a) (subst (λ z. IsFrom low z) k (h r a n))), subst (λ o. IsUpTo o (r x)) (sym m) (g r a))
