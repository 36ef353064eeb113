-- Symbols that are taken out of an expression one after another.
use Rattle.std.proofs.Common.{◌≡◌, ℕ, ◌+◌, ◌-◌, ◌<◌, ◌≤◌, ℤ, pos, ◌+ℤ◌, ◌*ℤ◌, ◌≤ℤ◌, ◌<ℤ◌, List, [], ◌∷◌, length, take, drop, set, get_or, Option, Some, None, sym, ap, ◌∙◌, subst, arith}
use Rattle.std.proofs.lemmas.Int.{ints}
use Rattle.std.proofs.Math.Seq.{take-length}
use Rattle.std.proofs.lemmas.List.{take_more_set, length-take-le}
use Rattle.std.specs.Option.{IfSome}
use Rattle.linear.specs.Linear.{Linear, Valuation, sum_at, number_at, Range, IsFrom, AreInRange, greater_of}
use Rattle.linear.specs.Bounded.{IsLeast, IsFromAll}
use Rattle.linear.specs.WalkSupport.{IsStep, IsNext}
use Rattle.linear.specs.ChainSupport.{IsPutIn, IsFilled, IsTakenOut, RoundsUp}
use Rattle.linear.proofs.LinearLaws.{spread_right, greater_is, natural_at}
use Rattle.linear.proofs.WalkLemmas.{IsWalk, walk_on, walked, put_is}
use Rattle.linear.proofs.QueryLemmas.{combined_split, natural_times}

-- ---- terms that are put into a list

pub put_in_more : (old : List (ℕ × ℤ)) (count symbol : ℕ) (coefficient : ℤ) → count < length old → length old ≤ 32 → length (set old count (symbol, coefficient)) ≡ length old
    → IsPutIn old (set old count (symbol, coefficient)) count symbol coefficient (count + 1)
put_in_more old count symbol coefficient l f e =
    let n : length (take count old) < 32 = omega (arith, length-take-le count old (omega arith)) in
    record { within = omega arith; put = put_is (take count old) (take (count + 1) (set old count (symbol, coefficient))) symbol coefficient n (take_more_set old count (symbol, coefficient) l) }

-- what is put, and what is left, are the whole
pub record IsWalkIn (p : ℤ) (ts : List (ℕ × ℤ)) (i : ℕ) (q : ℤ) (us : List (ℕ × ℤ)) (j : ℕ) (out : List (ℕ × ℤ)) (count : ℕ) : Type 0 where
  pub few : length out ≤ 32
  pub within : count ≤ length out
  pub walk : IsWalk p ts i q us j (take count out)

pub walk_in_on : (p : ℤ) (ts : List (ℕ × ℤ)) (i : ℕ) (q : ℤ) (us : List (ℕ × ℤ)) (j : ℕ) (old new : List (ℕ × ℤ)) (count more symbol : ℕ) (found : ℤ × ℕ × ℕ)
    → IsWalkIn p ts i q us j old count → IsNext ts i us j symbol → IsStep p ts i q us j symbol found → length new ≤ 32 → IsPutIn old new count symbol found.0 more → IsWalkIn p ts found.1 q us found.2 new more
walk_in_on p ts i q us j old new count more symbol found w x s f o = record {
  few = f;
  within = o.within;
  walk = walk_on p ts i q us j (take count old) (take more new) symbol found w.walk x s o.put;
}

pub filled : (p : ℤ) (ts : List (ℕ × ℤ)) (i : ℕ) (q : ℤ) (us : List (ℕ × ℤ)) (j : ℕ) (out : List (ℕ × ℤ)) (count : ℕ) → IsWalkIn p ts i q us j out count → length ts ≤ i → length us ≤ j
    → IsFilled p ts q us out count
filled p ts i q us j out count w h k = let d = walked p ts i q us j (take count out) w.walk h k in record { within = w.within; sum = d.sum }

-- ---- bounds

pub from_alone : (es : List Range) (fs : List Linear) (f : Valuation → ℤ) (o : Option ℤ) → IfSome o (IsLeast es f) → IsFromAll es fs f o
from_alone es fs f None h r a n = tt
from_alone es fs f (Some b) h r a n = h r a

alone_sum : (c t s n : ℤ) → n ≡ c +ℤ t → t ≤ℤ ((pos 1 *ℤ s) +ℤ (pos 0 *ℤ s)) → n ≤ℤ (c +ℤ s)
alone_sum c t s n e h = omega (arith, ints)

pub terms_alone : (es : List Range) (c : ℤ) (ts : List (ℕ × ℤ)) (t n : ℤ) → IsLeast es (λ r. (pos 1 *ℤ sum_at r ts) +ℤ (pos 0 *ℤ sum_at r ts)) t → n ≡ c +ℤ t → IsLeast es (λ r. c +ℤ sum_at r ts) n
terms_alone es c ts t n h e r a = alone_sum c t (sum_at r ts) n e (h r a)

-- all terms behind the first
pub behind_first : (ts : List (ℕ × ℤ)) → take (length ts - 1) (drop 1 ts) ≡ drop 1 ts
behind_first [] = take-length []
behind_first (t ∷ ts) = let e : length (t ∷ ts) - 1 ≡ length ts = omega arith in ap (λ n. take n ts) e ∙ take-length ts

-- ---- taking out

less_by : (m x j f n : ℤ) → n ≡ (m *ℤ x) +ℤ (j *ℤ f) → (j *ℤ f) ≤ℤ pos 0 → n ≤ℤ (m *ℤ x)
less_by m x j f n e h = omega (arith, ints)

pub taken_out_by : (c : ℤ) (ts : List (ℕ × ℤ)) (fact : Linear) (out : List (ℕ × ℤ)) (m j base : ℤ) (count : ℕ) → pos 0 <ℤ m → j ≤ℤ pos 0 → base ≡ (m *ℤ c) +ℤ (j *ℤ fact.constant)
    → IsFilled m ts j fact.terms out count → IsTakenOut c ts fact out (base, count, m)
taken_out_by c ts fact out m j base count p h e f = record {
  within = f.within;
  positive = p;
  below = λ r n.
      less_by m (c +ℤ sum_at r ts) j (number_at r fact) (base +ℤ sum_at r (take count out))
      (ap (λ z. z +ℤ sum_at r (take count out)) e ∙ ap (λ z. ((m *ℤ c) +ℤ (j *ℤ fact.constant)) +ℤ z) (f.sum r) ∙ sym (combined_split m c (sum_at r ts) j fact.constant (sum_at r fact.terms)))
      (natural_times j (number_at r fact) h n);
}

-- ---- steps

from_more : (o : Option ℤ) (a b : ℤ) → a ≤ℤ b → IsFrom o a → IsFrom o b
from_more None a b h k = tt
from_more (Some n) a b h k = omega (arith, ints)

pub better_alone : (es : List Range) (fs : List Linear) (f : Valuation → ℤ) (a b o : Option ℤ) → IfSome a (IsLeast es f) → IsFromAll es fs f b → o ≡ greater_of a b → IsFromAll es fs f o
better_alone es fs f a b o h k e r i n = subst (λ x. IsFrom x (f r)) (sym e) (greater_is a b (f r) (from_alone es fs f a h r i n) (k r i n))

pub step_by_fact : (es : List Range) (fs : List Linear) (c : ℤ) (ts : List (ℕ × ℤ)) (at : ℕ) (fact : Linear) (out rest : List (ℕ × ℤ)) (base : ℤ) (count : ℕ) (m : ℤ) (o z : Option ℤ) → at < length fs → fact ≡ get_or fs at fact
    → IsTakenOut c ts fact out (base, count, m) → rest ≡ take count out → IsFromAll es fs (λ r. base +ℤ sum_at r rest) o → RoundsUp m o z → IsFromAll es fs (λ r. c +ℤ sum_at r ts) z
step_by_fact es fs c ts at fact out rest base count m o z l is t e h k r a n =
    k (c +ℤ sum_at r ts)
    (from_more o (base +ℤ sum_at r (take count out)) (m *ℤ (c +ℤ sum_at r ts))
    (t.below r (subst (λ (x : Linear). pos 0 ≤ℤ number_at r x) (sym is) (natural_at r fs at fact l n)))
    (subst (λ xs. IsFrom o (base +ℤ sum_at r xs)) e (h r a n)))

pub step_by_range : (es : List Range) (fs : List Linear) (c : ℤ) (ts rest : List (ℕ × ℤ)) (base : ℤ) (o : Option ℤ) → ((r : Valuation) → AreInRange r es → (base +ℤ sum_at r (drop 1 ts)) ≤ℤ (c +ℤ sum_at r ts))
    → rest ≡ drop 1 ts → IsFromAll es fs (λ r. base +ℤ sum_at r rest) o → IsFromAll es fs (λ r. c +ℤ sum_at r ts) o
step_by_range es fs c ts rest base o h e k r a n = from_more o (base +ℤ sum_at r (drop 1 ts)) (c +ℤ sum_at r ts) (h r a) (subst (λ xs. IsFrom o (base +ℤ sum_at r xs)) e (k r a n))

begun_sum : (p c s base t : ℤ) → base ≡ p *ℤ c → t ≡ (p *ℤ s) +ℤ (pos 0 *ℤ s) → base +ℤ t ≡ (p *ℤ c) +ℤ (p *ℤ s)
begun_sum p c s base t h k = omega (arith, ints)

pub begun : (es : List Range) (fs : List Linear) (p : ℤ) (l : Linear) (out rest : List (ℕ × ℤ)) (base : ℤ) (count : ℕ) (o : Option ℤ) → base ≡ p *ℤ l.constant → IsFilled p l.terms (pos 0) l.terms out count → rest ≡ take count out
    → IsFromAll es fs (λ r. base +ℤ sum_at r rest) o → IsFromAll es fs (λ r. p *ℤ number_at r l) o
begun es fs p l out rest base count o e f i h r a n =
    subst (λ x. IsFrom o x) (begun_sum p l.constant (sum_at r l.terms) base (sum_at r (take count out)) e (f.sum r) ∙ sym (spread_right p l.constant (sum_at r l.terms)))
    (subst (λ xs. IsFrom o (base +ℤ sum_at r xs)) i (h r a n))
