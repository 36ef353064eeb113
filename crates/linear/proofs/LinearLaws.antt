-- Whole numbers, the number of a linear expression, the sharper of two bounds, and lists of facts.
use Rattle.std.proofs.Common.{◌≡◌, ℕ, suc, ◌*◌, ℤ, pos, negsuc, ◌+ℤ◌, ◌*ℤ◌, ◌≤ℤ◌, ◌<ℤ◌, neg_ℤ, int_lt, Bool, true, false, cond, List, [], ◌∷◌, refl, sym, ap, ◌∙◌, subst, arith, Option, Some, None, Result, Ok, Err, IfOk, zero, drop, ◌++◌, take, ◌<◌, ◌≤◌, length, get_or}
use Rattle.std.proofs.lemmas.Int.{ints}
use Rattle.std.proofs.Math.Nat.{mul-le-mul_left}
use Rattle.std.specs.Option.{IfSome}
use borrow.Author.Differences.{up, down, sum_is_lem, product_is, neg_is, le_out}
use Rattle.linear.specs.Linear.{Agree, Linear, Valuation, sum_at, number_at, TermsBelow, IsBelow, symbol, IsFrom, IsUpTo, greater_of, lesser_of, AreNatural}

-- ---- whole numbers

pub spread_left : (a b c : ℤ) → (a +ℤ b) *ℤ c ≡ (a *ℤ c) +ℤ (b *ℤ c)
spread_left a b c = omega (arith, ints, ap (λ (z : ℕ). z * up c) (sum_is_lem a b), ap (λ (z : ℕ). z * down c) (sum_is_lem a b))

pub spread_right : (n a b : ℤ) → n *ℤ (a +ℤ b) ≡ (n *ℤ a) +ℤ (n *ℤ b)
spread_right n a b = omega (arith, ints, ap (λ (z : ℕ). up n * z) (sum_is_lem a b), ap (λ (z : ℕ). down n * z) (sum_is_lem a b))

pub times_assoc : (n c x : ℤ) → (n *ℤ c) *ℤ x ≡ n *ℤ (c *ℤ x)
times_assoc n c x =
    omega (
      arith,
      ints,
      ap (λ (z : ℕ). z * up x) (product_is n c).0,
      ap (λ (z : ℕ). z * down x) (product_is n c).0,
      ap (λ (z : ℕ). z * up x) (product_is n c).1,
      ap (λ (z : ℕ). z * down x) (product_is n c).1,
      ap (λ (z : ℕ). up n * z) (product_is c x).0,
      ap (λ (z : ℕ). down n * z) (product_is c x).0,
      ap (λ (z : ℕ). up n * z) (product_is c x).1,
      ap (λ (z : ℕ). down n * z) (product_is c x).1,
    )

pub joined : (a b c : ℤ) → (a +ℤ b) +ℤ c ≡ a +ℤ (b +ℤ c)
joined a b c = omega (arith, ints)

pub paired : (a b c d : ℤ) → (a +ℤ b) +ℤ (c +ℤ d) ≡ (a +ℤ c) +ℤ (b +ℤ d)
paired a b c d = omega (arith, ints)

pub zero_plus : (a : ℤ) → a ≡ pos 0 +ℤ a
zero_plus a = omega (arith, ints)

pub plus_none : (a : ℤ) → a +ℤ pos 0 ≡ a
plus_none a = omega (arith, ints)

pub grows : (c b x : ℤ) → pos 0 ≤ℤ c → b ≤ℤ x → (c *ℤ b) ≤ℤ (c *ℤ x)
grows (pos n) b x h k = omega (arith, ints, mul-le-mul_left n (le_out b x k))
grows (negsuc n) b x h k = absurd (omega (arith, ints))

pub shrinks : (c b x : ℤ) → c ≤ℤ pos 0 → x ≤ℤ b → (c *ℤ b) ≤ℤ (c *ℤ x)
shrinks (pos n) b x h k = let e : n ≡ 0 = omega (arith, ints) in subst (λ m. (pos m *ℤ b) ≤ℤ (pos m *ℤ x)) (sym e) (omega (arith, ints))
shrinks (negsuc n) b x h k = omega (arith, ints, mul-le-mul_left (suc n) (le_out x b k))

pub product_neg : (c x : ℤ) → neg_ℤ c *ℤ x ≡ neg_ℤ (c *ℤ x)
product_neg c x = omega (arith, ints, ap (λ (z : ℕ). z * up x) (neg_is c).0, ap (λ (z : ℕ). z * down x) (neg_is c).0, ap (λ (z : ℕ). z * up x) (neg_is c).1, ap (λ (z : ℕ). z * down x) (neg_is c).1)

pub lt_le : (a b : ℤ) → a <ℤ b → a ≤ℤ b
lt_le a b h = omega (arith, ints)

pub reach : (a b c : ℤ) → a ≤ℤ b → b ≤ℤ c → a ≤ℤ c
reach a b c h k = omega (arith, ints)

pub flipped : (a b : ℤ) → a *ℤ b ≡ b *ℤ a
flipped a b = omega (arith, ints)

-- ---- expressions

same_sum : (n : ℕ) (q r : Valuation) → Agree n q r → (ts : List (ℕ × ℤ)) → TermsBelow n ts → sum_at q ts ≡ sum_at r ts
same_sum n q r a [] h = refl
same_sum n q r a (t ∷ ts) h = ap (λ z. (t.1 *ℤ z) +ℤ sum_at q ts) (a t.0 h.0) ∙ ap (λ z. (t.1 *ℤ r t.0) +ℤ z) (same_sum n q r a ts h.1)

pub same_number : (n : ℕ) (q r : Valuation) → Agree n q r → (l : Linear) → IsBelow n l → number_at q l ≡ number_at r l
same_number n q r a l h = ap (λ z. l.constant +ℤ z) (same_sum n q r a l.terms h)

pub symbol_at : (r : Valuation) (n : ℕ) → number_at r (symbol n) ≡ r n
symbol_at r n = none_plus (r n)
  where
    none_plus : (a : ℤ) → pos 0 +ℤ ((pos 1 *ℤ a) +ℤ pos 0) ≡ a
    none_plus a = omega (arith, ints)

pub no_terms : (r : Valuation) (m : Linear) → m.terms ≡ [] → number_at r m ≡ m.constant
no_terms r m e = ap (λ ts. m.constant +ℤ sum_at r ts) e ∙ plus_none m.constant

-- weaker of an expression, where a call returns one
pub both_weaker : {E : Type 0} (o : Result (Option Linear) E) (P Q : Linear → Type 0) → ((e : Linear) → P e → Q e) → IfOk o (λ x. IfSome x P) → IfOk o (λ x. IfSome x Q)
both_weaker (Ok (Some e)) P Q h k = h e k
both_weaker (Ok None) P Q h k = k
both_weaker (Err x) P Q h k = k

-- ---- bounds

pub greater_is : (o p : Option ℤ) (n : ℤ) → IsFrom o n → IsFrom p n → IsFrom (greater_of o p) n
greater_is None p n h k = k
greater_is (Some a) None n h k = h
greater_is (Some a) (Some b) n h k = by_test (int_lt b a)
  where
    by_test : (t : Bool) → cond t a b ≤ℤ n
    by_test true = h
    by_test false = k

pub lesser_is : (o p : Option ℤ) (n : ℤ) → IsUpTo o n → IsUpTo p n → IsUpTo (lesser_of o p) n
lesser_is None p n h k = k
lesser_is (Some a) None n h k = h
lesser_is (Some a) (Some b) n h k = by_test (int_lt b a)
  where
    by_test : (t : Bool) → n ≤ℤ cond t b a
    by_test true = k
    by_test false = h

-- ---- facts

-- what is kept of a list holds where all of it does
pub natural_drop : (r : Valuation) (n : ℕ) (fs : List Linear) → AreNatural r fs → AreNatural r (drop n fs)
natural_drop r zero fs h = h
natural_drop r (suc n) [] h = tt
natural_drop r (suc n) (f ∷ fs) h = natural_drop r n fs h.1

pub natural_both : (r : Valuation) (fs gs : List Linear) → AreNatural r fs → AreNatural r gs → AreNatural r (fs ++ gs)
natural_both r [] gs h k = k
natural_both r (f ∷ fs) gs h k = (h.0, natural_both r fs gs h.1 k)

pub natural_take : (r : Valuation) (n : ℕ) (fs : List Linear) → AreNatural r fs → AreNatural r (take n fs)
natural_take r zero fs h = tt
natural_take r (suc n) [] h = tt
natural_take r (suc n) (f ∷ fs) h = (h.0, natural_take r n fs h.1)

pub natural_at : (r : Valuation) (fs : List Linear) (i : ℕ) (d : Linear) → i < length fs → AreNatural r fs → pos 0 ≤ℤ number_at r (get_or fs i d)
natural_at r [] i d l h = absurd (omega arith)
natural_at r (f ∷ fs) zero d l h = h.0
natural_at r (f ∷ fs) (suc i) d l h = natural_at r fs i d (omega arith) h.1
