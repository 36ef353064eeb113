-- What ranges and facts show of expressions.
use Rattle.std.proofs.Common.{◌≡◌, ℕ, zero, suc, ◌+◌, ◌*◌, ◌/◌, ◌<◌, ◌≤◌, ℤ, pos, negsuc, ◌+ℤ◌, ◌-ℤ◌, ◌*ℤ◌, ◌≤ℤ◌, ◌<ℤ◌, neg_ℤ, Bool, true, false, List, [], ◌∷◌, length, get_or, Option, Some, None, cond, sym, ap, ◌∙◌, subst, arith, Result, Ok, Err}
use Rattle.std.proofs.lemmas.Int.{ints}
use Rattle.std.proofs.Math.Nat.{div-le_self}
use Rattle.std.specs.Option.{IfSome}
use Rattle.std.proofs.lemmas.Nat.{le-div, div_below}
use Rattle.contract.specs.declared.fault.SemFault.{SemFault}
use Rattle.contract.specs.declared.fault.SemFault.TheVariants.{Leaves128}
use Rattle.evaluation.specs.Numbers.{fits}
use Rattle.evaluation.specs.Evaluation.{quotient}
use Rattle.evaluation.specs.Checked.{checked}
use Rattle.linear.specs.declared.bounds.Bounds.{Bounds}
use Rattle.linear.specs.Linear.{Linear, Valuation, sum_at, number_at, Range, IsFrom, IsUpTo, AreInRange, greater_of}
use Rattle.linear.specs.Combined.{StandsFor, AreBelow, combined_at}
use Rattle.linear.specs.Bounded.{numbered, IsLeast, IsLeastBy, IsRoundedUp, IsFromBy, IsFromAll}
use Rattle.linear.specs.WalkSupport.{rest_at, IsStep, AreCombined}
use Rattle.linear.proofs.LinearLaws.{spread_right, times_assoc, paired, grows, shrinks, lt_le, greater_is, natural_at}

-- ---- ranges by place

pub ranged_at : (r : Valuation) (n k : ℕ) (bs : List Bounds) (d : Bounds) → k < length bs → AreInRange r (numbered n bs)
    → IsFrom (get_or bs k d).least (r (n + k)) × IsUpTo (get_or bs k d).greatest (r (n + k))
ranged_at r n k [] d l h = absurd (omega arith)
ranged_at r n zero (b ∷ bs) d l h = let e : n ≡ n + 0 = omega arith in subst (λ m. IsFrom b.least (r m) × IsUpTo b.greatest (r m)) e (h.0, h.1)
ranged_at r n (suc k) (b ∷ bs) d l h =
    let e : suc n + k ≡ n + suc k = omega arith in
    subst (λ m. IsFrom (get_or bs k d).least (r m) × IsUpTo (get_or bs k d).greatest (r m)) e (ranged_at r (suc n) k bs d (omega arith) h.2)

-- ---- terms

pub least_up : (es : List Range) (c b n : ℤ) (s : ℕ) → pos 0 <ℤ c → ((r : Valuation) → AreInRange r es → b ≤ℤ r s) → n ≡ c *ℤ b → IsLeast es (λ r. c *ℤ r s) n
least_up es c b n s h g e r a = subst (λ z. z ≤ℤ (c *ℤ r s)) (sym e) (grows c b (r s) (lt_le (pos 0) c h) (g r a))

pub least_down : (es : List Range) (c b n : ℤ) (s : ℕ) → c ≤ℤ pos 0 → ((r : Valuation) → AreInRange r es → r s ≤ℤ b) → n ≡ c *ℤ b → IsLeast es (λ r. c *ℤ r s) n
least_down es c b n s h g e r a = subst (λ z. z ≤ℤ (c *ℤ r s)) (sym e) (shrinks c b (r s) h (g r a))

-- ---- a walk that bounds

pub record IsBounding (es : List Range) (p : ℤ) (ts : List (ℕ × ℤ)) (i : ℕ) (q : ℤ) (us : List (ℕ × ℤ)) (j : ℕ) (total : ℤ) : Type 0 where
  pub left_within : i ≤ length ts
  pub right_within : j ≤ length us
  pub sum : (r : Valuation) → AreInRange r es → (total +ℤ rest_at p ts i q us j r) ≤ℤ ((p *ℤ sum_at r ts) +ℤ (q *ℤ sum_at r us))

bounded_on : (t b n c x s w : ℤ) → n ≡ t +ℤ b → b ≤ℤ c → x ≡ c +ℤ s → (t +ℤ x) ≤ℤ w → (n +ℤ s) ≤ℤ w
bounded_on t b n c x s w e h k l = omega (arith, ints)

pub bounding_on : (es : List Range) (p : ℤ) (ts : List (ℕ × ℤ)) (i : ℕ) (q : ℤ) (us : List (ℕ × ℤ)) (j : ℕ) (total b next : ℤ) (symbol : ℕ) (found : ℤ × ℕ × ℕ)
    → IsBounding es p ts i q us j total → IsStep p ts i q us j symbol found → IsLeast es (λ r. found.0 *ℤ r symbol) b → next ≡ total +ℤ b → IsBounding es p ts found.1 q us found.2 next
bounding_on es p ts i q us j total b next symbol found w s l e = record {
  left_within = s.left_within;
  right_within = s.right_within;
  sum = λ r h.
      bounded_on total b next (found.0 *ℤ r symbol) (rest_at p ts i q us j r) (rest_at p ts found.1 q us found.2 r) ((p *ℤ sum_at r ts) +ℤ (q *ℤ sum_at r us)) e (l r h) (s.sum r) (w.sum r h);
}

-- ---- expressions

pub combined_split : (p c s q d t : ℤ) → (p *ℤ (c +ℤ s)) +ℤ (q *ℤ (d +ℤ t)) ≡ ((p *ℤ c) +ℤ (q *ℤ d)) +ℤ ((p *ℤ s) +ℤ (q *ℤ t))
combined_split p c s q d t =
    ap (λ z. z +ℤ (q *ℤ (d +ℤ t))) (spread_right p c s) ∙ ap (λ z. ((p *ℤ c) +ℤ (p *ℤ s)) +ℤ z) (spread_right q d t) ∙ paired (p *ℤ c) (p *ℤ s) (q *ℤ d) (q *ℤ t)

pub stands_combined : (p : ℤ) (l : Linear) (q : ℤ) (m : Linear) (c : ℤ) (out : List (ℕ × ℤ)) → c ≡ (p *ℤ l.constant) +ℤ (q *ℤ m.constant) → AreCombined p l.terms q m.terms out
    → StandsFor (combined_at p l q m) (AreBelow l m) (record { constant = c; terms = out })
stands_combined p l q m c out e h = record {
  number = λ r.
      ap (λ z. z +ℤ sum_at r out) e ∙ ap (λ z. ((p *ℤ l.constant) +ℤ (q *ℤ m.constant)) +ℤ z) (h.sum r)
      ∙ sym (combined_split p l.constant (sum_at r l.terms) q m.constant (sum_at r m.terms));
  below = λ n b. h.below n b.0 b.1;
  few = h.few;
}

-- the same number, below the same bounds
pub stands_as : (f g : Valuation → ℤ) (B C : ℕ → Type 0) (e : Linear) → ((r : Valuation) → f r ≡ g r) → ((n : ℕ) → C n → B n) → StandsFor f B e → StandsFor g C e
stands_as f g B C e h k s = record { number = λ r. s.number r ∙ h r; below = λ n b. s.below n (k n b); few = s.few }

pub sum_of_both : (a b : ℤ) → (pos 1 *ℤ a) +ℤ (pos 1 *ℤ b) ≡ a +ℤ b
sum_of_both a b = omega (arith, ints)

pub difference_of_both : (a b : ℤ) → (pos 1 *ℤ a) +ℤ (negsuc 0 *ℤ b) ≡ a -ℤ b
difference_of_both a b = omega (arith, ints)

pub first_alone : (a b : ℤ) → a +ℤ (pos 0 *ℤ b) ≡ a
first_alone a b = omega (arith, ints)

pub least_of_both : (es : List Range) (p : ℤ) (l : Linear) (q : ℤ) (m : Linear) (c t n : ℤ) → c ≡ (p *ℤ l.constant) +ℤ (q *ℤ m.constant)
    → IsLeast es (λ r. (p *ℤ sum_at r l.terms) +ℤ (q *ℤ sum_at r m.terms)) t → n ≡ c +ℤ t
    → IsLeast es (combined_at p l q m) n
least_of_both es p l q m c t n e h f r a =
    subst (λ z. n ≤ℤ z) (ap (λ z. z +ℤ ((p *ℤ sum_at r l.terms) +ℤ (q *ℤ sum_at r m.terms))) e ∙ sym (combined_split p l.constant (sum_at r l.terms) q m.constant (sum_at r m.terms)))
    (added n c t ((p *ℤ sum_at r l.terms) +ℤ (q *ℤ sum_at r m.terms)) f (h r a))
  where
    added : (n c t s : ℤ) → n ≡ c +ℤ t → t ≤ℤ s → n ≤ℤ (c +ℤ s)
    added n c t s e h = omega (arith, ints)

pub raised_sum : (a b : ℤ) → a +ℤ (b +ℤ pos 0) ≡ a +ℤ b
raised_sum a b = omega (arith, ints)

-- ---- rounding

pub checked_ok : (q z : ℤ) → ◌≡◌ {A = Result ℤ SemFault} (Ok q) (checked z) → q ≡ z
unfolding checked
checked_ok q z h = by_test (fits z) h
  where
    by_test : (b : Bool) → ◌≡◌ {A = Result ℤ SemFault} (Ok q) (cond b (Ok z) (Err Leaves128)) → q ≡ z
    by_test true e = cc
    by_test false e = absurd (cc)

one_up : (n m d : ℕ) → n / suc m < d → (pos (n / suc m) +ℤ pos 1) ≤ℤ pos d
one_up n m d h = omega (arith, ints)

pub rounded_above : (n m q z : ℤ) → pos 0 <ℤ m → pos 0 <ℤ n → q ≡ quotient (n -ℤ pos 1) m → z ≡ q +ℤ pos 1 → IsRoundedUp n m z
unfolding quotient
rounded_above (pos zero) m q z h k e f x l = absurd (omega (arith, ints))
rounded_above (negsuc n) m q z h k e f x l = absurd (omega (arith, ints))
rounded_above (pos (suc n)) (pos zero) q z h k e f x l = absurd (omega (arith, ints))
rounded_above (pos (suc n)) (negsuc m) q z h k e f x l = absurd (omega (arith, ints))
rounded_above (pos (suc n)) (pos (suc m)) q z h k e f (pos d) l =
    let g : n < d * suc m = omega (arith, ints) in
    let i = div_below n (suc m) d (omega arith) g in
    subst (λ w. w ≤ℤ pos d) (sym (f ∙ ap (λ w. w +ℤ pos 1) (e ∙ ap (λ w. quotient w (pos (suc m))) (less_one n)))) (one_up n m d i)
  where
    less_one : (n : ℕ) → pos (suc n) -ℤ pos 1 ≡ pos n
    less_one n = omega (arith, ints)
rounded_above (pos (suc n)) (pos (suc m)) q z h k e f (negsuc d) l = absurd (omega (arith, ints))

pub rounded_below : (n m z : ℤ) → pos 0 <ℤ m → n ≤ℤ pos 0 → z ≡ quotient n m → IsRoundedUp n m z
unfolding quotient
rounded_below n (pos zero) z h k e x l = absurd (omega (arith, ints))
rounded_below n (negsuc m) z h k e x l = absurd (omega (arith, ints))
rounded_below (pos n) (pos (suc m)) z h k e (pos d) l = let i = div-le_self n (suc m) in subst (λ w. w ≤ℤ pos d) (sym e) (omega (arith, ints))
rounded_below (pos n) (pos (suc m)) z h k e (negsuc d) l = absurd (omega (arith, ints))
rounded_below (negsuc n) (pos (suc m)) z h k e (pos d) l = subst (λ w. w ≤ℤ pos d) (sym e) (opposite_below (suc n / suc m) d)
  where
    opposite_below : (a d : ℕ) → neg_ℤ (pos a) ≤ℤ pos d
    opposite_below a d = omega (arith, ints)
rounded_below (negsuc n) (pos (suc m)) z h k e (negsuc d) l =
    let g : suc d * suc m ≤ suc n = omega (arith, ints) in
    let i = le-div (suc d) (suc n) (suc m) (omega arith) g in
    subst (λ w. w ≤ℤ negsuc d) (sym e) (opposites (suc n / suc m) d i)
  where
    opposites : (a d : ℕ) → suc d ≤ a → neg_ℤ (pos a) ≤ℤ negsuc d
    opposites a d h = omega (arith, ints)

-- ---- by ranges

pub by_ranges : (es : List Range) (p : ℤ) (l : Linear) (o : Option ℤ) → IfSome o (IsLeast es (combined_at p l (pos 0) l)) → (fs : List Linear) → IsFromAll es fs (λ r. p *ℤ number_at r l) o
by_ranges es p l None h fs r a n = tt
by_ranges es p l (Some b) h fs r a n = subst (λ z. b ≤ℤ z) (first_alone (p *ℤ number_at r l) (number_at r l)) (h r a)

-- ---- by facts

pub natural_times : (j f : ℤ) → j ≤ℤ pos 0 → pos 0 ≤ℤ f → (j *ℤ f) ≤ℤ pos 0
natural_times j f h k = subst (λ z. (j *ℤ f) ≤ℤ z) (none j) (shrinks j f (pos 0) h k)
  where
    none : (j : ℤ) → j *ℤ pos 0 ≡ pos 0
    none j = omega (arith, ints)

-- a symbol is taken out by a fact
pub taken_out : (es : List Range) (p : ℤ) (l fact : Linear) (m j s n z : ℤ) → j ≤ℤ pos 0 → s ≡ m *ℤ p → IsLeast es (combined_at s l j fact) n → IsRoundedUp n m z
    → IsLeastBy es fact (λ r. p *ℤ number_at r l) z
taken_out es p l fact m j s n z h e b c r a f =
    c (p *ℤ number_at r l)
    (subst (λ w. n ≤ℤ w) (ap (λ w. w *ℤ number_at r l) e ∙ times_assoc m p (number_at r l))
    (less_by n (s *ℤ number_at r l) (j *ℤ number_at r fact) (b r a) (natural_times j (number_at r fact) h f)))
  where
    less_by : (n x y : ℤ) → n ≤ℤ (x +ℤ y) → y ≤ℤ pos 0 → n ≤ℤ x
    less_by n x y h k = omega (arith, ints)

pub better_all : (es : List Range) (fs : List Linear) (i : ℕ) (fact : Linear) (f : Valuation → ℤ) (a b c : Option ℤ) → i < length fs → fact ≡ get_or fs i fact → c ≡ greater_of a b
    → IsFromAll es fs f a → IsFromBy es fact f b → IsFromAll es fs f c
better_all es fs i fact f a b c l is e h k r j n =
    subst (λ o. IsFrom o (f r)) (sym e) (greater_is a b (f r) (h r j n) (k r j (subst (λ (x : Linear). pos 0 ≤ℤ number_at r x) (sym is) (natural_at r fs i fact l n))))

-- .. or one by a fact, where there is one
pub better_by : (es : List Range) (fact : Linear) (f : Valuation → ℤ) (a b c : Option ℤ) → c ≡ greater_of a b → IsFromBy es fact f a → IfSome b (IsLeastBy es fact f) → IsFromBy es fact f c
better_by es fact f a b c e h k r i n = subst (λ o. IsFrom o (f r)) (sym e) (greater_is a b (f r) (h r i n) (by_one b k))
  where
    by_one : (o : Option ℤ) → IfSome o (IsLeastBy es fact f) → IsFrom o (f r)
    by_one None k = tt
    by_one (Some m) k = k r i n
