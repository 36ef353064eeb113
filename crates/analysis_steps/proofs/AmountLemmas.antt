-- Amounts that are moved.
use Rattle.std.proofs.Common.{◌≡◌, ◌≤◌, ℤ, pos, negsuc, ◌+ℤ◌, ◌-ℤ◌, ◌≤ℤ◌, ◌<ℤ◌, int_lt, Bool, true, false, cond, refl, sym, ap, ◌∙◌, subst, arith, Option, Some, None, IfSome}
use Rattle.std.proofs.lemmas.Int.{ints}
use Rattle.std.specs.Int.{int_min, int_max}
use Rattle.linear.specs.Linear.{Linear, Valuation, number, number_at, IsBelow, IsUpTo}
use Rattle.linear.specs.Bounded.{IsShown, IsFromAll, IsUpToAll}
use Rattle.linear.specs.Combined.{StandsFor, AreBelow}
use Rattle.symbols.specs.Symbols.{Symbols, Knows, Gives}
use Rattle.symbols.specs.Held.{GivesAny, Learns}
use Rattle.symbols.specs.Either.{IsAtLeast}
use Rattle.symbols.specs.Cases.{IsNatural}
use Rattle.linear.proofs.NumberLaws.{true_lt, false_lt, lt_true}
use Rattle.linear.proofs.LinearLaws.{same_number}
use Rattle.symbols.proofs.KnownLaws.{terms_more, knows_itself, gives_here}
use Rattle.analysis_steps.specs.Amounts.{IsAbove, IsNothing, LearnsIf, amount_paid, GivesPaid, GivesAdded, GivesSum, GivesRest, IsFromSum, IsUpToSum}

-- ---- numbers

gap : (a b : ℤ) → b ≤ℤ a → pos 0 ≤ℤ (a -ℤ b)
gap a b h = omega (arith, ints)

gap_back : (a b : ℤ) → pos 0 ≤ℤ (a -ℤ b) → b ≤ℤ a
gap_back a b h = omega (arith, ints)

reach : (a b c : ℤ) → a ≤ℤ b → b ≤ℤ c → a ≤ℤ c
reach a b c h k = omega (arith, ints)

le_self : (a : ℤ) → a ≤ℤ a
le_self a = omega (arith, ints)

lt_le : (a b : ℤ) → a <ℤ b → a ≤ℤ b
lt_le a b h = omega (arith, ints)

never_both : (a b : ℤ) → a <ℤ b → b ≤ℤ a → ⊥
never_both a b h k = omega (arith, ints)

same_least : (a b : ℤ) → a ≤ℤ b → b ≤ℤ a → a ≡ b
same_least a b h k = omega (arith, ints)

pub min_left : (a b : ℤ) → int_min a b ≤ℤ a
min_left a b = by_test (int_lt b a) refl
  where
    by_test : (t : Bool) → int_lt b a ≡ t → cond t b a ≤ℤ a
    by_test true e = lt_le b a (true_lt b a e)
    by_test false e = le_self a

pub min_right : (a b : ℤ) → int_min a b ≤ℤ b
min_right a b = by_test (int_lt b a) refl
  where
    by_test : (t : Bool) → int_lt b a ≡ t → cond t b a ≤ℤ b
    by_test true e = le_self b
    by_test false e = false_lt b a e

pub min_is : (a b : ℤ) → b ≤ℤ a → int_min a b ≡ b
min_is a b h = by_test (int_lt b a) refl
  where
    by_test : (t : Bool) → int_lt b a ≡ t → cond t b a ≡ b
    by_test true e = refl
    by_test false e = same_least a b (false_lt b a e) h

min_from : (a b x : ℤ) → x ≤ℤ a → x ≤ℤ b → x ≤ℤ int_min a b
min_from a b x h k = by_test (int_lt b a)
  where
    by_test : (t : Bool) → x ≤ℤ cond t b a
    by_test true = k
    by_test false = h

pub max_left : (a b : ℤ) → a ≤ℤ int_max a b
max_left a b = by_test (int_lt b a) refl
  where
    by_test : (t : Bool) → int_lt b a ≡ t → a ≤ℤ cond t a b
    by_test true e = le_self a
    by_test false e = false_lt b a e

pub max_right : (a b : ℤ) → b ≤ℤ int_max a b
max_right a b = by_test (int_lt b a) refl
  where
    by_test : (t : Bool) → int_lt b a ≡ t → b ≤ℤ cond t a b
    by_test true e = lt_le b a (true_lt b a e)
    by_test false e = le_self b

pub max_natural : (b : ℤ) → pos 0 ≤ℤ b → int_max (pos 0) b ≡ b
max_natural b h = by_test (int_lt b (pos 0)) refl
  where
    by_test : (t : Bool) → int_lt b (pos 0) ≡ t → cond t (pos 0) b ≡ b
    by_test true e = absurd (never_both b (pos 0) (true_lt b (pos 0) e) h)
    by_test false e = refl

pub max_above : (b : ℤ) → pos 0 <ℤ b → int_max (pos 0) b ≡ b
max_above b h = max_natural b (lt_le (pos 0) b h)

pub max_none : (b : ℤ) → b ≤ℤ pos 0 → int_max (pos 0) b ≡ pos 0
max_none b h = by_test (int_lt b (pos 0)) refl
  where
    by_test : (t : Bool) → int_lt b (pos 0) ≡ t → cond t (pos 0) b ≡ pos 0
    by_test true e = refl
    by_test false e = same_least b (pos 0) h (false_lt b (pos 0) e)

-- ---- what is paid

pub paid_natural : (b d : ℤ) → pos 0 ≤ℤ b → pos 0 ≤ℤ amount_paid b d
paid_natural b d h = by_test (int_lt (pos 0) d) refl
  where
    by_test : (t : Bool) → int_lt (pos 0) d ≡ t → pos 0 ≤ℤ cond t (int_min b d) (pos 0)
    by_test true e = min_from b d (pos 0) h (lt_le (pos 0) d (true_lt (pos 0) d e))
    by_test false e = le_self (pos 0)

pub paid_up : (b d : ℤ) → pos 0 ≤ℤ b → amount_paid b d ≤ℤ b
paid_up b d h = by_test (int_lt (pos 0) d)
  where
    by_test : (t : Bool) → cond t (int_min b d) (pos 0) ≤ℤ b
    by_test true = min_left b d
    by_test false = h

paid_least : (b d : ℤ) → pos 0 ≤ℤ d → amount_paid b d ≤ℤ d
paid_least b d h = by_test (int_lt (pos 0) d)
  where
    by_test : (t : Bool) → cond t (int_min b d) (pos 0) ≤ℤ d
    by_test true = min_right b d
    by_test false = h

paid_whole : (b d : ℤ) → pos 0 ≤ℤ d → d ≤ℤ b → amount_paid b d ≡ d
paid_whole b d h k = by_test (int_lt (pos 0) d) refl
  where
    by_test : (t : Bool) → int_lt (pos 0) d ≡ t → cond t (int_min b d) (pos 0) ≡ d
    by_test true e = min_is b d k
    by_test false e = same_least (pos 0) d h (false_lt (pos 0) d e)

paid_none : (b d : ℤ) → d ≤ℤ pos 0 → amount_paid b d ≡ pos 0
paid_none b d h = by_test (int_lt (pos 0) d) refl
  where
    by_test : (t : Bool) → int_lt (pos 0) d ≡ t → cond t (int_min b d) (pos 0) ≡ pos 0
    by_test true e = absurd (never_both (pos 0) d (true_lt (pos 0) d e) h)
    by_test false e = refl

min_first : (a b : ℤ) → a ≤ℤ b → int_min a b ≡ a
min_first a b h = by_test (int_lt b a) refl
  where
    by_test : (t : Bool) → int_lt b a ≡ t → cond t b a ≡ a
    by_test true e = absurd (never_both b a (true_lt b a e) h)
    by_test false e = refl

paid_held : (b d : ℤ) → pos 0 ≤ℤ b → b ≤ℤ d → amount_paid b d ≡ b
paid_held b d h k = by_test (int_lt (pos 0) d) refl
  where
    by_test : (t : Bool) → int_lt (pos 0) d ≡ t → cond t (int_min b d) (pos 0) ≡ b
    by_test true e = min_first b d k
    by_test false e = same_least (pos 0) b h (reach b d (pos 0) k (false_lt (pos 0) d e))

-- ---- what is shown

pub at_least_by : (k : Symbols) (l m d : Linear) → StandsFor (λ r. number_at r l -ℤ number_at r m) (AreBelow l m) d → IsShown k.ranges k.facts d → IsAtLeast k l m
at_least_by k l m d s h r v = gap_back (number_at r l) (number_at r m) (subst (λ z. pos 0 ≤ℤ z) (s.number r) (h r v.ranges v.facts))

pub above_by : (k : Symbols) (l e : Linear) → StandsFor (λ r. number_at r l +ℤ negsuc 0) (λ n. IsBelow n l) e → IsNatural k e → IsAbove k l
above_by k l e s h r v = one_more (number_at r l) (subst (λ z. pos 0 ≤ℤ z) (s.number r) (h r v))
  where
    one_more : (a : ℤ) → pos 0 ≤ℤ (a +ℤ negsuc 0) → pos 0 <ℤ a
    one_more a h = omega (arith, ints)

pub natural_of : (k : Symbols) (l : Linear) → IsAbove k l → IsNatural k l
natural_of k l h r v = lt_le (pos 0) (number_at r l) (h r v)

pub natural_shown : (k : Symbols) (l : Linear) → IsShown k.ranges k.facts l → IsNatural k l
natural_shown k l h r v = h r v.ranges v.facts

pub at_least_natural : (k : Symbols) (l m d : Linear) → StandsFor (λ r. number_at r l -ℤ number_at r m) (AreBelow l m) d → IsNatural k d → IsAtLeast k l m
at_least_natural k l m d s h r v = gap_back (number_at r l) (number_at r m) (subst (λ z. pos 0 ≤ℤ z) (s.number r) (h r v))

-- ---- what is learned

pub learns_if_none : (asked : Bool) (k : Symbols) (l n : Linear) → LearnsIf asked k k l n
learns_if_none asked k l n r c v x y g = knows_itself k r c v

pub learns_if_by : (asked : Bool) (k m : Symbols) (l n d : Linear) → asked ≡ true → StandsFor (λ r. number_at r n -ℤ number_at r l) (AreBelow n l) d → Learns k m d → LearnsIf asked k m l n
learns_if_by asked k m l n d a s h r c v x y g = h r c v (s.below k.next (y, x)) (subst (λ z. pos 0 ≤ℤ z) (sym (s.number r)) (gap (number_at r n) (number_at r l) (g a)))

abbrev pub gives_knows : (k : Symbols) (r : Valuation) (m p : Symbols) (e : Linear) (n : ℤ) → (g : Gives k r (m, e) n) → Knows m g.values p → Gives k r (p, e) n
gives_knows k r m p e n g h = record {
  closed = h.closed;
  below = subst (λ z. IsBelow z e) (sym h.next) g.below;
  grows = subst (λ z. k.next ≤ z) (sym h.next) g.grows;
  values = g.values;
  agrees = g.agrees;
  valued = h.valued;
  number = g.number;
}

up_to_less : (o : Option ℤ) (m n : ℤ) → m ≤ℤ n → IsUpTo o n → IsUpTo o m
up_to_less None m n h k = tt
up_to_less (Some b) m n h k = reach m n b h k

-- ---- amounts

pub paid_part : (k a b c : Symbols) (balance due e : Linear) (natural : Bool) (most : Option ℤ) → (natural ≡ true → IsShown k.ranges k.facts due) → IsUpToAll k.ranges k.facts (λ r. number_at r balance) most
    → GivesAny k a e (Some (pos 0)) most → LearnsIf true a b e balance → LearnsIf natural b c e due → GivesPaid k c balance due e
paid_part k a b c balance due e natural most shown up fresh first second r closed valued x y h =
    let n = amount_paid (number_at r balance) (number_at r due) in
    let g = fresh r n closed valued (paid_natural (number_at r balance) (number_at r due) h)
    (up_to_less most n (number_at r balance) (paid_up (number_at r balance) (number_at r due) h) (up r valued.ranges valued.facts)) in
    let q = g.values in
    let is : number_at q e ≡ n = sym g.number in
    let balance_is : number_at q balance ≡ number_at r balance = same_number k.next q r g.agrees balance x in
    let due_is : number_at q due ≡ number_at r due = same_number k.next q r g.agrees due y in
    let l = first q g.closed g.valued g.below (terms_more k.next a.next g.grows balance.terms x)
    (λ _. subst (λ z. number_at q e ≤ℤ z) (sym balance_is) (subst (λ z. z ≤ℤ number_at r balance) (sym is) (paid_up (number_at r balance) (number_at r due) h))) in
    let o = gives_knows k r a b e n g l in
    gives_knows k r b c e n o
    (second q o.closed o.valued o.below (terms_more k.next b.next o.grows due.terms y)
    (λ f. subst (λ z. number_at q e ≤ℤ z) (sym due_is) (subst (λ z. z ≤ℤ number_at r due) (sym is) (paid_least (number_at r balance) (number_at r due) (shown f r valued.ranges valued.facts)))))

pub paid_all : (k : Symbols) (balance due e : Linear) → IsNatural k due → IsAtLeast k balance due → e ≡ due → GivesPaid k k balance due e
paid_all k balance due e shown covers is r closed valued x y h =
    gives_here k r e (amount_paid (number_at r balance) (number_at r due)) closed valued (subst (λ (l : Linear). IsBelow k.next l) (sym is) y)
    (paid_whole (number_at r balance) (number_at r due) (shown r valued) (covers r valued) ∙ ap (number_at r) (sym is))

pub paid_nothing : (k : Symbols) (balance due e : Linear) → IsNothing k due → e ≡ number (pos 0) → GivesPaid k k balance due e
paid_nothing k balance due e h is r closed valued x y g =
    gives_here k r e (amount_paid (number_at r balance) (number_at r due)) closed valued (subst (λ (l : Linear). IsBelow k.next l) (sym is) tt)
    (paid_none (number_at r balance) (number_at r due) (h r valued) ∙ ap (number_at r) (sym is))

pub paid_all_held : (k : Symbols) (balance due e : Linear) → IsAtLeast k due balance → e ≡ balance → GivesPaid k k balance due e
paid_all_held k balance due e h is r closed valued x y g =
    gives_here k r e (amount_paid (number_at r balance) (number_at r due)) closed valued (subst (λ (l : Linear). IsBelow k.next l) (sym is) x)
    (paid_held (number_at r balance) (number_at r due) g (h r valued) ∙ ap (number_at r) (sym is))

pub added_nothing : (k : Symbols) (due e : Linear) → IsNothing k due → e ≡ number (pos 0) → GivesAdded k k due e
added_nothing k due e h is r closed valued x =
    gives_here k r e (int_max (pos 0) (number_at r due)) closed valued (subst (λ (l : Linear). IsBelow k.next l) (sym is) tt) (max_none (number_at r due) (h r valued) ∙ ap (number_at r) (sym is))

pub added_part : (k a b : Symbols) (due e : Linear) (bound most : Option ℤ) → IsUpToAll k.ranges k.facts (λ r. number_at r due) bound → ((n : ℤ) → IsUpTo bound n → IsUpTo most (int_max (pos 0) n))
    → GivesAny k a e (Some (pos 0)) most → LearnsIf true a b due e → GivesAdded k b due e
added_part k a b due e bound most up more fresh learned r closed valued x =
    let n = int_max (pos 0) (number_at r due) in
    let g = fresh r n closed valued (max_left (pos 0) (number_at r due)) (more (number_at r due) (up r valued.ranges valued.facts)) in
    let q = g.values in
    let is : number_at q e ≡ n = sym g.number in
    let due_is : number_at q due ≡ number_at r due = same_number k.next q r g.agrees due x in
    gives_knows k r a b e n g
    (learned q g.closed g.valued (terms_more k.next a.next g.grows due.terms x) g.below
    (λ _. subst (λ z. number_at q due ≤ℤ z) (sym is) (subst (λ z. z ≤ℤ n) (sym due_is) (max_right (pos 0) (number_at r due)))))

pub added_all : (k : Symbols) (due e : Linear) → IsNatural k due → e ≡ due → GivesAdded k k due e
added_all k due e shown is r closed valued x =
    gives_here k r e (int_max (pos 0) (number_at r due)) closed valued (subst (λ (l : Linear). IsBelow k.next l) (sym is) x) (max_natural (number_at r due) (shown r valued) ∙ ap (number_at r) (sym is))

-- ---- sums

pub sum_here : (k : Symbols) (l n e : Linear) → StandsFor (λ r. number_at r l +ℤ number_at r n) (AreBelow l n) e → GivesSum k k l n e
sum_here k l n e s r closed valued x y = gives_here k r e (number_at r l +ℤ number_at r n) closed valued (s.below k.next (x, y)) (sym (s.number r))

pub sum_ranged : (k m : Symbols) (l n e : Linear) (a b c d least greatest : Option ℤ) → IsFromAll k.ranges k.facts (λ r. number_at r l) a → IsFromAll k.ranges k.facts (λ r. number_at r n) b
    → IsUpToAll k.ranges k.facts (λ r. number_at r l) c → IsUpToAll k.ranges k.facts (λ r. number_at r n) d → IsFromSum a b least → IsUpToSum c d greatest → GivesAny k m e least greatest → GivesSum k m l n e
sum_ranged k m l n e a b c d least greatest f g h i j o fresh r closed valued x y =
    fresh r (number_at r l +ℤ number_at r n) closed valued (j (number_at r l) (number_at r n) (f r valued.ranges valued.facts) (g r valued.ranges valued.facts))
    (o (number_at r l) (number_at r n) (h r valued.ranges valued.facts) (i r valued.ranges valued.facts))

pub rest_here : (k : Symbols) (l n e : Linear) → StandsFor (λ r. number_at r l -ℤ number_at r n) (AreBelow l n) e → GivesRest k k l n e
rest_here k l n e s r closed valued x y natural up = gives_here k r e (number_at r l -ℤ number_at r n) closed valued (s.below k.next (x, y)) (sym (s.number r))

pub rest_ranged : (k m : Symbols) (l e : Linear) (most : Option ℤ) → IsUpToAll k.ranges k.facts (λ r. number_at r l) most → GivesAny k m e (Some (pos 0)) most → (n : Linear) → GivesRest k m l n e
rest_ranged k m l e most h fresh n r closed valued x y natural up =
    fresh r (number_at r l -ℤ number_at r n) closed valued (gap (number_at r l) (number_at r n) up) (up_to_less most (number_at r l -ℤ number_at r n) (number_at r l) (no_more (number_at r l) (number_at r n) natural) (h r valued.ranges valued.facts))
  where
    no_more : (a b : ℤ) → pos 0 ≤ℤ b → (a -ℤ b) ≤ℤ a
    no_more a b g = omega (arith, ints)

both_from : (a b x y : ℤ) → a ≤ℤ x → b ≤ℤ y → (a +ℤ b) ≤ℤ (x +ℤ y)
both_from a b x y h k = omega (arith, ints)

pub from_sum : (a b : ℤ) (o : Option ℤ) → IfSome o (λ n. n ≡ a +ℤ b) → IsFromSum (Some a) (Some b) o
from_sum a b None e x y h k = tt
from_sum a b (Some n) e x y h k = subst (λ z. z ≤ℤ (x +ℤ y)) (sym e) (both_from a b x y h k)

pub up_to_sum : (a b : ℤ) (o : Option ℤ) → IfSome o (λ n. n ≡ a +ℤ b) → IsUpToSum (Some a) (Some b) o
up_to_sum a b None e x y h k = tt
up_to_sum a b (Some n) e x y h k = subst (λ z. (x +ℤ y) ≤ℤ z) (sym e) (both_from x y a b h k)
