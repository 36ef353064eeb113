-- Which numbers are shown to fit 128 bits, where times have 64.
use Rattle.std.proofs.Common.{◌≡◌, ℕ, ◌<◌, ◌^◌, ℤ, pos, negsuc, neg_ℤ, ◌+ℤ◌, ◌-ℤ◌, ◌≤ℤ◌, ◌<ℤ◌, Bool, true, List, [], ◌∷◌, sym, ap, ◌∙◌, subst, arith, Some, None, FitsSigned}
use Rattle.std.proofs.lemmas.Int.{ints}
use Rattle.std.specs.Int.{w128}
use Rattle.linear.specs.declared.bounds.Bounds.{Bounds}
use Rattle.linear.specs.Linear.{Linear, Valuation, number_at, number, symbol, IsBelow, IsFrom, IsUpTo}
use Rattle.linear.specs.Bounded.{IsFromAll}
use Rattle.linear.specs.Combined.{StandsFor, AreBelow}
use Rattle.symbols.specs.Symbols.{Symbols}
use Rattle.symbols.specs.Held.{GivesAny}
use Rattle.symbols.specs.Within.{LieIn, IsWithin}
use Rattle.linear.proofs.LinearLaws.{symbol_at, reach, no_terms}
use Rattle.semantics.specs.Evaluation.Numbers.{fits}
use Rattle.analysis_spec.specs.Promises.{IsWritten}
use Rattle.analysis_walk.specs.Limits.{Scope, any_runs, written_runs}
use Rattle.analysis_values.specs.Known.{View, AreTimes, IsSeen, SeesBelow, known}
use Rattle.analysis_values.proofs.KnownLaws.{fits_between, sees_more, same_seen}
use Rattle.analysis_values.specs.Answered.{StaysWhereSaid, IsTime, AddsTime}
use Rattle.analysis_values.specs.Steps.{IsFrom128, StaysAbove}

-- ---- times

times_lie : (r : Valuation) (xs : List ℕ) (b : Bounds) → b.least ≡ Some (neg_ℤ (pos (2 ^ 63))) → b.greatest ≡ Some (pos (2 ^ 63) -ℤ pos 1) → AreTimes written_runs r xs → LieIn r xs b
times_lie r [] b e f t = tt
times_lie r (x ∷ xs) b e f t =
    (subst (λ o. IsFrom o (r x)) (sym e) t.0.0, subst (λ o. IsUpTo o (r x)) (sym f) (no_more (2 ^ 63) (r x) t.0.1), times_lie r xs b e f t.1)
  where
    no_more : (m : ℕ) (n : ℤ) → n <ℤ pos m → n ≤ℤ (pos m -ℤ pos 1)
    no_more m n h = omega (arith, ints)

-- ---- 128 bits

negative : (n m : ℕ) → n < m → neg_ℤ (pos m) ≤ℤ negsuc n
negative n m h = omega (arith, ints)

natural : (n m : ℕ) → neg_ℤ (pos m) ≤ℤ pos n
natural n m = omega (arith, ints)

least_fits : (b : ℤ) → FitsSigned w128 b → neg_ℤ (pos (2 ^ 127)) ≤ℤ b
least_fits (pos n) h = natural n (2 ^ 127)
least_fits (negsuc n) h = let k : n < 2 ^ 127 = h.sfits in negative n (2 ^ 127) k

number_below : (n m : ℕ) → n < m → pos n <ℤ pos m
number_below n m h = omega (arith, ints)

negative_below : (n m : ℕ) → negsuc n <ℤ pos m
negative_below n m = omega (arith, ints)

greatest_fits : (b : ℤ) → FitsSigned w128 b → b <ℤ pos (2 ^ 127)
greatest_fits (pos n) h = let k : n < 2 ^ 127 = h.sfits in number_below n (2 ^ 127) k
greatest_fits (negsuc n) h = negative_below n (2 ^ 127)

pub number_stays : (v : View) (k : Symbols) (l : Linear) (n : ℤ) → FitsSigned w128 n → n ≡ l.constant → l.terms ≡ [] → StaysWhereSaid (known k v) l true
number_stays v k l n f e t s r w u = subst (λ z. fits z ≡ true) (e ∙ sym (no_terms r l t)) (fits_between n (least_fits n f) (greatest_fits n f))

pub from_128 : (k : Symbols) (l : Linear) (b : ℤ) → FitsSigned w128 b → IsFromAll k.ranges k.facts (λ r. number_at r l) (Some b) → IsFrom128 k l
from_128 k l b f h r v = reach (neg_ℤ (pos (2 ^ 127))) b (number_at r l) (least_fits b f) (h r v.ranges v.facts)

pub above_here : (xs : List ℕ) (k : Symbols) (l m : Linear) → IsFrom128 k l × IsFrom128 k m → StaysAbove xs k l × StaysAbove xs k m
above_here xs k l m h = (λ r v t. h.0 r v, λ r v t. h.1 r v)

pub above_written : (xs : List ℕ) (k n : Symbols) (b : Bounds) (l m : Linear) → b.least ≡ Some (neg_ℤ (pos (2 ^ 63))) → b.greatest ≡ Some (pos (2 ^ 63) -ℤ pos 1) → IsWithin k xs b n → IsFrom128 n l × IsFrom128 n m
    → StaysAbove xs k l × StaysAbove xs k m
above_written xs k n b l m e f w h = (λ r v t. h.0 r (w r v (times_lie r xs b e f t)), λ r v t. h.1 r (w r v (times_lie r xs b e f t)))

pub stays_by : (v : View) (k : Symbols) (l n m : Linear) (said : Bool) → n ≡ number (negsuc 0) → StandsFor (λ r. number_at r n -ℤ number_at r l) (AreBelow n l) m → (said ≡ true → StaysAbove v.times k l × StaysAbove v.times k m) → StaysWhereSaid (known k v) l said
stays_by v k l n m said e s f i r w t =
    let q = f i in
    fits_between (number_at r l) (q.0 r w t) (below (2 ^ 127) (number_at r l) (number_at r m) (s.number r ∙ ap (λ (z : Linear). number_at r z -ℤ number_at r l) e) (q.1 r w t))
  where
    below : (c : ℕ) (n m : ℤ) → m ≡ (negsuc 0 +ℤ pos 0) -ℤ n → neg_ℤ (pos c) ≤ℤ m → n <ℤ pos c
    below c n m e h = omega (arith, ints)

-- ---- a new time

written_time : (scope : Scope) (q : Valuation) (x : ℕ) (xs : List ℕ) (n : ℤ) → n ≡ q x → IsTime scope n → AreTimes scope q xs → AreTimes scope q (x ∷ xs)
written_time any_runs q x xs n e t h = tt
written_time written_runs q x xs n e t h = (subst IsWritten e t, h)

pub time_added : (k m : Symbols) (v w : View) (e : Linear) (x : ℕ) → GivesAny k m e None None → e ≡ symbol k.next → x ≡ k.next → w ≡ record v { times = x ∷ v.times } → AddsTime (known k v) (known m w) e
time_added k m v w e x h f i j scope l s ps n d t =
    let g = h d.numbers n d.closed d.valued tt tt in
    let a = subst (IsBelow m.next) f g.below in
    let b = sees_more k.next m.next g.grows v d.below in
    let y = same_seen scope k.next g.values d.numbers v l s ps g.agrees d.below d.seen in
    let z : AreTimes scope g.values (k.next ∷ v.times) = written_time scope g.values k.next v.times n (g.number ∙ ap (number_at g.values) f ∙ symbol_at g.values k.next) t y.times in
    let u : w ≡ record v { times = k.next ∷ v.times } = j ∙ ap (λ o. record v { times = o ∷ v.times }) i in
    record {
      gives = g;
      below = subst (SeesBelow m.next) (sym u) (record { accounts = b.accounts; choices = b.choices; bound = b.bound; paid = b.paid; start = b.start; end = b.end; times = (a.0, b.times) });
      seen = subst (λ o. IsSeen scope g.values o l s ps) (sym u) (record {
        accounts = y.accounts;
        choices = y.choices;
        bound = y.bound;
        paid = y.paid;
        start = y.start;
        end = y.end;
        valid = y.valid;
        times = z;
        natural = y.natural;
        money = y.money;
        chosen = y.chosen;
        values = y.values;
        from = y.from;
        to = y.to;
      });
    }
