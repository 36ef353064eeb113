-- Times.
use Rattle.std.proofs.Common.{◌≡◌, ◌≤◌, ℤ, pos, ◌+ℤ◌, ◌-ℤ◌, ◌≤ℤ◌, ◌<ℤ◌, Bool, true, false, List, refl, sym, ap, ◌∙◌, subst, arith, Option, Some, None}
use Rattle.std.proofs.lemmas.Int.{ints}
use Rattle.std.specs.Option.{IsSomeAnd}
use Rattle.contract.specs.declared.interval.Interval.{Interval}
use Rattle.contract.specs.declared.payment.Payment.{Payment}
use Rattle.contract.specs.States.States.{StateMaps}
use Rattle.linear.specs.Linear.{Linear, number_at, IsBelow, number}
use Rattle.linear.specs.Combined.{StandsFor, AreBelow}
use Rattle.symbols.specs.Symbols.{Symbols}
use Rattle.symbols.specs.Held.{Assumes}
use Rattle.linear.proofs.LinearLaws.{same_number}
use Rattle.symbols.proofs.KnownLaws.{terms_more, knows_itself}
use Rattle.analysis_walk.specs.Limits.{Scope, any_runs, written_runs, Admitted}
use Rattle.analysis_walk.specs.Conclusions.{IsLater, WaitsSo, TimesOutSo}
use Rattle.analysis_values.specs.Known.{Known, IsSeen, SeesBelow, IsDescribed}
use Rattle.analysis_values.proofs.KnownLaws.{from_allowed, to_allowed, time_is}
use Rattle.analysis_values.specs.Answered.{IsTime, AddsTime}
use Rattle.analysis_steps.specs.Amounts.{LearnsIf}
use Rattle.analysis_steps.specs.Times.{FindsTime, AssumesMost}
use Rattle.analysis_steps.proofs.MovedLemmas.{still_number}

-- ---- a later interval

pub finds_time_by : (k z m : Known) (before e : Linear) → AddsTime k z e → LearnsIf true z.symbols m.symbols before e → m.view ≡ z.view → FindsTime k m before e
finds_time_by k z m before e adds learns same scope i s ps n d time below up =
    let r = d.numbers in
    let a = adds scope i s ps n d time in
    let g = a.gives in
    let q = g.values in
    let before_is = same_number k.symbols.next q r g.agrees before below in
    let l = learns q g.closed g.valued (terms_more k.symbols.next z.symbols.next g.grows before.terms below) g.below (λ _. subst (λ x. x ≤ℤ number_at q e) (sym before_is) (subst (λ x. number_at r before ≤ℤ x) g.number up)) in
    record {
      grows = subst (λ x. k.symbols.next ≤ x) (sym l.next) g.grows;
      described = record {
        closed = l.closed;
        below = subst (λ v. SeesBelow m.symbols.next v) (sym same) (subst (λ x. SeesBelow x z.view) (sym l.next) a.below);
        numbers = q;
        valued = l.valued;
        seen = subst (λ v. IsSeen scope q v i s ps) (sym same) a.seen;
      };
      agrees = g.agrees;
      below = subst (λ x. IsBelow x e) (sym l.next) g.below;
      number = g.number;
    }

times_of : (scope : Scope) (j : Interval) → Admitted scope j → IsTime scope j.from × IsTime scope j.to
times_of any_runs j a = (tt, tt)
times_of written_runs j a = (a.0, a.1)

pub later_so : (k z w m : Known) (b start end : Linear) → b ≡ k.view.start → FindsTime k z b start → FindsTime z w start end
    → m ≡ record { symbols = w.symbols; view = record (w.view) { start = start; end = end } } → IsLater IsDescribed k m
later_so k z w m b start end is first second set scope i j s ps now d up valid admitted =
    let time = times_of scope j admitted in
    let b_is : number_at d.numbers b ≡ i.from = ap (number_at d.numbers) is ∙ sym d.seen.start in
    let f = first scope i s ps j.from d time.0 (subst (λ (l : Linear). IsBelow k.symbols.next l) (sym is) d.below.start) (subst (λ x. x ≤ℤ j.from) (sym b_is) up) in
    let g = second scope i s ps j.to f.described time.1 f.below (subst (λ x. x ≤ℤ j.to) f.number valid) in
    let c = g.described.below in
    let e = g.described.seen in
    let known : Known = record { symbols = w.symbols; view = record (w.view) { start = start; end = end } } in
    subst (λ m. IsDescribed scope m j (record s { min_time = now }) ps) (sym set)
    (time_is scope known j s ps now
    (record {
      closed = g.described.closed;
      below = record { accounts = c.accounts; choices = c.choices; bound = c.bound; paid = c.paid; start = terms_more z.symbols.next w.symbols.next g.grows start.terms f.below; end = g.below; times = c.times };
      numbers = g.described.numbers;
      valued = g.described.valued;
      seen = record {
        accounts = e.accounts;
        choices = e.choices;
        bound = e.bound;
        paid = e.paid;
        start = still_number z.symbols.next g.described.numbers f.described.numbers start j.from g.agrees f.below f.number;
        end = g.number;
        valid = valid;
        times = e.times;
        natural = e.natural;
        money = e.money;
        chosen = e.chosen;
        values = e.values;
        from = from_allowed scope j admitted;
        to = to_allowed scope j admitted;
      };
    }))

-- ---- before a timeout, and from it on

gap : (a b : ℤ) → a ≤ℤ b → pos 0 ≤ℤ (b -ℤ a)
gap a b h = omega (arith, ints)

pub assumes_most_by : (k m : Symbols) (l n d : Linear) (possible : Bool) → StandsFor (λ r. number_at r n -ℤ number_at r l) (AreBelow n l) d → Assumes k m d possible → AssumesMost k m l n possible
assumes_most_by k m l n d possible s h r c v x y g = h r c v (s.below k.next (y, x)) (subst (λ z. pos 0 ≤ℤ z) (sym (s.number r)) (gap (number_at r l) (number_at r n) g))

pub assumes_most_none : (k : Symbols) (l n : Linear) → AssumesMost k k l n true
assumes_most_none k l n r c v x y g = (refl, knows_itself k r c v)

module _ (Holds : Interval → Type 0) where
  -- where that holds of the interval, one expression is at most another
  abbrev IsMost : Known → Linear → Linear → Type 0
  IsMost k a b = (scope : Scope) (i : Interval) (s : StateMaps) (ps : List Payment) → (d : IsDescribed scope k i s ps) → Holds i → IsBelow k.symbols.next a × IsBelow k.symbols.next b × (number_at d.numbers a ≤ℤ number_at d.numbers b)

  -- .. what is known is so
  abbrev IsSo : Known → Option Known → Type 0
  IsSo k o = (scope : Scope) (i : Interval) (s : StateMaps) (ps : List Payment) → IsDescribed scope k i s ps → Holds i → IsSomeAnd o (λ m. IsDescribed scope m i s ps)

  none_so : (k : Known) (m : Symbols) (a b : Linear) (possible : Bool) → AssumesMost k.symbols m a b possible → possible ≡ false → IsMost k a b → IsSo k None
  none_so k m a b possible assumes denied most scope i s ps d h =
      let f = most scope i s ps d h in
      never possible (assumes d.numbers d.closed d.valued f.0 f.1 f.2).0 denied
    where
      never : (p : Bool) → p ≡ true → p ≡ false → ⊥
      never p e f = cc

  then_so : (k m : Known) (a b : Linear) (possible : Bool) (o : Option Known) → AssumesMost k.symbols m.symbols a b possible → m.view ≡ k.view → IsMost k a b → IsSo m o → IsSo k o
  then_so k m a b possible o assumes same most so scope i s ps d h =
      let f = most scope i s ps d h in
      let g = (assumes d.numbers d.closed d.valued f.0 f.1 f.2).1 in
      so scope i s ps (record {
        closed = g.closed;
        below = subst (λ v. SeesBelow m.symbols.next v) (sym same) (subst (λ x. SeesBelow x k.view) (sym g.next) d.below);
        numbers = d.numbers;
        valued = g.valued;
        seen = subst (λ v. IsSeen scope d.numbers v i s ps) (sym same) d.seen;
      }) h

last_before : (n t : ℤ) → n <ℤ t → n ≤ℤ ((t -ℤ pos 1) +ℤ pos 0)
last_before n t h = omega (arith, ints)

first_from : (n t : ℤ) → t ≤ℤ n → (t +ℤ pos 0) ≤ℤ n
first_from n t h = omega (arith, ints)

first_before : (a b t : ℤ) → a ≤ℤ b → b <ℤ t → a <ℤ t
first_before a b t h k = omega (arith, ints)

reach : (a b c : ℤ) → a ≤ℤ b → b ≤ℤ c → a ≤ℤ c
reach a b c h k = omega (arith, ints)

-- an end of the interval, and a number
module _ (k : Known) (l m : Linear) (t : ℤ) where
  end_before : l ≡ k.view.end → m ≡ number (t -ℤ pos 1) → IsMost (λ i. i.to <ℤ t) k l m
  end_before is last scope i s ps d h = (
    subst (λ (x : Linear). IsBelow k.symbols.next x) (sym is) d.below.end,
    subst (λ (x : Linear). IsBelow k.symbols.next x) (sym last) tt,
    subst (λ x. x ≤ℤ number_at d.numbers m) (d.seen.end ∙ ap (number_at d.numbers) (sym is)) (subst (λ (x : Linear). i.to ≤ℤ number_at d.numbers x) (sym last) (last_before i.to t h)),
  )

  start_before : l ≡ k.view.start → m ≡ number (t -ℤ pos 1) → IsMost (λ i. i.to <ℤ t) k l m
  start_before is last scope i s ps d h = (
    subst (λ (x : Linear). IsBelow k.symbols.next x) (sym is) d.below.start,
    subst (λ (x : Linear). IsBelow k.symbols.next x) (sym last) tt,
    subst (λ x. x ≤ℤ number_at d.numbers m) (d.seen.start ∙ ap (number_at d.numbers) (sym is))
        (subst (λ (x : Linear). i.from ≤ℤ number_at d.numbers x) (sym last) (last_before i.from t (first_before i.from i.to t d.seen.valid h))),
  )

  start_from : l ≡ k.view.start → m ≡ number t → IsMost (λ i. t ≤ℤ i.from) k m l
  start_from is first scope i s ps d h = (
    subst (λ (x : Linear). IsBelow k.symbols.next x) (sym first) tt,
    subst (λ (x : Linear). IsBelow k.symbols.next x) (sym is) d.below.start,
    subst (λ x. number_at d.numbers m ≤ℤ x) (d.seen.start ∙ ap (number_at d.numbers) (sym is)) (subst (λ (x : Linear). number_at d.numbers x ≤ℤ i.from) (sym first) (first_from i.from t h)),
  )

  end_from : l ≡ k.view.end → m ≡ number t → IsMost (λ i. t ≤ℤ i.from) k m l
  end_from is first scope i s ps d h = (
    subst (λ (x : Linear). IsBelow k.symbols.next x) (sym first) tt,
    subst (λ (x : Linear). IsBelow k.symbols.next x) (sym is) d.below.end,
    subst (λ x. number_at d.numbers m ≤ℤ x) (d.seen.end ∙ ap (number_at d.numbers) (sym is))
        (subst (λ (x : Linear). number_at d.numbers x ≤ℤ i.to) (sym first) (first_from i.to t (reach t i.from i.to h d.seen.valid))),
  )

module _ (k z m : Known) (t : ℤ) (end start n : Linear) (p q : Bool) where
  pub waits_not_end : end ≡ k.view.end → n ≡ number (t -ℤ pos 1) → AssumesMost k.symbols z.symbols end n p → p ≡ false → WaitsSo IsDescribed k t None
  waits_not_end e f a denied = none_so (λ i. i.to <ℤ t) k z.symbols end n p a denied (end_before k end n t e f)

  pub waits_not_start : end ≡ k.view.end → n ≡ number (t -ℤ pos 1) → AssumesMost k.symbols z.symbols end n p → z.view ≡ k.view → start ≡ z.view.start → AssumesMost z.symbols m.symbols start n q → q ≡ false
      → WaitsSo IsDescribed k t None
  waits_not_start e f a same g b denied = then_so (λ i. i.to <ℤ t) k z end n p None a same (end_before k end n t e f) (none_so (λ i. i.to <ℤ t) z m.symbols start n q b denied (start_before z start n t g f))

  pub waits_so : end ≡ k.view.end → n ≡ number (t -ℤ pos 1) → AssumesMost k.symbols z.symbols end n p → z.view ≡ k.view → start ≡ z.view.start → AssumesMost z.symbols m.symbols start n q → m.view ≡ z.view
      → WaitsSo IsDescribed k t (Some m)
  waits_so e f a same g b still =
      then_so (λ i. i.to <ℤ t) k z end n p (Some m) a same (end_before k end n t e f) (then_so (λ i. i.to <ℤ t) z m start n q (Some m) b still (start_before z start n t g f) (λ scope i s ps d h. d))

  pub times_out_not_start : start ≡ k.view.start → n ≡ number t → AssumesMost k.symbols z.symbols n start p → p ≡ false → TimesOutSo IsDescribed k t None
  times_out_not_start e f a denied = none_so (λ i. t ≤ℤ i.from) k z.symbols n start p a denied (start_from k start n t e f)

  pub times_out_not_end : start ≡ k.view.start → n ≡ number t → AssumesMost k.symbols z.symbols n start p → z.view ≡ k.view → end ≡ z.view.end → AssumesMost z.symbols m.symbols n end q → q ≡ false
      → TimesOutSo IsDescribed k t None
  times_out_not_end e f a same g b denied = then_so (λ i. t ≤ℤ i.from) k z n start p None a same (start_from k start n t e f) (none_so (λ i. t ≤ℤ i.from) z m.symbols n end q b denied (end_from z end n t g f))

  pub times_out_so : start ≡ k.view.start → n ≡ number t → AssumesMost k.symbols z.symbols n start p → z.view ≡ k.view → end ≡ z.view.end → AssumesMost z.symbols m.symbols n end q → m.view ≡ z.view
      → TimesOutSo IsDescribed k t (Some m)
  times_out_so e f a same g b still =
      then_so (λ i. t ≤ℤ i.from) k z n start p (Some m) a same (start_from k start n t e f) (then_so (λ i. t ≤ℤ i.from) z m n end q (Some m) b still (end_from z end n t g f) (λ scope i s ps d h. d))
