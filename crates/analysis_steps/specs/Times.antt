-- Times that come later.
use Rattle.std.specs.Prelude.{◌≡◌, ◌≤◌, ℤ, ◌≤ℤ◌, Bool, true, List}
use Rattle.contract.specs.declared.interval.Interval.{Interval}
use Rattle.contract.specs.declared.payment.Payment.{Payment}
use Rattle.contract.specs.States.States.{StateMaps}
use Rattle.linear.specs.Linear.{Linear, Valuation, number_at, IsBelow, Agree}
use Rattle.symbols.specs.Symbols.{Symbols, IsValued, IsClosed, Knows}
use Rattle.analysis_walk.specs.Limits.{Scope}
use Rattle.analysis_values.specs.Known.{Known, IsDescribed}
use Rattle.analysis_values.specs.Answered.{IsTime}

-- what is known leads on to what is true of the same run, where an expression stands for a number
pub record Finds (scope : Scope) (k : Known) (r : Valuation) (m : Known) (e : Linear) (n : ℤ) (i : Interval) (s : StateMaps) (ps : List Payment) : Type 0 where
  pub grows : k.symbols.next ≤ m.symbols.next
  pub described : IsDescribed scope m i s ps
  pub agrees : Agree k.symbols.next described.numbers r
  pub below : IsBelow m.symbols.next e
  pub number : n ≡ number_at described.numbers e

-- a time that isn't before another
abbrev pub FindsTime : Known → Known → Linear → Linear → Type 0
FindsTime k m before e =
    (scope : Scope) (i : Interval) (s : StateMaps) (ps : List Payment) (n : ℤ) → (d : IsDescribed scope k i s ps) → IsTime scope n → IsBelow k.symbols.next before → number_at d.numbers before ≤ℤ n
    → Finds scope k d.numbers m e n i s ps

-- more is known where one expression is at most another, and that is said to be possible
abbrev pub AssumesMost : Symbols → Symbols → Linear → Linear → Bool → Type 0
AssumesMost k m l n possible = (r : Valuation) → IsClosed k → IsValued r k → IsBelow k.next l → IsBelow k.next n → number_at r l ≤ℤ number_at r n → (possible ≡ true) × Knows k r m
