-- Ranges and losses with the runs that reach them.
use Rattle.std.specs.Prelude.{pos, negsuc, ◌^◌, ◌-◌, ◌≤ℤ◌, List, map, All, IfSome}
use Rattle.std.specs.List.{AllByRecursion}
use Rattle.std.specs.Option.{IsSomeAnd}
use Rattle.contract.specs.declared.input.Input.{Input}
use Rattle.contract.specs.declared.input.Input.TheVariants.{Deposit, Choice, Notify}
use Rattle.contract.specs.declared.transaction.Transaction.{Transaction}
use Rattle.contract.specs.Tree.{ContractTree}
use Rattle.contract.specs.States.States.{StateMaps}
use Rattle.analysis_spec.specs.declared.paid.PaidRange.{PaidRange}
use Rattle.losses.specs.declared.loss.Loss.{Loss}
use Rattle.bound_runs.specs.declared.shown.ShownRange.{ShownRange}
use Rattle.bound_runs.specs.declared.shown.ShownLoss.{ShownLoss}
use Rattle.reached_bounds.specs.Reached.{Pays, PaysAndCloses, Loses}

-- each run reaches its bound, which is told
abbrev pub IsReached : StateMaps → ContractTree → ShownRange → Type 0
IsReached s c r =
    let p = r.range.party in let t = r.range.token in
    IfSome r.least_run (λ ts. IsSomeAnd r.range.least (λ n. PaysAndCloses p t n s c ts)) × IfSome r.most_run (λ ts. IsSomeAnd r.range.most (λ n. Pays p t n s c ts))

abbrev pub IsLost : StateMaps → ContractTree → ShownLoss → Type 0
IsLost s c l = IfSome l.run (λ ts. IsSomeAnd l.loss.most (λ n. Loses l.loss.party l.loss.token n s c ts))

abbrev pub AreReached : StateMaps → ContractTree → List ShownRange → Type 0
AreReached s c = AllByRecursion (IsReached s c)

abbrev pub AreLost : StateMaps → ContractTree → List ShownLoss → Type 0
AreLost s c = AllByRecursion (IsLost s c)

-- JSON has the numbers of a run's inputs
abbrev pub HasNumber : Input → Type 0
HasNumber (Deposit a p t n) = (negsuc (2 ^ 63 - 1) ≤ℤ n) × (n ≤ℤ pos (2 ^ 64 - 1))
HasNumber (Choice id n) = (negsuc (2 ^ 63 - 1) ≤ℤ n) × (n ≤ℤ pos (2 ^ 64 - 1))
HasNumber Notify = Unit {0}

abbrev pub HasNumbers : List Transaction → Type 0
HasNumbers = All (λ (t : Transaction). All HasNumber t.inputs)

-- .. and of each run
abbrev pub RangeHasNumbers : ShownRange → Type 0
RangeHasNumbers r = IfSome r.least_run HasNumbers × IfSome r.most_run HasNumbers

abbrev pub LossHasNumbers : ShownLoss → Type 0
LossHasNumbers l = IfSome l.run HasNumbers

-- ranges and losses without their runs
abbrev pub ranges_of : List ShownRange → List PaidRange
ranges_of = map (λ (r : ShownRange). r.range)

abbrev pub losses_of : List ShownLoss → List Loss
losses_of = map (λ (l : ShownLoss). l.loss)
