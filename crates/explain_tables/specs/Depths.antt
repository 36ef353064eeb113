-- Where a contract is too deep for a table, and how many nodes it has.
use Rattle.std.specs.Prelude.{◌≡◌, ℕ, ◌+◌, ◌<◌, ◌≤◌, List, [], ◌∷◌, ◌⊎◌, Some}
use Rattle.contract.specs.Tree.{ContractTree}
use Rattle.compiler.specs.Table.Heights.{contract_height}
use Rattle.analysis_spec.specs.declared.path.PathStep.{PathStep}
use Rattle.analysis_spec.specs.declared.path.PathStep.TheVariants.{Then, Else, TimeoutContinuation, Case, Action}
use Rattle.analysis_spec.specs.Places.{part_behind}
use Rattle.trace.specs.Paths.{part_along}

-- how many levels a step goes down: a case stands between its When and what follows it
abbrev pub levels : PathStep → ℕ
levels Then = 1
levels Else = 1
levels TimeoutContinuation = 1
levels (Case n) = 2
levels (Action n) = 2

abbrev pub levels_of : List PathStep → ℕ
levels_of [] = 0
levels_of (step ∷ path) = levels step + levels_of path

-- no part that a step leads to is higher than the room below
abbrev pub NoneIsHigh : ℕ → ContractTree → Type 0
NoneIsHigh room c = (step : PathStep) (d : ContractTree) → part_behind c step ≡ Some d → levels step + contract_height d ≤ room

-- a contract is higher than 999 at this place: the part there stands too deep, or it is too high and no part behind it is
pub record IsTooDeepAt (c : ContractTree) (place : List PathStep) : Type 0 where
  pub part : ContractTree
  pub stands : part_along c place ≡ Some part
  pub high : 999 < levels_of place + contract_height part
  pub last : (999 < levels_of place) ⊎ ((room : ℕ) × (levels_of place + room ≡ 999) × NoneIsHigh room part)
