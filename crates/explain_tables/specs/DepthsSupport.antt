-- No reader needs this file: it serves private functions. How the way to a part that is too high goes on.
use Rattle.std.specs.Prelude.{◌≡◌, ℕ, ◌+◌, ◌<◌, ◌≤◌, reverse, Some}
use Rattle.contract.specs.Tree.{ContractTree, CaseTrees, contract_tree}
use Rattle.compiler.specs.Table.Heights.{contract_height}
use Rattle.analysis_spec.specs.declared.path.PathStep.TheVariants.{Case}
use Rattle.analysis_spec.specs.Places.{behind_case, part_behind}
use Rattle.explain_tables.specs.declared.branches.Branch.{Branch}
use Rattle.trace.specs.Paths.{part_along}
use Rattle.explain_tables.specs.declared.strides.Far.{Far}
use Rattle.explain_tables.specs.declared.strides.Way.{Way}
use Rattle.explain_tables.specs.Depths.{levels, levels_of}

-- what follows the case to which the step leads
abbrev pub IsCase : CaseTrees → Branch → Type 0
IsCase ks branch = (n : ℕ) × (branch.step ≡ Case n) × (behind_case ks n ≡ Some (contract_tree branch.part.now))

-- a part down the way is higher than the room that is left there
pub record IsFar (room : ℕ) (c : ContractTree) (far : Far) : Type 0 where
  pub stands : part_along c (reverse far.back) ≡ Some (contract_tree far.part.now)
  pub levels : levels_of (reverse far.back) + far.room ≡ room
  pub high : far.room < contract_height (contract_tree far.part.now)

-- the part at the end of a way is higher than the room that the way leaves of 999
pub record IsWay (c : ContractTree) (way : Way) : Type 0 where
  pub stands : part_along c way.path ≡ Some (contract_tree way.part.now)
  pub levels : levels_of way.path + way.room ≡ 999
  pub high : way.room < contract_height (contract_tree way.part.now)

-- where the one is such a way, the other is
abbrev pub GoesOn : Way → Way → Type 0
GoesOn way more = (c : ContractTree) → IsWay c way → IsWay c more

-- a part that a step leads to is higher than the room
abbrev pub LeadsHigh : ℕ → ContractTree → Branch → Type 0
LeadsHigh room c high =
    (part_behind c high.step ≡ Some (contract_tree high.part.now)) × (room < levels high.step + contract_height (contract_tree high.part.now))

-- what follows a case is higher than the room
abbrev pub IsHighCase : ℕ → CaseTrees → Branch → Type 0
IsHighCase room ks high =
    (n : ℕ) × (high.step ≡ Case n) × (behind_case ks n ≡ Some (contract_tree high.part.now)) × (room < 2 + contract_height (contract_tree high.part.now))

-- what follows each case is no higher than the room
abbrev pub NoCaseIsHigh : ℕ → CaseTrees → Type 0
NoCaseIsHigh room ks = (n : ℕ) (d : ContractTree) → behind_case ks n ≡ Some d → 2 + contract_height d ≤ room
