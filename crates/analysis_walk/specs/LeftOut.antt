-- Which places a walk leaves out. No reader of the promises needs this file.
use Rattle.std.specs.Prelude.{◌≡◌, ℕ, ℤ, List, [], ◌∷◌, ◌++◌, length, map, Option, IfSome, ◌⊎◌}
use Rattle.std.specs.List.{AllByRecursion}
use Rattle.std.specs.Option.{IsSomeAnd}
use Rattle.contract.specs.declared.tree.Case.{Case}
use Rattle.contract.specs.declared.tree.Contract.{Contract}
use Rattle.contract.specs.Tree.{ContractTree, CaseTrees, when, action_tree, case_tree, case_trees, contract_tree}
use Rattle.analysis_spec.specs.declared.path.PathStep.{PathStep}
use Rattle.analysis_spec.specs.declared.path.PathStep.TheVariants.{Then, Else, Case as InCase}
use Rattle.analysis_spec.specs.Places.{behind_case, IsPart}
use Rattle.analysis_walk.specs.Conclusions.{Description}
use Rattle.analysis_walk.specs.Knowledge.{actions_before}
use Rattle.analysis_walk.specs.Avoided.{IsAvoided, IsCaseAvoided, IsTakenAvoided}
use Rattle.analysis_walk.specs.declared.found.Found.{Found}

-- the places that are left out beside those before: of each of them this holds
pub record LeavesOut (P : List PathStep → Type 0) (old new : Found) : Type 0 where
  pub more : List (List PathStep)
  pub put : new.unreached ≡ old.unreached ++ more
  pub each : AllByRecursion P more

-- a place behind another, by a path to a part of what stands there, and this holds of the path
pub record IsBehind (here : List PathStep) (c : ContractTree) (P : List PathStep → Type 0) (place : List PathStep) : Type 0 where
  pub path : List PathStep
  pub behind : place ≡ here ++ path
  pub is_part : IsPart path c
  pub so : P path

-- .. by a path behind a case of a When
pub record IsBehindCase (here : List PathStep) (ks : CaseTrees) (P : ℕ → List PathStep → Type 0) (place : List PathStep) : Type 0 where
  pub index : ℕ
  pub path : List PathStep
  pub behind : place ≡ here ++ InCase index ∷ path
  pub is_part : IsSomeAnd (behind_case ks index) (IsPart path)
  pub so : P index path

module _ {K : Type 0} (Describes : Description K) (here : List PathStep) where
  -- no run comes from here to the place
  abbrev pub IsLeftOut : K → ContractTree → List PathStep → Type 0
  IsLeftOut k c = IsBehind here c (IsAvoided Describes k c)

  -- .. one step on, where something is known
  abbrev pub IsLeftOutNext : PathStep → Option K → Contract → List PathStep → Type 0
  IsLeftOutNext step o c = IsBehind (here ++ step ∷ []) (contract_tree c) (λ path. IfSome o (λ k. IsAvoided Describes k (contract_tree c) path))

  -- .. in one of both branches
  abbrev pub IsLeftOutOfBoth : Option K → Contract → Option K → Contract → List PathStep → Type 0
  IsLeftOutOfBoth o c u d place = IsLeftOutNext Then o c place ⊎ IsLeftOutNext Else u d place

  abbrev pub IsLeftOutOfWhen : K → List Case → ℤ → Contract → List PathStep → Type 0
  IsLeftOutOfWhen k cases timeout then = IsLeftOut k (when (case_trees (map case_tree cases)) timeout (contract_tree then))

  -- .. behind a case, where something is known
  abbrev pub IsLeftOutOfCases : Option K → List Case → List PathStep → Type 0
  IsLeftOutOfCases o cases = let ks = case_trees (map case_tree cases) in IsBehindCase here ks (λ n path. IfSome o (λ k. IsCaseAvoided Describes k ks n path))

  -- .. behind this case
  abbrev pub IsLeftOutOfCase : K → List Case → Case → List PathStep → Type 0
  IsLeftOutOfCase k earlier case = IsBehind (here ++ InCase (length earlier) ∷ []) (contract_tree case.then) (IsTakenAvoided Describes k (actions_before earlier) (action_tree case.action) (contract_tree case.then))
