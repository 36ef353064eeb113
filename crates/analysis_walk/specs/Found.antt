-- What a walk finds on its way: it holds of whichever alarms and ranges are at least those that are found.
use Rattle.std.specs.Prelude.{◌≡◌, ◌≢◌, take, get_or, ℕ, suc, ℤ, List, [], ◌∷◌, ◌++◌, length, map, Option, IfSome}
use Rattle.contract.specs.Names.declared.account.Account.{Account}
use Rattle.contract.specs.declared.tree.Case.{Case}
use Rattle.contract.specs.declared.tree.Contract.{Contract}
use Rattle.contract.specs.Tree.{ActionTree, ContractTree, when, CaseTrees, case_then, action_tree, case_tree, case_trees, contract_tree}
use Rattle.semantics.specs.Reduction.{account_of}
use Rattle.analysis_spec.specs.declared.kind.AlarmKind.{AlarmKind}
use Rattle.analysis_spec.specs.declared.alarm.Alarm.{Alarm}
use Rattle.analysis_spec.specs.declared.paid.PaidRange.{PaidRange}
use Rattle.analysis_spec.specs.declared.path.PathStep.{PathStep}
use Rattle.analysis_walk.specs.Conclusions.{Description}
use Rattle.analysis_walk.specs.Walked.{alarms_at, AreAmong, IsCovered, AreCovered}
use Rattle.analysis_walk.specs.declared.found.Found.{Found}
use Rattle.analysis_walk.specs.declared.span.Span.{Span}
use Rattle.analysis_walk.specs.Knowledge.{actions_before}
use Rattle.analysis_walk.specs.Spans.{IsBetween, IsIn, span_at}
use Rattle.analysis_walk.specs.Rows.{IsBounded}

-- the alarms that are found are among all, and all that is paid at a close that is found lies in the range
pub record Fits (found : Found) (all : List Alarm) (range : PaidRange) : Type 0 where
  pub alarms : AreAmong all found.alarms
  pub bounded : IsBounded found.closings.rows found.closings.count range

-- what holds of all alarms and a range
abbrev pub Shown : Type 1
Shown = List Alarm → PaidRange → Type 0

-- more is found, and with it something is shown
abbrev pub Finds : Shown → Found → Found → Type 0
Finds Shows old new = (alarms : List Alarm) (range : PaidRange) → Fits new alarms range → Fits old alarms range × Shows alarms range

-- ---- what is shown

-- nothing more
abbrev pub Nothing : Shown
Nothing alarms range = Unit {0}

-- alarms of these kinds at a place
abbrev pub TellsOf : List PathStep → List AlarmKind → Shown
TellsOf here kinds alarms range = AreAmong alarms (alarms_at here kinds)

-- all that is paid at a close
abbrev pub PaysWithin : List (Account × Span) → Shown
PaysWithin spans alarms range = (n : ℤ) → IsIn (span_at spans (account_of range.party range.token)) n → IsBetween range.least range.most n

module _ {K : Type 0} (Describes : Description K) (here : List PathStep) where
  -- a contract, from what is known
  abbrev pub Covers : K → ContractTree → Shown
  Covers k c alarms range = IsCovered Describes alarms (range ∷ []) here k c

  -- .. where something is known
  abbrev pub CoversIf : Option K → ContractTree → Shown
  CoversIf o c alarms range = IfSome o (λ k. IsCovered Describes alarms (range ∷ []) here k c)

  -- all cases of a When
  abbrev pub CoversCasesIf : Option K → CaseTrees → Shown
  CoversCasesIf o ks alarms range = IfSome o (λ k. AreCovered Describes alarms (range ∷ []) here 0 k [] ks)

  -- a case behind others, of which there are so many, and before whichever others that are
  abbrev pub CoversCase : K → List ActionTree → ℕ → Case → Shown
  CoversCase k earlier n case alarms range =
      (rest : CaseTrees) → AreCovered Describes alarms (range ∷ []) here (suc n) k (action_tree case.action ∷ earlier) rest
      → AreCovered Describes alarms (range ∷ []) here n k earlier (case_then (action_tree case.action) (contract_tree case.then) rest)

  -- the case at a place among others
  abbrev pub CoversAt : K → List Case → ℕ → Shown
  CoversAt k cases n alarms range = (case : Case) → case ≡ get_or cases n case → CoversCase k (actions_before (take n cases)) n case alarms range

  -- .. unless it is the one that comes last
  abbrev pub CoversUnless : K → List Case → ℕ → ℕ → Shown
  CoversUnless k cases last n alarms range = n ≢ last → CoversAt k cases n alarms range

module _ {K : Type 0} (Describes : Description K) (here : List PathStep) where
  -- a contract one step on, where something is known
  abbrev pub CoversNext : PathStep → Option K → Contract → Shown
  CoversNext step o c = CoversIf Describes (here ++ step ∷ []) o (contract_tree c)

  -- a When, and its cases where something is known
  abbrev pub CoversWhen : K → List Case → ℤ → Contract → Shown
  CoversWhen k cases timeout then = Covers Describes here k (when (case_trees (map case_tree cases)) timeout (contract_tree then))

  abbrev pub CoversEachIf : Option K → List Case → Shown
  CoversEachIf o cases = CoversCasesIf Describes here o (case_trees (map case_tree cases))

  -- a case behind these
  abbrev pub CoversBehind : K → List Case → Case → Shown
  CoversBehind k earlier case = CoversCase Describes here k (actions_before earlier) (length earlier) case
