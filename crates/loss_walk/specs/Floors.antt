-- Floors that a walk finds: they hold of whichever floors are no higher than those that are found.
use Rattle.std.specs.Prelude.{◌≡◌, ◌≢◌, take, get_or, ℕ, ℤ, pos, neg_ℤ, ◌≤ℤ◌, Bool, List, [], ◌∷◌, ◌++◌, map, Option, Some, None, IfSome, ◌⊎◌}
use Rattle.std.specs.List.{AllByRecursion}
use Rattle.std.specs.Option.{IsSomeAnd}
use Rattle.std.specs.FinMap.Entries.{find}
use Rattle.contract.specs.Names.declared.account.Account.{Account}
use Rattle.contract.specs.Names.declared.party.Party.{Party}
use Rattle.contract.specs.Names.declared.token.Token.{Token}
use Rattle.contract.specs.Names.Orders.{account_cmp}
use Rattle.contract.specs.declared.interval.Interval.{Interval}
use Rattle.contract.specs.declared.payment.Payment.{Payment}
use Rattle.contract.specs.declared.tree.Case.{Case}
use Rattle.contract.specs.declared.tree.Contract.{Contract}
use Rattle.contract.specs.Tree.{ActionTree, ContractTree, when, CaseTrees, case_then, action_tree, case_tree, case_trees, contract_tree}
use Rattle.contract.specs.States.States.{StateMaps}
use Rattle.semantics.specs.Reduction.{account_of}
use Rattle.semantics.specs.Computed.{refunds}
use Rattle.analysis_spec.specs.Runs.{paid_to}
use Rattle.losses.specs.declared.loss.Loss.{Loss}
use Rattle.losses.specs.Told.{IsUnnamed}
use Rattle.keeping_up.specs.declared.kept.Kept.{Kept}
use Rattle.keeping_up.specs.Told.{IsUnnamed as IsUntold}
use Rattle.analysis_walk.specs.Limits.{any_runs}
use Rattle.analysis_walk.specs.Knowledge.{actions_before}
use Rattle.analysis_values.specs.Known.{Known, IsDescribed}
use Rattle.loss_walk.specs.declared.floor.Floor.{Floor}
use Rattle.loss_walk.specs.declared.question.Question.{Question}
use Rattle.loss_walk.specs.declared.quiet.Quiet.{Quiet}
use Rattle.loss_walk.specs.Nets.{Nets, NetsCases, HoldsWhile}

abbrev pub Rows : Type 0
Rows = List (Account × Floor)

-- a number is no more than a bound, which is known
abbrev pub IsUnder : Option ℤ → ℤ → Type 0
IsUnder o n = IsSomeAnd o (λ m. n ≤ℤ m)

-- without a row the floor is 0
abbrev pub least_of : Option Floor → Option ℤ
least_of None = Some (pos 0)
least_of (Some f) = f.least

abbrev pub IsOneOf : List Account → Account → Type 0
IsOneOf [] a = ⊥
IsOneOf (x ∷ xs) a = (a ≡ x) ⊎ IsOneOf xs a

-- a number is a floor for an account: no more than what its row has, and no more than 0, unless it is one of those that are asked
-- at each close
abbrev pub IsFloor : List Account → Rows → Account → ℤ → Type 0
IsFloor asked rows a n = ((n ≤ℤ pos 0) ⊎ IsOneOf asked a) × IsUnder (least_of (find account_cmp a rows)) n

-- what holds of an account and a floor
abbrev pub Shown : Type 1
Shown = Account → ℤ → Type 0

-- more is found, and with it something is shown
abbrev pub Finds : List Account → Shown → Rows → Rows → Type 0
Finds asked Shows old new = (a : Account) (n : ℤ) → IsFloor asked new a n → IsFloor asked old a n × Shows a n

-- .. whichever accounts are asked
abbrev pub FindsAll : Shown → Rows → Rows → Type 0
FindsAll Shows old new = (asked : List Account) → Finds asked Shows old new

-- ---- what is shown

-- nothing more
abbrev pub Nothing : Shown
Nothing a n = Unit {0}

-- where the contract is closed, no less was paid in all
abbrev pub ClosesAbove : Known → Shown
ClosesAbove k a n = (i : Interval) (s : StateMaps) (ps : List Payment) → IsDescribed any_runs k i s ps → n ≤ℤ paid_to a.owner a.token (ps ++ (refunds s).payments)

-- .. of one account, and of each of these
abbrev pub Lowers : Known → Account → Shown
Lowers k x a n = a ≡ x → ClosesAbove k a n

abbrev pub LowersAll : Known → List Account → Shown
LowersAll k xs a n = AllByRecursion (λ x. Lowers k x a n) xs

module _ (question : Question) (q : Quiet) where
  -- a contract keeps the floor, from what is known
  abbrev pub IsCovered : Known → ContractTree → Shown
  IsCovered k c a n = (i : Interval) (s : StateMaps) (ps : List Payment) → IsDescribed any_runs k i s ps → Nets question a.owner a.token n q i s (paid_to a.owner a.token ps) c

  abbrev pub AreCovered : Known → List ActionTree → CaseTrees → Shown
  AreCovered k earlier ks a n = (i : Interval) (s : StateMaps) (ps : List Payment) → IsDescribed any_runs k i s ps → NetsCases question a.owner a.token n q i s (paid_to a.owner a.token ps) earlier ks

  -- .. where something is known
  abbrev pub CoversIf : Option Known → ContractTree → Shown
  CoversIf o c a n = IfSome o (λ k. IsCovered k c a n)

  abbrev pub CoversNext : Option Known → Contract → Shown
  CoversNext o c = CoversIf o (contract_tree c)

  abbrev pub CoversBoth : Option Known → Contract → Option Known → Contract → Shown
  CoversBoth o c p d a n = CoversNext o c a n × CoversNext p d a n

  -- a When, and its cases where something is known
  abbrev pub CoversWhen : Known → List Case → ℤ → Contract → Shown
  CoversWhen k cases timeout then = IsCovered k (when (case_trees (map case_tree cases)) timeout (contract_tree then))

  abbrev pub CoversCasesIf : Option Known → CaseTrees → Shown
  CoversCasesIf o ks a n = IfSome o (λ k. AreCovered k [] ks a n)

  abbrev pub CoversEachIf : Option Known → List Case → Shown
  CoversEachIf o cases = CoversCasesIf o (case_trees (map case_tree cases))

  -- a case behind others, before whichever others
  abbrev pub CoversCase : Known → List ActionTree → Case → Shown
  CoversCase k earlier case a n =
      (rest : CaseTrees) → AreCovered k (action_tree case.action ∷ earlier) rest a n → AreCovered k earlier (case_then (action_tree case.action) (contract_tree case.then) rest) a n

  abbrev pub CoversBehind : Known → List Case → Case → Shown
  CoversBehind k earlier case = CoversCase k (actions_before earlier) case

  -- the case at an index
  abbrev pub CoversIndex : Known → List Case → ℕ → Shown
  CoversIndex k cases i a n = (case : Case) → case ≡ get_or cases i case → CoversCase k (actions_before (take i cases)) case a n

-- ---- what is told

-- a loss for a floor
abbrev pub IsTurned : Option ℤ → ℤ → Type 0
IsTurned least n = (pos 0 ≤ℤ n) × IsUnder least (neg_ℤ n)

-- each loss that is told is one for a floor
abbrev pub AreFloors : Rows → List Loss → Type 0
AreFloors rows losses = AllByRecursion (λ (l : Loss). IfSome l.most (λ n. IsFloor [] rows (account_of l.party l.token) (neg_ℤ n))) losses

-- the row of an account is told, unless it has no loss
pub record Tells (rows : Rows) (x : Account) (old new : List Loss) : Type 0 where
  pub kept : (p : Party) (t : Token) → IsUnnamed new p t → IsUnnamed old p t
  pub named : IsUnnamed new x.owner x.token → IsUnder (least_of (find account_cmp x rows)) (pos 0)
  pub floors : AreFloors rows old → AreFloors rows new

-- who isn't named has a floor of 0
abbrev pub NameAll : Rows → List Loss → Type 0
NameAll rows losses = (p : Party) (t : Token) → IsUnnamed losses p t → IsFloor [] rows (account_of p t) (pos 0)

-- what rows say of a party that keeps up
abbrev pub RowsHoldWhile : Bool → Party → List Account → Rows → StateMaps → ContractTree → Type 0
RowsHoldWhile net party asked rows s c = (t : Token) (n : ℤ) → IsFloor asked rows (account_of party t) n → HoldsWhile net party t n s c

-- each of these is told by such rows: what is paid at least, unless it is 0 or less, and what is lost at most
abbrev pub IsToldBy : Party → List Account → Rows → Rows → Kept → Type 0
IsToldBy party asked paid net k =
    ((k.least ≤ℤ pos 0) ⊎ IsFloor asked paid (account_of party k.token) k.least) × IfSome k.most (λ n. IsFloor asked net (account_of party k.token) (neg_ℤ n))

-- who isn't told has no row
abbrev pub TellsAllOf : Party → Rows → List Kept → Type 0
TellsAllOf party net all = (t : Token) → IsUntold all t → find account_cmp (account_of party t) net ≡ None

-- the row of an account is told, if it is of the party
pub record TellsOwn (party : Party) (asked : List Account) (paid net : Rows) (x : Account) (old new : List Kept) : Type 0 where
  pub kept : (t : Token) → IsUntold new t → IsUntold old t
  pub own : IsUntold new x.token → x.owner ≢ party
  pub told : AllByRecursion (IsToldBy party asked paid net) old → AllByRecursion (IsToldBy party asked paid net) new
