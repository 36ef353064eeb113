-- A transaction by its small steps: reductions, and inputs that take a case (Marlowe specification version 3, "Reduce contract step" and
-- "Apply cases").
use Rattle.std.specs.Prelude.{◌≡◌, ℕ, ℤ, true, List, [], ◌∷◌, map, flat_map, slice_get, Some}
use Rattle.contract.specs.declared.input.Input.{Input}
use Rattle.contract.specs.declared.interval.Interval.{Interval}
use Rattle.contract.specs.Tree.{ActionTree, ContractTree}
use Rattle.semantics.specs.Evaluation.Numbers.{all_fit}
use Rattle.semantics.specs.Evaluation.Path.{waits_for}
use Rattle.semantics.specs.Walk.{Turn, in_case, Standing, standing}
use Rattle.semantics.specs.Reduction.{Reduction, Reduces, Quiet}
use Rattle.semantics.specs.Applying.{taken, taken_numbers}
use Rattle.next_inputs.specs.Taking.{taken_case}
use Rattle.analysis_spec.specs.declared.path.PathStep.{PathStep}
use Rattle.analysis_spec.specs.Marks.{led}

-- a reduction, or an input that takes the case at an index
pub data Move : Type 0 where
  reduces : Reduction → Move
  takes : Input → ℕ → ActionTree × ContractTree → Move

-- a contract reduces so, and no number leaves 128 bits
pub record IsReduced (j : Interval) (a : Standing) (r : Reduction) : Type 0 where
  pub reduces : Reduces j a.state a.contract r
  pub fits : all_fit r.numbers ≡ true

-- where a contract waits, an input takes this case at an index, and no number leaves 128 bits
pub record IsTaken (j : Interval) (a : Standing) (x : Input) (n : ℕ) (k : ActionTree × ContractTree) : Type 0 where
  pub waits : Quiet j a.state a.contract
  pub takes : taken_case j a.state x (waits_for a.contract) ≡ Some n
  pub case : slice_get (waits_for a.contract) n ≡ Some k
  pub fits : all_fit (taken_numbers a.state x) ≡ true

-- moves, each from where the one before it ended
abbrev pub Moves : Interval → Standing → List Move → Standing → Type 0
Moves j a [] b = b ≡ a
Moves j a (reduces r ∷ ms) b = IsReduced j a r × Moves j (standing r.state r.contract) ms b
Moves j a (takes x n k ∷ ms) b = IsTaken j a x n k × Moves j (standing (taken a.state x) k.1) ms b

abbrev pub turn_by : Move → Turn
turn_by (reduces r) = r.turn
turn_by (takes x n k) = in_case n

abbrev pub input_by : Move → List Input
input_by (reduces r) = []
input_by (takes x n k) = x ∷ []

-- moves that take these inputs, and no others, lead from a place of a contract to another
pub record Comes (j : Interval) (front : List Input) (here : List PathStep) (a : Standing) (there : List PathStep) (b : Standing) : Type 0 where
  pub moves : List Move
  pub runs : Moves j a moves b
  pub inputs : flat_map input_by moves ≡ front
  pub path : there ≡ led here (map turn_by moves)
