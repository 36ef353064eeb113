-- Moves, one after another.
use Rattle.std.proofs.Common.{◌≡◌, ℕ, Bool, true, false, ◌&&◌, List, [], ◌∷◌, ◌++◌, map, refl, sym, ap, ◌∙◌, subst, Result, Some}
use Rattle.std.specs.Prelude.{flat_map, slice_get}
use Rattle.std.proofs.lemmas.Grind.{flat_map-append}
use Rattle.std.proofs.lemmas.List.{map-append}
use Rattle.contract.specs.declared.fault.SemFault.{SemFault}
use Rattle.contract.specs.declared.input.Input.{Input}
use Rattle.contract.specs.declared.interval.Interval.{Interval}
use Rattle.contract.specs.Tree.{ActionTree, ContractTree}
use Rattle.semantics.specs.Evaluation.Numbers.{all_fit}
use Rattle.semantics.proofs.FromEvaluation.Numbers.{all_fit_append}
use Rattle.semantics.specs.Walk.{Standing, standing, Walk}
use Rattle.semantics.specs.Reduction.{Reduction}
use Rattle.semantics.specs.Applying.{taken}
use Rattle.semantics.specs.Settling.{Runs, reduction_then, walk_through}
use Rattle.analysis_spec.specs.declared.path.PathStep.{PathStep}
use Rattle.analysis_spec.specs.declared.path.PathStep.TheVariants.{Case}
use Rattle.analysis_spec.specs.Marks.{led}
use Rattle.trace.proofs.SteppingLemmas.{led_more}
use Rattle.explain_transactions.specs.Moves.{Move, reduces, takes, IsReduced, IsTaken, Moves, turn_by, input_by, Comes}

-- ---- one list of moves and then another

pub moves_then : (j : Interval) (a b d : Standing) (ms ns : List Move) → Moves j a ms b → Moves j b ns d → Moves j a (ms ++ ns) d
moves_then j a b d [] ns h k = subst (λ (x : Standing). Moves j x ns d) h k
moves_then j a b d (reduces r ∷ ms) ns h k = (h.0, moves_then j (standing r.state r.contract) b d ms ns h.1 k)
moves_then j a b d (takes x n c ∷ ms) ns h k = (h.0, moves_then j (standing (taken a.state x) c.1) b d ms ns h.1 k)

pub comes_then : (j : Interval) (xs ys : List Input) (p q u : List PathStep) (a b d : Standing) → Comes j xs p a q b → Comes j ys q b u d → Comes j (xs ++ ys) p a u d
comes_then j xs ys p q u a b d h k = record {
  moves = h.moves ++ k.moves;
  runs = moves_then j a b d h.moves k.moves h.runs k.runs;
  inputs = flat_map-append input_by h.moves k.moves ∙ (ap (λ zs. zs ++ flat_map input_by k.moves) h.inputs ∙ ap (λ zs. xs ++ zs) k.inputs);
  path = k.path
      ∙ (ap (λ z. led z (map turn_by k.moves)) h.path ∙ (sym (led_more p (map turn_by h.moves) (map turn_by k.moves)) ∙ ap (led p) (sym (map-append turn_by h.moves k.moves))));
}

-- nothing is done
pub comes_nowhere : (j : Interval) (p : List PathStep) (a : Standing) → Comes j [] p a p a
comes_nowhere j p a = record { moves = []; runs = refl; inputs = refl; path = refl }

-- one input is taken
pub comes_by_input : (j : Interval) (p : List PathStep) (a : Standing) (x : Input) (n : ℕ) (k : ActionTree × ContractTree) → IsTaken j a x n k → Comes j (x ∷ []) p a (p ++ Case n ∷ []) (standing (taken a.state x) k.1)
comes_by_input j p a x n k h = record { moves = takes x n k ∷ []; runs = (h, refl); inputs = refl; path = refl }

-- ---- reductions are moves

pub both_true : (b d : Bool) → b && d ≡ true → (b ≡ true) × (d ≡ true)
both_true true d h = (refl, h)
both_true false d h = absurd (cc)

pub runs_moves : (j : Interval) (a : Standing) (rs : List Reduction) (b : Standing) (end : Result Standing SemFault) → Runs j a rs b → all_fit (walk_through rs end).numbers ≡ true → Moves j a (map (λ r. reduces r) rs) b
runs_moves j a [] b end h k = h
runs_moves j a (r ∷ rs) b end h k =
    let w = walk_through rs end in
    let f = both_true (all_fit r.numbers) (all_fit w.numbers) (sym (all_fit_append r.numbers w.numbers) ∙ k) in
    (record { reduces = h.0; fits = f.0 }, runs_moves j (standing r.state r.contract) rs b end h.1 f.1)

pub no_inputs : (rs : List Reduction) → flat_map input_by (map (λ r. reduces r) rs) ≡ []
no_inputs [] = refl
no_inputs (r ∷ rs) = no_inputs rs

pub turns_same : (rs : List Reduction) (end : Result Standing SemFault) → map turn_by (map (λ r. reduces r) rs) ≡ (walk_through rs end).turns
turns_same [] end = refl
turns_same (r ∷ rs) end = ap (λ ts. r.turn ∷ ts) (turns_same rs end)
