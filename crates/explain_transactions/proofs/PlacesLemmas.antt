-- Places that are told are where the contract stands.
use Rattle.std.proofs.Common.{◌≡◌, ℕ, Bool, true, false, cond, List, [], ◌∷◌, ◌++◌, map, refl, sym, ap, ◌∙◌, inl, inr, Option, Some, None}
use Rattle.std.specs.Prelude.{slice_get, option_map}
use Rattle.std.specs.Option.{option_and_then}
use Rattle.contract.specs.declared.interval.Interval.{Interval}
use Rattle.contract.specs.Tree.{ActionTree, ContractTree, close, pay, if_obs, when, let_be, assert}
use Rattle.contract.specs.States.States.{StateMaps}
use Rattle.semantics.specs.Evaluation.Evaluation.{holds}
use Rattle.semantics.specs.Evaluation.Path.{part, along, waits_for}
use Rattle.semantics.specs.Walk.{Turn, in_case, then_branch, else_branch, Standing, standing}
use Rattle.semantics.specs.Reduction.{Reduction, Reduces}
use Rattle.semantics.specs.Applying.{taken}
use Rattle.trace.proofs.PathsLemmas.{turns_lead}
use Rattle.explain_transactions.specs.Moves.{Move, reduces, takes, Moves, turn_by}
use Rattle.explain_transactions.specs.Laws.{PlacesStand}

leads_by : (c : ContractTree) (r q : Reduction) → r ≡ q → part c q.turn ≡ Some q.contract → part c r.turn ≡ Some r.contract
leads_by c r q e h = ap (λ (x : Reduction). part c x.turn) e ∙ (h ∙ ap (λ (x : Reduction). let o : Option ContractTree = Some x.contract in o) (sym e))

reduction_leads : (i : Interval) (s : StateMaps) (c : ContractTree) (r : Reduction) → Reduces i s c r → part c r.turn ≡ Some r.contract
reduction_leads i s close r h = leads_by close r _ h.2 refl
reduction_leads i s (pay p y t v c) r (inl h) = leads_by (pay p y t v c) r _ h.1 refl
reduction_leads i s (pay p y t v c) r (inr h) = leads_by (pay p y t v c) r _ h.1 refl
reduction_leads i s (if_obs o c d) r h = leads_by (if_obs o c d) r _ h (by (holds i s o))
  where
    by : (b : Bool) → part (if_obs o c d) (cond b then_branch else_branch) ≡ Some (cond b c d)
    by true = refl
    by false = refl
reduction_leads i s (when ks t c) r h = leads_by (when ks t c) r _ h.1 refl
reduction_leads i s (let_be x v c) r h = leads_by (let_be x v c) r _ h refl
reduction_leads i s (assert o c) r h = leads_by (assert o c) r _ h refl

case_leads : (c : ContractTree) (n : ℕ) (k : ActionTree × ContractTree) → slice_get (waits_for c) n ≡ Some k → part c (in_case n) ≡ Some k.1
case_leads close n k h = absurd (cc)
case_leads (pay p y t v c) n k h = absurd (cc)
case_leads (if_obs o c d) n k h = absurd (cc)
case_leads (when ks t c) n k h = ap (option_map (λ (q : ActionTree × ContractTree). q.1)) h
case_leads (let_be x v c) n k h = absurd (cc)
case_leads (assert o c) n k h = absurd (cc)

one_turn : (c d : ContractTree) (t : Turn) (ts : List Turn) → part c t ≡ Some d → along c (t ∷ ts) ≡ along d ts
one_turn c d t ts h = ap (option_and_then (λ e. along e ts)) h

moves_lead : (j : Interval) (a : Standing) (ms : List Move) (b : Standing) → Moves j a ms b → along a.contract (map turn_by ms) ≡ Some b.contract
moves_lead j a [] b h = ap (λ (x : Standing). let o : Option ContractTree = Some x.contract in o) (sym h)
moves_lead j a (reduces r ∷ ms) b h =
    one_turn a.contract r.contract r.turn (map turn_by ms) (reduction_leads j a.state a.contract r h.0.reduces) ∙ moves_lead j (standing r.state r.contract) ms b h.1
moves_lead j a (takes x n k ∷ ms) b h =
    one_turn a.contract k.1 (in_case n) (map turn_by ms) (case_leads a.contract n k h.0.case) ∙ moves_lead j (standing (taken a.state x) k.1) ms b h.1

pub places_stand : PlacesStand
places_stand i s c xs front rest place there r = rw r.comes.path (turns_lead c c [] (map turn_by r.comes.moves) there.contract refl (moves_lead _ _ r.comes.moves there r.comes.runs))
