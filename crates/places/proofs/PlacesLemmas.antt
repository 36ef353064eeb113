-- The way to a place.
use Rattle.std.proofs.Common.{◌≡◌, ℕ, zero, suc, ◌+◌, ◌<◌, ◌≤◌, List, [], ◌∷◌, ◌++◌, map, drop, length, refl, sym, ap, ◌∙◌, subst, append_assoc, Some, None, arith}
use Rattle.std.proofs.Math.ListN.{get_or}
use Rattle.std.proofs.lemmas.List.{drop_more, drop_all, get_or_default}
use Rattle.std.proofs.lemmas.List.Concat.{flat_map-cons}
use Rattle.std.proofs.lemmas.Option.{option_and_then_some}
use Rattle.contract.specs.declared.tree.Case.{Case}
use Rattle.contract.specs.Tree.{ActionTree, ContractTree, action_tree, case_tree, case_trees}
use Rattle.contract.proofs.TreeLaws.{case_tree-parts}
use Rattle.analysis_spec.specs.declared.path.PathStep.{PathStep}
use Rattle.analysis_spec.specs.Places.{part_behind}
use Rattle.places.specs.declared.key.Key.{Key}
use Rattle.places.specs.Places.{step_keys, path_keys, form_key, action_key, case_key, last_key, keys_behind, keys_of}
use Rattle.places.specs.Laws.{part_at, PlacesBeginWithTheirPaths}

-- the key of the action of a case
pub case_key_at : (cs : List Case) (i : ℕ) (k : Case) → i < length cs → k ≡ get_or cs i k → case_key (case_trees (map case_tree cs)) i ≡ action_key (action_tree k.action) ∷ []
case_key_at [] i k l is = absurd (omega arith)
case_key_at (x ∷ cs) zero k l is = ap (λ (z : ActionTree × ContractTree). action_key z.0 ∷ []) (case_tree-parts x) ∙ ap (λ (c : Case). action_key (action_tree c.action) ∷ []) (sym is)
case_key_at (x ∷ cs) (suc i) k l is = case_key_at cs i k (omega arith) is

pub case_key_over : (cs : List Case) (i : ℕ) → length cs ≤ i → case_key (case_trees (map case_tree cs)) i ≡ []
case_key_over [] i l = refl
case_key_over (x ∷ cs) zero l = absurd (omega arith)
case_key_over (x ∷ cs) (suc i) l = case_key_over cs i (omega arith)

-- what is left of the way, and the keys so far
abbrev pub Leads : List PathStep → ContractTree → List Key → List PathStep → ContractTree → Type 0
Leads place c keys rest at = keys ++ keys_of rest at ≡ keys_of place c

pub leads_on : (place : List PathStep) (c : ContractTree) (keys : List Key) (step : PathStep) (rest : List PathStep) (at part : ContractTree) (more : List Key) → part_behind at step ≡ Some part → more ≡ keys ++ step_keys step
    → Leads place c keys (step ∷ rest) at → Leads place c more rest part
leads_on place c keys step rest at part more e q h =
    ap (λ ks. ks ++ keys_of rest part) q ∙ append_assoc keys (step_keys step) (keys_of rest part) ∙ ap (λ o. keys ++ (step_keys step ++ keys_behind (keys_of rest) (last_key at step) o)) (sym e) ∙ h

pub leads_off : (place : List PathStep) (c : ContractTree) (keys : List Key) (step : PathStep) (rest : List PathStep) (at : ContractTree) (more all : List Key) → part_behind at step ≡ None → more ≡ keys ++ step_keys step
    → all ≡ more ++ last_key at step → Leads place c keys (step ∷ rest) at → all ≡ keys_of place c
leads_off place c keys step rest at more all e q r h =
    r ∙ ap (λ ks. ks ++ last_key at step) q ∙ append_assoc keys (step_keys step) (last_key at step) ∙ ap (λ o. keys ++ (step_keys step ++ keys_behind (keys_of rest) (last_key at step) o)) (sym e) ∙ h

-- the next step
next_step : (place : List PathStep) (i : ℕ) (step : PathStep) → i < length place → step ≡ get_or place i step → drop i place ≡ step ∷ drop (i + 1) place
next_step place i step l is = drop_more place i step l ∙ ap (λ (s : PathStep). s ∷ drop (i + 1) place) (sym is)

module _ (place : List PathStep) (c : ContractTree) (keys : List Key) (i : ℕ) (step : PathStep) (at : ContractTree) (l : i < length place) (is : step ≡ get_or place i step) (h : Leads place c keys (drop i place) at) where
  pub goes_on : (part : ContractTree) (more : List Key) → part_behind at step ≡ Some part → more ≡ keys ++ step_keys step → Leads place c more (drop (i + 1) place) part
  goes_on part more e q = leads_on place c keys step (drop (i + 1) place) at part more e q (subst (λ (rest : List PathStep). Leads place c keys rest at) (next_step place i step l is) h)

  pub leaves : (more all : List Key) → part_behind at step ≡ None → more ≡ keys ++ step_keys step → all ≡ more ++ last_key at step → all ≡ keys_of place c
  leaves more all e q r = leads_off place c keys step (drop (i + 1) place) at more all e q r (subst (λ (rest : List PathStep). Leads place c keys rest at) (next_step place i step l is) h)

-- the same of a step that is copied out of the way
module _ (place : List PathStep) (c : ContractTree) (keys : List Key) (i : ℕ) (d : PathStep) (at : ContractTree) (l : i < length place) (h : Leads place c keys (drop i place) at) where
  pub goes_on_at : (part : ContractTree) (more : List Key) → part_behind at (get_or place i d) ≡ Some part → more ≡ keys ++ step_keys (get_or place i d) → Leads place c more (drop (i + 1) place) part
  goes_on_at part more e q = goes_on place c keys i (get_or place i d) at l (get_or_default place i d (get_or place i d) l) h part more e q

  pub leaves_at : (more all : List Key) → part_behind at (get_or place i d) ≡ None → more ≡ keys ++ step_keys (get_or place i d) → all ≡ more ++ last_key at (get_or place i d) → all ≡ keys_of place c
  leaves_at more all e q r = leaves place c keys i (get_or place i d) at l (get_or_default place i d (get_or place i d) l) h more all e q r

-- the form that stands at the place
pub arrives : (place : List PathStep) (c : ContractTree) (keys : List Key) (i : ℕ) (at : ContractTree) (all : List Key) → length place ≤ i → Leads place c keys (drop i place) at → all ≡ keys ++ form_key at ∷ [] → all ≡ keys_of place c
arrives place c keys i at all l h e = e ∙ subst (λ (rest : List PathStep). Leads place c keys rest at) (drop_all i place l) h

-- ---- where a path leads to a part

pub places_begin : PlacesBeginWithTheirPaths
places_begin c d [] e = let same : c ≡ d = cc in ap (λ (x : ContractTree). let ks : List Key = form_key x ∷ [] in ks) same
places_begin c d (step ∷ path) e =
    option_and_then_some
    (λ part. part_at part path)
    (part_behind c step)
    d
    e
    (λ part is led. ap (λ o. step_keys step ++ keys_behind (keys_of path) (last_key c step) o) is
    ∙ ap (λ ks. step_keys step ++ ks) (places_begin part d path led)
    ∙ sym (append_assoc (step_keys step) (path_keys path) (form_key d ∷ []))
    ∙ ap (λ ks. ks ++ form_key d ∷ []) (sym (flat_map-cons step_keys step path)))
