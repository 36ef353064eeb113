-- The part at a place.
use Rattle.std.proofs.Common.{◌≡◌, ℕ, zero, suc, ◌+◌, ◌<◌, ◌≤◌, List, [], ◌∷◌, map, drop, length, refl, sym, ap, ◌∙◌, subst, Option, Some, None, arith}
use Rattle.std.proofs.Math.ListN.{get_or}
use Rattle.std.proofs.lemmas.List.{drop_more, drop_all}
use Rattle.contract.specs.declared.tree.Case.{Case}
use Rattle.contract.specs.Tree.{ActionTree, ContractTree, action_tree, contract_tree, case_tree, case_trees}
use Rattle.contract.proofs.TreeLaws.{case_tree-parts}
use Rattle.analysis_spec.specs.declared.alarm.Alarm.{Alarm}
use Rattle.analysis_spec.specs.declared.path.PathStep.{PathStep}
use Rattle.analysis_spec.specs.Places.{part_behind}
use Rattle.alike_alarms.specs.declared.parts.Part as parts
use Rattle.alike_alarms.specs.Alike.{Part, whole, of_action, case_at, case_of, behind, part_at, AreAlike}
use Rattle.alike_alarms.specs.AlikeSupport.{part_of}

-- the case at an index
pub case_there : (ks : List Case) (i : ℕ) (k : Case) → i < length ks → k ≡ get_or ks i k → Some (of_action (action_tree k.action) (contract_tree k.then)) ≡ case_at (case_trees (map case_tree ks)) i
case_there [] i k l is = absurd (omega arith)
case_there (x ∷ ks) zero k l is =
    ap (λ (c : Case). let o : Option Part = Some (of_action (action_tree c.action) (contract_tree c.then)) in o) is
    ∙ sym (ap (λ (z : ActionTree × ContractTree). let o : Option Part = Some (of_action z.0 z.1) in o) (case_tree-parts x))
case_there (x ∷ ks) (suc i) k l is = case_there ks i k (omega arith) is

pub case_over : (ks : List Case) (i : ℕ) → length ks ≤ i → None ≡ case_at (case_trees (map case_tree ks)) i
case_over [] i l = refl
case_over (x ∷ ks) zero l = absurd (omega arith)
case_over (x ∷ ks) (suc i) l = case_over ks i (omega arith)

-- a part to which the rest of a place leads
abbrev pub LeadsTo : List PathStep → ContractTree → List PathStep → ContractTree → Type 0
LeadsTo place c rest at = part_at rest at ≡ part_at place c

module _ (place : List PathStep) (c : ContractTree) (i : ℕ) (d : PathStep) (at : ContractTree) (l : i < length place) (h : LeadsTo place c (drop i place) at) where
  opened : LeadsTo place c (get_or place i d ∷ drop (i + 1) place) at
  opened = subst (λ (rest : List PathStep). LeadsTo place c rest at) (drop_more place i d l) h

  pub goes_on : (part : ContractTree) → part_behind at (get_or place i d) ≡ Some part → LeadsTo place c (drop (i + 1) place) part
  goes_on part e = ap (λ o. behind (part_at (drop (i + 1) place)) (case_of at (get_or place i d)) o) (sym e) ∙ opened

  pub leaves : part_behind at (get_or place i d) ≡ None → case_of at (get_or place i d) ≡ part_at place c
  leaves e = ap (λ o. behind (part_at (drop (i + 1) place)) (case_of at (get_or place i d)) o) (sym e) ∙ opened

pub arrives : (place : List PathStep) (c : ContractTree) (i : ℕ) (at : ContractTree) → length place ≤ i → LeadsTo place c (drop i place) at → Some (whole at) ≡ part_at place c
arrives place c i at l h = subst (λ (rest : List PathStep). LeadsTo place c rest at) (drop_all i place l) h

-- two parts that are the same
pub alike_at : (c : ContractTree) (a b : Alarm) (x y : parts.Part) → a.kind ≡ b.kind → Some (part_of x) ≡ part_at a.place c → Some (part_of y) ≡ part_at b.place c → part_of x ≡ part_of y → AreAlike c a b
alike_at c a b x y k e f g = record { kind = k; part = part_of x; here = sym e; there = sym f ∙ ap (λ p. let o : Option Part = Some p in o) (sym g) }
