-- Cases one by one: what was made so far, and what the rest makes after it.
use Rattle.std.proofs.Common.{◌≡◌, refl, ap, sym, ◌∙◌, ℕ, ◌+◌, ◌≤◌, ◌<◌, max, List, [], ◌∷◌, ◌++◌, map, length, drop, append_assoc, append-nil, arith, subst}
use Rattle.std.proofs.lemmas.List.{drop_more, drop_all}
use Rattle.std.proofs.Math.ListN.{get_or}
use Rattle.contract.specs.declared.tree.Case.{Case}
use Rattle.contract.specs.Tree.{action_tree, case_tree, case_trees, contract_tree, CaseTrees}
use Rattle.table.specs.Heights.{case_over, contract_height}
use Rattle.table.specs.Flat.{Flat, IsFlat}
use Rattle.lowering.specs.Sizes.{action_size, conts, conts_of, others, others_of}
use Rattle.lowering.specs.Code.{code_case, code_contract, code_cases}
use Rattle.lowering.specs.Building.{cases_height}
use Rattle.lowering.proofs.Trees.{code-first, high-first, conts-first, others-first}
use Rattle.lowering.proofs.Codes.{case-made}
use Rattle.table_builder.specs.Putting.{others_in}

abbrev forest : List Case → CaseTrees
forest ks = case_trees (map case_tree ks)

-- the table f was made from f0 by the first of all cases, with their numbers; the rest is still to come
pub record Progress (f0 f : Flat) (all rest : List Case) (ns : List ℕ) : Type 0 where
  pub code : (code_cases (case_trees (map case_tree rest)) f).0 ≡ (code_cases (case_trees (map case_tree all)) f0).0
  pub number : ns ++ (code_cases (case_trees (map case_tree rest)) f).1 ≡ (code_cases (case_trees (map case_tree all)) f0).1
  pub flat : IsFlat f
  pub others : others_in f + others_of (case_trees (map case_tree rest)) ≤ others_in f0 + others_of (case_trees (map case_tree all))
  pub conts : length f.conts + conts_of (case_trees (map case_tree rest)) ≤ length f0.conts + conts_of (case_trees (map case_tree all))
  pub fewer : conts_of (case_trees (map case_tree rest)) ≤ conts_of (case_trees (map case_tree all))
  pub low : cases_height (case_trees (map case_tree rest)) ≤ 998

pub progress-start : (f0 : Flat) (all : List Case) → IsFlat f0 → cases_height (case_trees (map case_tree all)) ≤ 998 → Progress f0 f0 all all []
progress-start f0 all i l = record {
  code = refl;
  number = refl;
  flat = i;
  others = omega arith;
  conts = omega arith;
  fewer = omega arith;
  low = l;
}

-- one more case
pub progress-step : (f0 f g : Flat) (all rest : List Case) (k : Case) (ns : List ℕ) (e : ℕ)
    → Progress f0 f all (k ∷ rest) ns
    → g ≡ (code_case (action_tree k.action) (code_contract (contract_tree k.then)) f).0
    → e ≡ (code_case (action_tree k.action) (code_contract (contract_tree k.then)) f).1
    → Progress f0 g all rest (ns ++ e ∷ [])
progress-step f0 f g all rest k ns e p made number =
    let m = case-made (action_tree k.action) (contract_tree k.then) f p.flat (omega (arith, p.low, high-first k rest)) in
    record {
      code = ap (λ (x : Flat). (code_cases (forest rest) x).0) made ∙ (ap (λ (y : Flat × List ℕ). y.0) (sym (code-first k rest f)) ∙ p.code);
      number = append_assoc ns (e ∷ []) _ ∙ ((λ i. ns ++ (number i ∷ (code_cases (forest rest) (made i)).1)) ∙ (ap (λ (y : Flat × List ℕ). ns ++ y.1) (sym (code-first k rest f)) ∙ p.number));
      flat = subst IsFlat (sym made) m.flat;
      others = omega (arith, p.others, m.others, ap others_in made, others-first k rest);
      conts = omega (arith, p.conts, m.conts, ap (λ (x : Flat). length x.conts) made, conts-first k rest);
      fewer = omega (arith, p.fewer, conts-first k rest);
      low = omega (arith, p.low, high-first k rest);
    }

pub progress-at : (f0 f : Flat) (all items : List Case) (i : ℕ) (k : Case) (ns : List ℕ) → Progress f0 f all (drop i items) ns → i < length items → k ≡ get_or items i k → Progress f0 f all (k ∷ drop (i + 1) items) ns
progress-at f0 f all items i k ns p l is =
    subst (λ (ks : List Case). Progress f0 f all ks ns) (drop_more items i k l ∙ ap (λ (x : Case). x ∷ drop (i + 1) items) (sym is)) p

-- nothing is left
pub record Done (f0 f : Flat) (all : List Case) (ns : List ℕ) : Type 0 where
  pub code : f ≡ (code_cases (case_trees (map case_tree all)) f0).0
  pub number : ns ≡ (code_cases (case_trees (map case_tree all)) f0).1

progress-done : (f0 f : Flat) (all : List Case) (ns : List ℕ) → Progress f0 f all [] ns → Done f0 f all ns
unfolding code_contract
progress-done f0 f all ns p = record { code = p.code; number = sym (append-nil ns) ∙ p.number }

pub progress-end : (f0 f : Flat) (all items : List Case) (i : ℕ) (ns : List ℕ) → Progress f0 f all (drop i items) ns → length items ≤ i → Done f0 f all ns
progress-end f0 f all items i ns p l = progress-done f0 f all ns (subst (λ (ks : List Case). Progress f0 f all ks ns) (drop_all i items l) p)

-- ---- the rest of a list of cases, one step on and at the end

next : (items : List Case) (i : ℕ) (k : Case) → i < length items → k ≡ get_or items i k → drop i items ≡ k ∷ drop (i + 1) items
next items i k l is = drop_more items i k l ∙ ap (λ (x : Case). x ∷ drop (i + 1) items) (sym is)

pub conts-next : (items : List Case) (i : ℕ) (k : Case) → i < length items → k ≡ get_or items i k → conts_of (case_trees (map case_tree (drop i items))) ≡ conts (contract_tree k.then) + conts_of (case_trees (map case_tree (drop (i + 1) items)))
conts-next items i k l is = ap (λ (ks : List Case). conts_of (forest ks)) (next items i k l is) ∙ conts-first k _

pub others-next : (items : List Case) (i : ℕ) (k : Case) → i < length items → k ≡ get_or items i k → others_of (case_trees (map case_tree (drop i items))) ≡ 1 + action_size (action_tree k.action) + others (contract_tree k.then) + others_of (case_trees (map case_tree (drop (i + 1) items)))
others-next items i k l is = ap (λ (ks : List Case). others_of (forest ks)) (next items i k l is) ∙ others-first k _

pub high-next : (items : List Case) (i : ℕ) (k : Case) → i < length items → k ≡ get_or items i k → cases_height (case_trees (map case_tree (drop i items))) ≡ max (case_over (action_tree k.action) (contract_height (contract_tree k.then))) (cases_height (case_trees (map case_tree (drop (i + 1) items))))
high-next items i k l is = ap (λ (ks : List Case). cases_height (forest ks)) (next items i k l is) ∙ high-first k _

pub conts-end : (items : List Case) (i : ℕ) → length items ≤ i → conts_of (case_trees (map case_tree (drop i items))) ≡ 0
unfolding conts
conts-end items i l = ap (λ (ks : List Case). conts_of (forest ks)) (drop_all i items l)

pub others-end : (items : List Case) (i : ℕ) → length items ≤ i → others_of (case_trees (map case_tree (drop i items))) ≡ 0
unfolding others
others-end items i l = ap (λ (ks : List Case). others_of (forest ks)) (drop_all i items l)

pub high-end : (items : List Case) (i : ℕ) → length items ≤ i → cases_height (case_trees (map case_tree (drop i items))) ≡ 0
high-end items i l = ap (λ (ks : List Case). cases_height (forest ks)) (drop_all i items l)

pub ruleset rests = (conts-next, others-next, high-next, conts-end, others-end, high-end)
