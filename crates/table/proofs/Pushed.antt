-- What a push has done, as the call sees it.
use Rattle.std.specs.Prelude.{◌≡◌, ℕ, ◌≤◌, List, [], ◌∷◌, ◌++◌, length}
use Rattle.std.proofs.Common.{sym, ◌∙◌, ap, subst, arith}
use Rattle.nodes.specs.declared.value_node.ValueNode.{ValueNode}
use Rattle.nodes.specs.declared.observation_node.ObservationNode.{ObservationNode}
use Rattle.nodes.specs.declared.case_node.CaseNode.{CaseNode}
use Rattle.nodes.specs.declared.cont_node.ContNode.{ContNode}
use Rattle.nodes.specs.declared.entry.Entry.{Entry}
use Rattle.table.specs.Flat.{Flat, value_of, observation_of, case_of, cont_of, trees, value_tree, observation_tree, case_tree, cont_tree}
use Rattle.table.specs.Flat.{a_value, an_observation, a_case, a_cont, value_parts, observation_parts, case_parts, cont_parts, AllStand, height_above, IsFlat}
use Rattle.table.specs.Heights.{value_height, observation_height, case_height, contract_height}
use Rattle.table.proofs.HeightLaws.{value_above, observation_above, case_above, cont_above, above_is}
use Rattle.table.specs.Pushing.{with_value, with_observation, with_case, with_cont}
use Rattle.table.proofs.PushingLaws.{Pushed, pushed_value, pushed_observation, pushed_case, pushed_cont}

-- the same, as a call sees it
pub pushed_value_by : (a f : Flat) (xs : List (Entry ValueNode)) (n : ValueNode) (h : ℕ) → a ≡ f → IsFlat a → AllStand f (value_parts n) → value_height (value_of (trees f) n) ≤ 999 →
    h ≡ height_above f (value_parts n) → xs ≡ a.values ++ record { node = n; height = h } ∷ [] →
    Pushed f (record a { values = xs }) (a_value (length f.values)) (value_tree (record a { values = xs }) (length f.values) ≡ value_of (trees f) n)
pushed_value_by a f xs n h e w s l k q =
    let v = subst IsFlat e w in
    let low : height_above f (value_parts n) ≤ 999 = omega (arith, l, above_is f (value_parts n) v s, value_above (trees f) n) in
    let same : with_value f n ≡ record a { values = xs } =
    sym (ap (λ (ys : List (Entry ValueNode)). let g : Flat = record a { values = ys } in g) q ∙ (λ i. record (e i) { values = (e i).values ++ record { node = n; height = k i } ∷ [] })) in
    subst (λ g. Pushed f g (a_value (length f.values)) (value_tree g (length f.values) ≡ value_of (trees f) n)) same (pushed_value f n v s low)

-- the same, as a call sees it
pub pushed_observation_by : (a f : Flat) (xs : List (Entry ObservationNode)) (n : ObservationNode) (h : ℕ) → a ≡ f → IsFlat a → AllStand f (observation_parts n) → observation_height (observation_of (trees f) n) ≤ 999 →
    h ≡ height_above f (observation_parts n) → xs ≡ a.observations ++ record { node = n; height = h } ∷ [] →
    Pushed f (record a { observations = xs }) (an_observation (length f.observations)) (observation_tree (record a { observations = xs }) (length f.observations) ≡ observation_of (trees f) n)
pushed_observation_by a f xs n h e w s l k q =
    let v = subst IsFlat e w in
    let low : height_above f (observation_parts n) ≤ 999 = omega (arith, l, above_is f (observation_parts n) v s, observation_above (trees f) n) in
    let same : with_observation f n ≡ record a { observations = xs } =
    sym (ap (λ (ys : List (Entry ObservationNode)). let g : Flat = record a { observations = ys } in g) q ∙ (λ i. record (e i) { observations = (e i).observations ++ record { node = n; height = k i } ∷ [] })) in
    subst (λ g. Pushed f g (an_observation (length f.observations)) (observation_tree g (length f.observations) ≡ observation_of (trees f) n)) same (pushed_observation f n v s low)

-- the same, as a call sees it
pub pushed_case_by : (a f : Flat) (xs : List (Entry CaseNode)) (n : CaseNode) (h : ℕ) → a ≡ f → IsFlat a → AllStand f (case_parts n) → case_height (case_of (trees f) n) ≤ 999 →
    h ≡ height_above f (case_parts n) → xs ≡ a.cases ++ record { node = n; height = h } ∷ [] →
    Pushed f (record a { cases = xs }) (a_case (length f.cases)) (case_tree (record a { cases = xs }) (length f.cases) ≡ case_of (trees f) n)
pushed_case_by a f xs n h e w s l k q =
    let v = subst IsFlat e w in
    let low : height_above f (case_parts n) ≤ 999 = omega (arith, l, above_is f (case_parts n) v s, case_above (trees f) n) in
    let same : with_case f n ≡ record a { cases = xs } =
    sym (ap (λ (ys : List (Entry CaseNode)). let g : Flat = record a { cases = ys } in g) q ∙ (λ i. record (e i) { cases = (e i).cases ++ record { node = n; height = k i } ∷ [] })) in
    subst (λ g. Pushed f g (a_case (length f.cases)) (case_tree g (length f.cases) ≡ case_of (trees f) n)) same (pushed_case f n v s low)

-- the same, as a call sees it
pub pushed_cont_by : (a f : Flat) (xs : List (Entry ContNode)) (n : ContNode) (h : ℕ) → a ≡ f → IsFlat a → AllStand f (cont_parts n) → contract_height (cont_of (trees f) n) ≤ 999 →
    h ≡ height_above f (cont_parts n) → xs ≡ a.conts ++ record { node = n; height = h } ∷ [] →
    Pushed f (record a { conts = xs }) (a_cont (length f.conts)) (cont_tree (record a { conts = xs }) (length f.conts) ≡ cont_of (trees f) n)
pushed_cont_by a f xs n h e w s l k q =
    let v = subst IsFlat e w in
    let low : height_above f (cont_parts n) ≤ 999 = omega (arith, l, above_is f (cont_parts n) v s, cont_above (trees f) n) in
    let same : with_cont f n ≡ record a { conts = xs } =
    sym (ap (λ (ys : List (Entry ContNode)). let g : Flat = record a { conts = ys } in g) q ∙ (λ i. record (e i) { conts = (e i).conts ++ record { node = n; height = k i } ∷ [] })) in
    subst (λ g. Pushed f g (a_cont (length f.conts)) (cont_tree g (length f.conts) ≡ cont_of (trees f) n)) same (pushed_cont f n v s low)
