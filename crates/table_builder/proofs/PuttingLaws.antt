-- What a put has done, for the proofs of this crate and those above it: the number that it gives stands in the table that it
-- gives, for the node over what stood before; every older number keeps its tree; and one node is made at most.
use Rattle.std.specs.Prelude.{◌≡◌, ℕ, suc, zero, ◌+◌, ◌<◌, ◌≤◌, pos, List, [], ◌∷◌, Option, Some, None, length, refl, option_map}
use Rattle.std.proofs.Common.{sym, ap, ◌∙◌, arith, length-append}
use Rattle.std.proofs.Math.ListN.{get_or}
use Rattle.std.proofs.lemmas.List.Quantifiers.{position-Some}
use base.Stored.{Coded}
use Rattle.table.specs.Collections.Same.{same_by}
use Rattle.table.proofs.FromCollections.SameLaws.{same_by_decides}
use Rattle.table.specs.Nodes.declared.entry.Entry.{Entry}
use Rattle.table.specs.Nodes.declared.cont.Cont.{Cont}
use Rattle.table.specs.Nodes.declared.value_node.ValueNode.{ValueNode}
use Rattle.table.specs.Nodes.declared.value_node.ValueNode.TheVariants.{Constant}
use Rattle.table.specs.Nodes.declared.observation_node.ObservationNode.{ObservationNode}
use Rattle.table.specs.Nodes.declared.observation_node.ObservationNode.TheVariants.{TrueObs}
use Rattle.table.specs.Nodes.declared.case_node.CaseNode.{CaseNode}
use Rattle.table.specs.Nodes.declared.case_node.CaseNode.TheVariants.{Notify}
use Rattle.table.specs.Nodes.declared.cont_node.ContNode.{ContNode}
use Rattle.table.specs.Nodes.declared.cont_node.ContNode.TheVariants.{Close}
use Rattle.table.specs.Nodes.contracts.value_node.ValueNode as value
use Rattle.table.specs.Nodes.contracts.observation_node.ObservationNode as observation
use Rattle.table.specs.Nodes.contracts.case_node.CaseNode as case
use Rattle.table.specs.Nodes.contracts.cont_node.ContNode as cont
use Rattle.table.specs.Flat.{Flat, Trees, trees, value_of, observation_of, case_of, cont_of, value_tree, observation_tree, case_tree, cont_tree}
use Rattle.table.specs.Flat.{Part, a_value, an_observation, a_case, a_cont, value_parts, observation_parts, case_parts, cont_parts, Stands, AllStand, height_above, IsFlat, Agrees}
use Rattle.table.specs.LevelLaws.{tree_is}
use Rattle.table.specs.Pushing.{with_value, with_observation, with_case, with_cont}
use Rattle.table.proofs.PushingLaws.{Pushed, pushed_value, pushed_observation, pushed_case, pushed_cont}
use Rattle.table_builder.specs.Putting.{nodes_of, standing, found_or, put_value, put_observation, put_case, put_cont, others_in}

-- ---- a number that is found

length-nodes_of : {N : Type 0} (es : List (Entry N)) → length (nodes_of es) ≡ length es
length-nodes_of [] = refl
length-nodes_of (e ∷ es) = cc (length-nodes_of es)

node_at : {N : Type 0} (es : List (Entry N)) (k : ℕ) (d : Entry N) → get_or (nodes_of es) k d.node ≡ (get_or es k d).node
node_at [] k d = refl
node_at (e ∷ es) zero d = refl
node_at (e ∷ es) (suc k) d = node_at es k d

-- the node that is found is the one that was sought
record Found {N : Type 0} (es : List (Entry N)) (n : N) (k : ℕ) (d : Entry N) : Type 0 where
  pub stands : k < length es
  pub same : (get_or es k d).node ≡ n

found : {N : Type 0} (c : Coded N) (es : List (Entry N)) (n : N) (k : ℕ) (d : Entry N) → standing c es n ≡ Some k → Found es n k d
found c es n k d s =
    let p = position-Some (same_by c n) (nodes_of es) k d.node s in
    record { stands = omega (arith, p.0, length-nodes_of es); same = sym ((same_by_decides c n _).0 p.1 ∙ node_at es k d) }

agrees_with_itself : (t : Trees) (p : Part) → Agrees t t p
agrees_with_itself t (a_value k) = refl
agrees_with_itself t (an_observation k) = refl
agrees_with_itself t (a_case k) = refl
agrees_with_itself t (a_cont k) = refl

-- a table where nothing was made
found_there : (f : Flat) (p : Part) (TreeIsNode : Type 0) → IsFlat f → Stands f p → TreeIsNode → Pushed f f p TreeIsNode
found_there f p T w s t = record { flat = w; stands = s; keeps = record { flat = w; stands = λ q i. i; keeps = λ q i. agrees_with_itself (trees f) q }; tree = t }

-- ---- each put, by what was found

module _ (f : Flat) (w : IsFlat f) where
  value_by : (n : ValueNode) (o : Option ℕ) → standing value.the_row.coded f.values n ≡ o → AllStand f (value_parts n) → height_above f (value_parts n) ≤ 999 →
      (let g = found_or f o (with_value f n, length f.values) in Pushed f g.0 (a_value g.1) (value_tree g.0 g.1 ≡ value_of (trees f) n))
  value_by n None e s l = pushed_value f n w s l
  value_by n (Some k) e s l =
      let h = found value.the_row.coded f.values n k (record { node = Constant (pos 0); height = 0 }) e in
      found_there f (a_value k) _ w h.stands (tree_is f (a_value k) w h.stands ∙ ap (value_of (trees f)) h.same)

  observation_by : (n : ObservationNode) (o : Option ℕ) → standing observation.the_row.coded f.observations n ≡ o → AllStand f (observation_parts n) → height_above f (observation_parts n) ≤ 999 →
      (let g = found_or f o (with_observation f n, length f.observations) in Pushed f g.0 (an_observation g.1) (observation_tree g.0 g.1 ≡ observation_of (trees f) n))
  observation_by n None e s l = pushed_observation f n w s l
  observation_by n (Some k) e s l =
      let h = found observation.the_row.coded f.observations n k (record { node = TrueObs; height = 0 }) e in
      found_there f (an_observation k) _ w h.stands (tree_is f (an_observation k) w h.stands ∙ ap (observation_of (trees f)) h.same)

  case_by : (n : CaseNode) (o : Option ℕ) → standing case.the_row.coded f.cases n ≡ o → AllStand f (case_parts n) → height_above f (case_parts n) ≤ 999 →
      (let g = found_or f o (with_case f n, length f.cases) in Pushed f g.0 (a_case g.1) (case_tree g.0 g.1 ≡ case_of (trees f) n))
  case_by n None e s l = pushed_case f n w s l
  case_by n (Some k) e s l =
      let h = found case.the_row.coded f.cases n k (record { node = Notify 0 (record { 0 = 0 }); height = 0 }) e in
      found_there f (a_case k) _ w h.stands (tree_is f (a_case k) w h.stands ∙ ap (case_of (trees f)) h.same)

  cont_by : (n : ContNode) (o : Option ℕ) → standing cont.the_row.coded f.conts n ≡ o → AllStand f (cont_parts n) → height_above f (cont_parts n) ≤ 999 →
      (let g : Flat × Cont = found_or f (option_map (λ k. record { 0 = k }) o) (with_cont f n, record { 0 = length f.conts }) in Pushed f g.0 (a_cont g.1.0) (cont_tree g.0 g.1.0 ≡ cont_of (trees f) n))
  cont_by n None e s l = pushed_cont f n w s l
  cont_by n (Some k) e s l =
      let h = found cont.the_row.coded f.conts n k (record { node = Close; height = 0 }) e in
      found_there f (a_cont k) _ w h.stands (tree_is f (a_cont k) w h.stands ∙ ap (cont_of (trees f)) h.same)

  pub value_put : (n : ValueNode) → AllStand f (value_parts n) → height_above f (value_parts n) ≤ 999 →
      Pushed f (put_value f n).0 (a_value (put_value f n).1) (value_tree (put_value f n).0 (put_value f n).1 ≡ value_of (trees f) n)
  unfolding put_value
  value_put n s l = value_by n (standing value.the_row.coded f.values n) refl s l

  pub observation_put : (n : ObservationNode) → AllStand f (observation_parts n) → height_above f (observation_parts n) ≤ 999 →
      Pushed f (put_observation f n).0 (an_observation (put_observation f n).1) (observation_tree (put_observation f n).0 (put_observation f n).1 ≡ observation_of (trees f) n)
  unfolding put_observation
  observation_put n s l = observation_by n (standing observation.the_row.coded f.observations n) refl s l

  pub case_put : (n : CaseNode) → AllStand f (case_parts n) → height_above f (case_parts n) ≤ 999 →
      Pushed f (put_case f n).0 (a_case (put_case f n).1) (case_tree (put_case f n).0 (put_case f n).1 ≡ case_of (trees f) n)
  unfolding put_case
  case_put n s l = case_by n (standing case.the_row.coded f.cases n) refl s l

  pub cont_put : (n : ContNode) → AllStand f (cont_parts n) → height_above f (cont_parts n) ≤ 999 →
      Pushed f (put_cont f n).0 (a_cont (put_cont f n).1.0) (cont_tree (put_cont f n).0 (put_cont f n).1.0 ≡ cont_of (trees f) n)
  unfolding put_cont
  cont_put n s l = cont_by n (standing cont.the_row.coded f.conts n) refl s l

-- ---- how many nodes there are then

-- g has at most one value, observation or case more than f, and no other continuations
pub record OneMore (f g : Flat) : Type 0 where
  pub others : others_in g ≤ others_in f + 1
  pub conts : g.conts ≡ f.conts

-- g has at most one continuation more than f, and no other values, observations and cases
pub record OneMoreCont (f g : Flat) : Type 0 where
  pub others : others_in g ≡ others_in f
  pub conts : length g.conts ≤ length f.conts + 1

module _ (f : Flat) where
  more_values : (n : ValueNode) (o : Option ℕ) → OneMore f (found_or f o (with_value f n, length f.values)).0
  more_values n None = record { others = omega (arith, length-append f.values (record { node = n; height = height_above f (value_parts n) } ∷ [])); conts = refl }
  more_values n (Some k) = record { others = omega arith; conts = refl }

  more_observations : (n : ObservationNode) (o : Option ℕ) → OneMore f (found_or f o (with_observation f n, length f.observations)).0
  more_observations n None = record { others = omega (arith, length-append f.observations (record { node = n; height = height_above f (observation_parts n) } ∷ [])); conts = refl }
  more_observations n (Some k) = record { others = omega arith; conts = refl }

  more_cases : (n : CaseNode) (o : Option ℕ) → OneMore f (found_or f o (with_case f n, length f.cases)).0
  more_cases n None = record { others = omega (arith, length-append f.cases (record { node = n; height = height_above f (case_parts n) } ∷ [])); conts = refl }
  more_cases n (Some k) = record { others = omega arith; conts = refl }

  more_conts : (n : ContNode) (o : Option Cont) → OneMoreCont f (found_or f o (with_cont f n, record { 0 = length f.conts })).0
  more_conts n None = record { others = refl; conts = omega (arith, length-append f.conts (record { node = n; height = height_above f (cont_parts n) } ∷ [])) }
  more_conts n (Some k) = record { others = refl; conts = omega arith }

  pub one_value : (n : ValueNode) → OneMore f (put_value f n).0
  unfolding put_value
  one_value n = more_values n (standing value.the_row.coded f.values n)

  pub one_observation : (n : ObservationNode) → OneMore f (put_observation f n).0
  unfolding put_observation
  one_observation n = more_observations n (standing observation.the_row.coded f.observations n)

  pub one_case : (n : CaseNode) → OneMore f (put_case f n).0
  unfolding put_case
  one_case n = more_cases n (standing case.the_row.coded f.cases n)

  pub one_cont : (n : ContNode) → OneMoreCont f (put_cont f n).0
  unfolding put_cont
  one_cont n = more_conts n (option_map (λ k. record { 0 = k }) (standing cont.the_row.coded f.conts n))
