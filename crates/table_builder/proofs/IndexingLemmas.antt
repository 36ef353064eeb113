-- What an index has after a node was inserted that it didn't have; and how the numbers that it finds are those of the definition.
use Rattle.std.proofs.Common.{◌≡◌, refl, sym, ap, ◌∙◌, rules, ℕ, Bool, false, true≢false, IsTrue, ◌↔◌, if◌then◌else◌, List, [], ◌∷◌, ◌++◌, length, slice_get, Option, Some, None, position, arith}
use Rattle.std.specs.Prelude.{option_map}
use Rattle.std.specs.Option.{unwrap_or}
use Rattle.std.specs.List.{list_any, position_or_len}
use Rattle.std.proofs.lemmas.Grind.{common_steps}
use Rattle.std.proofs.lemmas.List.Quantifiers.{position-Some}
use Rattle.std.proofs.lemmas.List.Folds.{list_any_at}
use Rattle.indexmap.specs.IndexSet.{insert_key}
use Rattle.table.specs.Collections.Same.{same_by}
use Rattle.table.proofs.FromCollections.SameLaws.{same_by_from}
use Rattle.table.specs.Nodes.declared.entry.Entry.{Entry}
use Rattle.table.specs.Nodes.declared.cont.Cont.{Cont}
use Rattle.table.specs.Nodes.declared.value_node.ValueNode.{ValueNode}
use Rattle.table.specs.Nodes.declared.observation_node.ObservationNode.{ObservationNode}
use Rattle.table.specs.Nodes.declared.case_node.CaseNode.{CaseNode}
use Rattle.table.specs.Nodes.declared.cont_node.ContNode.{ContNode}
use Rattle.table.specs.Nodes.contracts.value_node.ValueNode as value
use Rattle.table.specs.Nodes.contracts.observation_node.ObservationNode as observation
use Rattle.table.specs.Nodes.contracts.case_node.CaseNode as case
use Rattle.table.specs.Nodes.contracts.cont_node.ContNode as cont
use Rattle.table.specs.Nodes.contracts.value_node.ValueNodePartialEq.TheImpl as value_eq
use Rattle.table.specs.Nodes.contracts.observation_node.ObservationNodePartialEq.TheImpl as observation_eq
use Rattle.table.specs.Nodes.contracts.case_node.CaseNodePartialEq.TheImpl as case_eq
use Rattle.table.specs.Nodes.contracts.cont_node.ContNodePartialEq.TheImpl as cont_eq
use Rattle.table.specs.Flat.{Flat}
use Rattle.table.specs.Pushing.{with_value, with_observation, with_case, with_cont}
use Rattle.table_builder.specs.Putting.{nodes_of, found_or, put_value, put_observation, put_case, put_cont}

-- ---- a node that was inserted

at_end : {X : Type 0} (xs : List X) (x : X) → slice_get (xs ++ x ∷ []) (length xs) ≡ Some x
at_end [] x = refl
at_end (y ∷ ys) x = at_end ys x

none_passes : {X : Type 0} (test : X → Bool) (xs : List X) → list_any test xs ≡ false → position_or_len test xs ≡ length xs
none_passes test [] h = refl
none_passes test (y ∷ ys) h = grind (arith, common_steps, none_passes test ys)

-- the node stood nowhere, it goes last, and it is what stands under the number that is given
pub record Inserted {X : Type 0} (eq : X → X → Bool) (xs : List X) (x : X) : Type 0 where
  pub absent : position (eq x) xs ≡ None
  pub last : insert_key eq xs x ≡ xs ++ x ∷ []
  pub itself : (k : X) → slice_get (insert_key eq xs x) (position_or_len (eq x) xs) ≡ Some k → k ≡ x

pub inserted : {X : Type 0} (eq : X → X → Bool) (xs : List X) (x : X) → list_any (eq x) xs ≡ false → Inserted eq xs x
inserted eq xs x h = record { absent = absent (position (eq x) xs) refl; last = last; itself = itself }
  where
    absent : (o : Option ℕ) → position (eq x) xs ≡ o → position (eq x) xs ≡ None
    absent None e = e
    absent (Some k) e = let p = position-Some (eq x) xs k x e in absurd (true≢false (sym (list_any_at (eq x) xs k x p.0 p.1) ∙ h))

    last : insert_key eq xs x ≡ xs ++ x ∷ []
    last = ap (λ b. if b then xs else xs ++ x ∷ []) h

    end : position_or_len (eq x) xs ≡ length xs
    end = none_passes (eq x) xs h

    itself : (k : _) → slice_get (insert_key eq xs x) (position_or_len (eq x) xs) ≡ Some k → k ≡ x
    itself k s = ap (λ o. unwrap_or o k) (sym s ∙ ((λ i. slice_get (last i) (end i)) ∙ at_end xs x))

-- ---- the tests of the index are those of the definition

value_exact : (a b : ValueNode) → IsTrue ((value_eq.ghosts).eq a b) ↔ (a ≡ b)
value_exact a b = search rules

observation_exact : (a b : ObservationNode) → IsTrue ((observation_eq.ghosts).eq a b) ↔ (a ≡ b)
observation_exact a b = search rules

value_test : (n : ValueNode) → (value_eq.ghosts).eq n ≡ same_by value.the_row.coded n
value_test n = λ i x. same_by_from value.the_row.coded n x _ (value_exact n x) i

observation_test : (n : ObservationNode) → (observation_eq.ghosts).eq n ≡ same_by observation.the_row.coded n
observation_test n = λ i x. same_by_from observation.the_row.coded n x _ (observation_exact n x) i

-- ---- a put, by what the index finds

pub value_stands : (f : Flat) (nodes : List ValueNode) (n : ValueNode) (k : ℕ) → nodes ≡ nodes_of f.values → position ((value_eq.ghosts).eq n) nodes ≡ Some k → put_value f n ≡ (f, k)
unfolding put_value
value_stands f nodes n k e s = ap (λ o. found_or f o (with_value f n, length f.values)) ((λ i. position (sym (value_test n) i) (sym e i)) ∙ s)

pub value_new : (f : Flat) (nodes : List ValueNode) (n : ValueNode) → nodes ≡ nodes_of f.values → position ((value_eq.ghosts).eq n) nodes ≡ None → put_value f n ≡ (with_value f n, length f.values)
unfolding put_value
value_new f nodes n e s = ap (λ o. found_or f o (with_value f n, length f.values)) ((λ i. position (sym (value_test n) i) (sym e i)) ∙ s)

pub observation_stands : (f : Flat) (nodes : List ObservationNode) (n : ObservationNode) (k : ℕ) → nodes ≡ nodes_of f.observations → position ((observation_eq.ghosts).eq n) nodes ≡ Some k → put_observation f n ≡ (f, k)
unfolding put_observation
observation_stands f nodes n k e s = ap (λ o. found_or f o (with_observation f n, length f.observations)) ((λ i. position (sym (observation_test n) i) (sym e i)) ∙ s)

pub observation_new : (f : Flat) (nodes : List ObservationNode) (n : ObservationNode) → nodes ≡ nodes_of f.observations → position ((observation_eq.ghosts).eq n) nodes ≡ None → put_observation f n ≡ (with_observation f n, length f.observations)
unfolding put_observation
observation_new f nodes n e s = ap (λ o. found_or f o (with_observation f n, length f.observations)) ((λ i. position (sym (observation_test n) i) (sym e i)) ∙ s)

pub case_stands : (f : Flat) (nodes : List CaseNode) (n : CaseNode) (k : ℕ) → nodes ≡ nodes_of f.cases → position ((case_eq.ghosts).eq n) nodes ≡ Some k → put_case f n ≡ (f, k)
unfolding put_case
case_stands f nodes n k e s = ap (λ o. found_or f o (with_case f n, length f.cases)) (ap (position (same_by case.the_row.coded n)) (sym e) ∙ s)

pub case_new : (f : Flat) (nodes : List CaseNode) (n : CaseNode) → nodes ≡ nodes_of f.cases → position ((case_eq.ghosts).eq n) nodes ≡ None → put_case f n ≡ (with_case f n, length f.cases)
unfolding put_case
case_new f nodes n e s = ap (λ o. found_or f o (with_case f n, length f.cases)) (ap (position (same_by case.the_row.coded n)) (sym e) ∙ s)

abbrev cont_found : Flat → ContNode → Option ℕ → Flat × Cont
cont_found f n o = found_or f (option_map (λ k. record { 0 = k }) o) (with_cont f n, record { 0 = length f.conts })

pub cont_stands : (f : Flat) (nodes : List ContNode) (n : ContNode) (k : ℕ) → nodes ≡ nodes_of f.conts → position ((cont_eq.ghosts).eq n) nodes ≡ Some k → put_cont f n ≡ (f, record { 0 = k })
unfolding put_cont
cont_stands f nodes n k e s = ap (cont_found f n) (ap (position (same_by cont.the_row.coded n)) (sym e) ∙ s)

pub cont_new : (f : Flat) (nodes : List ContNode) (n : ContNode) → nodes ≡ nodes_of f.conts → position ((cont_eq.ghosts).eq n) nodes ≡ None → put_cont f n ≡ (with_cont f n, record { 0 = length f.conts })
unfolding put_cont
cont_new f nodes n e s = ap (cont_found f n) (ap (position (same_by cont.the_row.coded n)) (sym e) ∙ s)

-- ---- the nodes of a list that got one more

pub nodes_of-append : {N : Type 0} (es : List (Entry N)) (e : Entry N) → nodes_of (es ++ e ∷ []) ≡ nodes_of es ++ e.node ∷ []
nodes_of-append [] e = refl
nodes_of-append (x ∷ es) e = cc (nodes_of-append es e)
