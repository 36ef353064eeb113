-- What a push has done.
use Rattle.std.specs.Prelude.{◌≡◌, ℕ, ◌+◌, ◌<◌, ◌≤◌, List, [], ◌∷◌, length, map, refl, ◌⊎◌, suc, zero}
use Rattle.std.proofs.Common.{sym, ◌∙◌, ap, subst, arith, length-append, inl, inr}
use Rattle.std.proofs.Math.ListN.{get_or-append}
use Rattle.std.proofs.Math.Seq.{get_or-append_seam}
use Rattle.nodes.specs.declared.value_node.ValueNode.{ValueNode}
use Rattle.nodes.specs.declared.observation_node.ObservationNode.{ObservationNode}
use Rattle.nodes.specs.declared.case_node.CaseNode.{CaseNode}
use Rattle.nodes.specs.declared.cont_node.ContNode.{ContNode}
use Rattle.nodes.specs.declared.entry.Entry.{Entry}
use Rattle.table.specs.Heights.{above}
use Rattle.table.specs.Flat.{Flat, Trees, value_of, observation_of, case_of, cont_of, value_entry, observation_entry, case_entry, cont_entry, next_level, levels, deepest, trees, value_tree, observation_tree, case_tree, cont_tree}
use Rattle.table.specs.Flat.{Part, a_value, an_observation, a_case, a_cont, value_parts, observation_parts, case_parts, cont_parts, Stands, AllStand, height_of, parts_of, height_above, Fine, IsFlat, Agrees, Extends}
use Rattle.table.specs.LevelLaws.{AllAgree, value_agrees, observation_agrees, case_agrees, cont_agrees, tree_is}
use Rattle.table.specs.Pushing.{with_value, with_observation, with_case, with_cont}

-- ---- what continues a table keeps its trees

abbrev pub SameEntry : Flat → Flat → Part → Type 0
SameEntry f g (a_value k) = value_entry g k ≡ value_entry f k
SameEntry f g (an_observation k) = observation_entry g k ≡ observation_entry f k
SameEntry f g (a_case k) = case_entry g k ≡ case_entry f k
SameEntry f g (a_cont k) = cont_entry g k ≡ cont_entry f k

-- g has the nodes of f, and more
abbrev pub Continues : Flat → Flat → Type 0
Continues f g = (p : Part) → Stands f p → Stands g p × SameEntry f g p

same_height : (f g : Flat) (p : Part) → SameEntry f g p → height_of g p ≡ height_of f p
same_height f g (a_value k) e = ap (λ x. x.height) e
same_height f g (an_observation k) e = ap (λ x. x.height) e
same_height f g (a_case k) e = ap (λ x. x.height) e
same_height f g (a_cont k) e = ap (λ x. x.height) e

same_parts : (f g : Flat) (p : Part) → SameEntry f g p → parts_of g p ≡ parts_of f p
same_parts f g (a_value k) e = ap (λ x. value_parts x.node) e
same_parts f g (an_observation k) e = ap (λ x. observation_parts x.node) e
same_parts f g (a_case k) e = ap (λ x. case_parts x.node) e
same_parts f g (a_cont k) e = ap (λ x. cont_parts x.node) e

all_last : (f g : Flat) (ps : List Part) → Continues f g → AllStand f ps → AllStand g ps
all_last f g [] c s = tt
all_last f g (p ∷ ps) c s = ((c p s.0).0, all_last f g ps c s.1)

heights_last : (f g : Flat) (ps : List Part) → Continues f g → AllStand f ps → map (height_of g) ps ≡ map (height_of f) ps
heights_last f g [] c s = refl
heights_last f g (p ∷ ps) c s = cc (same_height f g p (c p s.0).1, heights_last f g ps c s.1)

fine_lasts : (f g : Flat) (ps : List Part) (h : ℕ) → Continues f g → Fine f ps h → Fine g ps h
fine_lasts f g ps h c w = record { names = all_last f g ps c w.names; exact = w.exact ∙ ap above (sym (heights_last f g ps c w.names)); low = w.low }

all_agree : (f : Flat) (t u : Trees) (ps : List Part) → ((p : Part) → Stands f p → Agrees t u p) → AllStand f ps → AllAgree t u ps
all_agree f t u [] a s = tt
all_agree f t u (p ∷ ps) a s = (a p s.0, all_agree f t u ps a s.1)

same_step : (f g : Flat) (t u : Trees) (p : Part) → SameEntry f g p → AllAgree t u (parts_of f p) → Agrees (next_level g t) (next_level f u) p
same_step f g t u (a_value k) e a = ap (λ x. value_of t x.node) e ∙ value_agrees t u (value_entry f k).node a
same_step f g t u (an_observation k) e a = ap (λ x. observation_of t x.node) e ∙ observation_agrees t u (observation_entry f k).node a
same_step f g t u (a_case k) e a = ap (λ x. case_of t x.node) e ∙ case_agrees t u (case_entry f k).node a
same_step f g t u (a_cont k) e a = ap (λ x. cont_of t x.node) e ∙ cont_agrees t u (cont_entry f k).node a

same_start : (f g : Flat) (p : Part) → Agrees (levels zero g) (levels zero f) p
same_start f g (a_value k) = refl
same_start f g (an_observation k) = refl
same_start f g (a_case k) = refl
same_start f g (a_cont k) = refl

levels_last : (f g : Flat) → IsFlat f → Continues f g → (n : ℕ) (p : Part) → Stands f p → Agrees (levels n g) (levels n f) p
levels_last f g w c zero p s = same_start f g p
levels_last f g w c (suc n) p s =
    same_step f g (levels n g) (levels n f) p (c p s).1 (all_agree f (levels n g) (levels n f) (parts_of f p) (levels_last f g w c n) (w.fine p s).names)

pub trees_last : (f g : Flat) → IsFlat f → Continues f g → (p : Part) → Stands f p → Agrees (trees g) (trees f) p
unfolding trees
trees_last f g w c = levels_last f g w c deepest

pub extends : (f g : Flat) → IsFlat f → IsFlat g → Continues f g → Extends f g
extends f g w v c = record { flat = v; stands = λ p s. (c p s).0; keeps = trees_last f g w c }

-- ---- a push

-- g is f with one number more, whose node names these
pub record Adds (f g : Flat) (q : Part) (ps : List Part) : Type 0 where
  pub continues : Continues f g
  pub only : (p : Part) → Stands g p → Stands f p ⊎ (q ≡ p)
  pub stands : Stands g q
  pub parts : parts_of g q ≡ ps
  pub exact : height_of g q ≡ height_above f ps

flat_adds : (f g : Flat) (q : Part) (ps : List Part) → IsFlat f → Adds f g q ps → AllStand f ps → height_above f ps ≤ 999 → IsFlat g
flat_adds f g q ps w a s l = record {
  fine = λ p i.
      elim (a.only p i) as (λ _. Fine g (parts_of g p) (height_of g p)) [
        | inl b ↦ subst (λ h. Fine g (parts_of g p) h) (sym (same_height f g p (a.continues p b).1)) (subst (λ xs. Fine g xs (height_of f p)) (sym (same_parts f g p (a.continues p b).1)) (fine_lasts f g _ _ a.continues (w.fine p b)))
        | inr e ↦ subst (λ r. Fine g (parts_of g r) (height_of g r)) e new
      ];
}
  where
    new : Fine g (parts_of g q) (height_of g q)
    new = subst (λ h. Fine g (parts_of g q) h) (sym a.exact) (subst (λ xs. Fine g xs (height_above f ps)) (sym a.parts) (fine_lasts f g ps _ a.continues (record { names = s; exact = refl; low = l })))

last_or_before : (k n m : ℕ) → k < m → m ≡ n + 1 → (k < n) ⊎ (n ≡ k)
last_or_before k n m i e = grind arith

module _ (f : Flat) where
  adds_value : (n : ValueNode) → Adds f (with_value f n) (a_value (length f.values)) (value_parts n)
  adds_value n =
      let e : Entry ValueNode = record { node = n; height = height_above f (value_parts n) } in
      let long = length-append f.values (e ∷ []) in
      let here = get_or-append_seam f.values e [] _ in
      record { continues = continues; only = only; stands = omega (arith, long); parts = ap (λ x. value_parts x.node) here; exact = ap (λ x. x.height) here }
    where
      continues : Continues f (with_value f n)
      continues (a_value k) s = (omega (arith, length-append f.values (record { node = n; height = height_above f (value_parts n) } ∷ [])), get_or-append f.values _ _ k s)
      continues (an_observation k) s = (s, refl)
      continues (a_case k) s = (s, refl)
      continues (a_cont k) s = (s, refl)

      only : (p : Part) → Stands (with_value f n) p → Stands f p ⊎ (a_value (length f.values) ≡ p)
      only (a_value k) s =
          elim (last_or_before k (length f.values) _ s (length-append f.values _)) as (λ _. Stands f (a_value k) ⊎ (a_value (length f.values) ≡ a_value k)) [
            | inl b ↦ inl b
            | inr e ↦ inr (ap a_value e)
          ]
      only (an_observation k) s = inl s
      only (a_case k) s = inl s
      only (a_cont k) s = inl s

  adds_observation : (n : ObservationNode) → Adds f (with_observation f n) (an_observation (length f.observations)) (observation_parts n)
  adds_observation n =
      let e : Entry ObservationNode = record { node = n; height = height_above f (observation_parts n) } in
      let long = length-append f.observations (e ∷ []) in
      let here = get_or-append_seam f.observations e [] _ in
      record { continues = continues; only = only; stands = omega (arith, long); parts = ap (λ x. observation_parts x.node) here; exact = ap (λ x. x.height) here }
    where
      continues : Continues f (with_observation f n)
      continues (a_value k) s = (s, refl)
      continues (an_observation k) s = (omega (arith, length-append f.observations (record { node = n; height = height_above f (observation_parts n) } ∷ [])), get_or-append f.observations _ _ k s)
      continues (a_case k) s = (s, refl)
      continues (a_cont k) s = (s, refl)

      only : (p : Part) → Stands (with_observation f n) p → Stands f p ⊎ (an_observation (length f.observations) ≡ p)
      only (a_value k) s = inl s
      only (an_observation k) s =
          elim (last_or_before k (length f.observations) _ s (length-append f.observations _)) as (λ _. Stands f (an_observation k) ⊎ (an_observation (length f.observations) ≡ an_observation k)) [
            | inl b ↦ inl b
            | inr e ↦ inr (ap an_observation e)
          ]
      only (a_case k) s = inl s
      only (a_cont k) s = inl s

  adds_case : (n : CaseNode) → Adds f (with_case f n) (a_case (length f.cases)) (case_parts n)
  adds_case n =
      let e : Entry CaseNode = record { node = n; height = height_above f (case_parts n) } in
      let long = length-append f.cases (e ∷ []) in
      let here = get_or-append_seam f.cases e [] _ in
      record { continues = continues; only = only; stands = omega (arith, long); parts = ap (λ x. case_parts x.node) here; exact = ap (λ x. x.height) here }
    where
      continues : Continues f (with_case f n)
      continues (a_value k) s = (s, refl)
      continues (an_observation k) s = (s, refl)
      continues (a_case k) s = (omega (arith, length-append f.cases (record { node = n; height = height_above f (case_parts n) } ∷ [])), get_or-append f.cases _ _ k s)
      continues (a_cont k) s = (s, refl)

      only : (p : Part) → Stands (with_case f n) p → Stands f p ⊎ (a_case (length f.cases) ≡ p)
      only (a_value k) s = inl s
      only (an_observation k) s = inl s
      only (a_case k) s =
          elim (last_or_before k (length f.cases) _ s (length-append f.cases _)) as (λ _. Stands f (a_case k) ⊎ (a_case (length f.cases) ≡ a_case k)) [
            | inl b ↦ inl b
            | inr e ↦ inr (ap a_case e)
          ]
      only (a_cont k) s = inl s

  adds_cont : (n : ContNode) → Adds f (with_cont f n) (a_cont (length f.conts)) (cont_parts n)
  adds_cont n =
      let e : Entry ContNode = record { node = n; height = height_above f (cont_parts n) } in
      let long = length-append f.conts (e ∷ []) in
      let here = get_or-append_seam f.conts e [] _ in
      record { continues = continues; only = only; stands = omega (arith, long); parts = ap (λ x. cont_parts x.node) here; exact = ap (λ x. x.height) here }
    where
      continues : Continues f (with_cont f n)
      continues (a_value k) s = (s, refl)
      continues (an_observation k) s = (s, refl)
      continues (a_case k) s = (s, refl)
      continues (a_cont k) s = (omega (arith, length-append f.conts (record { node = n; height = height_above f (cont_parts n) } ∷ [])), get_or-append f.conts _ _ k s)

      only : (p : Part) → Stands (with_cont f n) p → Stands f p ⊎ (a_cont (length f.conts) ≡ p)
      only (a_value k) s = inl s
      only (an_observation k) s = inl s
      only (a_case k) s = inl s
      only (a_cont k) s =
          elim (last_or_before k (length f.conts) _ s (length-append f.conts _)) as (λ _. Stands f (a_cont k) ⊎ (a_cont (length f.conts) ≡ a_cont k)) [
            | inl b ↦ inl b
            | inr e ↦ inr (ap a_cont e)
          ]

-- what a push has done: g is a table that extends f, and the new number stands for the node over what f's numbers stand for
pub record Pushed (f g : Flat) (q : Part) (TreeIsNode : Type 0) : Type 0 where
  pub flat : IsFlat g
  pub stands : Stands g q
  pub keeps : Extends f g
  pub tree : TreeIsNode

pub pushed_value : (f : Flat) (n : ValueNode) → IsFlat f → AllStand f (value_parts n) → height_above f (value_parts n) ≤ 999 →
    Pushed f (with_value f n) (a_value (length f.values)) (value_tree (with_value f n) (length f.values) ≡ value_of (trees f) n)
pushed_value f n w s l =
    let g = with_value f n in
    let a = adds_value f n in
    let flat = flat_adds f g _ (value_parts n) w a s l in
    record {
      flat = flat;
      stands = a.stands;
      keeps = extends f g w flat a.continues;
      tree = tree_is g (a_value (length f.values)) flat a.stands
          ∙ (ap (λ x. value_of (trees g) x.node) (get_or-append_seam f.values _ [] _)
          ∙ value_agrees (trees g) (trees f) n (all_agree f (trees g) (trees f) (value_parts n) (trees_last f g w a.continues) s));
    }

pub pushed_observation : (f : Flat) (n : ObservationNode) → IsFlat f → AllStand f (observation_parts n) → height_above f (observation_parts n) ≤ 999 →
    Pushed f (with_observation f n) (an_observation (length f.observations)) (observation_tree (with_observation f n) (length f.observations) ≡ observation_of (trees f) n)
pushed_observation f n w s l =
    let g = with_observation f n in
    let a = adds_observation f n in
    let flat = flat_adds f g _ (observation_parts n) w a s l in
    record {
      flat = flat;
      stands = a.stands;
      keeps = extends f g w flat a.continues;
      tree = tree_is g (an_observation (length f.observations)) flat a.stands
          ∙ (ap (λ x. observation_of (trees g) x.node) (get_or-append_seam f.observations _ [] _)
          ∙ observation_agrees (trees g) (trees f) n (all_agree f (trees g) (trees f) (observation_parts n) (trees_last f g w a.continues) s));
    }

pub pushed_case : (f : Flat) (n : CaseNode) → IsFlat f → AllStand f (case_parts n) → height_above f (case_parts n) ≤ 999 →
    Pushed f (with_case f n) (a_case (length f.cases)) (case_tree (with_case f n) (length f.cases) ≡ case_of (trees f) n)
pushed_case f n w s l =
    let g = with_case f n in
    let a = adds_case f n in
    let flat = flat_adds f g _ (case_parts n) w a s l in
    record {
      flat = flat;
      stands = a.stands;
      keeps = extends f g w flat a.continues;
      tree = tree_is g (a_case (length f.cases)) flat a.stands
          ∙ (ap (λ x. case_of (trees g) x.node) (get_or-append_seam f.cases _ [] _)
          ∙ case_agrees (trees g) (trees f) n (all_agree f (trees g) (trees f) (case_parts n) (trees_last f g w a.continues) s));
    }

pub pushed_cont : (f : Flat) (n : ContNode) → IsFlat f → AllStand f (cont_parts n) → height_above f (cont_parts n) ≤ 999 →
    Pushed f (with_cont f n) (a_cont (length f.conts)) (cont_tree (with_cont f n) (length f.conts) ≡ cont_of (trees f) n)
pushed_cont f n w s l =
    let g = with_cont f n in
    let a = adds_cont f n in
    let flat = flat_adds f g _ (cont_parts n) w a s l in
    record {
      flat = flat;
      stands = a.stands;
      keeps = extends f g w flat a.continues;
      tree = tree_is g (a_cont (length f.conts)) flat a.stands
          ∙ (ap (λ x. cont_of (trees g) x.node) (get_or-append_seam f.conts _ [] _)
          ∙ cont_agrees (trees g) (trees f) n (all_agree f (trees g) (trees f) (cont_parts n) (trees_last f g w a.continues) s));
    }
