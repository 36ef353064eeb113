-- The code of a value and of an observation stands for it.
use Rattle.std.proofs.Common.{◌≡◌, refl, sym, ap, ◌∙◌, subst, ℕ, ◌+◌, ◌<◌, ◌≤◌, [], ◌∷◌, length, arith}
use Rattle.contract.specs.Tree.{ValueTree, available_money, constant, neg_value, add_value, sub_value, mul_value, div_value, choice_value, time_interval_start, time_interval_end, use_value, cond_value}
use Rattle.contract.specs.Tree.{ObservationTree, and_obs, or_obs, not_obs, chose_something, value_ge, value_gt, value_lt, value_le, value_eq, true_obs, false_obs}
use Rattle.table.specs.Nodes.declared.value_node.ValueNode.{ValueNode}
use Rattle.table.specs.Nodes.declared.value_node.ValueNode.TheVariants as values
use Rattle.table.specs.Nodes.declared.observation_node.ObservationNode.{ObservationNode}
use Rattle.table.specs.Nodes.declared.observation_node.ObservationNode.TheVariants as observations
use Rattle.table.specs.Heights.{value_height, observation_height}
use Rattle.table.specs.Flat.{Flat, trees, value_of, observation_of, value_parts, observation_parts, a_value, an_observation, AllStand, IsFlat}
use Rattle.table.proofs.HeightLaws.{value_above, observation_above, above_is}
use Rattle.table_builder.specs.Putting.{put_value, put_observation, others_in}
use Rattle.table_builder.proofs.PuttingLaws.{value_put, observation_put, one_value, one_observation}
use Rattle.lowering.specs.Sizes.{value_size, observation_size}
use Rattle.lowering.specs.Code.{code_value, code_observation}
use Rattle.lowering.proofs.Keeping.{Keeps, kept, keeps-refl, keeps-trans}

-- ---- one tree

-- f was continued to g, where number k stands for the value t
pub record MadeValue (f g : Flat) (k : ℕ) (t : ValueTree) : Type 0 where
  pub flat : IsFlat g
  pub keeps : Keeps f g
  pub stands : k < length g.values
  pub tree : (trees g).value k ≡ t
  pub others : others_in g ≤ others_in f + value_size t
  pub conts : length g.conts ≤ length f.conts

-- f was continued to g, where number k stands for the observation t
pub record MadeObservation (f g : Flat) (k : ℕ) (t : ObservationTree) : Type 0 where
  pub flat : IsFlat g
  pub keeps : Keeps f g
  pub stands : k < length g.observations
  pub tree : (trees g).observation k ≡ t
  pub others : others_in g ≤ others_in f + observation_size t
  pub conts : length g.conts ≤ length f.conts

-- f was continued to g, which is ready for n, the node of the value t
pub record ReadyValue (f g : Flat) (n : ValueNode) (t : ValueTree) : Type 0 where
  pub flat : IsFlat g
  pub keeps : Keeps f g
  pub stand : AllStand g (value_parts n)
  pub tree : value_of (trees g) n ≡ t
  pub others : others_in g + 1 ≤ others_in f + value_size t
  pub conts : length g.conts ≤ length f.conts

-- f was continued to g, which is ready for n, the node of the observation t
pub record ReadyObservation (f g : Flat) (n : ObservationNode) (t : ObservationTree) : Type 0 where
  pub flat : IsFlat g
  pub keeps : Keeps f g
  pub stand : AllStand g (observation_parts n)
  pub tree : observation_of (trees g) n ≡ t
  pub others : others_in g + 1 ≤ others_in f + observation_size t
  pub conts : length g.conts ≤ length f.conts

join-value : (f g : Flat) (n : ValueNode) (t : ValueTree) → ReadyValue f g n t → value_height t ≤ 999 → MadeValue f (put_value g n).0 (put_value g n).1 t
join-value f g n t r l =
    let m = one_value g n in
    let p = value_put g r.flat n r.stand (omega (arith, l, ap value_height r.tree, above_is g (value_parts n) r.flat r.stand, value_above (trees g) n)) in
    record {
      flat = p.flat;
      keeps = keeps-trans f g _ r.keeps (kept g _ p.keeps);
      stands = p.stands;
      tree = p.tree ∙ r.tree;
      others = omega (arith, r.others, m.others);
      conts = omega (arith, r.conts, ap length m.conts);
    }

join-observation : (f g : Flat) (n : ObservationNode) (t : ObservationTree) → ReadyObservation f g n t → observation_height t ≤ 999 → MadeObservation f (put_observation g n).0 (put_observation g n).1 t
join-observation f g n t r l =
    let m = one_observation g n in
    let p = observation_put g r.flat n r.stand (omega (arith, l, ap observation_height r.tree, above_is g (observation_parts n) r.flat r.stand, observation_above (trees g) n)) in
    record {
      flat = p.flat;
      keeps = keeps-trans f g _ r.keeps (kept g _ p.keeps);
      stands = p.stands;
      tree = p.tree ∙ r.tree;
      others = omega (arith, r.others, m.others);
      conts = omega (arith, r.conts, ap length m.conts);
    }

-- ---- two trees, one after the other

-- f was continued to g, where l and r stand for the values v and w
pub record MadeValues (f g : Flat) (l r : ℕ) (v w : ValueTree) : Type 0 where
  pub flat : IsFlat g
  pub keeps : Keeps f g
  pub left : l < length g.values
  pub right : r < length g.values
  pub left_tree : (trees g).value l ≡ v
  pub right_tree : (trees g).value r ≡ w
  pub others : others_in g ≤ others_in f + (value_size v + value_size w)
  pub conts : length g.conts ≤ length f.conts

pub record MadeObservations (f g : Flat) (l r : ℕ) (o q : ObservationTree) : Type 0 where
  pub flat : IsFlat g
  pub keeps : Keeps f g
  pub left : l < length g.observations
  pub right : r < length g.observations
  pub left_tree : (trees g).observation l ≡ o
  pub right_tree : (trees g).observation r ≡ q
  pub others : others_in g ≤ others_in f + (observation_size o + observation_size q)
  pub conts : length g.conts ≤ length f.conts

pub both-values : (f g h : Flat) (l r : ℕ) (v w : ValueTree) → MadeValue f g l v → MadeValue g h r w → MadeValues f h l r v w
both-values f g h l r v w a b = record {
  flat = b.flat;
  keeps = keeps-trans f g h a.keeps b.keeps;
  left = omega (arith, a.stands, b.keeps.values);
  right = b.stands;
  left_tree = b.keeps.value l a.stands ∙ a.tree;
  right_tree = b.tree;
  others = omega (arith, a.others, b.others);
  conts = omega (arith, a.conts, b.conts);
}

pub both-observations : (f g h : Flat) (l r : ℕ) (o q : ObservationTree) → MadeObservation f g l o → MadeObservation g h r q → MadeObservations f h l r o q
both-observations f g h l r o q a b = record {
  flat = b.flat;
  keeps = keeps-trans f g h a.keeps b.keeps;
  left = omega (arith, a.stands, b.keeps.observations);
  right = b.stands;
  left_tree = b.keeps.observation l a.stands ∙ a.tree;
  right_tree = b.tree;
  others = omega (arith, a.others, b.others);
  conts = omega (arith, a.conts, b.conts);
}

-- ---- what each form has to have stand before

-- a value without operands
pub ready-leaf : (f : Flat) (n : ValueNode) (t : ValueTree) → IsFlat f → AllStand f (value_parts n) → value_of (trees f) n ≡ t → value_size t ≡ 1 → ReadyValue f f n t
ready-leaf f n t i s e k = record { flat = i; keeps = keeps-refl f; stand = s; tree = e; others = omega (arith, k); conts = omega arith }

pub ready-NegValue : (f g : Flat) (k : ℕ) (v : ValueTree) → MadeValue f g k v → ReadyValue f g (values.NegValue k) (neg_value v)
unfolding value_size
ready-NegValue f g k v m = record { flat = m.flat; keeps = m.keeps; stand = (m.stands, tt); tree = ap neg_value m.tree; others = omega (arith, m.others); conts = m.conts }

-- a node over two values
ready-two : (f g : Flat) (l r : ℕ) (v w : ValueTree) (n : ValueNode) (form : ValueTree → ValueTree → ValueTree) → MadeValues f g l r v w
    → value_parts n ≡ a_value l ∷ a_value r ∷ [] → value_of (trees g) n ≡ form ((trees g).value l) ((trees g).value r) → value_size (form v w) ≡ 1 + value_size v + value_size w → ReadyValue f g n (form v w)
ready-two f g l r v w n form m parts of size = record {
  flat = m.flat;
  keeps = m.keeps;
  stand = subst (AllStand g) (sym parts) (m.left, (m.right, tt));
  tree = of ∙ (λ i. form (m.left_tree i) (m.right_tree i));
  others = omega (arith, m.others, size);
  conts = m.conts;
}

pub ready-AddValue : (f g : Flat) (l r : ℕ) (v w : ValueTree) → MadeValues f g l r v w → ReadyValue f g (values.AddValue l r) (add_value v w)
unfolding value_size
ready-AddValue f g l r v w m = ready-two f g l r v w (values.AddValue l r) add_value m refl refl refl

pub ready-SubValue : (f g : Flat) (l r : ℕ) (v w : ValueTree) → MadeValues f g l r v w → ReadyValue f g (values.SubValue l r) (sub_value v w)
unfolding value_size
ready-SubValue f g l r v w m = ready-two f g l r v w (values.SubValue l r) sub_value m refl refl refl

pub ready-MulValue : (f g : Flat) (l r : ℕ) (v w : ValueTree) → MadeValues f g l r v w → ReadyValue f g (values.MulValue l r) (mul_value v w)
unfolding value_size
ready-MulValue f g l r v w m = ready-two f g l r v w (values.MulValue l r) mul_value m refl refl refl

pub ready-DivValue : (f g : Flat) (l r : ℕ) (v w : ValueTree) → MadeValues f g l r v w → ReadyValue f g (values.DivValue l r) (div_value v w)
unfolding value_size
ready-DivValue f g l r v w m = ready-two f g l r v w (values.DivValue l r) div_value m refl refl refl

pub ready-Cond : (f g h : Flat) (k l r : ℕ) (o : ObservationTree) (v w : ValueTree) → MadeObservation f g k o → MadeValues g h l r v w → ReadyValue f h (values.Cond k l r) (cond_value o v w)
unfolding value_size
ready-Cond f g h k l r o v w a m = record {
  flat = m.flat;
  keeps = keeps-trans f g h a.keeps m.keeps;
  stand = (omega (arith, a.stands, m.keeps.observations), (m.left, (m.right, tt)));
  tree = λ i. cond_value ((m.keeps.observation k a.stands ∙ a.tree) i) (m.left_tree i) (m.right_tree i);
  others = omega (arith, a.others, m.others);
  conts = omega (arith, a.conts, m.conts);
}

-- an observation without operands
pub ready-plain : (f : Flat) (n : ObservationNode) (t : ObservationTree) → IsFlat f → AllStand f (observation_parts n) → observation_of (trees f) n ≡ t → observation_size t ≡ 1 → ReadyObservation f f n t
ready-plain f n t i s e k = record { flat = i; keeps = keeps-refl f; stand = s; tree = e; others = omega (arith, k); conts = omega arith }

pub ready-NotObs : (f g : Flat) (k : ℕ) (o : ObservationTree) → MadeObservation f g k o → ReadyObservation f g (observations.NotObs k) (not_obs o)
unfolding value_size
ready-NotObs f g k o m = record { flat = m.flat; keeps = m.keeps; stand = (m.stands, tt); tree = ap not_obs m.tree; others = omega (arith, m.others); conts = m.conts }

-- a node over two observations
ready-joined : (f g : Flat) (l r : ℕ) (o q : ObservationTree) (n : ObservationNode) (form : ObservationTree → ObservationTree → ObservationTree) → MadeObservations f g l r o q
    → observation_parts n ≡ an_observation l ∷ an_observation r ∷ [] → observation_of (trees g) n ≡ form ((trees g).observation l) ((trees g).observation r) → observation_size (form o q) ≡ 1 + observation_size o + observation_size q → ReadyObservation f g n (form o q)
ready-joined f g l r o q n form m parts of size = record {
  flat = m.flat;
  keeps = m.keeps;
  stand = subst (AllStand g) (sym parts) (m.left, (m.right, tt));
  tree = of ∙ (λ i. form (m.left_tree i) (m.right_tree i));
  others = omega (arith, m.others, size);
  conts = m.conts;
}

pub ready-AndObs : (f g : Flat) (l r : ℕ) (o q : ObservationTree) → MadeObservations f g l r o q → ReadyObservation f g (observations.AndObs l r) (and_obs o q)
unfolding value_size
ready-AndObs f g l r o q m = ready-joined f g l r o q (observations.AndObs l r) and_obs m refl refl refl

pub ready-OrObs : (f g : Flat) (l r : ℕ) (o q : ObservationTree) → MadeObservations f g l r o q → ReadyObservation f g (observations.OrObs l r) (or_obs o q)
unfolding value_size
ready-OrObs f g l r o q m = ready-joined f g l r o q (observations.OrObs l r) or_obs m refl refl refl

-- a comparison
ready-compared : (f g : Flat) (l r : ℕ) (v w : ValueTree) (n : ObservationNode) (form : ValueTree → ValueTree → ObservationTree) → MadeValues f g l r v w
    → observation_parts n ≡ a_value l ∷ a_value r ∷ [] → observation_of (trees g) n ≡ form ((trees g).value l) ((trees g).value r) → observation_size (form v w) ≡ 1 + value_size v + value_size w → ReadyObservation f g n (form v w)
ready-compared f g l r v w n form m parts of size = record {
  flat = m.flat;
  keeps = m.keeps;
  stand = subst (AllStand g) (sym parts) (m.left, (m.right, tt));
  tree = of ∙ (λ i. form (m.left_tree i) (m.right_tree i));
  others = omega (arith, m.others, size);
  conts = m.conts;
}

pub ready-ValueGE : (f g : Flat) (l r : ℕ) (v w : ValueTree) → MadeValues f g l r v w → ReadyObservation f g (observations.ValueGE l r) (value_ge v w)
unfolding value_size
ready-ValueGE f g l r v w m = ready-compared f g l r v w (observations.ValueGE l r) value_ge m refl refl refl

pub ready-ValueGT : (f g : Flat) (l r : ℕ) (v w : ValueTree) → MadeValues f g l r v w → ReadyObservation f g (observations.ValueGT l r) (value_gt v w)
unfolding value_size
ready-ValueGT f g l r v w m = ready-compared f g l r v w (observations.ValueGT l r) value_gt m refl refl refl

pub ready-ValueLT : (f g : Flat) (l r : ℕ) (v w : ValueTree) → MadeValues f g l r v w → ReadyObservation f g (observations.ValueLT l r) (value_lt v w)
unfolding value_size
ready-ValueLT f g l r v w m = ready-compared f g l r v w (observations.ValueLT l r) value_lt m refl refl refl

pub ready-ValueLE : (f g : Flat) (l r : ℕ) (v w : ValueTree) → MadeValues f g l r v w → ReadyObservation f g (observations.ValueLE l r) (value_le v w)
unfolding value_size
ready-ValueLE f g l r v w m = ready-compared f g l r v w (observations.ValueLE l r) value_le m refl refl refl

pub ready-ValueEQ : (f g : Flat) (l r : ℕ) (v w : ValueTree) → MadeValues f g l r v w → ReadyObservation f g (observations.ValueEQ l r) (value_eq v w)
unfolding value_size
ready-ValueEQ f g l r v w m = ready-compared f g l r v w (observations.ValueEQ l r) value_eq m refl refl refl

-- ---- each tree

mutual
  unfolding code_value value_size

  pub value-made : (t : ValueTree) (f : Flat) → IsFlat f → value_height t ≤ 999 → MadeValue f (code_value t f).0 (code_value t f).1 t
  value-made (available_money p t) f i l = join-value f f (values.AvailableMoney p t) (available_money p t) (ready-leaf f (values.AvailableMoney p t) (available_money p t) i tt refl refl) l
  value-made (constant n) f i l = join-value f f (values.Constant n) (constant n) (ready-leaf f (values.Constant n) (constant n) i tt refl refl) l
  value-made (neg_value v) f i l =
      let a = value-made v f i (omega (arith, l)) in
      join-value f _ _ (neg_value v) (ready-NegValue f _ _ v a) l
  value-made (add_value v w) f i l =
      let a = value-made v f i (omega (arith, l)) in
      let b = value-made w (code_value v f).0 a.flat (omega (arith, l)) in
      join-value f _ _ (add_value v w) (ready-AddValue f _ _ _ v w (both-values f _ _ _ _ v w a b)) l
  value-made (sub_value v w) f i l =
      let a = value-made v f i (omega (arith, l)) in
      let b = value-made w (code_value v f).0 a.flat (omega (arith, l)) in
      join-value f _ _ (sub_value v w) (ready-SubValue f _ _ _ v w (both-values f _ _ _ _ v w a b)) l
  value-made (mul_value v w) f i l =
      let a = value-made v f i (omega (arith, l)) in
      let b = value-made w (code_value v f).0 a.flat (omega (arith, l)) in
      join-value f _ _ (mul_value v w) (ready-MulValue f _ _ _ v w (both-values f _ _ _ _ v w a b)) l
  value-made (div_value v w) f i l =
      let a = value-made v f i (omega (arith, l)) in
      let b = value-made w (code_value v f).0 a.flat (omega (arith, l)) in
      join-value f _ _ (div_value v w) (ready-DivValue f _ _ _ v w (both-values f _ _ _ _ v w a b)) l
  value-made (choice_value id) f i l = join-value f f (values.ChoiceValue id) (choice_value id) (ready-leaf f (values.ChoiceValue id) (choice_value id) i tt refl refl) l
  value-made time_interval_start f i l = join-value f f values.TimeIntervalStart time_interval_start (ready-leaf f values.TimeIntervalStart time_interval_start i tt refl refl) l
  value-made time_interval_end f i l = join-value f f values.TimeIntervalEnd time_interval_end (ready-leaf f values.TimeIntervalEnd time_interval_end i tt refl refl) l
  value-made (use_value x) f i l = join-value f f (values.UseValue x) (use_value x) (ready-leaf f (values.UseValue x) (use_value x) i tt refl refl) l
  value-made (cond_value o v w) f i l =
      let c = observation-made o f i (omega (arith, l)) in
      let a = value-made v (code_observation o f).0 c.flat (omega (arith, l)) in
      let b = value-made w (code_value v (code_observation o f).0).0 a.flat (omega (arith, l)) in
      join-value f _ _ (cond_value o v w) (ready-Cond f _ _ _ _ _ o v w c (both-values _ _ _ _ _ v w a b)) l

  pub observation-made : (t : ObservationTree) (f : Flat) → IsFlat f → observation_height t ≤ 999 → MadeObservation f (code_observation t f).0 (code_observation t f).1 t
  observation-made (and_obs o q) f i l =
      let a = observation-made o f i (omega (arith, l)) in
      let b = observation-made q (code_observation o f).0 a.flat (omega (arith, l)) in
      join-observation f _ _ (and_obs o q) (ready-AndObs f _ _ _ o q (both-observations f _ _ _ _ o q a b)) l
  observation-made (or_obs o q) f i l =
      let a = observation-made o f i (omega (arith, l)) in
      let b = observation-made q (code_observation o f).0 a.flat (omega (arith, l)) in
      join-observation f _ _ (or_obs o q) (ready-OrObs f _ _ _ o q (both-observations f _ _ _ _ o q a b)) l
  observation-made (not_obs o) f i l =
      let a = observation-made o f i (omega (arith, l)) in
      join-observation f _ _ (not_obs o) (ready-NotObs f _ _ o a) l
  observation-made (chose_something id) f i l = join-observation f f (observations.ChoseSomething id) (chose_something id) (ready-plain f (observations.ChoseSomething id) (chose_something id) i tt refl refl) l
  observation-made (value_ge v w) f i l =
      let a = value-made v f i (omega (arith, l)) in
      let b = value-made w (code_value v f).0 a.flat (omega (arith, l)) in
      join-observation f _ _ (value_ge v w) (ready-ValueGE f _ _ _ v w (both-values f _ _ _ _ v w a b)) l
  observation-made (value_gt v w) f i l =
      let a = value-made v f i (omega (arith, l)) in
      let b = value-made w (code_value v f).0 a.flat (omega (arith, l)) in
      join-observation f _ _ (value_gt v w) (ready-ValueGT f _ _ _ v w (both-values f _ _ _ _ v w a b)) l
  observation-made (value_lt v w) f i l =
      let a = value-made v f i (omega (arith, l)) in
      let b = value-made w (code_value v f).0 a.flat (omega (arith, l)) in
      join-observation f _ _ (value_lt v w) (ready-ValueLT f _ _ _ v w (both-values f _ _ _ _ v w a b)) l
  observation-made (value_le v w) f i l =
      let a = value-made v f i (omega (arith, l)) in
      let b = value-made w (code_value v f).0 a.flat (omega (arith, l)) in
      join-observation f _ _ (value_le v w) (ready-ValueLE f _ _ _ v w (both-values f _ _ _ _ v w a b)) l
  observation-made (value_eq v w) f i l =
      let a = value-made v f i (omega (arith, l)) in
      let b = value-made w (code_value v f).0 a.flat (omega (arith, l)) in
      join-observation f _ _ (value_eq v w) (ready-ValueEQ f _ _ _ v w (both-values f _ _ _ _ v w a b)) l
  observation-made true_obs f i l = join-observation f f observations.TrueObs true_obs (ready-plain f observations.TrueObs true_obs i tt refl refl) l
  observation-made false_obs f i l = join-observation f f observations.FalseObs false_obs (ready-plain f observations.FalseObs false_obs i tt refl refl) l

-- ---- what the code has put, and what may be put next

pub at-value : (f g : Flat) (k : ℕ) (v : ValueTree) → IsFlat f → value_height v ≤ 999 → g ≡ (code_value v f).0 → k ≡ (code_value v f).1 → MadeValue f g k v
at-value f g k v i l eg ek = subst (λ (x : Flat). MadeValue f x k v) (sym eg) (subst (λ (x : ℕ). MadeValue f (code_value v f).0 x v) (sym ek) (value-made v f i l))

pub at-observation : (f g : Flat) (k : ℕ) (o : ObservationTree) → IsFlat f → observation_height o ≤ 999 → g ≡ (code_observation o f).0 → k ≡ (code_observation o f).1 → MadeObservation f g k o
at-observation f g k o i l eg ek = subst (λ (x : Flat). MadeObservation f x k o) (sym eg) (subst (λ (x : ℕ). MadeObservation f (code_observation o f).0 x o) (sym ek) (observation-made o f i l))

pub at-values : (f g : Flat) (l r : ℕ) (v w : ValueTree) → IsFlat f → value_height v ≤ 999 → value_height w ≤ 999
    → g ≡ (code_value w (code_value v f).0).0 → l ≡ (code_value v f).1 → r ≡ (code_value w (code_value v f).0).1 → MadeValues f g l r v w
at-values f g l r v w i h k eg el er =
    let a = value-made v f i h in
    both-values f (code_value v f).0 g l r v w (subst (λ (x : ℕ). MadeValue f (code_value v f).0 x v) (sym el) a) (at-value (code_value v f).0 g r w a.flat k eg er)

pub at-observations : (f g : Flat) (l r : ℕ) (o q : ObservationTree) → IsFlat f → observation_height o ≤ 999 → observation_height q ≤ 999
    → g ≡ (code_observation q (code_observation o f).0).0 → l ≡ (code_observation o f).1 → r ≡ (code_observation q (code_observation o f).0).1 → MadeObservations f g l r o q
at-observations f g l r o q i h k eg el er =
    let a = observation-made o f i h in
    both-observations f (code_observation o f).0 g l r o q (subst (λ (x : ℕ). MadeObservation f (code_observation o f).0 x o) (sym el) a) (at-observation (code_observation o f).0 g r q a.flat k eg er)

-- the node of a value may be put
abbrev ValueFits : Flat → ValueNode → Type 0
ValueFits g n = AllStand g (value_parts n) × ((value_height (value_of (trees g) n) ≤ 999) × (others_in g < 1000000))

abbrev ObservationFits : Flat → ObservationNode → Type 0
ObservationFits g n = AllStand g (observation_parts n) × ((observation_height (observation_of (trees g) n) ≤ 999) × (others_in g < 1000000))

value-fits : (f g : Flat) (n : ValueNode) (t u : ValueTree) → u ≡ t → value_height u ≤ 999 → others_in f + value_size u ≤ 1000000 → ReadyValue f g n t → ValueFits g n
value-fits f g n t u e l m r = (r.stand, (omega (arith, l, ap value_height r.tree, ap value_height e), omega (arith, m, r.others, ap value_size e)))

observation-fits : (f g : Flat) (n : ObservationNode) (t u : ObservationTree) → u ≡ t → observation_height u ≤ 999 → others_in f + observation_size u ≤ 1000000 → ReadyObservation f g n t → ObservationFits g n
observation-fits f g n t u e l m r = (r.stand, (omega (arith, l, ap observation_height r.tree, ap observation_height e), omega (arith, m, r.others, ap observation_size e)))

pub fits-NegValue : (f g : Flat) (k : ℕ) (u v : ValueTree) → u ≡ neg_value v → IsFlat f → value_height u ≤ 999 → others_in f + value_size u ≤ 1000000
    → g ≡ (code_value v f).0 → k ≡ (code_value v f).1 → ValueFits g (values.NegValue k)
fits-NegValue f g k u v e i l m eg ek =
    value-fits f g (values.NegValue k) (neg_value v) u e l m (ready-NegValue f g k v (at-value f g k v i (omega (arith, l, ap value_height e)) eg ek))

pub fits-NotObs : (f g : Flat) (k : ℕ) (u o : ObservationTree) → u ≡ not_obs o → IsFlat f → observation_height u ≤ 999 → others_in f + observation_size u ≤ 1000000
    → g ≡ (code_observation o f).0 → k ≡ (code_observation o f).1 → ObservationFits g (observations.NotObs k)
fits-NotObs f g k u o e i l m eg ek =
    observation-fits f g (observations.NotObs k) (not_obs o) u e l m (ready-NotObs f g k o (at-observation f g k o i (omega (arith, l, ap observation_height e)) eg ek))

pub fits-AddValue : (f g : Flat) (l r : ℕ) (u v w : ValueTree) → u ≡ add_value v w → IsFlat f → value_height u ≤ 999 → others_in f + value_size u ≤ 1000000
    → g ≡ (code_value w (code_value v f).0).0 → l ≡ (code_value v f).1 → r ≡ (code_value w (code_value v f).0).1 → ValueFits g (values.AddValue l r)
fits-AddValue f g l r u v w e i h m eg el er =
    value-fits f g (values.AddValue l r) (add_value v w) u e h m (ready-AddValue f g l r v w (at-values f g l r v w i (omega (arith, h, ap value_height e)) (omega (arith, h, ap value_height e)) eg el er))

pub fits-SubValue : (f g : Flat) (l r : ℕ) (u v w : ValueTree) → u ≡ sub_value v w → IsFlat f → value_height u ≤ 999 → others_in f + value_size u ≤ 1000000
    → g ≡ (code_value w (code_value v f).0).0 → l ≡ (code_value v f).1 → r ≡ (code_value w (code_value v f).0).1 → ValueFits g (values.SubValue l r)
fits-SubValue f g l r u v w e i h m eg el er =
    value-fits f g (values.SubValue l r) (sub_value v w) u e h m (ready-SubValue f g l r v w (at-values f g l r v w i (omega (arith, h, ap value_height e)) (omega (arith, h, ap value_height e)) eg el er))

pub fits-MulValue : (f g : Flat) (l r : ℕ) (u v w : ValueTree) → u ≡ mul_value v w → IsFlat f → value_height u ≤ 999 → others_in f + value_size u ≤ 1000000
    → g ≡ (code_value w (code_value v f).0).0 → l ≡ (code_value v f).1 → r ≡ (code_value w (code_value v f).0).1 → ValueFits g (values.MulValue l r)
fits-MulValue f g l r u v w e i h m eg el er =
    value-fits f g (values.MulValue l r) (mul_value v w) u e h m (ready-MulValue f g l r v w (at-values f g l r v w i (omega (arith, h, ap value_height e)) (omega (arith, h, ap value_height e)) eg el er))

pub fits-DivValue : (f g : Flat) (l r : ℕ) (u v w : ValueTree) → u ≡ div_value v w → IsFlat f → value_height u ≤ 999 → others_in f + value_size u ≤ 1000000
    → g ≡ (code_value w (code_value v f).0).0 → l ≡ (code_value v f).1 → r ≡ (code_value w (code_value v f).0).1 → ValueFits g (values.DivValue l r)
fits-DivValue f g l r u v w e i h m eg el er =
    value-fits f g (values.DivValue l r) (div_value v w) u e h m (ready-DivValue f g l r v w (at-values f g l r v w i (omega (arith, h, ap value_height e)) (omega (arith, h, ap value_height e)) eg el er))

pub fits-ValueGE : (f g : Flat) (l r : ℕ) (u : ObservationTree) (v w : ValueTree) → u ≡ value_ge v w → IsFlat f → observation_height u ≤ 999 → others_in f + observation_size u ≤ 1000000
    → g ≡ (code_value w (code_value v f).0).0 → l ≡ (code_value v f).1 → r ≡ (code_value w (code_value v f).0).1 → ObservationFits g (observations.ValueGE l r)
fits-ValueGE f g l r u v w e i h m eg el er =
    observation-fits f g (observations.ValueGE l r) (value_ge v w) u e h m (ready-ValueGE f g l r v w (at-values f g l r v w i (omega (arith, h, ap observation_height e)) (omega (arith, h, ap observation_height e)) eg el er))

pub fits-ValueGT : (f g : Flat) (l r : ℕ) (u : ObservationTree) (v w : ValueTree) → u ≡ value_gt v w → IsFlat f → observation_height u ≤ 999 → others_in f + observation_size u ≤ 1000000
    → g ≡ (code_value w (code_value v f).0).0 → l ≡ (code_value v f).1 → r ≡ (code_value w (code_value v f).0).1 → ObservationFits g (observations.ValueGT l r)
fits-ValueGT f g l r u v w e i h m eg el er =
    observation-fits f g (observations.ValueGT l r) (value_gt v w) u e h m (ready-ValueGT f g l r v w (at-values f g l r v w i (omega (arith, h, ap observation_height e)) (omega (arith, h, ap observation_height e)) eg el er))

pub fits-ValueLT : (f g : Flat) (l r : ℕ) (u : ObservationTree) (v w : ValueTree) → u ≡ value_lt v w → IsFlat f → observation_height u ≤ 999 → others_in f + observation_size u ≤ 1000000
    → g ≡ (code_value w (code_value v f).0).0 → l ≡ (code_value v f).1 → r ≡ (code_value w (code_value v f).0).1 → ObservationFits g (observations.ValueLT l r)
fits-ValueLT f g l r u v w e i h m eg el er =
    observation-fits f g (observations.ValueLT l r) (value_lt v w) u e h m (ready-ValueLT f g l r v w (at-values f g l r v w i (omega (arith, h, ap observation_height e)) (omega (arith, h, ap observation_height e)) eg el er))

pub fits-ValueLE : (f g : Flat) (l r : ℕ) (u : ObservationTree) (v w : ValueTree) → u ≡ value_le v w → IsFlat f → observation_height u ≤ 999 → others_in f + observation_size u ≤ 1000000
    → g ≡ (code_value w (code_value v f).0).0 → l ≡ (code_value v f).1 → r ≡ (code_value w (code_value v f).0).1 → ObservationFits g (observations.ValueLE l r)
fits-ValueLE f g l r u v w e i h m eg el er =
    observation-fits f g (observations.ValueLE l r) (value_le v w) u e h m (ready-ValueLE f g l r v w (at-values f g l r v w i (omega (arith, h, ap observation_height e)) (omega (arith, h, ap observation_height e)) eg el er))

pub fits-ValueEQ : (f g : Flat) (l r : ℕ) (u : ObservationTree) (v w : ValueTree) → u ≡ value_eq v w → IsFlat f → observation_height u ≤ 999 → others_in f + observation_size u ≤ 1000000
    → g ≡ (code_value w (code_value v f).0).0 → l ≡ (code_value v f).1 → r ≡ (code_value w (code_value v f).0).1 → ObservationFits g (observations.ValueEQ l r)
fits-ValueEQ f g l r u v w e i h m eg el er =
    observation-fits f g (observations.ValueEQ l r) (value_eq v w) u e h m (ready-ValueEQ f g l r v w (at-values f g l r v w i (omega (arith, h, ap observation_height e)) (omega (arith, h, ap observation_height e)) eg el er))

pub fits-AndObs : (f g : Flat) (l r : ℕ) (u o q : ObservationTree) → u ≡ and_obs o q → IsFlat f → observation_height u ≤ 999 → others_in f + observation_size u ≤ 1000000
    → g ≡ (code_observation q (code_observation o f).0).0 → l ≡ (code_observation o f).1 → r ≡ (code_observation q (code_observation o f).0).1 → ObservationFits g (observations.AndObs l r)
fits-AndObs f g l r u o q e i h m eg el er =
    observation-fits f g (observations.AndObs l r) (and_obs o q) u e h m (ready-AndObs f g l r o q (at-observations f g l r o q i (omega (arith, h, ap observation_height e)) (omega (arith, h, ap observation_height e)) eg el er))

pub fits-OrObs : (f g : Flat) (l r : ℕ) (u o q : ObservationTree) → u ≡ or_obs o q → IsFlat f → observation_height u ≤ 999 → others_in f + observation_size u ≤ 1000000
    → g ≡ (code_observation q (code_observation o f).0).0 → l ≡ (code_observation o f).1 → r ≡ (code_observation q (code_observation o f).0).1 → ObservationFits g (observations.OrObs l r)
fits-OrObs f g l r u o q e i h m eg el er =
    observation-fits f g (observations.OrObs l r) (or_obs o q) u e h m (ready-OrObs f g l r o q (at-observations f g l r o q i (omega (arith, h, ap observation_height e)) (omega (arith, h, ap observation_height e)) eg el er))

pub fits-Cond : (f g h : Flat) (k l r : ℕ) (u : ValueTree) (o : ObservationTree) (v w : ValueTree) → u ≡ cond_value o v w → IsFlat f → value_height u ≤ 999 → others_in f + value_size u ≤ 1000000
    → g ≡ (code_observation o f).0 → k ≡ (code_observation o f).1
    → h ≡ (code_value w (code_value v g).0).0 → l ≡ (code_value v g).1 → r ≡ (code_value w (code_value v g).0).1 → ValueFits h (values.Cond k l r)
fits-Cond f g h k l r u o v w e i b m eg ek eh el er =
    let c = at-observation f g k o i (omega (arith, b, ap value_height e)) eg ek in
    value-fits f h (values.Cond k l r) (cond_value o v w) u e b m
    (ready-Cond f g h k l r o v w c (at-values g h l r v w c.flat (omega (arith, b, ap value_height e)) (omega (arith, b, ap value_height e)) eh el er))

-- ---- the node that the code puts is the one that the definition puts

pub codes-NegValue : (f g : Flat) (k : ℕ) (u v : ValueTree) → u ≡ neg_value v → g ≡ (code_value v f).0 → k ≡ (code_value v f).1 → put_value g (values.NegValue k) ≡ code_value u f
unfolding code_value
codes-NegValue f g k u v e eg ek = (λ i. put_value (eg i) (values.NegValue (ek i))) ∙ ap (λ t. code_value t f) (sym e)

pub codes-NotObs : (f g : Flat) (k : ℕ) (u o : ObservationTree) → u ≡ not_obs o → g ≡ (code_observation o f).0 → k ≡ (code_observation o f).1 → put_observation g (observations.NotObs k) ≡ code_observation u f
unfolding code_value
codes-NotObs f g k u o e eg ek = (λ i. put_observation (eg i) (observations.NotObs (ek i))) ∙ ap (λ t. code_observation t f) (sym e)

pub codes-AddValue : (f g : Flat) (l r : ℕ) (u v w : ValueTree) → u ≡ add_value v w → g ≡ (code_value w (code_value v f).0).0 → l ≡ (code_value v f).1 → r ≡ (code_value w (code_value v f).0).1 → put_value g (values.AddValue l r) ≡ code_value u f
unfolding code_value
codes-AddValue f g l r u v w e eg el er = (λ i. put_value (eg i) (values.AddValue (el i) (er i))) ∙ ap (λ t. code_value t f) (sym e)

pub codes-SubValue : (f g : Flat) (l r : ℕ) (u v w : ValueTree) → u ≡ sub_value v w → g ≡ (code_value w (code_value v f).0).0 → l ≡ (code_value v f).1 → r ≡ (code_value w (code_value v f).0).1 → put_value g (values.SubValue l r) ≡ code_value u f
unfolding code_value
codes-SubValue f g l r u v w e eg el er = (λ i. put_value (eg i) (values.SubValue (el i) (er i))) ∙ ap (λ t. code_value t f) (sym e)

pub codes-MulValue : (f g : Flat) (l r : ℕ) (u v w : ValueTree) → u ≡ mul_value v w → g ≡ (code_value w (code_value v f).0).0 → l ≡ (code_value v f).1 → r ≡ (code_value w (code_value v f).0).1 → put_value g (values.MulValue l r) ≡ code_value u f
unfolding code_value
codes-MulValue f g l r u v w e eg el er = (λ i. put_value (eg i) (values.MulValue (el i) (er i))) ∙ ap (λ t. code_value t f) (sym e)

pub codes-DivValue : (f g : Flat) (l r : ℕ) (u v w : ValueTree) → u ≡ div_value v w → g ≡ (code_value w (code_value v f).0).0 → l ≡ (code_value v f).1 → r ≡ (code_value w (code_value v f).0).1 → put_value g (values.DivValue l r) ≡ code_value u f
unfolding code_value
codes-DivValue f g l r u v w e eg el er = (λ i. put_value (eg i) (values.DivValue (el i) (er i))) ∙ ap (λ t. code_value t f) (sym e)

pub codes-ValueGE : (f g : Flat) (l r : ℕ) (u : ObservationTree) (v w : ValueTree) → u ≡ value_ge v w → g ≡ (code_value w (code_value v f).0).0 → l ≡ (code_value v f).1 → r ≡ (code_value w (code_value v f).0).1 → put_observation g (observations.ValueGE l r) ≡ code_observation u f
unfolding code_value
codes-ValueGE f g l r u v w e eg el er = (λ i. put_observation (eg i) (observations.ValueGE (el i) (er i))) ∙ ap (λ t. code_observation t f) (sym e)

pub codes-ValueGT : (f g : Flat) (l r : ℕ) (u : ObservationTree) (v w : ValueTree) → u ≡ value_gt v w → g ≡ (code_value w (code_value v f).0).0 → l ≡ (code_value v f).1 → r ≡ (code_value w (code_value v f).0).1 → put_observation g (observations.ValueGT l r) ≡ code_observation u f
unfolding code_value
codes-ValueGT f g l r u v w e eg el er = (λ i. put_observation (eg i) (observations.ValueGT (el i) (er i))) ∙ ap (λ t. code_observation t f) (sym e)

pub codes-ValueLT : (f g : Flat) (l r : ℕ) (u : ObservationTree) (v w : ValueTree) → u ≡ value_lt v w → g ≡ (code_value w (code_value v f).0).0 → l ≡ (code_value v f).1 → r ≡ (code_value w (code_value v f).0).1 → put_observation g (observations.ValueLT l r) ≡ code_observation u f
unfolding code_value
codes-ValueLT f g l r u v w e eg el er = (λ i. put_observation (eg i) (observations.ValueLT (el i) (er i))) ∙ ap (λ t. code_observation t f) (sym e)

pub codes-ValueLE : (f g : Flat) (l r : ℕ) (u : ObservationTree) (v w : ValueTree) → u ≡ value_le v w → g ≡ (code_value w (code_value v f).0).0 → l ≡ (code_value v f).1 → r ≡ (code_value w (code_value v f).0).1 → put_observation g (observations.ValueLE l r) ≡ code_observation u f
unfolding code_value
codes-ValueLE f g l r u v w e eg el er = (λ i. put_observation (eg i) (observations.ValueLE (el i) (er i))) ∙ ap (λ t. code_observation t f) (sym e)

pub codes-ValueEQ : (f g : Flat) (l r : ℕ) (u : ObservationTree) (v w : ValueTree) → u ≡ value_eq v w → g ≡ (code_value w (code_value v f).0).0 → l ≡ (code_value v f).1 → r ≡ (code_value w (code_value v f).0).1 → put_observation g (observations.ValueEQ l r) ≡ code_observation u f
unfolding code_value
codes-ValueEQ f g l r u v w e eg el er = (λ i. put_observation (eg i) (observations.ValueEQ (el i) (er i))) ∙ ap (λ t. code_observation t f) (sym e)

pub codes-AndObs : (f g : Flat) (l r : ℕ) (u o q : ObservationTree) → u ≡ and_obs o q → g ≡ (code_observation q (code_observation o f).0).0 → l ≡ (code_observation o f).1 → r ≡ (code_observation q (code_observation o f).0).1 → put_observation g (observations.AndObs l r) ≡ code_observation u f
unfolding code_value
codes-AndObs f g l r u o q e eg el er = (λ i. put_observation (eg i) (observations.AndObs (el i) (er i))) ∙ ap (λ t. code_observation t f) (sym e)

pub codes-OrObs : (f g : Flat) (l r : ℕ) (u o q : ObservationTree) → u ≡ or_obs o q → g ≡ (code_observation q (code_observation o f).0).0 → l ≡ (code_observation o f).1 → r ≡ (code_observation q (code_observation o f).0).1 → put_observation g (observations.OrObs l r) ≡ code_observation u f
unfolding code_value
codes-OrObs f g l r u o q e eg el er = (λ i. put_observation (eg i) (observations.OrObs (el i) (er i))) ∙ ap (λ t. code_observation t f) (sym e)

pub codes-Cond : (f g h : Flat) (k l r : ℕ) (u : ValueTree) (o : ObservationTree) (v w : ValueTree) → u ≡ cond_value o v w → g ≡ (code_observation o f).0 → k ≡ (code_observation o f).1
    → h ≡ (code_value w (code_value v g).0).0 → l ≡ (code_value v g).1 → r ≡ (code_value w (code_value v g).0).1 → put_value h (values.Cond k l r) ≡ code_value u f
unfolding code_value
codes-Cond f g h k l r u o v w e eg ek eh el er =
    (λ i. put_value (eh i) (values.Cond (ek i) (el i) (er i)))
    ∙ ((λ i. put_value (code_value w (code_value v (eg i)).0).0 (values.Cond (code_observation o f).1 (code_value v (eg i)).1 (code_value w (code_value v (eg i)).0).1)) ∙ ap (λ t. code_value t f) (sym e))

-- ---- the operands are smaller, and lower, and there is room for them

pub room-AddValue : (f : Flat) (u v w : ValueTree) → u ≡ add_value v w → value_height u ≤ 999 → others_in f + value_size u ≤ 1000000
    → (value_size v + value_size w < value_size u) × ((value_height v ≤ 999) × ((value_height w ≤ 999) × (others_in f + (value_size v + value_size w) ≤ 1000000)))
unfolding value_size
room-AddValue f u v w e l m = (omega (arith, ap value_size e), (omega (arith, l, ap value_height e), (omega (arith, l, ap value_height e), omega (arith, m, ap value_size e))))

pub room-SubValue : (f : Flat) (u v w : ValueTree) → u ≡ sub_value v w → value_height u ≤ 999 → others_in f + value_size u ≤ 1000000
    → (value_size v + value_size w < value_size u) × ((value_height v ≤ 999) × ((value_height w ≤ 999) × (others_in f + (value_size v + value_size w) ≤ 1000000)))
unfolding value_size
room-SubValue f u v w e l m = (omega (arith, ap value_size e), (omega (arith, l, ap value_height e), (omega (arith, l, ap value_height e), omega (arith, m, ap value_size e))))

pub room-MulValue : (f : Flat) (u v w : ValueTree) → u ≡ mul_value v w → value_height u ≤ 999 → others_in f + value_size u ≤ 1000000
    → (value_size v + value_size w < value_size u) × ((value_height v ≤ 999) × ((value_height w ≤ 999) × (others_in f + (value_size v + value_size w) ≤ 1000000)))
unfolding value_size
room-MulValue f u v w e l m = (omega (arith, ap value_size e), (omega (arith, l, ap value_height e), (omega (arith, l, ap value_height e), omega (arith, m, ap value_size e))))

pub room-DivValue : (f : Flat) (u v w : ValueTree) → u ≡ div_value v w → value_height u ≤ 999 → others_in f + value_size u ≤ 1000000
    → (value_size v + value_size w < value_size u) × ((value_height v ≤ 999) × ((value_height w ≤ 999) × (others_in f + (value_size v + value_size w) ≤ 1000000)))
unfolding value_size
room-DivValue f u v w e l m = (omega (arith, ap value_size e), (omega (arith, l, ap value_height e), (omega (arith, l, ap value_height e), omega (arith, m, ap value_size e))))

pub room-ValueGE : (f : Flat) (u : ObservationTree) (v w : ValueTree) → u ≡ value_ge v w → observation_height u ≤ 999 → others_in f + observation_size u ≤ 1000000
    → (value_size v + value_size w < observation_size u) × ((value_height v ≤ 999) × ((value_height w ≤ 999) × (others_in f + (value_size v + value_size w) ≤ 1000000)))
unfolding value_size
room-ValueGE f u v w e l m = (omega (arith, ap observation_size e), (omega (arith, l, ap observation_height e), (omega (arith, l, ap observation_height e), omega (arith, m, ap observation_size e))))

pub room-ValueGT : (f : Flat) (u : ObservationTree) (v w : ValueTree) → u ≡ value_gt v w → observation_height u ≤ 999 → others_in f + observation_size u ≤ 1000000
    → (value_size v + value_size w < observation_size u) × ((value_height v ≤ 999) × ((value_height w ≤ 999) × (others_in f + (value_size v + value_size w) ≤ 1000000)))
unfolding value_size
room-ValueGT f u v w e l m = (omega (arith, ap observation_size e), (omega (arith, l, ap observation_height e), (omega (arith, l, ap observation_height e), omega (arith, m, ap observation_size e))))

pub room-ValueLT : (f : Flat) (u : ObservationTree) (v w : ValueTree) → u ≡ value_lt v w → observation_height u ≤ 999 → others_in f + observation_size u ≤ 1000000
    → (value_size v + value_size w < observation_size u) × ((value_height v ≤ 999) × ((value_height w ≤ 999) × (others_in f + (value_size v + value_size w) ≤ 1000000)))
unfolding value_size
room-ValueLT f u v w e l m = (omega (arith, ap observation_size e), (omega (arith, l, ap observation_height e), (omega (arith, l, ap observation_height e), omega (arith, m, ap observation_size e))))

pub room-ValueLE : (f : Flat) (u : ObservationTree) (v w : ValueTree) → u ≡ value_le v w → observation_height u ≤ 999 → others_in f + observation_size u ≤ 1000000
    → (value_size v + value_size w < observation_size u) × ((value_height v ≤ 999) × ((value_height w ≤ 999) × (others_in f + (value_size v + value_size w) ≤ 1000000)))
unfolding value_size
room-ValueLE f u v w e l m = (omega (arith, ap observation_size e), (omega (arith, l, ap observation_height e), (omega (arith, l, ap observation_height e), omega (arith, m, ap observation_size e))))

pub room-ValueEQ : (f : Flat) (u : ObservationTree) (v w : ValueTree) → u ≡ value_eq v w → observation_height u ≤ 999 → others_in f + observation_size u ≤ 1000000
    → (value_size v + value_size w < observation_size u) × ((value_height v ≤ 999) × ((value_height w ≤ 999) × (others_in f + (value_size v + value_size w) ≤ 1000000)))
unfolding value_size
room-ValueEQ f u v w e l m = (omega (arith, ap observation_size e), (omega (arith, l, ap observation_height e), (omega (arith, l, ap observation_height e), omega (arith, m, ap observation_size e))))

pub room-AndObs : (f : Flat) (u o q : ObservationTree) → u ≡ and_obs o q → observation_height u ≤ 999 → others_in f + observation_size u ≤ 1000000
    → (observation_size o + observation_size q < observation_size u) × ((observation_height o ≤ 999) × ((observation_height q ≤ 999) × (others_in f + (observation_size o + observation_size q) ≤ 1000000)))
unfolding value_size
room-AndObs f u o q e l m = (omega (arith, ap observation_size e), (omega (arith, l, ap observation_height e), (omega (arith, l, ap observation_height e), omega (arith, m, ap observation_size e))))

pub room-OrObs : (f : Flat) (u o q : ObservationTree) → u ≡ or_obs o q → observation_height u ≤ 999 → others_in f + observation_size u ≤ 1000000
    → (observation_size o + observation_size q < observation_size u) × ((observation_height o ≤ 999) × ((observation_height q ≤ 999) × (others_in f + (observation_size o + observation_size q) ≤ 1000000)))
unfolding value_size
room-OrObs f u o q e l m = (omega (arith, ap observation_size e), (omega (arith, l, ap observation_height e), (omega (arith, l, ap observation_height e), omega (arith, m, ap observation_size e))))
