-- The code of a contract stands for it.
use Rattle.std.proofs.Common.{◌≡◌, refl, sym, ap, ◌∙◌, subst, ℕ, ℤ, ◌+◌, ◌<◌, ◌≤◌, List, length, map, arith}
use Rattle.contract.specs.Tree.{ValueTree, ObservationTree, ActionTree, deposit, choice, notify, ContractTree, close, pay, if_obs, when, let_be, assert, CaseTrees, no_cases, case_then, case_trees}
use Rattle.contract.specs.Names.declared.party.Party.{Party}
use Rattle.contract.specs.Names.declared.payee.Payee.{Payee}
use Rattle.contract.specs.Names.declared.token.Token.{Token}
use Rattle.table.specs.Nodes.declared.cont.Cont.{Cont}
use Rattle.table.specs.Nodes.declared.cont_node.ContNode.{ContNode}
use Rattle.table.specs.Nodes.declared.cont_node.ContNode.TheVariants as conts_nodes
use Rattle.table.specs.Heights.{case_over, case_height, contract_height}
use Rattle.table.specs.Flat.{Flat, nothing, trees, case_of, cont_of, case_parts, cont_parts, Part, a_value, an_observation, a_case, a_cont, Stands, AllStand, Fine, parts_of, height_of, IsFlat}
use Rattle.table.proofs.HeightLaws.{case_above, cont_above, above_is}
use Rattle.table_builder.specs.Putting.{put_case, put_cont, others_in}
use Rattle.table_builder.proofs.PuttingLaws.{case_put, cont_put, one_case, one_cont}
use Rattle.lowering.specs.Sizes.{action_size, conts, conts_of, others, others_of}
use Rattle.lowering.specs.Code.{code_value, code_observation, code_action, case_node, code_case, code_contract, code_cases, code}
use Rattle.lowering.specs.Building.{cases_height, ActionStands}
use Rattle.lowering.specs.Laws.{CodesStand, CodesTellApart}
use Rattle.lowering.proofs.Trees.{action-lasts, action-low, then-low, listed-last, listed-same}
use Rattle.lowering.proofs.Keeping.{Keeps, kept, keeps-refl, keeps-trans}
use Rattle.lowering.proofs.Made.{MadeValue, MadeObservation, value-made, observation-made, at-value, at-observation}

-- ---- actions and cases

-- f was continued to g, where n stands for what the action a waits for
pub record MadeAction (f g : Flat) (n : ℕ) (a : ActionTree) : Type 0 where
  pub flat : IsFlat g
  pub keeps : Keeps f g
  pub stands : ActionStands g a n
  pub others : others_in g ≤ others_in f + action_size a
  pub conts : length g.conts ≤ length f.conts

pub action-made : (a : ActionTree) (f : Flat) → IsFlat f → case_over a 0 ≤ 999 → MadeAction f (code_action a f).0 (code_action a f).1 a
unfolding code_action action_size
action-made (deposit a p t v) f i l = let m = value-made v f i (omega (arith, l)) in record { flat = m.flat; keeps = m.keeps; stands = (m.stands, m.tree); others = m.others; conts = m.conts }
action-made (choice id bounds) f i l = record { flat = i; keeps = keeps-refl f; stands = tt; others = omega arith; conts = omega arith }
action-made (notify o) f i l = let m = observation-made o f i (omega (arith, l)) in record { flat = m.flat; keeps = m.keeps; stands = (m.stands, m.tree); others = m.others; conts = m.conts }

-- f was continued to g, where number k stands for the case of a and c
pub record MadeCase (f g : Flat) (k : ℕ) (a : ActionTree) (c : ContractTree) : Type 0 where
  pub flat : IsFlat g
  pub keeps : Keeps f g
  pub stands : k < length g.cases
  pub tree : (trees g).case k ≡ (a, c)
  pub others : others_in g ≤ others_in f + (1 + action_size a + others c)
  pub conts : length g.conts ≤ length f.conts + conts c

-- f was continued to g, where number k stands for the contract c
pub record MadeCont (f g : Flat) (k : Cont) (c : ContractTree) : Type 0 where
  pub flat : IsFlat g
  pub keeps : Keeps f g
  pub stands : k.0 < length g.conts
  pub tree : (trees g).cont k.0 ≡ c
  pub others : others_in g ≤ others_in f + others c
  pub conts : length g.conts ≤ length f.conts + conts c

-- f was continued to g, where the numbers ns stand for the cases ks
pub record MadeCases (f g : Flat) (ns : List ℕ) (ks : CaseTrees) : Type 0 where
  pub flat : IsFlat g
  pub keeps : Keeps f g
  pub stands : AllStand g (map a_case ns)
  pub tree : case_trees (map (trees g).case ns) ≡ ks
  pub others : others_in g ≤ others_in f + others_of ks
  pub conts : length g.conts ≤ length f.conts + conts_of ks

-- f was continued to g, which is ready for n, the node of the contract c
pub record ReadyCont (f g : Flat) (n : ContNode) (c : ContractTree) : Type 0 where
  pub flat : IsFlat g
  pub keeps : Keeps f g
  pub stand : AllStand g (cont_parts n)
  pub tree : cont_of (trees g) n ≡ c
  pub others : others_in g ≤ others_in f + others c
  pub conts : length g.conts + 1 ≤ length f.conts + conts c

join-cont : (f g : Flat) (n : ContNode) (c : ContractTree) → ReadyCont f g n c → contract_height c ≤ 999 → MadeCont f (put_cont g n).0 (put_cont g n).1 c
join-cont f g n c r l =
    let m = one_cont g n in
    let p = cont_put g r.flat n r.stand (omega (arith, l, ap contract_height r.tree, above_is g (cont_parts n) r.flat r.stand, cont_above (trees g) n)) in
    record {
      flat = p.flat;
      keeps = keeps-trans f g _ r.keeps (kept g _ p.keeps);
      stands = p.stands;
      tree = p.tree ∙ r.tree;
      others = omega (arith, r.others, m.others);
      conts = omega (arith, r.conts, m.conts);
    }

case_names_stand : (a : ActionTree) (f : Flat) (n : ℕ) (k : Cont) → ActionStands f a n → k.0 < length f.conts → AllStand f (case_parts (case_node a n k))
case_names_stand (deposit a p t v) f n k s l = (s.0, (l, tt))
case_names_stand (choice id bounds) f n k s l = (l, tt)
case_names_stand (notify o) f n k s l = (s.0, (l, tt))

case-stands : (a : ActionTree) (f : Flat) (n : ℕ) (k : Cont) (c : ContractTree) → ActionStands f a n → (trees f).cont k.0 ≡ c → case_of (trees f) (case_node a n k) ≡ (a, c)
case-stands (deposit a p t v) f n k c s e = λ i. (deposit a p t (s.1 i), e i)
case-stands (choice id bounds) f n k c s e = λ i. (choice id bounds, e i)
case-stands (notify o) f n k c s e = λ i. (notify (s.1 i), e i)

-- what an action waits for and its continuation stand in h
join-case : (f g h : Flat) (n : ℕ) (k : Cont) (a : ActionTree) (c : ContractTree) → MadeAction f g n a → MadeCont g h k c → case_over a (contract_height c) ≤ 999
    → MadeCase f (put_case h (case_node a n k)).0 (put_case h (case_node a n k)).1 a c
join-case f g h n k a c x y l =
    let m = one_case h (case_node a n k) in
    let s = action-lasts g h a n y.keeps x.stands in
    let stand = case_names_stand a h n k s y.stands in
    let tree = case-stands a h n k c s y.tree in
    let p = case_put h y.flat (case_node a n k) stand (omega (arith, l, ap case_height tree, above_is h (case_parts (case_node a n k)) y.flat stand, case_above (trees h) (case_node a n k))) in
    record {
      flat = p.flat;
      keeps = keeps-trans f h _ (keeps-trans f g h x.keeps y.keeps) (kept h _ p.keeps);
      stands = p.stands;
      tree = p.tree ∙ tree;
      others = omega (arith, x.others, y.others, m.others);
      conts = omega (arith, x.conts, y.conts, ap length m.conts);
    }

-- ---- what each form has to have stand before

pub ready-Close : (f : Flat) → IsFlat f → ReadyCont f f conts_nodes.Close close
unfolding others conts
ready-Close f i = record { flat = i; keeps = keeps-refl f; stand = tt; tree = refl; others = omega arith; conts = omega arith }

pub ready-Pay : (f g h : Flat) (n : ℕ) (k : Cont) (p : Party) (y : Payee) (t : Token) (v : ValueTree) (c : ContractTree) → MadeValue f g n v → MadeCont g h k c → ReadyCont f h (conts_nodes.Pay p y t n k) (pay p y t v c)
unfolding others conts
ready-Pay f g h n k p y t v c a b = record {
  flat = b.flat;
  keeps = keeps-trans f g h a.keeps b.keeps;
  stand = (omega (arith, a.stands, b.keeps.values), (b.stands, tt));
  tree = λ j. pay p y t ((b.keeps.value n a.stands ∙ a.tree) j) (b.tree j);
  others = omega (arith, a.others, b.others);
  conts = omega (arith, a.conts, b.conts);
}

pub ready-Let : (f g h : Flat) (n : ℕ) (k : Cont) (x : List ℕ) (v : ValueTree) (c : ContractTree) → MadeValue f g n v → MadeCont g h k c → ReadyCont f h (conts_nodes.Let x n k) (let_be x v c)
unfolding others conts
ready-Let f g h n k x v c a b = record {
  flat = b.flat;
  keeps = keeps-trans f g h a.keeps b.keeps;
  stand = (omega (arith, a.stands, b.keeps.values), (b.stands, tt));
  tree = λ j. let_be x ((b.keeps.value n a.stands ∙ a.tree) j) (b.tree j);
  others = omega (arith, a.others, b.others);
  conts = omega (arith, a.conts, b.conts);
}

pub ready-Assert : (f g h : Flat) (n : ℕ) (k : Cont) (o : ObservationTree) (c : ContractTree) → MadeObservation f g n o → MadeCont g h k c → ReadyCont f h (conts_nodes.Assert n k) (assert o c)
unfolding others conts
ready-Assert f g h n k o c a b = record {
  flat = b.flat;
  keeps = keeps-trans f g h a.keeps b.keeps;
  stand = (omega (arith, a.stands, b.keeps.observations), (b.stands, tt));
  tree = λ j. assert ((b.keeps.observation n a.stands ∙ a.tree) j) (b.tree j);
  others = omega (arith, a.others, b.others);
  conts = omega (arith, a.conts, b.conts);
}

pub ready-If : (f g h e : Flat) (n : ℕ) (j k : Cont) (o : ObservationTree) (c d : ContractTree) → MadeObservation f g n o → MadeCont g h j c → MadeCont h e k d → ReadyCont f e (conts_nodes.If n j k) (if_obs o c d)
unfolding others conts
ready-If f g h e n j k o c d x y z =
    let q = keeps-trans g h e y.keeps z.keeps in
    record {
      flat = z.flat;
      keeps = keeps-trans f g e x.keeps q;
      stand = (omega (arith, x.stands, q.observations), (omega (arith, y.stands, z.keeps.conts), (z.stands, tt)));
      tree = λ i. if_obs ((q.observation n x.stands ∙ x.tree) i) ((z.keeps.cont j.0 y.stands ∙ y.tree) i) (z.tree i);
      others = omega (arith, x.others, y.others, z.others);
      conts = omega (arith, x.conts, y.conts, z.conts);
    }

pub ready-When : (f g h : Flat) (ns : List ℕ) (k : Cont) (ks : CaseTrees) (t : ℤ) (c : ContractTree) → MadeCases f g ns ks → MadeCont g h k c → ReadyCont f h (conts_nodes.When ns t k) (when ks t c)
unfolding others conts
ready-When f g h ns k ks t c a b = record {
  flat = b.flat;
  keeps = keeps-trans f g h a.keeps b.keeps;
  stand = (b.stands, listed-last g h ns b.keeps a.stands);
  tree = λ j. when ((ap case_trees (listed-same g h ns b.keeps a.stands) ∙ a.tree) j) t (b.tree j);
  others = omega (arith, a.others, b.others);
  conts = omega (arith, a.conts, b.conts);
}

-- ---- each tree

mutual
  unfolding code_contract others conts

  pub contract-made : (c : ContractTree) (f : Flat) → IsFlat f → contract_height c ≤ 999 → MadeCont f (code_contract c f).0 (code_contract c f).1 c
  contract-made close f i l = join-cont f f conts_nodes.Close close (ready-Close f i) l
  contract-made (pay p y m v c) f i l =
      let a = value-made v f i (omega (arith, l)) in
      let b = contract-made c (code_value v f).0 a.flat (omega (arith, l)) in
      join-cont f _ _ (pay p y m v c) (ready-Pay f _ _ _ _ p y m v c a b) l
  contract-made (let_be x v c) f i l =
      let a = value-made v f i (omega (arith, l)) in
      let b = contract-made c (code_value v f).0 a.flat (omega (arith, l)) in
      join-cont f _ _ (let_be x v c) (ready-Let f _ _ _ _ x v c a b) l
  contract-made (assert o c) f i l =
      let a = observation-made o f i (omega (arith, l)) in
      let b = contract-made c (code_observation o f).0 a.flat (omega (arith, l)) in
      join-cont f _ _ (assert o c) (ready-Assert f _ _ _ _ o c a b) l
  contract-made (if_obs o c d) f i l =
      let a = observation-made o f i (omega (arith, l)) in
      let b = contract-made c (code_observation o f).0 a.flat (omega (arith, l)) in
      let e = contract-made d (code_contract c (code_observation o f).0).0 b.flat (omega (arith, l)) in
      join-cont f _ _ (if_obs o c d) (ready-If f _ _ _ _ _ _ o c d a b e) l
  contract-made (when ks n c) f i l =
      let a = cases-made ks f i (omega (arith, l)) in
      let b = contract-made c (code_cases ks f).0 a.flat (omega (arith, l)) in
      join-cont f _ _ (when ks n c) (ready-When f _ _ _ _ ks n c a b) l

  cases-made : (ks : CaseTrees) (f : Flat) → IsFlat f → cases_height ks ≤ 999 → MadeCases f (code_cases ks f).0 (code_cases ks f).1 ks
  cases-made no_cases f i l = record { flat = i; keeps = keeps-refl f; stands = tt; tree = refl; others = omega arith; conts = omega arith }
  cases-made (case_then t c ks) f i l =
      let h : case_over t (contract_height c) ≤ 999 = omega (arith, l) in
      let a = action-made t f i (action-low t (contract_height c) h) in
      let b = contract-made c (code_action t f).0 a.flat (then-low t (contract_height c) h) in
      let e = join-case f _ _ _ _ t c a b h in
      let r = cases-made ks (code_case t (code_contract c) f).0 e.flat (omega (arith, l)) in
      record {
        flat = r.flat;
        keeps = keeps-trans f _ _ e.keeps r.keeps;
        stands = (omega (arith, e.stands, r.keeps.cases), r.stands);
        tree = λ j. case_then ((r.keeps.case _ e.stands ∙ e.tree) j).0 ((r.keeps.case _ e.stands ∙ e.tree) j).1 (r.tree j);
        others = omega (arith, e.others, r.others);
        conts = omega (arith, e.conts, r.conts);
      }

pub case-made : (a : ActionTree) (c : ContractTree) (f : Flat) → IsFlat f → case_over a (contract_height c) ≤ 999 → MadeCase f (code_case a (code_contract c) f).0 (code_case a (code_contract c) f).1 a c
case-made t c f i h =
    let a = action-made t f i (action-low t (contract_height c) h) in
    let b = contract-made c (code_action t f).0 a.flat (then-low t (contract_height c) h) in
    join-case f _ _ _ _ t c a b h

none-fine : (x : Part) → Stands nothing x → Fine nothing (parts_of nothing x) (height_of nothing x)
none-fine (a_value k) s = absurd (omega (arith, s))
none-fine (an_observation k) s = absurd (omega (arith, s))
none-fine (a_case k) s = absurd (omega (arith, s))
none-fine (a_cont k) s = absurd (omega (arith, s))

pub nothing-flat : IsFlat nothing
nothing-flat = record { fine = none-fine }

pub codes_stand : CodesStand
unfolding code
codes_stand c l = let m = contract-made c nothing nothing-flat l in (record { flat = m.flat; stands = m.stands }, m.tree)

pub codes_tell_apart : CodesTellApart
codes_tell_apart c d l m = (λ e. ap code e, λ e. sym (codes_stand c l).1 ∙ (ap (λ (made : Flat × Cont). (trees made.0).cont made.1.0) e ∙ (codes_stand d m).1))

-- ---- what the code has put, and what may be put next

pub at-action : (f g : Flat) (n : ℕ) (a : ActionTree) → IsFlat f → case_over a 0 ≤ 999 → g ≡ (code_action a f).0 → n ≡ (code_action a f).1 → MadeAction f g n a
at-action f g n a i l eg en = subst (λ (x : Flat). MadeAction f x n a) (sym eg) (subst (λ (x : ℕ). MadeAction f (code_action a f).0 x a) (sym en) (action-made a f i l))

pub at-cont : (f g : Flat) (k : Cont) (c : ContractTree) → IsFlat f → contract_height c ≤ 999 → g ≡ (code_contract c f).0 → k ≡ (code_contract c f).1 → MadeCont f g k c
at-cont f g k c i l eg ek = subst (λ (x : Flat). MadeCont f x k c) (sym eg) (subst (λ (x : Cont). MadeCont f (code_contract c f).0 x c) (sym ek) (contract-made c f i l))

pub at-cases : (f g : Flat) (ns : List ℕ) (ks : CaseTrees) → IsFlat f → cases_height ks ≤ 999 → g ≡ (code_cases ks f).0 → ns ≡ (code_cases ks f).1 → MadeCases f g ns ks
at-cases f g ns ks i l eg en = subst (λ (x : Flat). MadeCases f x ns ks) (sym eg) (subst (λ (x : List ℕ). MadeCases f (code_cases ks f).0 x ks) (sym en) (cases-made ks f i l))

-- the contract c, a part of u, may be put after g
pub record Next (g : Flat) (u c : ContractTree) : Type 0 where
  pub flat : IsFlat g
  pub low : contract_height c ≤ 999
  pub room : others_in g + others c ≤ 1000000
  pub fewer : conts c < conts u
  pub conts : length g.conts + conts c ≤ 65535

pub next-Pay : (f g : Flat) (n : ℕ) (u : ContractTree) (p : Party) (y : Payee) (t : Token) (v : ValueTree) (c : ContractTree) → u ≡ pay p y t v c → IsFlat f → contract_height u ≤ 999 → others_in f + others u ≤ 1000000 → length f.conts + conts u ≤ 65535
    → g ≡ (code_value v f).0 → n ≡ (code_value v f).1 → Next g u c
unfolding others conts
next-Pay f g n u p y t v c e i l m k eg en =
    let a = at-value f g n v i (omega (arith, l, ap contract_height e)) eg en in
    record { flat = a.flat; low = omega (arith, l, ap contract_height e); room = omega (arith, m, ap others e, a.others); conts = omega (arith, k, ap conts e, a.conts); fewer = omega (arith, ap conts e) }

pub next-Let : (f g : Flat) (n : ℕ) (u : ContractTree) (x : List ℕ) (v : ValueTree) (c : ContractTree) → u ≡ let_be x v c → IsFlat f → contract_height u ≤ 999 → others_in f + others u ≤ 1000000 → length f.conts + conts u ≤ 65535
    → g ≡ (code_value v f).0 → n ≡ (code_value v f).1 → Next g u c
unfolding others conts
next-Let f g n u x v c e i l m k eg en =
    let a = at-value f g n v i (omega (arith, l, ap contract_height e)) eg en in
    record { flat = a.flat; low = omega (arith, l, ap contract_height e); room = omega (arith, m, ap others e, a.others); conts = omega (arith, k, ap conts e, a.conts); fewer = omega (arith, ap conts e) }

pub next-Assert : (f g : Flat) (n : ℕ) (u : ContractTree) (o : ObservationTree) (c : ContractTree) → u ≡ assert o c → IsFlat f → contract_height u ≤ 999 → others_in f + others u ≤ 1000000 → length f.conts + conts u ≤ 65535
    → g ≡ (code_observation o f).0 → n ≡ (code_observation o f).1 → Next g u c
unfolding others conts
next-Assert f g n u o c e i l m k eg en =
    let a = at-observation f g n o i (omega (arith, l, ap contract_height e)) eg en in
    record { flat = a.flat; low = omega (arith, l, ap contract_height e); room = omega (arith, m, ap others e, a.others); conts = omega (arith, k, ap conts e, a.conts); fewer = omega (arith, ap conts e) }

pub next-then : (f g : Flat) (n : ℕ) (u : ContractTree) (o : ObservationTree) (c d : ContractTree) → u ≡ if_obs o c d → IsFlat f → contract_height u ≤ 999 → others_in f + others u ≤ 1000000 → length f.conts + conts u ≤ 65535
    → g ≡ (code_observation o f).0 → n ≡ (code_observation o f).1 → Next g u c
unfolding others conts
next-then f g n u o c d e i l m k eg en =
    let a = at-observation f g n o i (omega (arith, l, ap contract_height e)) eg en in
    record { flat = a.flat; low = omega (arith, l, ap contract_height e); room = omega (arith, m, ap others e, a.others); conts = omega (arith, k, ap conts e, a.conts); fewer = omega (arith, ap conts e) }

pub next-otherwise : (f g h : Flat) (n : ℕ) (j : Cont) (u : ContractTree) (o : ObservationTree) (c d : ContractTree) → u ≡ if_obs o c d → IsFlat f → contract_height u ≤ 999 → others_in f + others u ≤ 1000000 → length f.conts + conts u ≤ 65535
    → g ≡ (code_observation o f).0 → n ≡ (code_observation o f).1 → h ≡ (code_contract c g).0 → j ≡ (code_contract c g).1 → Next h u d
unfolding others conts
next-otherwise f g h n j u o c d e i l m k eg en eh ej =
    let a = at-observation f g n o i (omega (arith, l, ap contract_height e)) eg en in
    let b = at-cont g h j c a.flat (omega (arith, l, ap contract_height e)) eh ej in
    record { flat = b.flat; low = omega (arith, l, ap contract_height e); room = omega (arith, m, ap others e, a.others, b.others); conts = omega (arith, k, ap conts e, a.conts, b.conts); fewer = omega (arith, ap conts e) }

pub next-When : (f g : Flat) (ns : List ℕ) (u : ContractTree) (ks : CaseTrees) (t : ℤ) (c : ContractTree) → u ≡ when ks t c → IsFlat f → contract_height u ≤ 999 → others_in f + others u ≤ 1000000 → length f.conts + conts u ≤ 65535
    → g ≡ (code_cases ks f).0 → ns ≡ (code_cases ks f).1 → Next g u c
unfolding others conts
next-When f g ns u ks t c e i l m k eg en =
    let a = at-cases f g ns ks i (omega (arith, l, ap contract_height e)) eg en in
    record { flat = a.flat; low = omega (arith, l, ap contract_height e); room = omega (arith, m, ap others e, a.others); conts = omega (arith, k, ap conts e, a.conts); fewer = omega (arith, ap conts e) }

-- the node of a contract may be put
abbrev ContFits : Flat → ContNode → Type 0
ContFits g n = AllStand g (cont_parts n) × ((contract_height (cont_of (trees g) n) ≤ 999) × (length g.conts < 65535))

cont-fits : (f g : Flat) (n : ContNode) (t u : ContractTree) → u ≡ t → contract_height u ≤ 999 → length f.conts + conts u ≤ 65535 → ReadyCont f g n t → ContFits g n
cont-fits f g n t u e l m r = (r.stand, (omega (arith, l, ap contract_height r.tree, ap contract_height e), omega (arith, m, r.conts, ap conts e)))

pub fits-Close : (f : Flat) (u : ContractTree) → u ≡ close → IsFlat f → contract_height u ≤ 999 → length f.conts + conts u ≤ 65535 → ContFits f conts_nodes.Close
fits-Close f u e i l m = cont-fits f f conts_nodes.Close close u e l m (ready-Close f i)

pub fits-Pay : (f g h : Flat) (n : ℕ) (k : Cont) (u : ContractTree) (p : Party) (y : Payee) (t : Token) (v : ValueTree) (c : ContractTree) → u ≡ pay p y t v c → IsFlat f → contract_height u ≤ 999 → length f.conts + conts u ≤ 65535
    → g ≡ (code_value v f).0 → n ≡ (code_value v f).1 → h ≡ (code_contract c g).0 → k ≡ (code_contract c g).1 → ContFits h (conts_nodes.Pay p y t n k)
fits-Pay f g h n k u p y t v c e i l m eg en eh ek =
    let a = at-value f g n v i (omega (arith, l, ap contract_height e)) eg en in
    let b = at-cont g h k c a.flat (omega (arith, l, ap contract_height e)) eh ek in
    cont-fits f h (conts_nodes.Pay p y t n k) (pay p y t v c) u e l m (ready-Pay f g h n k p y t v c a b)

pub fits-Let : (f g h : Flat) (n : ℕ) (k : Cont) (u : ContractTree) (x : List ℕ) (v : ValueTree) (c : ContractTree) → u ≡ let_be x v c → IsFlat f → contract_height u ≤ 999 → length f.conts + conts u ≤ 65535
    → g ≡ (code_value v f).0 → n ≡ (code_value v f).1 → h ≡ (code_contract c g).0 → k ≡ (code_contract c g).1 → ContFits h (conts_nodes.Let x n k)
fits-Let f g h n k u x v c e i l m eg en eh ek =
    let a = at-value f g n v i (omega (arith, l, ap contract_height e)) eg en in
    let b = at-cont g h k c a.flat (omega (arith, l, ap contract_height e)) eh ek in
    cont-fits f h (conts_nodes.Let x n k) (let_be x v c) u e l m (ready-Let f g h n k x v c a b)

pub fits-Assert : (f g h : Flat) (n : ℕ) (k : Cont) (u : ContractTree) (o : ObservationTree) (c : ContractTree) → u ≡ assert o c → IsFlat f → contract_height u ≤ 999 → length f.conts + conts u ≤ 65535
    → g ≡ (code_observation o f).0 → n ≡ (code_observation o f).1 → h ≡ (code_contract c g).0 → k ≡ (code_contract c g).1 → ContFits h (conts_nodes.Assert n k)
fits-Assert f g h n k u o c e i l m eg en eh ek =
    let a = at-observation f g n o i (omega (arith, l, ap contract_height e)) eg en in
    let b = at-cont g h k c a.flat (omega (arith, l, ap contract_height e)) eh ek in
    cont-fits f h (conts_nodes.Assert n k) (assert o c) u e l m (ready-Assert f g h n k o c a b)

pub fits-If : (f g h q : Flat) (n : ℕ) (j k : Cont) (u : ContractTree) (o : ObservationTree) (c d : ContractTree) → u ≡ if_obs o c d → IsFlat f → contract_height u ≤ 999 → length f.conts + conts u ≤ 65535
    → g ≡ (code_observation o f).0 → n ≡ (code_observation o f).1 → h ≡ (code_contract c g).0 → j ≡ (code_contract c g).1 → q ≡ (code_contract d h).0 → k ≡ (code_contract d h).1 → ContFits q (conts_nodes.If n j k)
fits-If f g h q n j k u o c d e i l m eg en eh ej eq ek =
    let a = at-observation f g n o i (omega (arith, l, ap contract_height e)) eg en in
    let b = at-cont g h j c a.flat (omega (arith, l, ap contract_height e)) eh ej in
    let z = at-cont h q k d b.flat (omega (arith, l, ap contract_height e)) eq ek in
    cont-fits f q (conts_nodes.If n j k) (if_obs o c d) u e l m (ready-If f g h q n j k o c d a b z)

pub fits-When : (f g h : Flat) (ns : List ℕ) (k : Cont) (u : ContractTree) (ks : CaseTrees) (t : ℤ) (c : ContractTree) → u ≡ when ks t c → IsFlat f → contract_height u ≤ 999 → length f.conts + conts u ≤ 65535
    → g ≡ (code_cases ks f).0 → ns ≡ (code_cases ks f).1 → h ≡ (code_contract c g).0 → k ≡ (code_contract c g).1 → ContFits h (conts_nodes.When ns t k)
fits-When f g h ns k u ks t c e i l m eg en eh ek =
    let a = at-cases f g ns ks i (omega (arith, l, ap contract_height e)) eg en in
    let b = at-cont g h k c a.flat (omega (arith, l, ap contract_height e)) eh ek in
    cont-fits f h (conts_nodes.When ns t k) (when ks t c) u e l m (ready-When f g h ns k ks t c a b)

-- a case may be put, over g, where what it waits for was put, and h, where what follows was put
pub record CaseFits (h : Flat) (a : ActionTree) (n : ℕ) (k : Cont) : Type 0 where
  pub waits : ActionStands h a n
  pub stands : k.0 < length h.conts
  pub low : case_over a (contract_height ((trees h).cont k.0)) ≤ 999
  pub room : others_in h < 1000000

pub fits-case : (f g h : Flat) (n : ℕ) (k : Cont) (a : ActionTree) (c : ContractTree) → IsFlat f → case_over a (contract_height c) ≤ 999 → others_in f + (1 + action_size a + others c) ≤ 1000000
    → g ≡ (code_action a f).0 → n ≡ (code_action a f).1 → h ≡ (code_contract c g).0 → k ≡ (code_contract c g).1 → CaseFits h a n k
fits-case f g h n k a c i l m eg en eh ek =
    let x = at-action f g n a i (action-low a (contract_height c) l) eg en in
    let y = at-cont g h k c x.flat (then-low a (contract_height c) l) eh ek in
    record {
      waits = action-lasts g h a n y.keeps x.stands;
      stands = y.stands;
      low = subst (λ (d : ContractTree). case_over a (contract_height d) ≤ 999) (sym y.tree) l;
      room = omega (arith, m, x.others, y.others);
    }

pub next-case : (f g : Flat) (n : ℕ) (a : ActionTree) (c : ContractTree) → IsFlat f → case_over a (contract_height c) ≤ 999 → others_in f + (1 + action_size a + others c) ≤ 1000000 → length f.conts + conts c ≤ 65535
    → g ≡ (code_action a f).0 → n ≡ (code_action a f).1 → IsFlat g × ((contract_height c ≤ 999) × ((others_in g + others c ≤ 1000000) × (length g.conts + conts c ≤ 65535)))
next-case f g n a c i l m k eg en =
    let x = at-action f g n a i (action-low a (contract_height c) l) eg en in
    (x.flat, (then-low a (contract_height c) l, (omega (arith, m, x.others), omega (arith, k, x.conts))))

-- ---- the node that the code puts is the one that the definition puts

pub codes-Pay : (f g h : Flat) (n : ℕ) (k : Cont) (u : ContractTree) (p : Party) (y : Payee) (t : Token) (v : ValueTree) (c : ContractTree) → u ≡ pay p y t v c
    → g ≡ (code_value v f).0 → n ≡ (code_value v f).1 → h ≡ (code_contract c g).0 → k ≡ (code_contract c g).1 → put_cont h (conts_nodes.Pay p y t n k) ≡ code_contract u f
unfolding code_contract
codes-Pay f g h n k u p y t v c e eg en eh ek =
    (λ i. put_cont (eh i) (conts_nodes.Pay p y t (en i) (ek i)))
    ∙ ((λ i. put_cont (code_contract c (eg i)).0 (conts_nodes.Pay p y t (code_value v f).1 (code_contract c (eg i)).1)) ∙ ap (λ d. code_contract d f) (sym e))

pub codes-Let : (f g h : Flat) (n : ℕ) (k : Cont) (u : ContractTree) (x : List ℕ) (v : ValueTree) (c : ContractTree) → u ≡ let_be x v c
    → g ≡ (code_value v f).0 → n ≡ (code_value v f).1 → h ≡ (code_contract c g).0 → k ≡ (code_contract c g).1 → put_cont h (conts_nodes.Let x n k) ≡ code_contract u f
unfolding code_contract
codes-Let f g h n k u x v c e eg en eh ek =
    (λ i. put_cont (eh i) (conts_nodes.Let x (en i) (ek i)))
    ∙ ((λ i. put_cont (code_contract c (eg i)).0 (conts_nodes.Let x (code_value v f).1 (code_contract c (eg i)).1)) ∙ ap (λ d. code_contract d f) (sym e))

pub codes-Assert : (f g h : Flat) (n : ℕ) (k : Cont) (u : ContractTree) (o : ObservationTree) (c : ContractTree) → u ≡ assert o c
    → g ≡ (code_observation o f).0 → n ≡ (code_observation o f).1 → h ≡ (code_contract c g).0 → k ≡ (code_contract c g).1 → put_cont h (conts_nodes.Assert n k) ≡ code_contract u f
unfolding code_contract
codes-Assert f g h n k u o c e eg en eh ek =
    (λ i. put_cont (eh i) (conts_nodes.Assert (en i) (ek i)))
    ∙ ((λ i. put_cont (code_contract c (eg i)).0 (conts_nodes.Assert (code_observation o f).1 (code_contract c (eg i)).1)) ∙ ap (λ d. code_contract d f) (sym e))

pub codes-If : (f g h q : Flat) (n : ℕ) (j k : Cont) (u : ContractTree) (o : ObservationTree) (c d : ContractTree) → u ≡ if_obs o c d
    → g ≡ (code_observation o f).0 → n ≡ (code_observation o f).1 → h ≡ (code_contract c g).0 → j ≡ (code_contract c g).1 → q ≡ (code_contract d h).0 → k ≡ (code_contract d h).1 → put_cont q (conts_nodes.If n j k) ≡ code_contract u f
unfolding code_contract
codes-If f g h q n j k u o c d e eg en eh ej eq ek =
    (λ i. put_cont (eq i) (conts_nodes.If (en i) (ej i) (ek i)))
    ∙ ((λ i. put_cont (code_contract d (eh i)).0 (conts_nodes.If (code_observation o f).1 (code_contract c g).1 (code_contract d (eh i)).1))
    ∙ ((λ i. put_cont (code_contract d (code_contract c (eg i)).0).0 (conts_nodes.If (code_observation o f).1 (code_contract c (eg i)).1 (code_contract d (code_contract c (eg i)).0).1)) ∙ ap (λ x. code_contract x f) (sym e)))

pub codes-When : (f g h : Flat) (ns : List ℕ) (k : Cont) (u : ContractTree) (ks : CaseTrees) (t s : ℤ) (c : ContractTree) → u ≡ when ks t c → s ≡ t
    → g ≡ (code_cases ks f).0 → ns ≡ (code_cases ks f).1 → h ≡ (code_contract c g).0 → k ≡ (code_contract c g).1 → put_cont h (conts_nodes.When ns s k) ≡ code_contract u f
unfolding code_contract
codes-When f g h ns k u ks t s c e es eg en eh ek =
    (λ i. put_cont (eh i) (conts_nodes.When (en i) (es i) (ek i)))
    ∙ ((λ i. put_cont (code_contract c (eg i)).0 (conts_nodes.When (code_cases ks f).1 t (code_contract c (eg i)).1)) ∙ ap (λ d. code_contract d f) (sym e))

pub codes-case : (f g : Flat) (n : ℕ) (a : ActionTree) (c : ContractTree) (h : Flat) (k : Cont)
    → g ≡ (code_action a f).0 → n ≡ (code_action a f).1 → h ≡ (code_contract c g).0 → k ≡ (code_contract c g).1 → put_case h (case_node a n k) ≡ code_case a (code_contract c) f
codes-case f g n a c h k eg en eh ek =
    (λ i. put_case (eh i) (case_node a (en i) (ek i)))
    ∙ (λ i. put_case (code_contract c (eg i)).0 (case_node a (code_action a f).1 (code_contract c (eg i)).1))
