-- No reader needs this file: it serves the proofs of this crate and those above it.
-- Turns lead among the numbers of a table as they lead in the trees.
use Rattle.std.specs.Prelude.{◌≡◌, ℕ, suc, zero, List, [], ◌∷◌, Option, Some, None, slice_get, option_map, refl, map, length, true, ◌==◌, ◌↔◌}
use Rattle.std.proofs.Common.{ap, sym, ◌∙◌, subst, arith, ◌<◌}
use Rattle.std.proofs.lemmas.Bool.Decides.{nat_tests}
use Rattle.std.specs.Option.{option_and_then, unwrap_or}
use Rattle.std.specs.Cmp.{unsigned_Decides}
use Rattle.contract.specs.Tree.{ContractTree, case_trees}
use Rattle.nodes.specs.declared.cont.Cont.{Cont}
use Rattle.nodes.specs.declared.case_node.CaseNode.{CaseNode}
use Rattle.nodes.specs.declared.case_node.CaseNode.TheVariants.{Deposit, Choice, Notify}
use Rattle.nodes.specs.declared.cont_node.ContNode.{ContNode}
use Rattle.nodes.specs.declared.cont_node.ContNode.TheVariants.{Close, Pay, If, When, Let, Assert}
use Rattle.table.specs.Flat.{Flat, Trees, trees, a_case, a_cont, Stands, AllStand, IsFlat, Has, case_of, cont_of, cont_tree, case_tree, cont_entry, case_entry, cont_parts, case_parts, follows}
use Rattle.table.specs.LevelLaws.{tree_is}
use Rattle.evaluation.specs.Path.{Turn, refund, next, then_branch, else_branch, timed_out, in_case}
use Rattle.evaluation.specs.Path.{part, along, case_list, waits_for}
use Rattle.table.specs.Along.{node_turn, next_cont, cont_along, cont_at, has_cont, TurnsLead}

-- what follows a case
follows_tree : (t : Trees) (n : CaseNode) → (case_of t n).1 ≡ t.cont (follows n).0
follows_tree t (Deposit a p u v k) = refl
follows_tree t (Choice id bounds k) = refl
follows_tree t (Notify o k) = refl

follows_stands : (f : Flat) (n : CaseNode) → AllStand f (case_parts n) → Stands f (a_cont (follows n).0)
follows_stands f (Deposit a p u v k) s = s.1.0
follows_stands f (Choice id bounds k) s = s.0
follows_stands f (Notify o k) s = s.1.0

-- a number, where there is one, is of the table and stands for the part, where there is one; else there is neither
abbrev pub Led : Flat → Option Cont → Option ContractTree → Type 0
Led f None None = Unit {0}
Led f (Some l) (Some c) = Has f (a_cont l.0) × (cont_tree f l.0 ≡ c)
Led f None (Some c) = ⊥
Led f (Some l) None = ⊥

-- the case at an index
case_led : (f : Flat) (cs : List ℕ) (m : ℕ) → IsFlat f → AllStand f (map a_case cs) →
    Led f (option_map (λ j. follows (case_entry f j).node) (slice_get cs m)) (option_map (λ k. k.1) (slice_get (case_list (case_trees (map (trees f).case cs))) m))
case_led f [] m w s = tt
case_led f (j ∷ cs) zero w s = (
  record { flat = w; stands = follows_stands f (case_entry f j).node (w.fine (a_case j) s.0).names },
  sym (ap (λ k. k.1) (tree_is f (a_case j) w s.0) ∙ follows_tree (trees f) (case_entry f j).node),
)
case_led f (j ∷ cs) (suc m) w s = case_led f cs m w s.1

node_led : (f : Flat) (k : Cont) (n : ContNode) (t : Turn) → Has f (a_cont k.0) → AllStand f (cont_parts n) → cont_tree f k.0 ≡ cont_of (trees f) n → Led f (node_turn f k n t) (part (cont_of (trees f) n) t)
node_led f k Close refund w s e = (w, e)
node_led f k Close next w s e = tt
node_led f k Close then_branch w s e = tt
node_led f k Close else_branch w s e = tt
node_led f k Close timed_out w s e = tt
node_led f k Close (in_case m) w s e = tt
node_led f k (Pay p y u v c) refund w s e = tt
node_led f k (Pay p y u v c) next w s e = (record { flat = w.flat; stands = s.1.0 }, refl)
node_led f k (Pay p y u v c) then_branch w s e = tt
node_led f k (Pay p y u v c) else_branch w s e = tt
node_led f k (Pay p y u v c) timed_out w s e = tt
node_led f k (Pay p y u v c) (in_case m) w s e = tt
node_led f k (If o c d) refund w s e = tt
node_led f k (If o c d) next w s e = tt
node_led f k (If o c d) then_branch w s e = (record { flat = w.flat; stands = s.1.0 }, refl)
node_led f k (If o c d) else_branch w s e = (record { flat = w.flat; stands = s.1.1.0 }, refl)
node_led f k (If o c d) timed_out w s e = tt
node_led f k (If o c d) (in_case m) w s e = tt
node_led f k (When cs n c) refund w s e = tt
node_led f k (When cs n c) next w s e = tt
node_led f k (When cs n c) then_branch w s e = tt
node_led f k (When cs n c) else_branch w s e = tt
node_led f k (When cs n c) timed_out w s e = (record { flat = w.flat; stands = s.0 }, refl)
node_led f k (When cs n c) (in_case m) w s e = case_led f cs m w.flat s.1
node_led f k (Let x v c) refund w s e = tt
node_led f k (Let x v c) next w s e = (record { flat = w.flat; stands = s.1.0 }, refl)
node_led f k (Let x v c) then_branch w s e = tt
node_led f k (Let x v c) else_branch w s e = tt
node_led f k (Let x v c) timed_out w s e = tt
node_led f k (Let x v c) (in_case m) w s e = tt
node_led f k (Assert o c) refund w s e = tt
node_led f k (Assert o c) next w s e = (record { flat = w.flat; stands = s.1.0 }, refl)
node_led f k (Assert o c) then_branch w s e = tt
node_led f k (Assert o c) else_branch w s e = tt
node_led f k (Assert o c) timed_out w s e = tt
node_led f k (Assert o c) (in_case m) w s e = tt

-- a turn leads to a number of the table where the tree has the turn, and there alone
turn_led : (f : Flat) (k : Cont) (t : Turn) → Has f (a_cont k.0) → Led f (next_cont f k t) (part (cont_tree f k.0) t)
turn_led f k t w =
    let e = tree_is f (a_cont k.0) w.flat w.stands in
    subst (λ c. Led f (next_cont f k t) (part c t)) (sym e) (node_led f k (cont_entry f k.0).node t w (w.flat.fine (a_cont k.0) w.stands).names e)

then_led : (f : Flat) (ts : List Turn) (o : Option Cont) (x : Option ContractTree) → ((l : Cont) → Has f (a_cont l.0) → Led f (cont_along f l ts) (along (cont_tree f l.0) ts)) → Led f o x →
    Led f (option_and_then (λ l. cont_along f l ts) o) (option_and_then (λ d. along d ts) x)
then_led f ts None None rest h = tt
then_led f ts (Some l) (Some c) rest h = subst (λ d. Led f (cont_along f l ts) (along d ts)) h.1 (rest l h.0)
then_led f ts None (Some c) rest h = absurd h
then_led f ts (Some l) None rest h = absurd h

-- turns lead among the numbers as they lead in the trees
pub all_led : (f : Flat) (ts : List Turn) (k : Cont) → Has f (a_cont k.0) → Led f (cont_along f k ts) (along (cont_tree f k.0) ts)
all_led f [] k w = (w, refl)
all_led f (t ∷ ts) k w = then_led f ts (next_cont f k t) (part (cont_tree f k.0) t) (all_led f ts) (turn_led f k t w)

led_from : (f : Flat) (l : Cont) (o : Option Cont) (x : Option ContractTree) → Led f o x → o ≡ Some l → Has f (a_cont l.0) × (x ≡ Some (cont_tree f l.0))
led_from f l None None h e = absurd (cc)
led_from f l None (Some c) h e = absurd h
led_from f l (Some j) None h e = absurd h
led_from f l (Some j) (Some c) h e =
    let q : j ≡ l = cc in
    (subst (λ i. Has f (a_cont i.0)) q h.0, ap Some (sym h.1 ∙ ap (λ i. cont_tree f i.0) q))

led_back : (f : Flat) (c : ContractTree) (o : Option Cont) (x : Option ContractTree) → Led f o x → x ≡ Some c → (l : Cont) × (o ≡ Some l)
led_back f c None None h e = absurd (cc)
led_back f c None (Some d) h e = absurd h
led_back f c (Some j) None h e = absurd h
led_back f c (Some j) (Some d) h e = (j, refl)

-- one turn, and then others
pub along_more : (f : Flat) (k : Cont) (t : Turn) (l : Cont) (ts : List Turn) (m : Cont) → next_cont f k t ≡ Some l → cont_along f l ts ≡ Some m → cont_along f k (t ∷ ts) ≡ Some m
along_more f k t l ts m h j = ap (option_and_then (λ x. cont_along f x ts)) h ∙ j

-- the number that turns lead to is of the table, and stands for the part that they lead to
pub along_tree : (f : Flat) (k : Cont) (ts : List Turn) (l : Cont) → Has f (a_cont k.0) → cont_along f k ts ≡ Some l → Has f (a_cont l.0) × (along (cont_tree f k.0) ts ≡ Some (cont_tree f l.0))
along_tree f k ts l w h = led_from f l (cont_along f k ts) (along (cont_tree f k.0) ts) (all_led f ts k w) h

-- turns that the tree has lead to a number
pub along_some : (f : Flat) (k : Cont) (ts : List Turn) (c : ContractTree) → Has f (a_cont k.0) → along (cont_tree f k.0) ts ≡ Some c → (l : Cont) × (cont_along f k ts ≡ Some l)
along_some f k ts c w h = led_back f c (cont_along f k ts) (along (cont_tree f k.0) ts) (all_led f ts k w) h

-- turns lead to one number
pub along_one : (f : Flat) (k : Cont) (ts : List Turn) (l m : Cont) → cont_along f k ts ≡ Some l → cont_along f k ts ≡ Some m → l ≡ m
along_one f k ts l m h j = let e : ◌≡◌ {A = Option Cont} (Some l) (Some m) = sym h ∙ j in cc

-- it is the one that the function names
pub along_at : (f : Flat) (k : Cont) (ts : List Turn) (l : Cont) → cont_along f k ts ≡ Some l → cont_at f k ts ≡ l
along_at f k ts l h = ap (λ o. unwrap_or o k) h

-- the test of a number
pub has_is : (f : Flat) (k : Cont) → IsFlat f → (has_cont f k ≡ true) ↔ Has f (a_cont k.0)
has_is f k w = ((λ e. record { flat = w; stands = grind (arith, nat_tests) }), (λ h. let s : k.0 < length f.conts = h.stands in grind (arith, nat_tests)))

pub turns_lead : (f : Flat) → IsFlat f → TurnsLead f
turns_lead f w k ts c e h =
    let here = (has_is f k w).0 e in
    let l = along_some f k ts c here h in
    let there = along_tree f k ts l.0 here l.1 in
    let q : cont_at f k ts ≡ l.0 = along_at f k ts l.0 l.1 in
    let r : cont_tree f (l.0).0 ≡ c = let x : ◌≡◌ {A = Option ContractTree} (Some (cont_tree f (l.0).0)) (Some c) = sym there.1 ∙ h in cc in
    (ap (has_cont f) q ∙ (has_is f (l.0) w).1 there.0, ap (λ j. cont_tree f j.0) q ∙ r)

-- equal numbers are the same
pub same_cont : (k l : Cont) → (k.0 == l.0) ≡ true → k ≡ l
same_cont k l e = let q : k.0 ≡ l.0 = (unsigned_Decides k.0 l.0).0 e in ap (λ (n : ℕ). let j : Cont = record { 0 = n } in j) q

pub same_number : (k l : Cont) → k ≡ l → (k.0 == l.0) ≡ true
same_number k l e = (unsigned_Decides k.0 l.0).1 (ap (λ j. j.0) e)

pub same_cont_tree : (f : Flat) (k l : Cont) → (k.0 == l.0) ≡ true → Has f (a_cont k.0) → Has f (a_cont l.0) × (cont_tree f l.0 ≡ cont_tree f k.0)
same_cont_tree f k l e w = let q = same_cont k l e in (subst (λ j. Has f (a_cont j.0)) q w, ap (λ j. cont_tree f j.0) (sym q))

-- a case of a continuation, by its number
pub record Numbered (f : Flat) (k : Cont) (m j : ℕ) : Type 0 where
  pub stands : Stands f (a_case j)
  pub tree : slice_get (waits_for (cont_tree f k.0)) m ≡ Some (case_tree f j)
  pub enters : next_cont f k (in_case m) ≡ Some (follows (case_entry f j).node)
