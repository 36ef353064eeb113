-- The cases of a continuation, by their numbers.
use Rattle.std.specs.Prelude.{◌≡◌, ℕ, suc, zero, ◌<◌, List, [], ◌∷◌, Some, slice_get, option_map, refl, map, length}
use Rattle.std.proofs.Common.{ap, sym, ◌∙◌, subst, arith}
use Rattle.std.proofs.Math.ListN.{get_or}
use Rattle.std.proofs.lemmas.List.{length-map}
use Rattle.std.proofs.lemmas.Option.{slice_get-get_or}
use Rattle.contract.specs.Tree.{ActionTree, ContractTree, case_trees}
use Rattle.nodes.specs.declared.cont.Cont.{Cont}
use Rattle.table.specs.Flat.{Flat, Trees, trees, a_case, Stands, AllStand, cont_tree, case_entry, follows}
use Rattle.evaluation.specs.Path.{in_case, case_list, waits_for}
use Rattle.table.specs.Along.{next_cont}
use Rattle.table.specs.AlongLaws.{Numbered}

-- the cases of a list
pub listed : (ks : List (ActionTree × ContractTree)) → case_list (case_trees ks) ≡ ks
listed [] = refl
listed (k ∷ ks) = ap (λ (js : List (ActionTree × ContractTree)). (k.0, k.1) ∷ js) (listed ks)

pub case_stands : (f : Flat) (cs : List ℕ) (m j : ℕ) → slice_get cs m ≡ Some j → AllStand f (map a_case cs) → Stands f (a_case j)
case_stands f [] m j e s = absurd (cc)
case_stands f (c ∷ cs) zero j e s = let h : c ≡ j = cc in subst (λ k. Stands f (a_case k)) h s.0
case_stands f (c ∷ cs) (suc m) j e s = case_stands f cs m j e s.1

pub case_got : (t : Trees) (cs : List ℕ) (m j : ℕ) → slice_get cs m ≡ Some j → slice_get (map t.case cs) m ≡ Some (t.case j)
case_got t [] m j e = absurd (cc)
case_got t (c ∷ cs) zero j e = let h : c ≡ j = cc in ap (λ k. Some (t.case k)) h
case_got t (c ∷ cs) (suc m) j e = case_got t cs m j e

pub numbered : (f : Flat) (k : Cont) (cs : List ℕ) (m j : ℕ) → map (trees f).case cs ≡ waits_for (cont_tree f k.0) → AllStand f (map a_case cs) →
    ((n : ℕ) → next_cont f k (in_case n) ≡ option_map (λ i. follows (case_entry f i).node) (slice_get cs n)) → m < length (waits_for (cont_tree f k.0)) → j ≡ get_or cs m 0 → Numbered f k m j
numbered f k cs m j named s enter within e =
    let long : length cs ≡ length (waits_for (cont_tree f k.0)) = sym (length-map cs (trees f).case) ∙ ap length named in
    let got : slice_get cs m ≡ Some j = slice_get-get_or cs m 0 (omega (arith, long, within)) ∙ ap Some (sym e) in
    record {
      stands = case_stands f cs m j got s;
      tree = ap (λ ks. slice_get ks m) (sym named) ∙ case_got (trees f) cs m j got;
      enters = enter m ∙ ap (option_map (λ i. follows (case_entry f i).node)) got;
    }
