-- Cases in a list, one after another.
use Rattle.std.proofs.Common.{◌≡◌, ℕ, zero, suc, ◌+◌, ◌<◌, ◌≤◌, false, List, [], ◌∷◌, ◌++◌, length, map, get_or, drop, drop-cons, append_assoc, refl, sym, ap, ◌∙◌, arith}
use Rattle.contract.specs.declared.tree.Case.{Case}
use Rattle.contract.specs.Tree.{ActionTree, ContractTree, CaseTrees, case_then, action_tree, contract_tree, case_tree, case_trees}
use Rattle.contract.proofs.TreeLaws.{case_tree-parts}
use Rattle.contract.specs.Names.declared.party.Party.{Party}
use Rattle.contract.specs.States.States.{StateMaps}
use Rattle.analysis_spec.specs.declared.path.PathStep.{PathStep}
use Rattle.analysis_spec.specs.declared.path.PathStep.TheVariants.{Case as InCase, Action}
use Rattle.contract_notes.specs.declared.note.Source.{Source}
use Rattle.contract_notes.specs.declared.note.Note.{Note}
use Rattle.contract_notes.specs.Notes.{makes_it, makes, is_known, action_notes, notes_in, notes_of_cases}
use Rattle.contract_notes.specs.Parties.{Seen, tallied, tally, parties_awaited, parties_named, parties_by}

dropped : {X : Type 0} (xs : List X) (i : ℕ) (x : X) → i < length xs → x ≡ get_or xs i x → drop i xs ≡ x ∷ drop (i + 1) xs
dropped xs i x l is =
    let e : suc i ≡ i + 1 = omega arith in
    drop-cons xs i x l ∙ ap (λ y. y ∷ drop (suc i) xs) (sym is) ∙ ap (λ k. x ∷ drop k xs) e

trees_at : (cs : List Case) (i : ℕ) (k : Case) → i < length cs → k ≡ get_or cs i k
    → case_trees (map case_tree (drop i cs)) ≡ case_then (action_tree k.action) (contract_tree k.then) (case_trees (map case_tree (drop (i + 1) cs)))
trees_at cs i k l is =
    ap (λ xs. case_trees (map case_tree xs)) (dropped cs i k l is)
    ∙ ap (λ (z : ActionTree × ContractTree). case_then z.0 z.1 (case_trees (map case_tree (drop (i + 1) cs)))) (case_tree-parts k)

-- ---- the case at an index

pub makes_at : (x : Source) (cs : List Case) (i : ℕ) (k : Case) → i < length cs → k ≡ get_or cs i k → makes x (case_trees (map case_tree cs)) i ≡ makes_it x (action_tree k.action)
makes_at x [] i k l is = absurd (omega arith)
makes_at x (c ∷ cs) zero k l is = ap (λ (z : ActionTree × ContractTree). makes_it x z.0) (case_tree-parts c) ∙ ap (λ (z : Case). makes_it x (action_tree z.action)) (sym is)
makes_at x (c ∷ cs) (suc i) k l is = makes_at x cs i k (omega arith) is

pub makes_over : (x : Source) (cs : List Case) (i : ℕ) → length cs ≤ i → makes x (case_trees (map case_tree cs)) i ≡ false
makes_over x [] i l = refl
makes_over x (c ∷ cs) zero l = absurd (omega arith)
makes_over x (c ∷ cs) (suc i) l = makes_over x cs i (omega arith)

-- ---- one case more

pub named_more : (cs : List Case) (i : ℕ) (k : Case) (a b c whole : List Party) → i < length cs → k ≡ get_or cs i k
    → b ≡ a ++ parties_awaited (action_tree k.action) → c ≡ b ++ parties_named (contract_tree k.then)
    → a ++ parties_by (case_trees (map case_tree (drop i cs))) ≡ whole → c ++ parties_by (case_trees (map case_tree (drop (i + 1) cs))) ≡ whole
named_more cs i k a b c whole l is e f h =
    let rest : List Party = parties_by (case_trees (map case_tree (drop (i + 1) cs))) in
    let x : List Party = parties_awaited (action_tree k.action) in
    let y : List Party = parties_named (contract_tree k.then) in
    ap (λ z. z ++ rest) (f ∙ ap (λ z. z ++ y) e ∙ append_assoc a x y) ∙ append_assoc a (x ++ y) rest ∙ ap (λ ks. a ++ parties_by ks) (sym (trees_at cs i k l is)) ∙ h

pub notes_more : (s : StateMaps) (root : ContractTree) (here : List PathStep) (cs : List Case) (i j : ℕ) (k : Case) (a b c whole : List Note) → i < length cs → k ≡ get_or cs i k → j ≡ i
    → b ≡ a ++ action_notes (is_known s root here) (here ++ Action j ∷ []) (action_tree k.action) (contract_tree k.then) → c ≡ b ++ notes_in s root (here ++ InCase j ∷ []) (contract_tree k.then)
    → a ++ notes_of_cases s root here i (case_trees (map case_tree (drop i cs))) ≡ whole → c ++ notes_of_cases s root here (i + 1) (case_trees (map case_tree (drop (i + 1) cs))) ≡ whole
notes_more s root here cs i j k a b c whole l is q e f h =
    let more : CaseTrees = case_trees (map case_tree (drop (i + 1) cs)) in
    let rest : List Note = notes_of_cases s root here (i + 1) more in
    let x : ℕ → List Note = λ n. action_notes (is_known s root here) (here ++ Action n ∷ []) (action_tree k.action) (contract_tree k.then) in
    let y : ℕ → List Note = λ n. notes_in s root (here ++ InCase n ∷ []) (contract_tree k.then) in
    let g : i + 1 ≡ suc i = omega arith in
    ap (λ z. z ++ rest) (f ∙ ap (λ z. z ++ y j) e ∙ append_assoc a (x j) (y j)) ∙ append_assoc a (x j ++ y j) rest ∙ ap (λ z. a ++ z) (append_assoc (x j) (y j) rest) ∙ ap (λ n. a ++ (x n ++ (y n ++ rest))) q
    ∙ ap (λ n. a ++ (x i ++ (y i ++ notes_of_cases s root here n more))) g ∙ ap (λ ks. a ++ notes_of_cases s root here i ks) (sym (trees_at cs i k l is)) ∙ h

pub tally_more : (ps : List Party) (i : ℕ) (p : Party) (before now whole : Seen) → i < length ps → p ≡ get_or ps i p → now ≡ tallied p before → tally before (drop i ps) ≡ whole → tally now (drop (i + 1) ps) ≡ whole
tally_more ps i p before now whole l is e h = ap (λ z. tally z (drop (i + 1) ps)) e ∙ ap (tally before) (sym (dropped ps i p l is)) ∙ h
