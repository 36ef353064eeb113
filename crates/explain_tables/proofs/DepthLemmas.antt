-- Parts that are too high, case by case, and the way down to them.
use Rattle.std.proofs.Common.{◌≡◌, ℕ, zero, suc, ◌+◌, ◌-◌, ◌<◌, ◌≤◌, List, [], ◌∷◌, ◌++◌, length, get_or, map, reverse, refl, sym, ap, ◌∙◌, subst, inl, inr, ◌⊎◌, arith, below_more, Option, Some, None}
use Rattle.std.specs.Option.{option_and_then}
use Rattle.std.proofs.lemmas.Bool.{cases_lt}
use Rattle.std.proofs.lemmas.List.{reverse-append}
use Rattle.contract.specs.declared.tree.Case.{Case}
use Rattle.contract.proofs.TreeLaws.{case_tree-parts}
use Rattle.contract.specs.Tree.{ActionTree, ContractTree, CaseTrees, case_tree, case_trees, contract_tree}
use Rattle.compiler.specs.Table.Heights.{contract_height}
use Rattle.analysis_spec.specs.declared.path.PathStep.{PathStep}
use Rattle.analysis_spec.specs.declared.path.PathStep.TheVariants.{Then, Else, TimeoutContinuation, Case as InCase, Action}
use Rattle.analysis_spec.specs.Places.{behind_case, part_behind}
use Rattle.trace.specs.Paths.{part_along}
use Rattle.explain_tables.specs.Depths.{levels, levels_of, NoneIsHigh, IsTooDeepAt}
use Rattle.explain_tables.specs.declared.strides.Far.{Far}
use Rattle.explain_tables.specs.declared.strides.Way.{Way}
use Rattle.explain_tables.specs.DepthsSupport.{GoesOn, IsFar, NoCaseIsHigh}

pub low_same : (c d : ContractTree) (n room : ℕ) → ◌≡◌ {A = Option ContractTree} (Some c) (Some d) → n + contract_height c ≤ room → n + contract_height d ≤ room
low_same c d n room e h = let k : c ≡ d = cc in subst (λ (x : ContractTree). n + contract_height x ≤ room) k h

-- ---- cases, one after another

abbrev forest : List Case → CaseTrees
forest ks = case_trees (map case_tree ks)

pub behind_at : (ks : List Case) (n : ℕ) (k : Case) → n < length ks → k ≡ get_or ks n k → behind_case (forest ks) n ≡ Some (contract_tree k.then)
behind_at [] n k h e = absurd (omega arith)
behind_at (c ∷ ks) zero k h e =
    ap (λ (z : ActionTree × ContractTree). let o : Option ContractTree = Some z.1 in o) (case_tree-parts c) ∙ ap (λ (x : Case). let o : Option ContractTree = Some (contract_tree x.then) in o) (sym e)
behind_at (c ∷ ks) (suc n) k h e = behind_at ks n k (omega arith) e

behind_over : (ks : List Case) (n : ℕ) → length ks ≤ n → behind_case (forest ks) n ≡ None
behind_over [] n h = refl
behind_over (c ∷ ks) zero h = absurd (omega arith)
behind_over (c ∷ ks) (suc n) h = behind_over ks n (omega arith)

-- what follows the cases before an index is no higher than the room
abbrev pub LowBelow : ℕ → List Case → ℕ → Type 0
LowBelow room ks n = (m : ℕ) → m < n → (d : ContractTree) → behind_case (forest ks) m ≡ Some d → 2 + contract_height d ≤ room

pub low_more : (room : ℕ) (ks : List Case) (n : ℕ) (k : Case) → n < length ks → k ≡ get_or ks n k → LowBelow room ks n → 2 + contract_height (contract_tree k.then) ≤ room → LowBelow room ks (n + 1)
low_more room ks n k l e h g =
    below_more (λ m. (d : ContractTree) → behind_case (forest ks) m ≡ Some d → 2 + contract_height d ≤ room) n h (λ d f. low_same (contract_tree k.then) d 2 room (sym (behind_at ks n k l e) ∙ f) g)

pub low_all : (room : ℕ) (ks : List Case) (n : ℕ) → length ks ≤ n → LowBelow room ks n → NoCaseIsHigh room (forest ks)
low_all room ks n l h m d e = by (cases_lt m n)
  where
    by : (m < n) ⊎ (n ≤ m) → 2 + contract_height d ≤ room
    by (inl k) = h m k d e
    by (inr k) = absurd (let q : length ks ≤ m = omega arith in let f : ◌≡◌ {A = Option ContractTree} None (Some d) = sym (behind_over ks m q) ∙ e in cc)

-- ---- the way down

pub levels_positive : (step : PathStep) → 1 ≤ levels step
levels_positive Then = omega arith
levels_positive Else = omega arith
levels_positive TimeoutContinuation = omega arith
levels_positive (InCase n) = omega arith
levels_positive (Action n) = omega arith

pub levels_more : (p : List PathStep) (step : PathStep) → levels_of (p ++ step ∷ []) ≡ levels_of p + levels step
levels_more [] step = omega arith
levels_more (s ∷ p) step = let h = levels_more p step in omega arith

pub along_more : (c d e : ContractTree) (p : List PathStep) (step : PathStep) → part_along c p ≡ Some d → part_behind d step ≡ Some e → part_along c (p ++ step ∷ []) ≡ Some e
along_more c d e [] step h k = let q : c ≡ d = cc in ap (λ x. option_and_then (λ y. part_along y []) (part_behind x step)) q ∙ ap (option_and_then (λ y. part_along y [])) k
along_more c d e (s ∷ p) step h k = by (part_behind c s) h (λ x f. along_more x d e p step f k)
  where
    by : (o : Option ContractTree) → option_and_then (λ x. part_along x p) o ≡ Some d → ((x : ContractTree) → part_along x p ≡ Some d → part_along x (p ++ step ∷ []) ≡ Some e)
        → option_and_then (λ x. part_along x (p ++ step ∷ [])) o ≡ Some e
    by None f r = absurd (cc)
    by (Some x) f r = r x f

-- the part that a step leads to stands too deep
pub too_deep_below : (c d e : ContractTree) (p : List PathStep) (step : PathStep) (room : ℕ) → part_along c p ≡ Some d → levels_of p + room ≡ 999 → part_behind d step ≡ Some e → room < levels step + contract_height e → room < levels step
    → IsTooDeepAt c (p ++ step ∷ [])
too_deep_below c d e p step room s l b h k =
    let m = levels_more p step in
    record { part = e; stands = along_more c d e p step s b; high = omega (arith, l, h, m); last = inl (omega (arith, l, k, m)) }

-- no part behind the one that the way has come to is too high
pub too_deep_here : (c d : ContractTree) (p : List PathStep) (room : ℕ) → part_along c p ≡ Some d → levels_of p + room ≡ 999 → room < contract_height d → NoneIsHigh room d → IsTooDeepAt c p
too_deep_here c d p room s l h n = record { part = d; stands = s; high = omega (arith, l, h); last = inr (room, l, n) }

-- ---- the way to a part far down

-- one step further up
pub far_more : (room down : ℕ) (c d : ContractTree) (step : PathStep) (far more : Far) → part_behind c step ≡ Some d → down ≡ levels step → down ≤ room
    → more ≡ record { back = far.back ++ step ∷ []; part = far.part; room = far.room } → IsFar (room - down) d far → IsFar room c more
far_more room down c d step far more b e l is f =
    let turned : reverse more.back ≡ step ∷ reverse far.back = ap (λ (m : Far). reverse m.back) is ∙ reverse-append far.back (step ∷ []) in
    let left : more.room ≡ far.room = ap (λ (m : Far). m.room) is in
    let here : contract_tree more.part.now ≡ contract_tree far.part.now = ap (λ (m : Far). contract_tree m.part.now) is in
    record {
      stands = ap (part_along c) turned ∙ ap (option_and_then (λ x. part_along x (reverse far.back))) b ∙ f.stands ∙ ap (λ (x : ContractTree). let o : Option ContractTree = Some x in o) (sym here);
      levels = omega (arith, ap levels_of turned, left, e, l, f.levels);
      high = omega (arith, left, f.high, ap contract_height here);
    }

along_both : (c d e : ContractTree) (p q : List PathStep) → part_along c p ≡ Some d → part_along d q ≡ Some e → part_along c (p ++ q) ≡ Some e
along_both c d e [] q h k = let same : c ≡ d = cc in ap (λ x. part_along x q) same ∙ k
along_both c d e (s ∷ p) q h k = by (part_behind c s) h (λ x f. along_both x d e p q f k)
  where
    by : (o : Option ContractTree) → option_and_then (λ x. part_along x p) o ≡ Some d → ((x : ContractTree) → part_along x p ≡ Some d → part_along x (p ++ q) ≡ Some e)
        → option_and_then (λ x. part_along x (p ++ q)) o ≡ Some e
    by None f r = absurd (cc)
    by (Some x) f r = r x f

levels_both : (p q : List PathStep) → levels_of (p ++ q) ≡ levels_of p + levels_of q
levels_both [] q = omega arith
levels_both (s ∷ p) q = let h = levels_both p q in omega (arith, h)

-- .. from the end of a way
pub way_on : (way : Way) (far : Far) (path : List PathStep) → IsFar way.room (contract_tree way.part.now) far → path ≡ way.path ++ reverse far.back
    → GoesOn way (record { path = path; part = far.part; room = far.room })
way_on way far path f e = λ c it.
    let h = levels_both way.path (reverse far.back) in
    record {
      stands = ap (part_along c) e ∙ along_both c (contract_tree way.part.now) (contract_tree far.part.now) way.path (reverse far.back) it.stands f.stands;
      levels = omega (arith, it.levels, h, ap levels_of e, f.levels);
      high = f.high;
    }
