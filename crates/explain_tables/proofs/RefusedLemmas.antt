-- A contract that is explained is refused.
use Rattle.std.proofs.Common.{◌≡◌, ℕ, zero, suc, ◌+◌, ◌<◌, ◌≤◌, List, [], ◌∷◌, refl, arith, Option, Some, None}
use Rattle.std.proofs.lemmas.Bool.{le-leb, lt-leb}
use Rattle.std.specs.Option.{option_and_then}
use Rattle.contract.specs.Tree.{ActionTree, deposit, choice, notify, ContractTree, CaseTrees, close, pay, if_obs, when, let_be, assert, no_cases, case_then}
use Rattle.compiler.specs.Table.Heights.{greatest, case_over, case_heights, contract_height}
use Rattle.compiler.specs.Lowering.Sizes.{conts, others}
use Rattle.compiler.specs.declared.fault.CompileFault.TheVariants as faults
use Rattle.compiler.specs.Limits.{compile_fault}
use Rattle.analysis_spec.specs.declared.path.PathStep.{PathStep}
use Rattle.analysis_spec.specs.declared.path.PathStep.TheVariants.{Then, Else, TimeoutContinuation, Case as InCase, Action}
use Rattle.analysis_spec.specs.Places.{behind_case, part_behind}
use Rattle.trace.specs.Paths.{part_along}
use Rattle.explain_tables.specs.declared.explanation.Explanation.TheVariants as why
use Rattle.explain_tables.specs.Depths.{levels, levels_of}
use Rattle.explain_tables.specs.Explained.{ExplainedIsRefused}
use Rattle.explain_tables.proofs.DepthLemmas.{low_same}

-- ---- a part that stands deep makes its contract high

over_case : (a : ActionTree) (n : ℕ) → 1 + n ≤ case_over a n
over_case (deposit a p t v) n = omega arith
over_case (choice id bounds) n = omega arith
over_case (notify o) n = omega arith

cases_high : (ks : CaseTrees) (n : ℕ) (d : ContractTree) → behind_case ks n ≡ Some d → 1 + contract_height d ≤ greatest (case_heights ks)
cases_high no_cases n d e = absurd (cc)
cases_high (case_then a c ks) zero d e = low_same c d 1 (greatest (case_heights (case_then a c ks))) e (let h = over_case a (contract_height c) in omega (arith, h))
cases_high (case_then a c ks) (suc n) d e = let h = cases_high ks n d e in omega (arith, h)

step_high : (c d : ContractTree) (step : PathStep) → part_behind c step ≡ Some d → levels step + contract_height d ≤ contract_height c
step_high close d step e = absurd (cc)
step_high (pay p y t v c) d Then e = low_same c d 1 (contract_height (pay p y t v c)) e (omega arith)
step_high (pay p y t v c) d Else e = absurd (cc)
step_high (pay p y t v c) d TimeoutContinuation e = absurd (cc)
step_high (pay p y t v c) d (InCase n) e = absurd (cc)
step_high (pay p y t v c) d (Action n) e = absurd (cc)
step_high (if_obs o a c) d Then e = low_same a d 1 (contract_height (if_obs o a c)) e (omega arith)
step_high (if_obs o a c) d Else e = low_same c d 1 (contract_height (if_obs o a c)) e (omega arith)
step_high (if_obs o a c) d TimeoutContinuation e = absurd (cc)
step_high (if_obs o a c) d (InCase n) e = absurd (cc)
step_high (if_obs o a c) d (Action n) e = absurd (cc)
step_high (when ks t c) d TimeoutContinuation e = low_same c d 1 (contract_height (when ks t c)) e (omega arith)
step_high (when ks t c) d (InCase n) e = let h = cases_high ks n d e in omega (arith, h)
step_high (when ks t c) d Then e = absurd (cc)
step_high (when ks t c) d Else e = absurd (cc)
step_high (when ks t c) d (Action n) e = absurd (cc)
step_high (let_be x v c) d Then e = low_same c d 1 (contract_height (let_be x v c)) e (omega arith)
step_high (let_be x v c) d Else e = absurd (cc)
step_high (let_be x v c) d TimeoutContinuation e = absurd (cc)
step_high (let_be x v c) d (InCase n) e = absurd (cc)
step_high (let_be x v c) d (Action n) e = absurd (cc)
step_high (assert o c) d Then e = low_same c d 1 (contract_height (assert o c)) e (omega arith)
step_high (assert o c) d Else e = absurd (cc)
step_high (assert o c) d TimeoutContinuation e = absurd (cc)
step_high (assert o c) d (InCase n) e = absurd (cc)
step_high (assert o c) d (Action n) e = absurd (cc)

along_high : (c d : ContractTree) (path : List PathStep) → part_along c path ≡ Some d → levels_of path + contract_height d ≤ contract_height c
along_high c d [] e = low_same c d 0 (contract_height c) e (omega arith)
along_high c d (step ∷ path) e = by (part_behind c step) refl e (λ x f. along_high x d path f)
  where
    by : (o : Option ContractTree) → part_behind c step ≡ o → option_and_then (λ x. part_along x path) o ≡ Some d → ((x : ContractTree) → part_along x path ≡ Some d → levels_of path + contract_height d ≤ contract_height x)
        → levels step + levels_of path + contract_height d ≤ contract_height c
    by None q f r = absurd (cc)
    by (Some x) q f r = let h = r x f in let k = step_high c x step q in omega (arith, h, k)

-- ---- faults

deep_fault : (c : ContractTree) → 999 < contract_height c → compile_fault c ≡ Some faults.TooDeep
unfolding compile_fault
deep_fault c h = rw (lt-leb (contract_height c) 999 h) refl

continuations_fault : (c : ContractTree) → contract_height c ≤ 999 → 65535 < conts c → compile_fault c ≡ Some faults.TooManyNodes
unfolding compile_fault
continuations_fault c h k = rw (le-leb (contract_height c) 999 h) (rw (lt-leb (conts c) 65535 k) refl)

others_fault : (c : ContractTree) → contract_height c ≤ 999 → conts c ≤ 65535 → 1000000 < others c → compile_fault c ≡ Some faults.TooManyNodes
unfolding compile_fault
others_fault c h k l = rw (le-leb (contract_height c) 999 h) (rw (le-leb (conts c) 65535 k) (rw (lt-leb (others c) 1000000 l) refl))

pub no_fault : (c : ContractTree) → contract_height c ≤ 999 → conts c ≤ 65535 → others c ≤ 1000000 → compile_fault c ≡ None
unfolding compile_fault
no_fault c h k l = rw (le-leb (contract_height c) 999 h) (rw (le-leb (conts c) 65535 k) (rw (le-leb (others c) 1000000 l) refl))

pub explained_is_refused : ExplainedIsRefused
explained_is_refused c (why.Deep place) h = let k = along_high c h.part place h.stands in let l = h.high in deep_fault c (omega (arith, k, l))
explained_is_refused c (why.Continuations n) h = let e = h.1 in let k = h.2 in continuations_fault c h.0 (omega (arith, e, k))
explained_is_refused c (why.Others n) h = let e = h.2 in let k = h.3 in others_fault c h.0 h.1 (omega (arith, e, k))
