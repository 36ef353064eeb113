-- Paths lead to what transactions leave.
use Rattle.std.proofs.Common.{◌≡◌, ℕ, zero, suc, Bool, true, false, cond, ◌&&◌, List, [], ◌∷◌, ◌++◌, refl, sym, ap, ◌∙◌, Result, Ok, Err, is_ok, Option, Some, None}
use Rattle.std.specs.Prelude.{slice_get, option_map}
use Rattle.std.specs.Option.{is_none, option_and_then}
use Rattle.std.specs.Result.{result_unwrap_or}
use Rattle.contract.specs.declared.fault.SemFault.{SemFault}
use Rattle.contract.specs.declared.fault.SemFault.TheVariants.{Useless, Leaves128}
use Rattle.contract.specs.declared.transaction.Transaction.{Transaction}
use Rattle.contract.specs.Tree.{ContractTree, CaseTrees, close, pay, if_obs, when, let_be, assert, no_cases, case_then}
use Rattle.semantics.specs.Evaluation.Numbers.{all_fit}
use Rattle.semantics.specs.Evaluation.Path.{case_list, part, along}
use Rattle.semantics.specs.Walk.{Turn, refund, next, then_branch, else_branch, timed_out, in_case, Standing, standing, Walk, answer_of}
use Rattle.semantics.specs.Transaction.{begun}
use Rattle.semantics.specs.Computed.{computed}
use Rattle.semantics.proofs.Paths.{leads_computed}
use Rattle.semantics.proofs.Walks.{ok_answer}
use Rattle.next_inputs.specs.Opening.{opening}
use Rattle.next_inputs.proofs.OneInput.{as_opening, opened_idle}
use Rattle.analysis_spec.specs.declared.path.PathStep.{PathStep}
use Rattle.analysis_spec.specs.Runs.{walk_from}
use Rattle.analysis_spec.specs.Marks.{step_of, led, led_with, leads_after}
use Rattle.analysis_spec.specs.Places.{behind_case, part_behind}
use Rattle.trace.specs.Traces.{left_then, left_by}
use Rattle.trace.specs.Paths.{part_along, TransactionsLead, OpeningsLead}

-- ---- one turn

behind_here : (ks : CaseTrees) (n : ℕ) → behind_case ks n ≡ option_map (λ k. k.1) (slice_get (case_list ks) n)
behind_here no_cases n = refl
behind_here (case_then a c ks) zero = refl
behind_here (case_then a c ks) (suc n) = behind_here ks n

only : (o : Option ContractTree) (d : ContractTree) → o ≡ Some d → option_and_then (λ e. part_along e []) o ≡ Some d
only o d h = ap (option_and_then (λ e. part_along e [])) h

turn_leads : (c : ContractTree) (t : Turn) (d : ContractTree) → part c t ≡ Some d → part_along c (step_of t) ≡ Some d
turn_leads close refund d h = h
turn_leads (pay p y t v c) next d h = h
turn_leads (let_be x v c) next d h = h
turn_leads (assert o c) next d h = h
turn_leads (if_obs o c e) then_branch d h = h
turn_leads (if_obs o c e) else_branch d h = h
turn_leads (when ks t c) timed_out d h = h
turn_leads (when ks t c) (in_case n) d h = only (behind_case ks n) d (behind_here ks n ∙ h)
turn_leads c t d h = absurd (cc)

-- ---- turns, from wherever a path leads

along_more : (c : ContractTree) (ps qs : List PathStep) → part_along c (ps ++ qs) ≡ option_and_then (λ d. part_along d qs) (part_along c ps)
along_more c [] qs = refl
along_more c (p ∷ ps) qs = by (part_behind c p) (λ d. along_more d ps qs)
  where
    by : (o : Option ContractTree) → ((d : ContractTree) → part_along d (ps ++ qs) ≡ option_and_then (λ e. part_along e qs) (part_along d ps))
        → option_and_then (λ d. part_along d (ps ++ qs)) o ≡ option_and_then (λ e. part_along e qs) (option_and_then (λ d. part_along d ps) o)
    by None h = refl
    by (Some d) h = h d

pub turns_lead : (root c : ContractTree) (here : List PathStep) (ts : List Turn) (d : ContractTree) → part_along root here ≡ Some c → along c ts ≡ Some d → part_along root (led here ts) ≡ Some d
turns_lead root c here [] d h k = h ∙ k
turns_lead root c here (t ∷ ts) d h k = by (part c t) refl k (λ e g f. turns_lead root e (here ++ step_of t) ts d g f)
  where
    by : (o : Option ContractTree) → part c t ≡ o → option_and_then (λ e. along e ts) o ≡ Some d
        → ((e : ContractTree) → part_along root (here ++ step_of t) ≡ Some e → along e ts ≡ Some d → part_along root (led (here ++ step_of t) ts) ≡ Some d) → part_along root (led (here ++ step_of t) ts) ≡ Some d
    by None q g r = absurd (cc)
    by (Some e) q g r = r e (along_more root here (step_of t) ∙ (ap (option_and_then (λ x. part_along x (step_of t))) h ∙ turn_leads c t e q)) g

-- ---- transactions

module _ (root : ContractTree) where
  transactions_from : (here : List PathStep) (n : ℕ) (a b : Standing) (ts : List Transaction) → part_along root here ≡ Some a.contract → left_by n a ts ≡ Ok b → part_along root (leads_after here a ts) ≡ Some b.contract
  transactions_from here n a b [] h k = let e : a ≡ b = cc in h ∙ ap (λ (x : Standing). let o : Option ContractTree = Some x.contract in o) e
  transactions_from here n a b (t ∷ ts) h k = by (answer_of (walk_from a t)) refl k (λ there c g f. transactions_from there (suc n) c b ts g f)
    where
      by : (r : Result Standing SemFault) → answer_of (walk_from a t) ≡ r → left_then r n (λ c. left_by (suc n) c ts) ≡ Ok b
          → ((there : List PathStep) (c : Standing) → part_along root there ≡ Some c.contract → left_by (suc n) c ts ≡ Ok b → part_along root (leads_after there c ts) ≡ Some b.contract)
          → part_along root (leads_after (led_with (answer_of (walk_from a t)) here (walk_from a t).turns) (result_unwrap_or (answer_of (walk_from a t)) a) ts) ≡ Some b.contract
      by (Err f) q g r = absurd (cc)
      by (Ok c) q g r =
          let w = walk_from a t in
          let there = led here w.turns in
          ap (λ o. part_along root (leads_after (led_with o here w.turns) (result_unwrap_or o a) ts)) q
          ∙ r there c (turns_lead root a.contract here w.turns c.contract h (leads_computed t.interval a.state a.contract t.inputs c (ok_answer (all_fit w.numbers) w.end c q).1)) g

pub transactions_lead : TransactionsLead
transactions_lead a b ts h = transactions_from a.contract [] 0 a b ts refl h

-- ---- the reduction before the inputs

ok_same : (a b : Standing) → ◌≡◌ {A = Result Standing SemFault} (Ok a) (Ok b) → a ≡ b
ok_same a b e = cc

pub openings_lead : OpeningsLead
openings_lead i s c a o = turns_lead c c [] (opening i s c).turns a.contract refl (by (is_ok (opening i s c).end && is_none (slice_get (opening i s c).turns 0)) refl)
  where
    by : (b : Bool) → is_ok (opening i s c).end && is_none (slice_get (opening i s c).turns 0) ≡ b → along c (opening i s c).turns ≡ Some a.contract
    by true e =
        let fits = (ok_answer (all_fit (opening i s c).numbers) (opening i s c).end a o).0 in
        let useless : answer_of (computed i s c []) ≡ Err Useless = ap answer_of (as_opening i s c)
        ∙ (ap (λ b. cond b (cond (is_ok (opening i s c).end && is_none (slice_get (opening i s c).turns 0)) (Err Useless) (opening i s c).end) (Err Leaves128)) fits ∙ ap (λ b. cond b (Err Useless) (opening i s c).end) e) in
        let idle = opened_idle i s c useless in
        ap (λ (v : Walk). along c v.turns) idle ∙ ap (λ (x : Standing). let p : Option ContractTree = Some x.contract in p) (ok_same (standing (begun i s) c) a (sym (ap answer_of idle) ∙ o))
    by false e =
        sym (ap (λ (v : Walk). along c v.turns) (as_opening i s c))
        ∙ leads_computed i s c [] a (ap (λ (v : Walk). v.end) (as_opening i s c) ∙ (ap (λ b. cond b (Err Useless) (opening i s c).end) e ∙ (ok_answer (all_fit (opening i s c).numbers) (opening i s c).end a o).1))
