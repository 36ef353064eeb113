-- Where turns lead, one part of a transaction after another.
use Rattle.std.proofs.Common.{◌≡◌, ℕ, ℤ, Bool, true, false, cond, List, [], ◌∷◌, ◌++◌, map, append-nil, refl, sym, ap, ◌∙◌, subst, Option, Some, None, Result, Ok, Err, option_to_list}
use Rattle.contract.specs.declared.fault.SemFault.{SemFault}
use Rattle.contract.specs.declared.fault.SemFault.TheVariants.{NoMatch, Leaves128}
use Rattle.contract.specs.declared.input.Input.{Input}
use Rattle.contract.specs.declared.interval.Interval.{Interval}
use Rattle.contract.specs.declared.payment.Payment.{Payment}
use Rattle.contract.specs.declared.warning.Warning.{Warning}
use Rattle.contract.specs.States.States.{StateMaps}
use Rattle.contract.specs.Tree.{ContractTree}
use Rattle.semantics.specs.Evaluation.Numbers.{all_fit}
use Rattle.semantics.specs.Evaluation.Parts.{Leads}
use Rattle.semantics.specs.Evaluation.Path.{waits_for}
use Rattle.semantics.specs.Walk.{Turn, refund, next, then_branch, else_branch, timed_out, in_case, Standing, Walk, answer_of}
use Rattle.semantics.specs.Computed.{first_match, first_match_index, tried_to_match, take_match, applied}
use Rattle.semantics.proofs.Walks.{Follows, same_answer}
use Rattle.analysis_spec.specs.declared.path.PathStep.{PathStep}
use Rattle.analysis_spec.specs.Marks.{step_of, led}
use Rattle.trace.specs.SteppingSupport.{last_step, GoesTo, Goes}

-- the step of a turn, where none was taken before
pub listed : (t : Turn) → option_to_list (last_step None t) ≡ step_of t
listed refund = refl
listed next = refl
listed then_branch = refl
listed else_branch = refl
listed timed_out = refl
listed (in_case n) = refl

-- one list of turns and then another
pub led_more : (here : List PathStep) (ts us : List Turn) → led here (ts ++ us) ≡ led (led here ts) us
led_more here [] us = refl
led_more here (t ∷ ts) us = led_more (here ++ step_of t) ts us

-- one turn, and what follows it
pub led_on : (here there : List PathStep) (t : Turn) (ts us : List Turn) → us ≡ t ∷ ts → there ≡ here ++ step_of t → led here us ≡ led there ts
led_on here there t ts us e h = ap (led here) e ∙ ap (λ p. led p ts) (sym h)

-- refunds stay where they are
pub led_refunds : {A : Type 0} (here : List PathStep) (es : List A) → led here (map (λ _. refund) es) ≡ here
led_refunds here [] = refl
led_refunds here (e ∷ es) = ap (λ p. led p (map (λ _. refund) es)) (append-nil here) ∙ led_refunds here es

-- a part that ended well, and what follows it
pub goes_then : {P : Type 0} (tree : P → ContractTree) (here mid there : List PathStep) (s t : StateMaps) (whole first rest : Walk) (q : P) (ws : List Warning) (ps : List Payment) (r : Result P SemFault)
    → Follows whole rest ws ps first.turns → GoesTo tree here mid s first q → Goes tree mid there t rest r → Goes tree here there t whole r
goes_then tree here mid there s t whole first rest q ws ps (Ok place) f h k = record {
  answer = same_answer whole rest f.fits f.end ∙ k.answer;
  path = k.path ∙ (ap (λ p. led p rest.turns) h.path ∙ (sym (led_more here first.turns rest.turns) ∙ ap (led here) (sym f.turns)));
}
goes_then tree here mid there s t whole first rest q ws ps (Err e) f h k = λ m. same_answer whole rest f.fits f.end ∙ k m

-- ---- an input

module _ {P : Type 0} (E : P → Turn → P → Type 0) (p q : P) (i : Interval) (x : Input) (a b : Standing) where
  -- an input that applies takes one turn, which leads to a case
  applied_leads : answer_of (applied i x a) ≡ Ok b → Leads E p (applied i x a).turns q → (n : ℕ) × ((applied i x a).turns ≡ in_case n ∷ []) × E p (in_case n) q
  unfolding applied
  applied_leads h l =
      let ks = waits_for a.contract in
      by (tried_to_match i a.state x ks) (first_match_index i a.state x ks) (first_match i a.state x ks) h l
    where
      none : (fit : Bool) → ◌≡◌ {A = Result Standing SemFault} (cond fit (Err NoMatch) (Err Leaves128)) (Ok b) → ⊥
      none true h = cc
      none false h = cc

      by : (ns : List ℤ) (n : ℕ) (o : Option ContractTree) → answer_of (take_match a.state x ns n o) ≡ Ok b → Leads E p (take_match a.state x ns n o).turns q
          → (m : ℕ) × ((take_match a.state x ns n o).turns ≡ in_case m ∷ []) × E p (in_case m) q
      by ns n None h l = absurd (none (all_fit ns) h)
      by ns n (Some d) h l = (n, refl, subst (λ (r : P). E p (in_case n) r) (sym l.2) l.1)

  -- its step comes behind the path
  pub applied_path : (step_in : P → Option PathStep) (here there : List PathStep) → ((t : Turn) (r : P) → E p t r → step_in r ≡ last_step None t)
      → answer_of (applied i x a) ≡ Ok b → Leads E p (applied i x a).turns q → there ≡ here ++ option_to_list (step_in q) → there ≡ led here (applied i x a).turns
  applied_path step_in here there by h l e =
      let k = applied_leads h l in
      e ∙ (ap (λ s. here ++ option_to_list s) (by (in_case k.0) q k.2) ∙ ap (led here) (sym k.1))
