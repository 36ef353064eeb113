-- What is explained is refused so.
use Rattle.std.proofs.Common.{◌≡◌, ℕ, zero, suc, ◌+◌, ℤ, pos, ◌≤ℤ◌, int_lt, Bool, true, false, cond, ◌&&◌, List, [], ◌∷◌, ◌++◌, length, map, take, append-nil, append_assoc, length-append, refl, sym, ap, ◌∙◌, subst, inl, inr, ◌⊎◌, arith, Result, Ok, Err, is_ok, Option, Some, None}
use Rattle.std.specs.Prelude.{slice_get}
use Rattle.std.specs.Option.{is_none}
use Rattle.std.proofs.lemmas.List.{take_at}
use Rattle.contract.specs.Names.declared.account.Account.{Account}
use Rattle.contract.specs.Names.declared.party.Party.{Party}
use Rattle.contract.specs.Names.declared.payee.Payee.{Payee}
use Rattle.contract.specs.Names.declared.payee.Payee.TheVariants.{Account as ToAccount, Party as ToParty}
use Rattle.contract.specs.Names.declared.token.Token.{Token}
use Rattle.contract.specs.declared.fault.SemFault.{SemFault}
use Rattle.contract.specs.declared.fault.SemFault.TheVariants.{InvalidInterval, IntervalInPast, Ambiguous, NoMatch, Useless, Leaves128, Memory}
use Rattle.contract.specs.declared.input.Input.{Input}
use Rattle.contract.specs.declared.input.Input.TheVariants.{Deposit, Choice, Notify}
use Rattle.contract.specs.declared.interval.Interval.{Interval}
use Rattle.contract.specs.Tree.{ValueTree, ContractTree, close, pay, if_obs, when, let_be, assert, contract_tree}
use Rattle.contract.specs.States.States.{StateMaps}
use Rattle.semantics.specs.Evaluation.Numbers.{all_fit}
use Rattle.semantics.specs.Evaluation.Evaluation.{eval, visited, holds, looked}
use Rattle.semantics.specs.Evaluation.Path.{waits_for}
use Rattle.semantics.proofs.FromEvaluation.Numbers.{all_fit_append}
use Rattle.semantics.specs.Walk.{Turn, Standing, standing, Walk, ended, joined, then_from, then_walk, answer_of}
use Rattle.semantics.specs.Reduction.{Reduction, Quiet, IsAmbiguous, choosing, binding, asserting, account_of}
use Rattle.semantics.specs.Settling.{reduction_then}
use Rattle.semantics.specs.Applying.{taken_numbers}
use Rattle.semantics.specs.Transaction.{trimmed, begun, finished}
use Rattle.semantics.specs.Computed.{pay_step, settled, first_match, first_match_index, tried_to_match, take_match, applied, one_input, all_inputs, computed}
use Rattle.semantics.specs.Reduced.{goes, step}
use Rattle.semantics.proofs.Computing.{computed_invalid, computed_past}
use Rattle.semantics.proofs.Relations.{rests_when_quiet, fails_when_ambiguous}
use Rattle.semantics.proofs.Settling.{settled_goes}
use Rattle.semantics.proofs.Walks.{same_answer, finished_busy, and_false}
use Rattle.next_inputs.specs.Taking.{taken_case, leaving_case}
use Rattle.next_inputs.proofs.OneInput.{taken_match}
use Rattle.analysis_spec.specs.declared.path.PathStep.{PathStep}
use Rattle.analysis_spec.specs.Marks.{led}
use Rattle.explain_transactions.specs.declared.explanation.Explanation.{Explanation}
use Rattle.explain_transactions.specs.declared.explanation.Explanation.TheVariants as why
use Rattle.explain_transactions.specs.Moves.{Move, reduces, takes, turn_by, Comes}
use Rattle.explain_transactions.specs.Explained.{own_numbers, PaymentLeaves, DepositLeaves, Reaches, IsAmbiguousAt, IsUnmatchedAt, HasNothingToDo, ReducedLeaves, TriedLeaves, PaidLeaves, DepositedLeaves, Explains, fault_of}
use Rattle.explain_transactions.specs.Laws.{ExplainedIsRefused, FirstIsTold, PlacesAreLed}
use Rattle.explain_transactions.proofs.CasesLemmas.{first_there, leaving_numbers, untaken_so}
use Rattle.explain_transactions.proofs.ReductionLemmas.{pays_numbers}
use Rattle.explain_transactions.proofs.AfterLemmas.{After, rest, rest_quiet, fixed_order, computed_rest, reached, reached_fault}

-- ---- numbers that leave

-- of the first part of a list
pub leaves_append : (ns ms : List ℤ) → all_fit ns ≡ false → all_fit (ns ++ ms) ≡ false
leaves_append ns ms h = all_fit_append ns ms ∙ ap (λ b. b && all_fit ms) h

last_false : (b d : Bool) → d ≡ false → b && d ≡ false
last_false true d h = h
last_false false d h = refl

leaves_append_last : (ns ms : List ℤ) → all_fit ms ≡ false → all_fit (ns ++ ms) ≡ false
leaves_append_last ns ms h = all_fit_append ns ms ∙ last_false (all_fit ns) (all_fit ms) h

-- a walk whose numbers leave, whatever follows
leaves_then : (w : Walk) (f : Standing → Walk) → all_fit w.numbers ≡ false → all_fit (then_walk w f).numbers ≡ false
leaves_then w f h = by w.end
  where
    by : (end : Result Standing SemFault) → all_fit (then_from w end f).numbers ≡ false
    by (Ok a) = leaves_append w.numbers (f a).numbers h
    by (Err e) = h

leaves_answer : (w : Walk) → all_fit w.numbers ≡ false → answer_of w ≡ Err Leaves128
leaves_answer w h = ap (λ b. cond b w.end (Err Leaves128)) h

-- a form that is reduced, whose own numbers leave
goes_leaving : (i : Interval) (s : StateMaps) (c : ContractTree) (r : Reduction) → step i s c ≡ goes r → all_fit r.numbers ≡ false → all_fit (settled i s c).numbers ≡ false
goes_leaving i s c r e h = ap (λ (w : Walk). all_fit w.numbers) (settled_goes i s c r e) ∙ leaves_append r.numbers (settled i r.state r.contract).numbers h

own_leaves : (i : Interval) (s : StateMaps) (c : ContractTree) → all_fit (own_numbers i s c) ≡ false → all_fit (settled i s c).numbers ≡ false
own_leaves i s close h = absurd (cc)
own_leaves i s (pay p y t v c) h =
    goes_leaving i s (pay p y t v c) (pay_step s p y t (eval i s v) (visited i s v) c) refl
    (ap all_fit (pays_numbers s p y t (eval i s v) (visited i s v) c c) ∙ leaves_append (visited i s v) (pay_step s p y t (eval i s v) [] c).numbers h)
own_leaves i s (if_obs o c d) h = goes_leaving i s (if_obs o c d) (choosing s (holds i s o) (looked i s o) c d) refl h
own_leaves i s (when ks t c) h = absurd (cc)
own_leaves i s (let_be x v c) h = goes_leaving i s (let_be x v c) (binding s x (eval i s v) (visited i s v) c) refl h
own_leaves i s (assert o c) h = goes_leaving i s (assert o c) (asserting s (holds i s o) (looked i s o) c) refl h

paid_leaves : (i : Interval) (s : StateMaps) (c : ContractTree) (e : Account) → PaymentLeaves i s c e → all_fit (settled i s c).numbers ≡ false
paid_leaves i s (pay p (ToAccount q) t v c) e h =
    goes_leaving i s (pay p (ToAccount q) t v c) (pay_step s p (ToAccount q) t (eval i s v) (visited i s v) c) refl
    (ap all_fit (pays_numbers s p (ToAccount q) t (eval i s v) (visited i s v) c c) ∙ leaves_append_last (visited i s v) (pay_step s p (ToAccount q) t (eval i s v) [] c).numbers h.2)
paid_leaves i s (pay p (ToParty q) t v c) e h = absurd h
paid_leaves i s close e h = absurd h
paid_leaves i s (if_obs o c d) e h = absurd h
paid_leaves i s (when ks t c) e h = absurd h
paid_leaves i s (let_be x v c) e h = absurd h
paid_leaves i s (assert o c) e h = absurd h

-- ---- an input that isn't taken

module _ (j : Interval) (a : Standing) (x : Input) (ys : List Input) (q : Quiet j a.state a.contract) where
  -- no case takes it
  pub unmatched_answer : taken_case j a.state x (waits_for a.contract) ≡ None → leaving_case j a.state x (waits_for a.contract) ≡ None
      → (answer_of (rest j a (x ∷ ys)) ≡ Err NoMatch) × ((rest j a (x ∷ ys)).turns ≡ [])
  unfolding one_input applied
  unmatched_answer h k =
      let ks = waits_for a.contract in
      let ns = tried_to_match j a.state x ks in
      let n = first_match_index j a.state x ks in
      let g : Standing → Walk = λ b. settled j b.state b.contract in
      let u = untaken_so j a.state x ks h k in
      let whole : Option ContractTree → Walk = λ o. then_walk (then_walk (take_match a.state x ns n o) g) (all_inputs j ys) in (
        ap answer_of (rest_quiet j a (x ∷ ys) q) ∙ (ap (λ o. answer_of (whole o)) u.0 ∙ ap (λ b. cond b (Err NoMatch) (Err Leaves128)) u.1),
        ap (λ (w : Walk). w.turns) (rest_quiet j a (x ∷ ys) q) ∙ ap (λ o. (whole o).turns) u.0,
      )

  -- a number leaves as it is tried or taken
  input_leaves : all_fit (applied j x a).numbers ≡ false → answer_of (rest j a (x ∷ ys)) ≡ Err Leaves128
  unfolding one_input
  input_leaves h =
      let g : Standing → Walk = λ b. settled j b.state b.contract in
      ap answer_of (rest_quiet j a (x ∷ ys) q)
      ∙ leaves_answer (then_walk (then_walk (applied j x a) g) (all_inputs j ys)) (leaves_then (then_walk (applied j x a) g) (all_inputs j ys) (leaves_then (applied j x a) g h))

  match_leaves : (s : StateMaps) (ns : List ℤ) (n : ℕ) (o : Option ContractTree) → all_fit ns ≡ false → all_fit (take_match s x ns n o).numbers ≡ false
  match_leaves s ns n None h = h
  match_leaves s ns n (Some d) h = leaves_append ns (taken_numbers s x) h

  tried_leaves : (n : ℕ) → leaving_case j a.state x (waits_for a.contract) ≡ Some n → answer_of (rest j a (x ∷ ys)) ≡ Err Leaves128
  unfolding applied
  tried_leaves n h =
      let ks = waits_for a.contract in
      input_leaves (match_leaves a.state (tried_to_match j a.state x ks) (first_match_index j a.state x ks) (first_match j a.state x ks) (leaving_numbers j a.state x ks n h))

  sum_leaves : (n : ℕ) → taken_case j a.state x (waits_for a.contract) ≡ Some n → all_fit (taken_numbers a.state x) ≡ false → answer_of (rest j a (x ∷ ys)) ≡ Err Leaves128
  unfolding applied
  sum_leaves n h k =
      let ks = waits_for a.contract in
      let ns = tried_to_match j a.state x ks in
      let m = (taken_match j a.state x ks n h).1 in
      input_leaves (ap (λ (o : Option ContractTree). all_fit (take_match a.state x ns (first_match_index j a.state x ks) o).numbers) m.1 ∙ leaves_append_last ns (taken_numbers a.state x) k)

deposit_leaves : (s : StateMaps) (x : Input) (e : Account) → DepositLeaves s x e → all_fit (taken_numbers s x) ≡ false
deposit_leaves s (Deposit a p t n) e h = h.1
deposit_leaves s (Choice id n) e h = absurd h
deposit_leaves s Notify e h = absurd h

-- ---- each explanation

rest_leaves : (j : Interval) (a : Standing) (ys : List Input) → all_fit (settled j a.state a.contract).numbers ≡ false → answer_of (rest j a ys) ≡ Err Leaves128
rest_leaves j a ys h = leaves_answer (rest j a ys) (leaves_then (settled j a.state a.contract) (all_inputs j ys) h)

abbrev Refused : Interval → StateMaps → ContractTree → List Input → SemFault → Type 0
Refused i s c xs f = answer_of (computed i s c xs) ≡ Err f

ambiguous_refused : (i : Interval) (s : StateMaps) (c : ContractTree) (xs : List Input) (place : List PathStep) (t : ℤ) → IsAmbiguousAt i s c xs place t → Refused i s c xs Ambiguous
ambiguous_refused i s c xs place t h =
    let j = trimmed i s in
    reached_fault i s c xs h.front h.rest place h.there h.reaches Ambiguous (λ m. cc) (ap (λ (w : Walk). answer_of (then_walk w (all_inputs j h.rest))) (fails_when_ambiguous j h.there.state h.there.contract (subst (λ (d : ContractTree). IsAmbiguous j h.there.state d) (sym h.waits) (h.after, h.within))))

pub unmatched_refused : (i : Interval) (s : StateMaps) (c : ContractTree) (xs : List Input) (n : ℕ) (place : List PathStep) (there : Standing) → IsUnmatchedAt i s c xs n place there → Refused i s c xs NoMatch
unmatched_refused i s c xs n place there h =
    reached_fault i s c xs h.front (h.input ∷ h.rest) place there h.reaches NoMatch (λ m. cc) (unmatched_answer (trimmed i s) there h.input h.rest h.waits h.untaken h.within).0

useless_refused : (i : Interval) (s : StateMaps) (c : ContractTree) (xs : List Input) (place : List PathStep) (there : Standing) → HasNothingToDo i s c xs place there → Refused i s c xs Useless
useless_refused i s c xs place there h =
    let j = trimmed i s in
    let a = standing (begun i s) c in
    ap (λ ys. answer_of (computed i s c ys)) h.inputs ∙ (ap answer_of (computed_rest i s c [] h.starts h.ends) ∙ ap (λ (w : Walk). answer_of (finished w)) (rest_quiet j a [] h.waits))

reduced_refused : (i : Interval) (s : StateMaps) (c : ContractTree) (xs : List Input) (place : List PathStep) → ReducedLeaves i s c xs place → Refused i s c xs Leaves128
reduced_refused i s c xs place h =
    reached_fault i s c xs h.front h.rest place h.there h.reaches Leaves128 (λ m. cc) (rest_leaves (trimmed i s) h.there h.rest (own_leaves (trimmed i s) h.there.state h.there.contract h.leaves))

tried_refused : (i : Interval) (s : StateMaps) (c : ContractTree) (xs : List Input) (place : List PathStep) → TriedLeaves i s c xs place → Refused i s c xs Leaves128
tried_refused i s c xs place h =
    reached_fault i s c xs h.front (h.input ∷ h.rest) h.path h.there h.reaches Leaves128 (λ m. cc) (tried_leaves (trimmed i s) h.there h.input h.rest h.waits h.index h.leaves)

paid_refused : (i : Interval) (s : StateMaps) (c : ContractTree) (xs : List Input) (place : List PathStep) (e : Account) → PaidLeaves i s c xs place e → Refused i s c xs Leaves128
paid_refused i s c xs place e h =
    reached_fault i s c xs h.front h.rest place h.there h.reaches Leaves128 (λ m. cc) (rest_leaves (trimmed i s) h.there h.rest (paid_leaves (trimmed i s) h.there.state h.there.contract e h.leaves))

deposited_refused : (i : Interval) (s : StateMaps) (c : ContractTree) (xs : List Input) (place : List PathStep) (e : Account) → DepositedLeaves i s c xs place e → Refused i s c xs Leaves128
deposited_refused i s c xs place e h =
    reached_fault i s c xs h.front (h.input ∷ h.rest) h.path h.there h.reaches Leaves128 (λ m. cc)
    (sum_leaves (trimmed i s) h.there h.input h.rest h.waits h.index h.takes (deposit_leaves h.there.state h.input e h.leaves))

either : {A B C : Type 0} → (A → C) → (B → C) → A ⊎ B → C
either f g (inl a) = f a
either f g (inr b) = g b

pub explained_is_refused : ExplainedIsRefused
explained_is_refused i s c xs why.InvalidInterval h = ap answer_of (computed_invalid i s c xs h)
explained_is_refused i s c xs (why.IntervalInPast least) h = ap answer_of (computed_past i s c xs h.0 h.1)
explained_is_refused i s c xs (why.Ambiguous place t) h = ambiguous_refused i s c xs place t h
explained_is_refused i s c xs (why.NoMatch n left) h = unmatched_refused i s c xs n left.path (standing left.state (contract_tree left.contract.now)) h
explained_is_refused i s c xs (why.Useless left) h = useless_refused i s c xs left.path (standing left.state (contract_tree left.contract.now)) h
explained_is_refused i s c xs (why.ValueLeaves place) h = either (reduced_refused i s c xs place) (tried_refused i s c xs place) h
explained_is_refused i s c xs (why.SumLeaves place p t) h = either (paid_refused i s c xs place (account_of p.now t.now)) (deposited_refused i s c xs place (account_of p.now t.now)) h

-- ---- the first input that is refused

-- a walk that ends well is accepted, or does nothing
finished_well : (w : Walk) (a : Standing) → answer_of w ≡ Ok a → (answer_of (finished w) ≡ Ok a) ⊎ (answer_of (finished w) ≡ Err Useless)
finished_well w a h = by (is_ok w.end && is_none (slice_get w.turns 0)) (all_fit w.numbers) h
  where
    by : (b d : Bool) → cond d w.end (Err Leaves128) ≡ Ok a → (cond d (cond b (Err Useless) w.end) (Err Leaves128) ≡ Ok a) ⊎ (cond d (cond b (Err Useless) w.end) (Err Leaves128) ≡ Err Useless)
    by true true k = inr refl
    by false true k = inl k
    by b false k = absurd (cc)

-- where all inputs are taken and all is quiet
pub reached_end : (i : Interval) (s : StateMaps) (c : ContractTree) (xs : List Input) (place : List PathStep) (there : Standing) (r : Reaches i s c xs xs [] place there) → Quiet (trimmed i s) there.state there.contract
    → answer_of (rest (trimmed i s) (standing (begun i s) c) xs) ≡ Ok there
reached_end i s c xs place there r q =
    let j = trimmed i s in
    let h = reached i s c xs xs [] place there r in
    same_answer (rest j (standing (begun i s) c) xs) (rest j there []) h.fits h.end ∙ ap answer_of (rest_quiet j there [] q)

cut_front : (front ys : List Input) (n : ℕ) → length front ≡ n → take n (front ++ ys) ≡ front
cut_front front ys n h = take_at front ys n h

cut_behind : (front : List Input) (x : Input) (ys : List Input) (n : ℕ) → length front ≡ n → take (suc n) (front ++ x ∷ ys) ≡ front ++ x ∷ []
cut_behind front x ys n h =
    ap (take (suc n)) (sym (append_assoc front (x ∷ []) ys)) ∙ take_at (front ++ x ∷ []) ys (suc n) (length-append front (x ∷ []) ∙ (let e : length front + 1 ≡ suc n = omega arith in e))

pub first_is_told : FirstIsTold
first_is_told i s c xs n place there h =
    let j = trimmed i s in
    let r = h.reaches in
    let w = rest j (standing (begun i s) c) h.front in
    let cut : take n xs ≡ h.front = ap (take n) r.inputs ∙ cut_front h.front (h.input ∷ h.rest) n h.index in
    let behind : take (suc n) xs ≡ h.front ++ h.input ∷ [] = ap (take (suc n)) r.inputs ∙ cut_behind h.front h.input h.rest n h.index in
    let before : Reaches i s c h.front h.front [] place there = record { starts = r.starts; ends = r.ends; inputs = sym (append-nil h.front); comes = r.comes } in
    let alone : IsUnmatchedAt i s c (h.front ++ h.input ∷ []) n place there = record {
      front = h.front;
      input = h.input;
      rest = [];
      index = h.index;
      reaches = record { starts = r.starts; ends = r.ends; inputs = refl; comes = r.comes };
      waits = h.waits;
      untaken = h.untaken;
      within = h.within;
    } in
    let well = finished_well w there (reached_end i s c h.front place there before h.waits) in
    let same : answer_of (computed i s c (take n xs)) ≡ answer_of (finished w) = ap (λ ys. answer_of (computed i s c ys)) cut ∙ ap answer_of (computed_rest i s c h.front r.starts r.ends) in (
      subst (λ (a : Result Standing SemFault). (a ≡ Ok there) ⊎ (a ≡ Err Useless)) (sym same) well,
      ap (λ ys. answer_of (computed i s c ys)) behind ∙ unmatched_refused i s c (h.front ++ h.input ∷ []) n place there alone,
    )

pub places_are_led : PlacesAreLed
places_are_led i s c xs n place there h =
    let j = trimmed i s in
    let r = h.reaches in
    let q = reached i s c xs h.front (h.input ∷ h.rest) place there r in
    let ts = map turn_by r.comes.moves in
    let none = (unmatched_answer j there h.input h.rest h.waits h.untaken h.within).1 in
    let turns : (computed i s c xs).turns ≡ ts = ap (λ (w : Walk). w.turns) (computed_rest i s c xs r.starts r.ends) ∙ (q.turns ∙ (ap (λ us. ts ++ us) none ∙ append-nil ts)) in
    r.comes.path ∙ ap (led []) (sym turns)
