-- What is told of a contract that has settled.
use Rattle.std.proofs.Common.{◌≡◌, ℕ, ◌+◌, ◌-◌, ℤ, Bool, true, false, List, [], ◌++◌, length, map, refl, sym, ap, ◌∙◌, arith, Option, Some, None, Result, Ok, Err, is_ok}
use Rattle.std.proofs.lemmas.Simd.{map-map}
use Rattle.std.specs.Prelude.{◌↔◌, IsOk, IsTrue}
use Rattle.contract.specs.declared.fault.SemFault.{SemFault}
use Rattle.contract.specs.declared.interval.Interval.{Interval}
use Rattle.contract.specs.declared.payment.Payment.{Payment}
use Rattle.contract.specs.Tree.{ContractTree}
use Rattle.contract.specs.States.States.{StateMaps}
use Rattle.marlowe_run.specs.Semantics.Walk.{Standing, Turn}
use Rattle.marlowe_run.specs.Semantics.Transaction.{trimmed, begun}
use Rattle.analysis_spec.specs.declared.path.PathStep.{PathStep}
use Rattle.analysis_spec.specs.Marks.{led, settling}
use Rattle.trace.specs.declared.warned.Warned.{Warned}
use Rattle.trace.specs.Warned.{warned_at}
use Rattle.places.specs.declared.key.Key.{Key}
use Rattle.places.specs.Places.{path_keys}
use Rattle.next_lines.specs.Applicable.{Applicable}
use Rattle.next_lines.specs.Told.{Told, up_to}
use Rattle.marlowe_next.specs.Answer.{warning_told, printed}
use Rattle.marlowe_next.specs.AnswerSupport.{under, limit, spelled, TellsFirst}
use Rattle.marlowe_next.proofs.UnderLemmas.{led_from, warned_from}

-- where it stands
pub path_here : (keys : List Key) (joined p q : List PathStep) (ts : List Turn) → keys ≡ path_keys joined → joined ≡ p ++ q → q ≡ led [] ts → keys ≡ path_keys (led p ts)
path_here keys joined p q ts e f g = e ∙ ap path_keys (f ∙ ap (λ x. p ++ x) g ∙ sym (led_from p ts))

-- whether it can be reduced
pub reduces_here : (b : Bool) (r : Result Standing SemFault) → IsTrue b ↔ IsOk r → b ≡ is_ok r
reduces_here true (Ok a) h = refl
reduces_here true (Err f) h = absurd (let e : false ≡ true = h.0 refl in cc)
reduces_here false (Ok a) h = absurd (let e : false ≡ true = h.1 refl in cc)
reduces_here false (Err f) h = refl

-- what it warned of
pub warned_here : (whole : ContractTree) (p : List PathStep) (i : Interval) (s : StateMaps) (c : ContractTree) (ws : List Warned) → ws ≡ warned_at (settling [] (trimmed i s) (begun i s) c)
    → map (λ w. warning_told whole (under p w)) ws ≡ map (warning_told whole) (warned_at (settling p (trimmed i s) (begun i s) c))
warned_here whole p i s c ws e =
    ap (λ (xs : List Warned). map (λ w. warning_told whole (under p w)) xs) e ∙ sym (map-map (warning_told whole) (under p) (warned_at (settling [] (trimmed i s) (begun i s) c)))
    ∙ ap (map (warning_told whole)) (sym (warned_from p (trimmed i s) (begun i s) c))

-- all of it
same_told : (t u : Told) → t.path ≡ u.path → t.inputs ≡ u.inputs → t.more ≡ u.more → t.until ≡ u.until → t.can_reduce ≡ u.can_reduce → t.payments ≡ u.payments → t.warned ≡ u.warned → t ≡ u
same_told t u e f m g h i j =
    ap (λ (x : List Key). record t { path = x }) e
    ∙ ap (λ (x : List Applicable). record t { path = u.path; inputs = x }) f
    ∙ ap (λ (x : ℕ). record t { path = u.path; inputs = u.inputs; more = x }) m
    ∙ ap (λ (x : Option ℤ). record t { path = u.path; inputs = u.inputs; more = u.more; until = x }) g
    ∙ ap (λ (x : Bool). record t { path = u.path; inputs = u.inputs; more = u.more; until = u.until; can_reduce = x }) h
    ∙ ap (λ (x : List Payment). record t { path = u.path; inputs = u.inputs; more = u.more; until = u.until; can_reduce = u.can_reduce; payments = x }) i
    ∙ ap (λ (x : List (List Key × List ℕ)). record u { warned = x }) j

-- .. with so many inputs at most
pub same_up_to : (most : Option ℕ) (t u : Told) (inputs : List Applicable) → t.inputs ≡ inputs → TellsFirst most u.inputs inputs t.more → u.more ≡ 0 → t.path ≡ u.path → t.until ≡ u.until → t.can_reduce ≡ u.can_reduce → t.payments ≡ u.payments
    → t.warned ≡ u.warned → t ≡ up_to most u
same_up_to None t u inputs is h none e g b i j = same_told t u e (is ∙ h.0) (h.1 ∙ sym none) g b i j
same_up_to (Some m) t u inputs is h none e g b i j =
    let others : length u.inputs - m ≡ u.more + (length u.inputs - m) = omega arith in
    same_told t (up_to (Some m) u) e (is ∙ h.0) (h.1 ∙ others) g b i j

-- JSON tells all inputs
pub spelled_so : (most : Option ℕ) (json : Bool) (t : Told) → spelled json (up_to (limit most json) t) ≡ printed most json t
spelled_so most true t = refl
spelled_so most false t = refl
