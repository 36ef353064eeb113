-- What is told of a part of a contract is told of the whole with the path to the part before it.
use Rattle.std.proofs.Common.{◌≡◌, Bool, true, false, int_le, int_lt, List, [], ◌∷◌, ◌++◌, map, refl, sym, ap, ◌∙◌, append_assoc, append-nil}
use Rattle.std.specs.Prelude.{if◌then◌else◌}
use Rattle.std.proofs.lemmas.List.{map-append}
use Rattle.contract.specs.declared.interval.Interval.{Interval}
use Rattle.contract.specs.declared.warning.Warning.{Warning}
use Rattle.contract.specs.Tree.{ContractTree, close, pay, if_obs, when, let_be, assert}
use Rattle.contract.specs.States.States.{StateMaps}
use Rattle.marlowe_run.specs.Semantics.Evaluation.Evaluation.{eval, visited, holds, looked}
use Rattle.marlowe_run.specs.Semantics.Walk.{Turn}
use Rattle.marlowe_run.specs.Semantics.Reduction.{binding, asserting}
use Rattle.marlowe_run.specs.Semantics.Computed.{pay_step}
use Rattle.analysis_spec.specs.declared.path.PathStep.{PathStep}
use Rattle.analysis_spec.specs.declared.path.PathStep.TheVariants.{Then, Else, TimeoutContinuation}
use Rattle.analysis_spec.specs.Marks.{step_of, led, Mark, mark, settling}
use Rattle.trace.specs.declared.warned.Warned.{Warned}
use Rattle.trace.specs.Warned.{at_place, warned_at}
use Rattle.marlowe_next.specs.AnswerSupport.{under}

-- ---- paths

led_under : (p q : List PathStep) (ts : List Turn) → led (p ++ q) ts ≡ p ++ led q ts
led_under p q [] = refl
led_under p q (t ∷ ts) = ap (λ (h : List PathStep). led h ts) (append_assoc p q (step_of t)) ∙ led_under p (q ++ step_of t) ts

pub led_from : (p : List PathStep) (ts : List Turn) → led p ts ≡ p ++ led [] ts
led_from p ts = ap (λ (h : List PathStep). led h ts) (sym (append-nil p)) ∙ led_under p [] ts

-- ---- marks

abbrev moved : List PathStep → Mark → Mark
moved p m = mark (p ++ m.place) m.numbers m.warnings

either : {A : Type 0} (f : A → A) (b : Bool) (xs ys us vs : List A) → xs ≡ map f us → ys ≡ map f vs → (if b then xs else ys) ≡ map f (if b then us else vs)
either f true xs ys us vs e h = e
either f false xs ys us vs e h = h

one_more : (p q : List PathStep) (step : PathStep) (i : Interval) (s : StateMaps) (c : ContractTree) → settling (p ++ (q ++ step ∷ [])) i s c ≡ map (moved p) (settling (q ++ step ∷ []) i s c)
    → settling ((p ++ q) ++ step ∷ []) i s c ≡ map (moved p) (settling (q ++ step ∷ []) i s c)
one_more p q step i s c h = ap (λ (x : List PathStep). settling x i s c) (append_assoc p q (step ∷ [])) ∙ h

settling_under : (p q : List PathStep) (i : Interval) (s : StateMaps) (c : ContractTree) → settling (p ++ q) i s c ≡ map (moved p) (settling q i s c)
settling_under p q i s close = refl
settling_under p q i s (pay x y t v c) =
    let r = pay_step s x y t (eval i s v) (visited i s v) c in
    ap (λ (ms : List Mark). moved p (mark q r.numbers r.warnings) ∷ ms) (one_more p q Then i r.state c (settling_under p (q ++ Then ∷ []) i r.state c))
settling_under p q i s (if_obs o c d) =
    ap (λ (ms : List Mark). moved p (mark q (looked i s o) []) ∷ ms)
    (either (moved p) (holds i s o) _ _ _ _ (one_more p q Then i s c (settling_under p (q ++ Then ∷ []) i s c)) (one_more p q Else i s d (settling_under p (q ++ Else ∷ []) i s d)))
settling_under p q i s (when ks timeout c) =
    either (moved p) (int_lt i.to timeout) [] _ [] _ refl
    (either (moved p) (int_le timeout i.from) _ [] _ [] (one_more p q TimeoutContinuation i s c (settling_under p (q ++ TimeoutContinuation ∷ []) i s c)) refl)
settling_under p q i s (let_be x v c) =
    let r = binding s x (eval i s v) (visited i s v) c in
    ap (λ (ms : List Mark). moved p (mark q r.numbers r.warnings) ∷ ms) (one_more p q Then i r.state c (settling_under p (q ++ Then ∷ []) i r.state c))
settling_under p q i s (assert o c) =
    let r = asserting s (holds i s o) (looked i s o) c in
    ap (λ (ms : List Mark). moved p (mark q r.numbers r.warnings) ∷ ms) (one_more p q Then i s c (settling_under p (q ++ Then ∷ []) i s c))

-- ---- warnings

there_under : (p here : List PathStep) (ws : List Warning) → at_place (p ++ here) ws ≡ map (under p) (at_place here ws)
there_under p here [] = refl
there_under p here (w ∷ ws) = ap (λ (xs : List Warned). record { place = p ++ here; warning = w } ∷ xs) (there_under p here ws)

warned_under : (p : List PathStep) (ms : List Mark) → warned_at (map (moved p) ms) ≡ map (under p) (warned_at ms)
warned_under p [] = refl
warned_under p (m ∷ ms) =
    ap (λ (xs : List Warned). xs ++ warned_at (map (moved p) ms)) (there_under p m.place m.warnings)
    ∙ ap (λ (xs : List Warned). map (under p) (at_place m.place m.warnings) ++ xs) (warned_under p ms) ∙ sym (map-append (under p) (at_place m.place m.warnings) (warned_at ms))

pub warned_from : (p : List PathStep) (i : Interval) (s : StateMaps) (c : ContractTree) → warned_at (settling p i s c) ≡ map (under p) (warned_at (settling [] i s c))
warned_from p i s c =
    ap (λ (x : List PathStep). warned_at (settling x i s c)) (sym (append-nil p)) ∙ ap warned_at (settling_under p [] i s c) ∙ warned_under p (settling [] i s c)
