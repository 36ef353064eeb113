-- Cases one after another, and a step that is computed.
use Rattle.std.proofs.Common.{◌≡◌, ℕ, ℤ, ◌+◌, ◌++◌, List, ◌∷◌, drop, sym, ◌∙◌, ap, append_assoc, slice_get, Some, Result, Ok}
use Rattle.std.proofs.lemmas.List.{at_drop_more}
use Rattle.std.proofs.lemmas.Option.{get_or_from_slice_get, slice_get_within}
use Rattle.contract.specs.declared.fault.SemFault.{SemFault}
use Rattle.contract.specs.declared.interval.Interval.{Interval}
use Rattle.contract.specs.declared.payment.Payment.{Payment}
use Rattle.contract.specs.declared.warning.Warning.{Warning}
use Rattle.contract.specs.Tree.{ActionTree, ContractTree}
use Rattle.contract.specs.States.States.{StateMaps}
use Rattle.machine.specs.Semantics.Walk.{Standing, Walk, standing, answer_of}
use Rattle.step_notes.specs.declared.spelling.Spelling.{Spelling}
use Rattle.step_notes.specs.StepLines.{case_line, case_lines}
use Rattle.step_notes.specs.Steps.{left_text, moment, outcome_text}
use Rattle.step_notes.specs.StepObjects.{comma, case_object, case_objects}

-- what a function makes of a list from index n on, by the item there
item_next : {X : Type 0} (g : List X → List ℕ) (ks : List X) (n : ℕ) (k : X) → slice_get ks n ≡ Some k → g (drop n ks) ≡ g (k ∷ drop (n + 1) ks)
item_next g ks n k h = at_drop_more g ks n k (slice_get_within ks n k h) ∙ ap (λ y. g (y ∷ drop (n + 1) ks)) (get_or_from_slice_get ks n k k h)

-- what it makes of one more
more : (line old new rest whole all : List ℕ) → new ≡ old ++ line → whole ≡ line ++ rest → old ++ whole ≡ all → new ++ rest ≡ all
more line old new rest whole all put next is =
    ap (λ (t : List ℕ). t ++ rest) put ∙ append_assoc old line rest ∙ ap (λ (t : List ℕ). old ++ t) (sym next) ∙ is

pub case_more : (i : Interval) (s : StateMaps) (ks : List (ActionTree × ContractTree)) (n : ℕ) (k : ActionTree × ContractTree) (old new all : List ℕ) → slice_get ks n ≡ Some k → new ≡ old ++ case_line i s k.0 →
    old ++ case_lines i s (drop n ks) ≡ all → new ++ case_lines i s (drop (n + 1) ks) ≡ all
case_more i s ks n k old new all h put is =
    more (case_line i s k.0) old new (case_lines i s (drop (n + 1) ks)) (case_lines i s (drop n ks)) all put (item_next (λ l. case_lines i s l) ks n k h) is

pub object_more : (i : Interval) (s : StateMaps) (ks : List (ActionTree × ContractTree)) (n : ℕ) (k : ActionTree × ContractTree) (old new all : List ℕ) → slice_get ks n ≡ Some k → new ≡ old ++ (comma n ++ case_object i s k.0) →
    old ++ case_objects i s n (drop n ks) ≡ all → new ++ case_objects i s (n + 1) (drop (n + 1) ks) ≡ all
object_more i s ks n k old new all h put is =
    more (comma n ++ case_object i s k.0) old new (case_objects i s (n + 1) (drop (n + 1) ks)) (case_objects i s n (drop n ks)) all put (item_next (λ l. case_objects i s n l) ks n k h) is

-- what is told of a step that is computed
pub left_of : (sp : Spelling) (head : List ℕ) (tick : ℤ) (w : Walk) (ps : List Payment) (ws : List Warning) (s : StateMaps) (c : ContractTree) → answer_of w ≡ Ok (standing s c) → ps ≡ w.payments → ws ≡ w.warnings →
    outcome_text sp head (moment tick s) ps ws s c ≡ left_text sp head tick w.payments w.warnings (answer_of w)
left_of sp head tick w ps ws s c is paid warned =
    ap (λ (l : List Payment). outcome_text sp head (moment tick s) l ws s c) paid
    ∙ ap (λ (l : List Warning). outcome_text sp head (moment tick s) w.payments l s c) warned
    ∙ ap (λ (r : Result Standing SemFault). left_text sp head tick w.payments w.warnings r) (sym is)
