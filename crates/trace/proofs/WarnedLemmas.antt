-- Warnings that are told with their places.
use Rattle.std.proofs.Common.{◌≡◌, List, [], ◌∷◌, ◌++◌, map, refl, ap, ◌∙◌}
use Rattle.std.proofs.lemmas.List.{map-append}
use Rattle.contract.specs.declared.warning.Warning.{Warning}
use Rattle.analysis_spec.specs.declared.path.PathStep.{PathStep}
use Rattle.analysis_spec.specs.Marks.{Mark, settling}
use Rattle.analysis_spec.proofs.MarkLemmas.{warnings_in, settling_tells}
use Rattle.trace.specs.declared.warned.Warned.{Warned}
use Rattle.trace.specs.Warned.{at_place, warned_at, WarnedAreWarnings}

abbrev told : List Warned → List Warning
told = map (λ w. w.warning)

told_there : (here : List PathStep) (ws : List Warning) → told (at_place here ws) ≡ ws
told_there here [] = refl
told_there here (w ∷ ws) = ap (λ vs. w ∷ vs) (told_there here ws)

told_all : (ms : List Mark) → told (warned_at ms) ≡ warnings_in ms
told_all [] = refl
told_all (m ∷ ms) = map-append (λ (w : Warned). w.warning) (at_place m.place m.warnings) (warned_at ms) ∙ (ap (λ ws. ws ++ told (warned_at ms)) (told_there m.place m.warnings) ∙ ap (λ ws. m.warnings ++ ws) (told_all ms))

pub warned_are_warnings : WarnedAreWarnings
warned_are_warnings here i s c = told_all (settling here i s c) ∙ (settling_tells here i s c).warnings
