-- Worked rows of what is printed, computed on the definitions.
use Rattle.std.specs.Prelude.{◌≡◌, ℕ, pos, List, [], ◌∷◌, codes}
use Rattle.contract.specs.Names.Equal.{ada}
use Rattle.contract.specs.Tree.{notify, true_obs, ContractTree, close, when, assert, no_cases, case_then}
use Rattle.analysis_spec.specs.declared.path.PathStep.{PathStep}
use Rattle.analysis_spec.specs.declared.path.PathStep.TheVariants.{TimeoutContinuation, Case, Action}
use Rattle.places.specs.Places.{path_keys, keys_of}
use Rattle.places.specs.Texts.{place_text, token_text}

-- a contract that waits for a notification, and then asserts
abbrev pub notified : ContractTree
notified = when (case_then (notify true_obs) (assert true_obs close) no_cases) (pos 100) close

abbrev pub IsPathText : List PathStep → List ℕ → Type 0
IsPathText path text = place_text (path_keys path) ≡ text

abbrev pub IsPlaceText : List PathStep → List ℕ → Type 0
IsPlaceText place text = place_text (keys_of place notified) ≡ text

-- paths end behind the step, and places with the form that stands there
abbrev pub PathsAreShorter : Type 0
PathsAreShorter = IsPathText [] [] × IsPlaceText [] (codes ".when") × IsPathText (Case 0 ∷ []) (codes ".when[0].then") × IsPlaceText (Case 0 ∷ []) (codes ".when[0].then.assert")

-- an action is told by its first key, and Close by its name
abbrev pub ActionsAndCloseAreTold : Type 0
ActionsAndCloseAreTold = IsPlaceText (Action 0 ∷ []) (codes ".when[0].case.notify_if") × IsPlaceText (TimeoutContinuation ∷ []) (codes ".timeout_continuation.close")

abbrev pub AdaIsNamed : Type 0
AdaIsNamed = token_text ada ≡ codes "ADA"
