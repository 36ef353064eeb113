-- Warnings, each with the place of the contract that it comes from.
use Rattle.std.specs.Prelude.{◌≡◌, List, map, flat_map}
use Rattle.contract.specs.declared.warning.Warning.{Warning}
use Rattle.contract.specs.declared.interval.Interval.{Interval}
use Rattle.contract.specs.Tree.{ContractTree}
use Rattle.contract.specs.States.States.{StateMaps}
use Rattle.semantics.specs.Computed.{settled}
use Rattle.analysis_spec.specs.declared.path.PathStep.{PathStep}
use Rattle.analysis_spec.specs.Marks.{Mark, settling}
use Rattle.trace.specs.declared.warned.Warned.{Warned}

-- these warnings at this place
abbrev pub at_place : List PathStep → List Warning → List Warned
at_place here = map (λ w. record { place = here; warning = w })

-- the warnings of marks, in order
abbrev pub warned_at : List Mark → List Warned
warned_at = flat_map (λ (m : Mark). at_place m.place m.warnings)

-- ---- laws

-- they are the warnings of the walk, in its order
abbrev pub WarnedAreWarnings : Type 0
WarnedAreWarnings = (here : List PathStep) (i : Interval) (s : StateMaps) (c : ContractTree) → map (λ w. w.warning) (warned_at (settling here i s c)) ≡ (settled i s c).warnings
