-- Observations that are joined.
use Rattle.std.specs.Prelude.{Bool, Option}
use Rattle.contract.specs.declared.value.Observation.{Observation}
use Rattle.contract.specs.Tree.{ObservationTree, observation_tree, and_obs, or_obs}
use Rattle.symbols.specs.Symbols.{Symbols}
use Rattle.analysis_values.specs.Known.{View}
use Rattle.analysis_values.specs.declared.junctions.Junction.{Junction}
use Rattle.analysis_values.specs.declared.junctions.Junction.TheVariants.{And, Or}
use Rattle.analysis_values.specs.declared.observations.Truths.{Truths}
use Rattle.analysis_values.specs.Steps.{IsObserved, ObservesIn}

abbrev pub junction_of : Junction → ObservationTree → ObservationTree → ObservationTree
junction_of And x y = and_obs x y
junction_of Or x y = or_obs x y

abbrev pub joined_by : Junction → Observation → Observation → ObservationTree
joined_by j o p = junction_of j (observation_tree o) (observation_tree p)

-- truths as they are for And, turned round for Or
abbrev pub side_of : Junction → Truths → Truths
side_of And t = t
side_of Or t = record { fits = t.fits; if_true = t.if_false; if_false = t.if_true }

-- what is observed of two observations, by what is known where the first decides, and by what is observed of the second where it doesn't
abbrev pub DecidesBoth : Junction → Symbols → Bool → Option Symbols → Option Truths → Truths → Type 0
DecidesBoth j n fits p second t =
    (k : Symbols) (v : View) (x y : ObservationTree) (known : Option Symbols) → IsObserved k v x n (side_of j (record { fits = fits; if_true = known; if_false = p })) → ObservesIn v known y second → IsObserved k v (junction_of j x y) n t
