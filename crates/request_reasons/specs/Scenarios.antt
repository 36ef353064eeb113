-- Why a value isn't read as a scenario: what the command writes of such a text, without what only a text has.
use Rattle.std.specs.Prelude.{ℕ, List, Option}
use Rattle.serde_json.specs.Data.{Data}
use Rattle.refusal_reasons.specs.JsonStops.Stops.{Place}
use Rattle.refusal_reasons.specs.ScenarioStops.Stops.{IsScenarioStop}
use Rattle.request_reasons.specs.Parts.{IsTold}

-- of the place at which its reading stops, and nothing where it is read
pub record TellsScenario (d : Data) (written : List ℕ) : Type 0 where
  pub place : Option Place
  pub stops : IsScenarioStop d place
  pub tells : IsTold place written
