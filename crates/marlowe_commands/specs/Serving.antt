-- What is told of a scenario that stands in a request.
use Rattle.std.specs.Prelude.{◌≡◌, ◌≢◌, ◌⊎◌, ℕ, Bool, false, List, [], Option, Some, None, Result, Ok, Err, codes}
use Rattle.marlowe_play.specs.JsonReadNames.declared.fault.JsonFault.TheVariants as json
use Rattle.marlowe_play.specs.JsonReadScenarios.ReadsScenario as reads
use Rattle.marlowe_play.specs.Faults.{IsRefused}
use Rattle.marlowe_play.specs.Played.{IsAnswered, wanted}
use Rattle.marlowe_play.specs.declared.asked.Face.TheVariants.{Objects}
use Rattle.marlowe_play.specs.declared.asked.Played.{Played}
use Rattle.marlowe_play.specs.declared.fault.PlayFault.{PlayFault}
use Rattle.marlowe_play.specs.declared.fault.PlayFault.TheVariants as playing
use Rattle.serde_json.specs.Data.{Data}
use Rattle.serde_json.specs.Find.{get}
use Rattle.serve.specs.Playing.{PlayTold}
use Rattle.serve.specs.Scenarios.{TellsScenario}
use Rattle.marlowe_commands.specs.Tasks.{play_members}

-- why a value isn't read as a scenario, or nothing, which is always allowed
abbrev pub MayExplain : Data → List ℕ → Type 0
MayExplain d told = (told ≡ []) ⊎ TellsScenario d told

-- what `play --one --json` prints of the scenario that a value stands for: all of a play, or why there is none
abbrev pub TellsOfValue : Data → PlayTold → Type 0
TellsOfValue d (Ok lines) = (well : Bool) × IsAnswered (reads.scenario d) (wanted Objects false []) lines well
TellsOfValue d (Err refused) =
    (fault : PlayFault) × (fault ≢ playing.Memory) × IsRefused {X = Played} (reads.scenario d) (Err fault) × (refused.0 ≡ play_members fault)
    × MayExplain d refused.1

-- .. of a value, if there is one
abbrev pub TellsAt : Option Data → PlayTold → Type 0
TellsAt None told = told ≡ Err (play_members (playing.Scenario json.NoForm), [])
TellsAt (Some d) told = TellsOfValue d told

-- of the scenario at the key `scenario`
abbrev pub TellsPlay : Data → PlayTold → Type 0
TellsPlay body told = TellsAt (get (codes "scenario") body) told
