-- Why a scenario isn't played, and the line that tells it.
use Rattle.std.specs.Prelude.{◌≡◌, ◌≢◌, ℕ, List, ◌++◌, Result, Ok, Err, MatchResult, codes}
use Rattle.json_read_names.specs.declared.fault.JsonFault.{JsonFault}
use Rattle.json_read_names.specs.declared.fault.JsonFault.TheVariants as json
use Rattle.json_read_names.specs.Parts.{Reading}
use Rattle.play_endings.specs.Plans.declared.scenario.Scenario.{Scenario as ScenarioRead}
use Rattle.play_setup.specs.MarloweRefusals.Refusals.{json_fault_name}
use Rattle.play_setup.specs.SetupRefusals.SetupRefusals.{setup_line}
use Rattle.marlowe_play.specs.declared.fault.PlayFault.{PlayFault}
use Rattle.marlowe_play.specs.declared.fault.PlayFault.TheVariants.{Scenario, Setup, Memory}

-- a fault of the text: want of memory is never inside another fault
abbrev pub scenario_fault : JsonFault → PlayFault
scenario_fault json.Memory = Memory
scenario_fault fault = Scenario fault

-- whether a fault is one of the text
abbrev pub IsOfText : PlayFault → Type 0
IsOfText (Scenario fault) = Unit {0}
IsOfText fault = ⊥

-- a text that is no scenario isn't played: its fault is told, want of memory aside; of a scenario no fault of the text is
abbrev pub IsRefused : {X : Type 0} → Reading ScenarioRead → Result X PlayFault → Type 0
IsRefused (Ok scenario) result = MatchResult result (λ text. Unit {0}) (λ told. IsOfText told → ⊥)
IsRefused (Err fault) result = MatchResult result (λ text. ⊥) (λ told. told ≢ Memory → told ≡ scenario_fault fault)

-- the line of a fault
abbrev pub play_refusal_text : PlayFault → List ℕ
play_refusal_text (Scenario fault) = codes "refused scenario " ++ json_fault_name fault
play_refusal_text (Setup refusal) = setup_line refusal
play_refusal_text Memory = codes "refused Memory"
