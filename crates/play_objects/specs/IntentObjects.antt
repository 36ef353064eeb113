-- The objects of intents.
use Rattle.std.specs.Prelude.{ℕ, ◌+◌, if◌then◌else◌, List, [], ◌∷◌, ◌++◌, slice_get, codes, decimal}
use Rattle.std.specs.Fmt.{signed_decimal}
use Rattle.contract.specs.declared.input.Input.{Input}
use Rattle.builder_spec.specs.Ledger.declared.look.Unspent.{Unspent}
use Rattle.builder_spec.specs.declared.fault.BuildFault.{BuildFault}
use Rattle.plans.specs.declared.intent.Intent.{Intent}
use Rattle.plans.specs.declared.intent.Intent.TheVariants.{Step, Steps, Claim, Round, Advance}
use Rattle.plans.specs.declared.scenario.NamedContract.{NamedContract}
use Rattle.plans.specs.declared.scenario.NamedThread.{NamedThread}
use Rattle.play_lines.specs.PlayLines.{build_fault_text}
use Rattle.play_notes.specs.Intents.{quoted, thread_named, contract_named, cause_words, asks_for_nothing}
use Rattle.step_notes.specs.StepObjects.{comma}

-- ---- an intent as members; it names threads and contracts by their places in these lists

abbrev pub step_names : List NamedThread → ℕ → List (ℕ × List Input) → List ℕ
step_names ts n [] = []
step_names ts n (s ∷ ss) = (comma n ++ thread_named (slice_get ts s.0)) ++ step_names ts (n + 1) ss

abbrev pub intent_members : List NamedThread → List NamedContract → Intent ℕ ℕ → List ℕ
intent_members ts cs (Step thread inputs interval pooled) = codes "\"step\":" ++ thread_named (slice_get ts thread)
intent_members ts cs (Steps steps interval pooled) = codes "\"steps\":[" ++ (step_names ts 0 steps ++ codes "]")
intent_members ts cs (Claim contract role interval) = codes "\"claim\":" ++ (contract_named (slice_get cs contract) ++ (codes ",\"role\":" ++ quoted role))
intent_members ts cs (Round count workers) = codes "\"round\":" ++ decimal count
intent_members ts cs (Advance tick) = codes "\"advance\":" ++ signed_decimal tick

-- ---- one on which nothing was built, behind the look at this place: what hinders it

abbrev pub cause_members : Intent ℕ ℕ → List Unspent → BuildFault → List ℕ
cause_members intent offered fault = codes ",\"fault\":" ++ (quoted (build_fault_text fault) ++ (codes ",\"why\":" ++ quoted (cause_words intent offered fault)))

abbrev pub why_members : Intent ℕ ℕ → List Unspent → BuildFault → List ℕ
why_members intent offered fault = if asks_for_nothing intent fault then codes ",\"why\":\"nothing to claim\"" else cause_members intent offered fault

abbrev pub unbuilt_object : List NamedThread → List NamedContract → ℕ → Intent ℕ ℕ → List Unspent → BuildFault → List ℕ
unbuilt_object ts cs place intent offered fault =
    codes "{\"left_out\":{" ++ (intent_members ts cs intent ++ (codes "},\"entry\":" ++ (decimal place ++ (why_members intent offered fault ++ codes "}\n"))))
