-- What is told of an intent on which nothing was built.
use Rattle.std.specs.Prelude.{ℕ, ℤ, Bool, true, false, if◌then◌else◌, List, [], ◌∷◌, ◌++◌, slice_get, Option, Some, None, Result, Ok, Err, codes, decimal}
use Rattle.std.specs.Fmt.{signed_decimal}
use Rattle.serde_json.specs.Data.{string}
use Rattle.serde_json.specs.Written.{compact_text}
use Rattle.contract.specs.Names.declared.token.Token.{Token}
use Rattle.contract.specs.declared.fault.SemFault.{SemFault}
use Rattle.contract.specs.declared.input.Input.{Input}
use Rattle.builder_spec.specs.Ledger.declared.look.Unspent.{Unspent}
use Rattle.builder_spec.specs.declared.fault.BuildFault.{BuildFault}
use Rattle.builder_spec.specs.declared.fault.BuildFault.TheVariants.{NoThread, NoFunds}
use Rattle.plans.specs.declared.intent.Intent.{Intent}
use Rattle.plans.specs.declared.intent.Intent.TheVariants.{Step, Steps, Claim, Round, Advance}
use Rattle.plans.specs.declared.scenario.NamedContract.{NamedContract}
use Rattle.plans.specs.declared.scenario.NamedThread.{NamedThread}
use Rattle.fault_words.specs.Words.{build_words, lacking_words}
use Rattle.play_lines.specs.PlayLines.{build_fault_text}
use Rattle.play_notes.specs.Lacking.{lacking}

-- ---- an intent as it is read, which names threads and contracts by their places in these lists

-- a name as a JSON text
abbrev pub quoted : List ℕ → List ℕ
quoted name = compact_text (string name)

abbrev pub thread_named : Option NamedThread → List ℕ
thread_named None = []
thread_named (Some t) = quoted t.name

abbrev pub contract_named : Option NamedContract → List ℕ
contract_named None = []
contract_named (Some c) = quoted c.name

-- of each step, its thread, a space before it
abbrev pub steps_text : List NamedThread → List (ℕ × List Input) → List ℕ
steps_text ts [] = []
steps_text ts (s ∷ ss) = (codes " " ++ thread_named (slice_get ts s.0)) ++ steps_text ts ss

abbrev pub intent_text : List NamedThread → List NamedContract → Intent ℕ ℕ → List ℕ
intent_text ts cs (Step thread inputs interval pooled) = codes "step " ++ thread_named (slice_get ts thread)
intent_text ts cs (Steps steps interval pooled) = codes "steps" ++ steps_text ts steps
intent_text ts cs (Claim contract role interval) = codes "claim " ++ (contract_named (slice_get cs contract) ++ (codes " " ++ quoted role))
intent_text ts cs (Round count workers) = codes "round " ++ decimal count
intent_text ts cs (Advance tick) = codes "advance " ++ signed_decimal tick

-- ---- why it wasn't built

abbrev pub funds_words : Token → Result ℤ SemFault → List ℕ
funds_words token (Ok n) = lacking_words n token
funds_words token (Err fault) = build_words (NoFunds token)

-- of funds how much lacks
abbrev pub cause_words : Intent ℕ ℕ → List Unspent → BuildFault → List ℕ
cause_words intent offered (NoFunds token) = funds_words token (lacking token intent offered)
cause_words intent offered fault = build_words fault

abbrev pub cause_text : Intent ℕ ℕ → List Unspent → BuildFault → List ℕ
cause_text intent offered fault = codes ": not built: " ++ (build_fault_text fault ++ (codes ": " ++ cause_words intent offered fault))

abbrev pub is_no_thread : BuildFault → Bool
is_no_thread NoThread = true
is_no_thread fault = false

-- a claim that was shown no payout asks for nothing
abbrev pub asks_for_nothing : Intent ℕ ℕ → BuildFault → Bool
asks_for_nothing (Claim contract role interval) fault = is_no_thread fault
asks_for_nothing intent fault = false

abbrev pub cause_of : Intent ℕ ℕ → List Unspent → BuildFault → List ℕ
cause_of intent offered fault = if asks_for_nothing intent fault then codes ": nothing to claim" else cause_text intent offered fault

-- the intent, to which these outputs were offered, and what hinders it
abbrev pub unbuilt_text : List NamedThread → List NamedContract → Intent ℕ ℕ → List Unspent → BuildFault → List ℕ
unbuilt_text ts cs intent offered fault = codes "    " ++ (intent_text ts cs intent ++ (cause_of intent offered fault ++ codes "\n"))
