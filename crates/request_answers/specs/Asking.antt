-- What `next` and `analyse` print as JSON, of a request's parts.
use Rattle.std.specs.Prelude.{◌≡◌, ℕ, Bool, true, false, not, List, Option, Some, None, Result, Ok, Err, codes}
use Rattle.std.specs.Option.{option_and_then}
use Rattle.contract.specs.Collections.Answers.{◌>>=◌}
use Rattle.contract.specs.declared.transaction.Transaction.{Transaction}
use Rattle.contract.specs.Names.declared.party.Party.{Party}
use Rattle.contract.specs.Tree.{ContractTree, contract_tree}
use Rattle.contract.specs.States.States.{StateMaps}
use Rattle.serde_json.specs.Data.{Data}
use Rattle.serde_json.specs.Find.{get, as_bool}
use Rattle.marlowe_trace.specs.JsonReadNames.Forms.{has}
use Rattle.marlowe_trace.specs.MarloweRefusals.declared.trace_fault.TraceFault.{TraceFault}
use Rattle.marlowe_trace.specs.MarloweRun.declared.readable.Readable.{Readable}
use Rattle.request_reasons.specs.MarloweNext.declared.asked.Asked.{Asked}
use Rattle.request_reasons.specs.MarloweNext.Answer.{IsAnswer}
use Rattle.request_reasons.specs.MarloweNext.Question.{Reached, answered, reached_by}
use Rattle.marlowe_analyse.specs.declared.analysed.Telling.{Telling}
use Rattle.marlowe_analyse.specs.Keeping.{TellsFor}
use Rattle.request_reasons.specs.Definitions.declared.definition.Definition.{Definition}
use Rattle.request_reasons.specs.RequestParts.Answered.{without_feed}
use Rattle.request_reasons.specs.RequestParts.Parts.{contract_at, party_if, state_at, time_at, transactions_at}
use Rattle.request_reasons.specs.RequestParts.Refusals.{trace_refused}
use Rattle.request_reasons.specs.RequestParts.declared.refusal.Part.TheVariants as parts
use Rattle.request_reasons.specs.RequestParts.declared.refusal.Refusal.{Refusal}

-- a part is read, and then this is told; or why it isn't
unfoldable pub Then : {X : Type 0} → Result X Refusal → (X → Result (List ℕ) Refusal → Type 0) → Result (List ℕ) Refusal → Type 0
Then (Ok x) Tells told = Tells x told
Then (Err refusal) Tells told = told ≡ Err refusal

-- ---- what can be done next

-- the interval at the keys `from` and `to`
abbrev pub asked_at : Readable → Data → Result Asked Refusal
asked_at r body =
    time_at parts.From (codes "from") body >>= λ from.
    time_at parts.To (codes "to") body >>= λ to.
    Ok (record { from = from; to = to; readable = r; json = true })

-- what `next --json` prints of where transactions lead
abbrev pub NextPrints : Asked → Result Reached TraceFault → Result (List ℕ) Refusal → Type 0
NextPrints q reached (Ok text) = (line : List ℕ) × IsAnswer q reached line × (text ≡ without_feed line)
NextPrints q reached (Err refusal) = (fault : TraceFault) × (answered q reached ≡ Err fault) × (refusal ≡ trace_refused fault)

abbrev pub TellsNextBehind : Readable → ContractTree → StateMaps → Data → List Transaction → Result (List ℕ) Refusal → Type 0
TellsNextBehind r c s body ts = Then (asked_at r body) (λ q. NextPrints q (reached_by c s ts))

abbrev pub TellsNextFrom : Readable → ContractTree → Data → StateMaps → Result (List ℕ) Refusal → Type 0
TellsNextFrom r c body s = Then (transactions_at (codes "after") body) (TellsNextBehind r c s body)

abbrev pub TellsNextOf : Readable → Data → ContractTree → Result (List ℕ) Refusal → Type 0
TellsNextOf r body c = Then (state_at r.text_numbers body) (TellsNextFrom r c body)

-- for these parts
abbrev pub TellsNext : Readable → List Definition → Data → Result (List ℕ) Refusal → Type 0
TellsNext r defs body = Then (contract_at defs body) (λ c. TellsNextOf r body (contract_tree c))

-- ---- an analysis

abbrev is_true : Option Bool → Bool
is_true (Some b) = b
is_true None = false

-- whether `true` stands at a key
abbrev pub is_true_at : List ℕ → Data → Bool
is_true_at key body = is_true (option_and_then as_bool (get key body))

-- told to tools, with all alarms; without runs where `no_runs` is true, and with notes where `notes` is
abbrev pub telling_of : Data → Telling
telling_of body = record { tools = true; runs = not (is_true_at (codes "no_runs") body); all = true; notes = is_true_at (codes "notes") body }

-- what `analyse --json` prints; it refuses nothing
abbrev pub AnalysisPrints : Telling → Bool → ContractTree → StateMaps → Option Party → Result (List ℕ) Refusal → Type 0
AnalysisPrints telling given c s party (Ok text) =
    (clear unreached : Bool) × (line : List ℕ) × TellsFor telling party given s c clear unreached line × (text ≡ without_feed line)
AnalysisPrints telling given c s party (Err refusal) = ⊥

-- .. of the party at the key `party`, if one is there
abbrev pub TellsAnalysisFrom : Data → ContractTree → StateMaps → Result (List ℕ) Refusal → Type 0
TellsAnalysisFrom body c s = Then (party_if body) (AnalysisPrints (telling_of body) (has (codes "state") body) c s)

abbrev pub TellsAnalysisOf : Bool → Data → ContractTree → Result (List ℕ) Refusal → Type 0
TellsAnalysisOf texts body c = Then (state_at texts body) (TellsAnalysisFrom body c)

-- for these parts
abbrev pub TellsAnalysis : Bool → List Definition → Data → Result (List ℕ) Refusal → Type 0
TellsAnalysis texts defs body = Then (contract_at defs body) (λ c. TellsAnalysisOf texts body (contract_tree c))
