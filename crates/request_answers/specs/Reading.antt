-- The canonical text of what stands in a request.
use Rattle.std.specs.Prelude.{ℕ, Bool, true, List, Result, Ok, Err, codes, if◌then◌else◌}
use Rattle.contract.specs.Collections.Answers.{◌>>=◌}
use Rattle.contract.specs.Tree.{contract_tree}
use Rattle.serde_json.specs.Data.{Data}
use Rattle.serde_json.specs.Written.{compact_text}
use Rattle.marlowe_trace.specs.JsonReadNames.Forms.{has}
use Rattle.marlowe_trace.specs.JsonReadNames.declared.fault.JsonFault.TheVariants as json
use Rattle.marlowe_trace.specs.JsonWriteContracts.Written.{in_range}
use Rattle.marlowe_trace.specs.JsonWriteContracts.WrittenContract.{contract_json, contract_fits}
use Rattle.marlowe_trace.specs.JsonWriteOutcomes.WrittenOutcome.{state_json}
use Rattle.marlowe_trace.specs.ContractJson.WrittenInput.{input_json, input_fits, transaction_json, transaction_fits}
use Rattle.marlowe_trace.specs.MarloweRefusals.Faults.{write_fault}
use Rattle.marlowe_trace.specs.MarloweRefusals.TraceFaults.{told_as}
use Rattle.request_reasons.specs.Definitions.declared.definition.Definition.{Definition}
use Rattle.request_reasons.specs.RequestParts.Parts.{contract_at, state_at, transaction_at, input_at}
use Rattle.request_reasons.specs.RequestParts.Refusals.{run_refused}
use Rattle.request_reasons.specs.RequestParts.declared.refusal.Part.TheVariants as parts
use Rattle.request_reasons.specs.RequestParts.declared.refusal.Refusal.{Refusal}
use Rattle.request_reasons.specs.RequestParts.declared.refusal.Refusal.TheVariants as refusals

-- a text, where JSON has all numbers
abbrev pub written : Bool → List ℕ → Result (List ℕ) Refusal
written fits text = told_as (λ f. run_refused (write_fault f)) (in_range fits text)

abbrev pub contract_read : List Definition → Data → Result (List ℕ) Refusal
contract_read defs body = contract_at defs body >>= λ c. written (contract_fits (contract_tree c)) (compact_text (contract_json (contract_tree c)))

abbrev pub state_read : Bool → Data → Result (List ℕ) Refusal
state_read texts body = state_at texts body >>= λ s. written true (compact_text (state_json s))

abbrev pub transaction_read : Data → Result (List ℕ) Refusal
transaction_read body = transaction_at body >>= λ t. written (transaction_fits t) (compact_text (transaction_json t))

abbrev pub input_read : Data → Result (List ℕ) Refusal
input_read body = input_at body >>= λ i. written (input_fits i) (compact_text (input_json i))

-- of the first of these keys that is there
abbrev pub read_told : Bool → List Definition → Data → Result (List ℕ) Refusal
read_told texts defs body =
    if has (codes "contract") body then contract_read defs body
    else (if has (codes "state") body then state_read texts body
    else (if has (codes "transaction") body then transaction_read body
    else (if has (codes "input") body then input_read body
    else Err (refusals.Part parts.Read json.NoForm))))
