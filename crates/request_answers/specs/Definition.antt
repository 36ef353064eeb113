-- A contract that is to have a name.
use Rattle.std.specs.Prelude.{ℕ, List, Option, Some, None, Result, Ok, Err}
use Rattle.contract.specs.Collections.Answers.{◌>>=◌}
use Rattle.contract.specs.declared.tree.Contract.{Contract}
use Rattle.serde_json.specs.Data.{Data}
use Rattle.marlowe_trace.specs.JsonReadNames.Parts.{Reading, reading_at}
use Rattle.marlowe_trace.specs.JsonReadNames.declared.fault.JsonFault.TheVariants as json
use Rattle.marlowe_trace.specs.JsonReadContracts.ReadsContract.{contract}
use Rattle.marlowe_trace.specs.MarloweRefusals.Faults.{read_as}
use Rattle.request_reasons.specs.Definitions.declared.definition.Definition.{Definition}
use Rattle.request_reasons.specs.Requests.Requests.{sole_member}
use Rattle.request_reasons.specs.RequestParts.Parts.{contract_refused}
use Rattle.request_reasons.specs.RequestParts.declared.refusal.Part.TheVariants as parts
use Rattle.request_reasons.specs.RequestParts.declared.refusal.Refusal.{Refusal}
use Rattle.request_reasons.specs.RequestParts.declared.refusal.Refusal.TheVariants as refusals

abbrev one_member : Option (List ℕ × Data) → Result (List ℕ × Data) Refusal
one_member None = Err (refusals.Part parts.Define json.NoForm)
one_member (Some m) = Ok m

abbrev pub named_by : List ℕ → Contract → List ℕ × Contract
named_by name c = (name, c)

-- a contract that is read gets this name
abbrev pub named_reading : List ℕ → Reading Contract → Result (List ℕ × Contract) Refusal
named_reading name reading = read_as contract_refused reading >>= λ c. Ok (named_by name c)

-- a name and the contract that it is to have
abbrev pub definition_told : Data → Result (List ℕ × Contract) Refusal
definition_told body =
    one_member (sole_member body) >>= λ m.
    named_reading m.0 (reading_at contract body m.0)

abbrev pub named_so : Definition → List ℕ × Contract
named_so d = (d.name, d.contract)
