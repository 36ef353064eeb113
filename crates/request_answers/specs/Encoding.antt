-- The one encoding of what stands in a request, and its digest.
use Rattle.std.specs.Prelude.{ℕ, Bool, List, ◌++◌, Option, Some, None, Result, Ok, Err, codes, if◌then◌else◌}
use Rattle.contract.specs.Collections.Answers.{◌>>=◌}
use Rattle.contract.specs.Tree.{ContractTree, contract_tree}
use Rattle.contract_bytes.specs.Names.{party_bytes, token_bytes}
use Rattle.contract_bytes.specs.Numbers.{text_bytes}
use Rattle.contract_bytes.specs.Trees.{contract_bytes}
use Rattle.contract_bytes.specs.Inputs.{input_bytes}
use Rattle.contract_bytes.specs.States.{state_bytes}
use Rattle.hex.specs.Hex.{encode_lower}
use Rattle.sha2.specs.Sha256.{sha256}
use Rattle.serde_json.specs.Data.{Data}
use Rattle.serde_json.specs.Find.{get}
use Rattle.marlowe_trace.specs.JsonReadNames.Forms.{has}
use Rattle.marlowe_trace.specs.JsonReadNames.Parts.{bytes}
use Rattle.marlowe_trace.specs.JsonReadNames.declared.fault.JsonFault.TheVariants as json
use Rattle.marlowe_trace.specs.MarloweRefusals.Faults.{read_as}
use Rattle.request_reasons.specs.Definitions.declared.definition.Definition.{Definition}
use Rattle.request_reasons.specs.RequestParts.Parts.{contract_at, input_at, party_at, state_at, token_at}
use Rattle.request_reasons.specs.RequestParts.Refusals.{part_refused}
use Rattle.request_reasons.specs.RequestParts.declared.refusal.Part.TheVariants as parts
use Rattle.request_reasons.specs.RequestParts.declared.refusal.Refusal.{Refusal}
use Rattle.request_reasons.specs.RequestParts.declared.refusal.Refusal.TheVariants as refusals

abbrev script_or : List ℕ → Option Data → Result (List ℕ) Refusal
script_or encoding None = Ok encoding
script_or encoding (Some d) = read_as (part_refused parts.Currency) (bytes d) >>= λ currency. Ok (encoding ++ text_bytes currency)

-- of a contract; with a currency, it is what the id of its script is the digest of
abbrev pub script_bytes : ContractTree → Data → Result (List ℕ) Refusal
script_bytes c body = script_or (contract_bytes c) (get (codes "currency") body)

abbrev pub contract_encoded : List Definition → Data → Result (List ℕ) Refusal
contract_encoded defs body = contract_at defs body >>= λ c. script_bytes (contract_tree c) body

-- of the first of these keys that is there
abbrev pub encoded : Bool → List Definition → Data → Result (List ℕ) Refusal
encoded texts defs body =
    if has (codes "contract") body then contract_encoded defs body
    else (if has (codes "state") body then (state_at texts body >>= λ s. Ok (state_bytes s))
    else (if has (codes "input") body then (input_at body >>= λ i. Ok (input_bytes i))
    else (if has (codes "party") body then (party_at body >>= λ p. Ok (party_bytes p))
    else (if has (codes "token") body then (token_at body >>= λ t. Ok (token_bytes t))
    else Err (refusals.Part parts.Bytes json.NoForm)))))

-- bytes and their SHA-256, in lower-case hexadecimal
abbrev pub bytes_object : List ℕ → List ℕ
bytes_object encoding = codes "{\"bytes\":\"" ++ (encode_lower encoding ++ (codes "\",\"id\":\"" ++ (encode_lower (sha256 encoding) ++ codes "\"}")))

abbrev pub bytes_told : Bool → List Definition → Data → Result (List ℕ) Refusal
bytes_told texts defs body = encoded texts defs body >>= λ encoding. Ok (bytes_object encoding)
