-- What the commands print, of a request's parts.
use Rattle.std.specs.Prelude.{ℕ, Bool, false, List, Option, Result, Ok, Err, codes}
use Rattle.contract.specs.Collections.Answers.{◌>>=◌}
use Rattle.contract.specs.Tree.{ContractTree, contract_tree}
use Rattle.serde_json.specs.Data.{Data}
use Rattle.marlowe_trace.specs.Semantics.Walk.{standing}
use Rattle.marlowe_trace.specs.MarloweRefusals.declared.trace_fault.TraceFault.{TraceFault}
use Rattle.marlowe_trace.specs.MarloweRefusals.TraceFaults.{told_as}
use Rattle.line_objects.specs.Objects.{lines_object}
use Rattle.marlowe_trace.specs.MarloweRun.Run.{transaction_text}
use Rattle.marlowe_trace.specs.MarloweRun.TableText.{printed_table}
use Rattle.marlowe_trace.specs.Traced.{Told, told_of}
use Rattle.marlowe_trace.specs.declared.texts.Traced.{Traced}
use Rattle.request_reasons.specs.Definitions.declared.definition.Definition.{Definition}
use Rattle.request_reasons.specs.RequestParts.Answered.{without_feed}
use Rattle.request_reasons.specs.RequestParts.Parts.{contract_at, state_at, transaction_at, transactions_at}
use Rattle.request_reasons.specs.RequestParts.Refusals.{run_refused, table_refused}
use Rattle.request_reasons.specs.RequestParts.declared.refusal.Refusal.{Refusal}

-- ---- one transaction

abbrev pub run_with : Bool → ContractTree → Data → Result (List ℕ) Refusal
run_with texts c body =
    state_at texts body >>= λ s.
    transaction_at body >>= λ tx.
    told_as run_refused (transaction_text s c tx) >>= λ line.
    Ok (without_feed line)

-- what `run` prints for these parts
abbrev pub run_told : Bool → List Definition → Data → Result (List ℕ) Refusal
run_told texts defs body = contract_at defs body >>= λ c. run_with texts (contract_tree c) body

-- ---- transactions one after another

abbrev pub trace_seen : Traced → Told
trace_seen traced = (traced.text.items, traced.refused)

abbrev pub trace_with : Bool → ContractTree → Data → Result Told Refusal
trace_with texts c body =
    state_at texts body >>= λ s.
    transactions_at (codes "transactions") body >>= λ ts.
    Ok (told_of false (standing s c) ts)

-- what `trace` prints for these parts
abbrev pub trace_told : Bool → List Definition → Data → Result Told Refusal
trace_told texts defs body = contract_at defs body >>= λ c. trace_with texts (contract_tree c) body

-- ---- a table

abbrev pub table_of : ContractTree → Result (List ℕ) Refusal
table_of c = told_as table_refused (printed_table c) >>= λ text. Ok (without_feed (lines_object text))

-- what `table --json` prints for this contract
abbrev pub table_told : List Definition → Data → Result (List ℕ) Refusal
table_told defs body = contract_at defs body >>= λ c. table_of (contract_tree c)
