-- What is printed of transactions one after another, from the texts of a contract, a state and the transactions.
use Rattle.std.specs.Prelude.{◌≡◌, ◌≢◌, ℕ, suc, Bool, true, false, List, [], ◌∷◌, flat_map, Option, Some, None, Result, Ok, Err}
use Rattle.contract.specs.Collections.Answers.{◌>>=◌}
use Rattle.contract.specs.Tree.{ContractTree, contract_tree}
use Rattle.contract.specs.declared.fault.SemFault.{SemFault}
use Rattle.contract.specs.declared.transaction.Transaction.{Transaction}
use Rattle.contract.specs.declared.tree.Contract.{Contract}
use Rattle.contract.specs.States.States.{StateMaps}
use Rattle.marlowe_run.specs.JsonReadNames.ReadsText.{of_text_within}
use Rattle.marlowe_run.specs.JsonReadContracts.ReadsContract.{contract}
use Rattle.marlowe_run.specs.JsonReadInputs.ReadsState.{state_with_texts}
use Rattle.json_read_transactions.specs.ReadsTransactions.{transactions_of}
use Rattle.marlowe_run.specs.JsonWriteContracts.declared.fault.WriteFault.{WriteFault}
use Rattle.marlowe_run.specs.JsonWriteOutcomes.WrittenOutcome.{state_json}
use Rattle.marlowe_run.specs.Semantics.Walk.{Standing, standing, Walk, answer_of}
use Rattle.analysis_spec.specs.Runs.{walk_from}
use Rattle.trace.specs.declared.refused.Refused.{Refused}
use Rattle.trace.specs.Traces.{walks, left_by}
use Rattle.marlowe_run.specs.MarloweRefusals.declared.fault.RunFault.TheVariants as run
use Rattle.marlowe_run.specs.MarloweRefusals.declared.trace_fault.TraceFault.{TraceFault}
use Rattle.marlowe_run.specs.MarloweRefusals.declared.trace_fault.TraceFault.TheVariants as trace
use Rattle.marlowe_run.specs.MarloweRefusals.Faults.{read_as, contract_fault, state_fault}
use Rattle.marlowe_run.specs.MarloweRefusals.TraceFaults.{told_as, texts_fault}
use Rattle.marlowe_run.specs.Run.{printed}
use Rattle.marlowe_run.specs.Start.{start_of}
use Rattle.marlowe_trace.specs.declared.texts.Asked.{Asked}
use Rattle.marlowe_trace.specs.declared.texts.Traced.{Traced}

-- ---- from where a contract stands

abbrev pub line_or_nothing : Walk → Result Standing SemFault → List ℕ
line_or_nothing w (Ok a) = printed w a
line_or_nothing w (Err f) = []

-- the line of a transaction's outcome, and nothing where it is refused
abbrev pub line_of : Walk → List ℕ
line_of w = line_or_nothing w (answer_of w)

-- that of the last
abbrev pub last_line : List Walk → List ℕ
last_line [] = []
last_line (w ∷ []) = line_of w
last_line (w ∷ v ∷ ws) = last_line (v ∷ ws)

-- the lines of all, or of the last alone
abbrev pub lines_of : Bool → List Walk → List ℕ
lines_of false ws = flat_map line_of ws
lines_of true ws = last_line ws

-- the first that is refused, by its number from 1
abbrev pub refused_of : Result Standing Refused → Option TraceFault
refused_of (Ok a) = None
refused_of (Err r) = Some (trace.Refused (suc r.index) r.fault)

-- what is printed, and what is refused
abbrev pub Told : Type 0
Told = List ℕ × Option TraceFault

-- of all transactions, or of the last alone
abbrev pub told_of : Bool → Standing → List Transaction → Told
told_of last a ts = (lines_of last (walks a ts), refused_of (left_by 0 a ts))

abbrev pub ReturnsThen : Result Standing SemFault → (Standing → Type 0) → Type 0
ReturnsThen (Ok b) F = (state_with_texts (state_json b.state) ≡ Ok b.state) × F b
ReturnsThen (Err f) F = Unit {0}

-- each state that a transaction leaves is read from its JSON as it was, where numbers may be texts
abbrev pub StatesReturn : Standing → List Transaction → Type 0
StatesReturn a [] = Unit {0}
StatesReturn a (t ∷ ts) = ReturnsThen (answer_of (walk_from a t)) (λ b. StatesReturn b ts)

-- ---- from texts

-- the state and the texts of transactions are read in turn
unfoldable pub trace_from : Asked → ContractTree → Option (List ℕ) → List (List ℕ) → Result Told TraceFault
trace_from asked c start texts =
    read_as (λ f. trace.Run (state_fault f)) (start_of asked.readable.text_numbers start) >>= λ s.
    told_as texts_fault (transactions_of texts) >>= λ ts.
    Ok (told_of asked.last (standing s c) ts)

-- the contract is read first
unfoldable pub trace_text : Asked → List ℕ → Option (List ℕ) → List (List ℕ) → Result Told TraceFault
trace_text asked c start texts = read_as (λ f. trace.Run (contract_fault f)) (of_text_within asked.readable.depth contract c) >>= λ given. trace_from asked (contract_tree given) start texts

-- whatever state and transactions the texts are read as
abbrev pub StatesReturnFrom : Asked → ContractTree → Option (List ℕ) → List (List ℕ) → Type 0
StatesReturnFrom asked c start texts = (s : StateMaps) (ts : List Transaction) → start_of asked.readable.text_numbers start ≡ Ok s → transactions_of texts ≡ Ok ts → StatesReturn (standing s c) ts

-- .. and whatever contract
abbrev pub AllStatesReturn : Asked → List ℕ → Option (List ℕ) → List (List ℕ) → Type 0
AllStatesReturn asked text start texts = (given : Contract) → of_text_within asked.readable.depth contract text ≡ Ok given → StatesReturnFrom asked (contract_tree given) start texts

-- A call has no fault of writing.
abbrev pub CanBeWritten : Result Traced TraceFault → Type 0
CanBeWritten result = (fault : WriteFault) → result ≢ Err (trace.Run (run.Write fault))
