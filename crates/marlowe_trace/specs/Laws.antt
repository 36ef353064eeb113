-- A trace is runs, one after another.
use Rattle.std.specs.Prelude.{◌≡◌, ℕ, suc, false, List, [], ◌∷◌, ◌++◌, Some, None, option_map, Result, Ok, Err}
use Rattle.contract.specs.Tree.{contract_tree}
use Rattle.contract.specs.declared.tree.Contract.{Contract}
use Rattle.contract.specs.declared.transaction.Transaction.{Transaction}
use Rattle.marlowe_run.specs.JsonReadNames.ReadsText.{of_text, of_text_within}
use Rattle.marlowe_run.specs.JsonReadContracts.ReadsContract.{contract}
use Rattle.marlowe_run.specs.JsonReadInputs.ReadsInput.{transaction}
use Rattle.json_read_transactions.specs.ReadsTransactions.{transactions_of}
use Rattle.marlowe_run.specs.Semantics.Walk.{Standing, answer_of}
use Rattle.analysis_spec.specs.Runs.{walk_from}
use Rattle.marlowe_run.specs.MarloweRefusals.declared.fault.RunFault.{RunFault}
use Rattle.marlowe_run.specs.MarloweRefusals.declared.fault.RunFault.TheVariants as run
use Rattle.marlowe_run.specs.MarloweRefusals.declared.trace_fault.TraceFault.{TraceFault}
use Rattle.marlowe_run.specs.MarloweRefusals.declared.trace_fault.TraceFault.TheVariants as trace
use Rattle.marlowe_run.specs.declared.readable.Readable.{Readable}
use Rattle.marlowe_run.specs.Run.{run_within, printed}
use Rattle.marlowe_run.specs.Start.{state_reading}
use Rattle.marlowe_trace.specs.declared.texts.Asked.{Asked}
use Rattle.marlowe_trace.specs.Traced.{Told, trace_text}

-- what a run prints, as the trace of one transaction: a transaction that is refused has number 1
abbrev pub as_trace : Result (List ℕ) RunFault → Result Told TraceFault
as_trace (Ok line) = Ok (line, None)
as_trace (Err (run.Semantics fault)) = Ok ([], Some (trace.Refused 1 fault))
as_trace (Err fault) = Err (trace.Run fault)

-- the trace of one transaction is its run
abbrev pub OneIsARun : Type 0
OneIsARun = (asked : Asked) (c s t : List ℕ) (tx : Transaction) → of_text transaction t ≡ Ok tx
    → trace_text asked c (Some s) (t ∷ []) ≡ as_trace (run_within asked.readable c s t)

-- a contract and a state are read from these texts
abbrev pub StandsFor : Readable → List ℕ → List ℕ → Standing → Type 0
StandsFor readable c s a =
    (given : Contract) × (of_text_within readable.depth contract c ≡ Ok given) × (contract_tree given ≡ a.contract) × (of_text (state_reading readable.text_numbers) s ≡ Ok a.state)

-- the next number
abbrev pub renumbered : TraceFault → TraceFault
renumbered (trace.Refused number fault) = trace.Refused (suc number) fault
renumbered other = other

-- what is told behind a line
abbrev pub behind : List ℕ → Result Told TraceFault → Result Told TraceFault
behind line (Ok told) = Ok (line ++ told.0, option_map renumbered told.1)
behind line (Err fault) = Err fault

-- texts of which all outcomes are printed
abbrev pub all_of : Readable → Asked
all_of readable = record { readable = readable; last = false }

-- a first transaction prints what its run prints, and the others print what they do from any texts that stand for where it leaves the contract
abbrev pub TraceIsRuns : Type 0
TraceIsRuns = (readable : Readable) (c s t d u : List ℕ) (ts : List (List ℕ)) (a b : Standing) (tx : Transaction) (txs : List Transaction)
    → StandsFor readable c s a → of_text transaction t ≡ Ok tx → answer_of (walk_from a tx) ≡ Ok b → StandsFor readable d u b → transactions_of (t ∷ ts) ≡ Ok (tx ∷ txs)
    → (run_within readable c s t ≡ Ok (printed (walk_from a tx) b))
    × (trace_text (all_of readable) c (Some s) (t ∷ ts) ≡ behind (printed (walk_from a tx) b) (trace_text (all_of readable) d (Some u) ts))
