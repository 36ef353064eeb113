-- What is asked: of a contract and a state, after transactions, over an interval.
use Rattle.std.specs.Prelude.{ℕ, ◌+◌, ℤ, List, [], map, Option, option_map, Result, Ok}
use Rattle.std.specs.Borrow.{Bor}
use Rattle.std.specs.Option.{unwrap_or}
use Rattle.std.specs.declared.vec.Vec.{Vec}
use Rattle.std.specs.declared.alloc.Global.{Global}
use Rattle.contract.specs.Collections.Answers.{◌>>=◌}
use Rattle.contract.specs.declared.interval.Interval.{Interval}
use Rattle.contract.specs.declared.transaction.Transaction.{Transaction}
use Rattle.contract.specs.declared.tree.Contract.{Contract}
use Rattle.contract.specs.Tree.{ContractTree, contract_tree}
use Rattle.contract.specs.States.States.{StateMaps}
use Rattle.marlowe_run.specs.JsonReadNames.ReadsText.{of_text_within}
use Rattle.marlowe_run.specs.JsonReadContracts.ReadsContract.{contract}
use Rattle.json_read_transactions.specs.ReadsTransactions.{transactions_of}
use Rattle.marlowe_run.specs.Semantics.Walk.{Standing, standing, answer_of}
use Rattle.next_inputs.specs.Opening.{opening}
use Rattle.analysis_spec.specs.declared.path.PathStep.{PathStep}
use Rattle.analysis_spec.specs.Marks.{leads_after}
use Rattle.trace.specs.declared.refused.Refused.{Refused}
use Rattle.trace.specs.declared.sequence.Left.{Left}
use Rattle.trace.specs.Traces.{left_by}
use Rattle.marlowe_run.specs.MarloweRefusals.declared.trace_fault.TraceFault.{TraceFault}
use Rattle.marlowe_run.specs.MarloweRefusals.declared.trace_fault.TraceFault.TheVariants as trace
use Rattle.marlowe_run.specs.MarloweRefusals.Faults.{read_as, contract_fault, state_fault, semantics_fault}
use Rattle.marlowe_run.specs.MarloweRefusals.TraceFaults.{told_as, texts_fault, refused_fault}
use Rattle.marlowe_run.specs.Start.{start_of}
use Rattle.marlowe_next.specs.declared.asked.Asked.{Asked}

-- ---- after which transactions

-- a whole contract, the path to the part of it that transactions leave, and how that part stands
pub record Reached : Type 0 where
  pub whole : ContractTree
  pub path : List PathStep
  pub there : Standing

-- a part of a contract that is left, at the end of its path
abbrev pub reached_at : Contract → Left → Reached
reached_at whole left = record { whole = contract_tree whole; path = left.path; there = standing left.state (contract_tree left.contract.now) }

-- the text of a state, if one is given, and texts of transactions
abbrev pub text_given : Option (Bor (List ℕ)) → Option (List ℕ)
text_given state = option_map (λ text. text.now) state

abbrev pub texts_given : List (Vec ℕ Global) → List (List ℕ)
texts_given after = map (λ text. text.items) after

-- where transactions lead from a contract and a state, or the first that is refused, by its number from 1
abbrev pub reached_by : ContractTree → StateMaps → List Transaction → Result Reached TraceFault
reached_by c s ts = told_as (λ (r : Refused). refused_fault (r.index + 1) r.fault) (left_by 0 (standing s c) ts) >>= λ a. Ok (record { whole = c; path = leads_after [] (standing s c) ts; there = a })

-- the transactions are read after the state, and the state after the contract. Without a state it starts without entries, at time 0
abbrev pub reached_with : ContractTree → StateMaps → List (List ℕ) → Result Reached TraceFault
reached_with c s after = told_as texts_fault (transactions_of after) >>= λ ts. reached_by c s ts

abbrev pub reached_from : Asked → ContractTree → Option (List ℕ) → List (List ℕ) → Result Reached TraceFault
reached_from q c start after = read_as (λ f. trace.Run (state_fault f)) (start_of q.readable.text_numbers start) >>= λ s. reached_with c s after

abbrev pub reached : Asked → List ℕ → Option (List ℕ) → List (List ℕ) → Result Reached TraceFault
reached q text start after = read_as (λ f. trace.Run (contract_fault f)) (of_text_within q.readable.depth contract text) >>= λ given. reached_from q (contract_tree given) start after

-- .. from texts as they are given
abbrev pub reached_given : Asked → List ℕ → Option (Bor (List ℕ)) → List (Vec ℕ Global) → Result Reached TraceFault
reached_given q text state after = reached q text (text_given state) (texts_given after)

-- ---- over which interval

-- at this minimum time: it starts there unless another start is asked for, and has its start alone unless an end is asked for
abbrev pub interval_of : Asked → ℤ → Interval
interval_of q now = let from = unwrap_or q.from now in record { from = from; to = unwrap_or q.to from }

abbrev pub interval_at : Asked → Reached → Interval
interval_at q r = interval_of q r.there.state.min_time

-- how the contract stands when the inputs come, or why no transaction over the interval comes so far
abbrev pub settled_of : Asked → Reached → Result Standing TraceFault
settled_of q r = told_as (λ f. trace.Run (semantics_fault f)) (answer_of (opening (interval_at q r) r.there.state r.there.contract))

-- why there is no answer, if there is none
abbrev pub answered : Asked → Result Reached TraceFault → Result (Unit {0}) TraceFault
answered q reached = reached >>= λ r. settled_of q r >>= λ _. Ok tt
