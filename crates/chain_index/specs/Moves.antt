-- Moves of contracts: for each contract output that was spent, which transaction spent it and where the thread goes on; and the outputs
-- that start threads.
use Rattle.std.specs.Prelude.{ℕ, zero, suc, ◌+◌, Bool, true, false, if◌then◌else◌, List, [], ◌∷◌, ◌++◌, filter, length, Option, Some, None}
use Rattle.std.specs.Option.{option_map}
use Rattle.std.specs.Map.{lookup, keys_of}
use Rattle.ledger_spec.specs.EutxoTypes.declared.output_ref.OutputRef.{OutputRef}
use Rattle.ledger_spec.specs.EutxoTypes.declared.spend.Spend.{Spend}
use Rattle.ledger_spec.specs.EutxoTypes.declared.tx.Tx.{Tx}
use Rattle.ledger_spec.specs.EutxoTypes.Parts.{same_ref, is_step}
use Rattle.ledger_spec.specs.LedgerLaws.Past.{created_by}
use Rattle.ledger_spec.specs.LedgerLaws.Threads.{next_in}
use Rattle.ledger_spec.specs.Views.{starts_in}
use Rattle.chain_index.specs.declared.moves.Move.{Move}
use Rattle.chain_index.specs.declared.moves.StepPlace.{StepPlace}

-- ---- moves

-- the n-th accepted transaction moved a thread on
abbrev pub move_to : ℕ → Option OutputRef → Move
move_to n next = record { number = n; next = next }

-- where a thread goes on that stood at an output which a transaction spends
abbrev pub Next : Type 0
Next = OutputRef → Tx → Option OutputRef

-- a move for each of these inputs that steps a contract, under the output that it spends
abbrev pub moves_by : Next → ℕ → Tx → List Spend → List (OutputRef × Move)
moves_by next n tx [] = []
moves_by next n tx (x ∷ xs) = if is_step x.redeemer then (x.reference, move_to n (next x.reference tx)) ∷ moves_by next n tx xs else moves_by next n tx xs

-- the moves of the n-th accepted transaction
abbrev pub moves_in : Next → ℕ → Tx → List (OutputRef × Move)
moves_in next n tx = moves_by next n tx tx.inputs

-- and where it is told in which places the contracts go on, in the order of the inputs that step: each takes the next of these
abbrev pub and_move : Bool → ℕ → Tx → Spend → List (Option ℕ) → (List (Option ℕ) → List (OutputRef × Move)) → List (OutputRef × Move)
and_move false n tx x ps later = later ps
and_move true n tx x [] later = later []
and_move true n tx x (p ∷ ps) later = (x.reference, move_to n (next_in tx p)) ∷ later ps

abbrev pub moves_to : ℕ → Tx → List Spend → List (Option ℕ) → List (OutputRef × Move)
moves_to n tx [] ps = []
moves_to n tx (x ∷ xs) ps = and_move (is_step x.redeemer) n tx x ps (moves_to n tx xs)

-- the moves of accepted transactions, in order, the first of which is the n-th
abbrev pub moves_from : Next → ℕ → List Tx → List (OutputRef × Move)
moves_from next n [] = []
moves_from next n (tx ∷ txs) = moves_in next n tx ++ moves_from next (n + 1) txs

-- ---- where they lead

abbrev pub place_of : OutputRef → ℕ → StepPlace
place_of r n = record { spends = r; number = n }

-- the step of the thread that stands at an output, and where it stands then
abbrev pub step_at : Option OutputRef → List (OutputRef × Move) → Option (StepPlace × Option OutputRef)
step_at None ms = None
step_at (Some r) ms = option_map (λ m. (place_of r m.number, m.next)) (lookup (same_ref r) ms)

abbrev pub steps_after : Option (StepPlace × Option OutputRef) → (Option OutputRef → List StepPlace) → List StepPlace
steps_after None later = []
steps_after (Some x) later = x.0 ∷ later x.1

-- the first n steps of the thread that stands at an output
abbrev pub steps_within : ℕ → List (OutputRef × Move) → Option OutputRef → List StepPlace
steps_within zero ms s = []
steps_within (suc n) ms s = steps_after (step_at s ms) (λ next. steps_within n ms next)

abbrev pub leads_after : Option OutputRef → Option (StepPlace × Option OutputRef) → (Option OutputRef → Option OutputRef) → Option OutputRef
leads_after s None later = s
leads_after s (Some x) later = later x.1

-- where the thread stands after them
abbrev pub leads_within : ℕ → List (OutputRef × Move) → Option OutputRef → Option OutputRef
leads_within zero ms s = s
leads_within (suc n) ms s = leads_after s (step_at s ms) (λ next. leads_within n ms next)

-- the steps of the thread from an output, of which there are no more than moves
abbrev pub along : OutputRef → List (OutputRef × Move) → List StepPlace
along r ms = steps_within (length ms) ms (Some r)

-- and where it ends
abbrev pub leads : OutputRef → List (OutputRef × Move) → Option OutputRef
leads r ms = leads_within (length ms) ms (Some r)

-- ---- starts

-- the outputs of a transaction that start threads, in order
abbrev pub starts_by : Tx → List OutputRef
starts_by tx = filter (λ r. starts_in r tx) (keys_of (created_by tx))

abbrev pub starts_of : List Tx → List OutputRef
starts_of [] = []
starts_of (tx ∷ txs) = starts_by tx ++ starts_of txs
