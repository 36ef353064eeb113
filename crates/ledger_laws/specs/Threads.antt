-- Threads of contracts in a list of accepted transactions, of which one may step several; runs of a contract; and what it means that a
-- thread carries a run.
use Rattle.std.specs.Prelude.{◌≡◌, ℕ, ◌+◌, true, false, if◌then◌else◌, List, [], ◌∷◌, ◌++◌, map, drop, slice_get, Option, Some, None, option_map, Ok}
use Rattle.contract.specs.declared.interval.Interval.{Interval}
use Rattle.contract.specs.declared.input.Input.{Input}
use Rattle.contract.specs.declared.payment.Payment.{Payment}
use Rattle.contract.specs.declared.warning.Warning.{Warning}
use Rattle.contract.specs.States.States.{StateMaps}
use Rattle.contract.specs.Tree.{ContractTree, close}
use Rattle.roles.specs.Semantics.Walk.{standing, answer_of}
use Rattle.roles.specs.Semantics.Computed.{computed}
use Rattle.roles.specs.Nodes.declared.cont.Cont.{Cont}
use Rattle.roles.specs.Machine.declared.datum.Datum.{Datum}
use Rattle.roles.specs.EutxoTypes.declared.output.Output.{Output}
use Rattle.roles.specs.EutxoTypes.declared.output_ref.OutputRef.{OutputRef}
use Rattle.roles.specs.EutxoTypes.declared.output_ref.OutputRef.TheVariants.{Made}
use Rattle.roles.specs.EutxoTypes.declared.spend.Spend.{Spend}
use Rattle.roles.specs.EutxoTypes.declared.tx.Tx.{Tx}
use Rattle.roles.specs.EutxoTypes.Ids.{id_of}
use Rattle.roles.specs.EutxoTypes.Parts.{Instance, same_ref, is_step, contract_at, given_to, steps, outputs_from}
use Rattle.roles.specs.Eutxo.Asked.{Judges}
use Rattle.roles.specs.Eutxo.Blocks.{Block, blocks_on, goes_on_at, stands_from}
use Rattle.roles.specs.Eutxo.Found.{with_outputs}
use Rattle.roles.specs.declared.published.Published.{Published}
use Rattle.roles.specs.Terms.{Terms}
use Rattle.roles.specs.Steps.{continuation, due_outputs, marlowe}
use Rattle.ledger_laws.specs.Past.{Past, created_at, is_input_of}

-- ---- threads

-- the blocks of an accepted transaction: of its contract inputs, on the outputs that they name and the data that it brings
abbrev pub blocks_of : {V : Type 0} → Judges V → (List ℕ → Option V) → Past → Tx → List Block
blocks_of j named past tx = blocks_on j named tx (with_outputs tx.inputs (map (λ x. created_at past x.reference) tx.inputs))

-- where the thread that stood at a reference stands after a transaction that spends it: at the first output of its block, while its
-- contract goes on, and where that is a contract's
abbrev pub next_in : Tx → Option ℕ → Option OutputRef
next_in tx None = None
next_in tx (Some i) = option_map (λ c. Made (id_of tx) i) (contract_at tx i)

abbrev pub next_of : {V : Type 0} → Judges V → (List ℕ → Option V) → Past → OutputRef → Tx → Option OutputRef
next_of j named past r tx = next_in tx (goes_on_at (blocks_of j named past tx) r)

-- a transaction of a thread, with the thread's output that it spends
pub record Link : Type 0 where
  pub spends : OutputRef
  pub tx : Tx

-- the thread from an output, where it goes on by `next`: of these transactions, the one that spends it, and then the thread from
-- the next output
abbrev pub spine_by : (OutputRef → Tx → Option OutputRef) → Option OutputRef → List Tx → List Link
spine_by next None txs = []
spine_by next (Some r) [] = []
spine_by next (Some r) (tx ∷ txs) = if is_input_of r tx then record { spends = r; tx = tx } ∷ spine_by next (next r tx) txs else spine_by next (Some r) txs

-- where a thread from an output ends: at that output, or at the next output of its last transaction
abbrev pub ends_by : (OutputRef → Tx → Option OutputRef) → Option OutputRef → List Link → Option OutputRef
ends_by next s [] = s
ends_by next s (x ∷ xs) = ends_by next (next x.spends x.tx) xs

-- a contract output of an accepted transaction, with the contract that it made there
pub record IsMade (past : Past) (r : OutputRef) (c : Instance) : Type 0 where
  pub number : ℕ
  pub tx : Tx
  pub accepted : slice_get past.accepted number ≡ Some tx
  pub index : ℕ
  pub name : r ≡ Made (id_of tx) index
  pub contract : contract_at tx index ≡ Some c

-- a start output: one whose transaction steps no contract (and so spends none: a contract is opened by a step alone)
pub record IsStart (past : Past) (r : OutputRef) (c : Instance) : Type 0 where
  pub made : IsMade past r c
  pub bare : steps made.tx ≡ false

abbrev pub StartsThread : Past → OutputRef → Type 0
StartsThread past r = (c : Instance) × IsStart past r c

-- its thread: by the blocks, and so by what is published and by the whole past
abbrev pub thread : {V : Type 0} → Judges V → (List ℕ → Option V) → Past → OutputRef → List Link
thread j named past r = spine_by (next_of j named past) (Some r) past.accepted

-- and where that ends
abbrev pub thread_end : {V : Type 0} → Judges V → (List ℕ → Option V) → Past → OutputRef → Option OutputRef
thread_end j named past r = ends_by (next_of j named past) (Some r) (thread j named past r)

-- ---- what is brought

-- the datum that is brought for the output that a reference names: the data are for the inputs that step, in order
abbrev pub brought_to : OutputRef → List Spend → List Datum → Option Datum
brought_to r [] ds = None
brought_to r (x ∷ xs) ds = if same_ref x.reference r then slice_get ds 0 else brought_to r xs (if is_step x.redeemer then drop 1 ds else ds)

-- the one that a transaction of a thread brings for the output that it spends
abbrev pub brought_by : Link → Option Datum
brought_by l = brought_to l.spends l.tx.inputs l.tx.datums

-- THE PREMISE ON DIGESTS, of one thread: that is the datum that the output's maker brought
abbrev pub BringsWhatWasMade : {V : Type 0} → Judges V → (List ℕ → Option V) → Past → OutputRef → Type 0
BringsWhatWasMade j named past r = (n : ℕ) (l : Link) (c : Instance) → slice_get (thread j named past r) n ≡ Some l → IsMade past l.spends c → brought_by l ≡ Some c.datum

-- ---- runs

-- what a transaction of a contract leaves: warnings, payments, state and remaining contract
pub record Effect : Type 0 where
  pub warnings : List Warning
  pub payments : List Payment
  pub state : StateMaps
  pub contract : ContractTree

-- one transaction of a run
pub record Member : Type 0 where
  pub interval : Interval
  pub inputs : List Input
  pub outcome : Effect

-- the outcome is the transaction function's (Marlowe specification version 3, "Compute transaction"), and all its numbers
-- lie within 128 bits
abbrev pub Gives : ContractTree → StateMaps → Member → Type 0
Gives c s x =
    let w = computed x.interval s c x.inputs in
    (answer_of w ≡ Ok (standing x.outcome.state x.outcome.contract)) × (w.warnings ≡ x.outcome.warnings) × (w.payments ≡ x.outcome.payments)

-- each member is computed from where the member before ended
abbrev pub Run : ContractTree → StateMaps → List Member → Type 0
Run c s [] = Unit {0}
Run c s (x ∷ xs) = Gives c s x × Run x.outcome.contract x.outcome.state xs

-- what remains after a run, and in which state
abbrev pub contract_after : ContractTree → List Member → ContractTree
contract_after c [] = c
contract_after c (x ∷ xs) = contract_after x.outcome.contract xs

abbrev pub state_after : StateMaps → List Member → StateMaps
state_after s [] = s
state_after s (x ∷ xs) = state_after x.outcome.state xs

-- ---- what carries a run

-- the outputs that are due for its payments come first
abbrev pub PaysFirst : Terms → Effect → List Output → Type 0
PaysFirst t e os = (rest : List Output) × (os ≡ due_outputs t.currency e.payments ++ rest)

abbrev pub datum_at : Cont → StateMaps → Datum
datum_at k s = record { cont = k; state = s }

-- from a place on: the output at the place goes on from a number of the table that stands for the remaining contract, in the state that
-- is left, with exactly the sums of its accounts, unless the contract is Close; then the payments
abbrev pub LaidOutAfter : Terms → List ℕ → Effect → ContractTree → ℕ → Tx → Type 0
LaidOutAfter t script e close i tx = PaysFirst t e (outputs_from i tx.outputs)
LaidOutAfter t script e c i tx = (there : Cont) × (t.has there ≡ true) × (t.tree there ≡ c) × (contract_at tx i ≡ Some (record { script = script; datum = datum_at there e.state }))
    × (slice_get tx.outputs i ≡ Some (continuation script (datum_at there e.state))) × PaysFirst t e (outputs_from (i + 1) tx.outputs)

abbrev pub LaidOut : Terms → List ℕ → Effect → ℕ → Tx → Type 0
LaidOut t script e i tx = LaidOutAfter t script e e.contract i tx

-- a transaction of a thread and a member of a run agree: the member's outcome is the transaction function's from the datum that is brought for the
-- thread's output, at a number of the table, and it is laid out in the block of the input that spends this
pub record CarriesOne (named : List ℕ → Option Published) (past : Past) (t : Terms) (script : List ℕ) (l : Link) (later : List Link) (x : Member) : Type 0 where
  pub interval : l.tx.interval ≡ x.interval
  pub inputs : given_to l.spends l.tx.inputs ≡ Some x.inputs
  pub datum : Datum
  pub brought : brought_by l ≡ Some datum
  pub has : t.has datum.cont ≡ true
  pub gives : Gives (t.tree datum.cont) datum.state x
  pub from : ℕ
  pub block : stands_from (blocks_of marlowe named past l.tx) l.spends ≡ Some from
  pub outputs : LaidOut t script x.outcome from l.tx
  -- where the contract is Close, the thread is over: nothing follows, and no output goes on
  pub over : x.outcome.contract ≡ close → later ≡ []
  pub gone : x.outcome.contract ≡ close → next_of marlowe named past l.spends l.tx ≡ None
  -- and only there
  pub ended : next_of marlowe named past l.spends l.tx ≡ None → x.outcome.contract ≡ close

-- thread and run agree place by place
abbrev pub Carries : (List ℕ → Option Published) → Past → Terms → List ℕ → List Link → List Member → Type 0
Carries named past t script [] [] = Unit {0}
Carries named past t script (l ∷ ls) (x ∷ xs) = CarriesOne named past t script l ls x × Carries named past t script ls xs
Carries named past t script [] (x ∷ xs) = ⊥
Carries named past t script (l ∷ ls) [] = ⊥
