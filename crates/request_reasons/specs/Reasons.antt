-- Why a request is refused: the members that stand behind what is refused and the name of the fault. They explain the first of its parts
-- that isn't read, or what is refused once all are read.
use Rattle.std.specs.Prelude.{◌≡◌, ℕ, ◌-◌, ℤ, Bool, true, false, List, [], ◌∷◌, Option, Some, None, Result, Ok, Err, codes}
use Rattle.std.specs.Option.{option_and_then}
use Rattle.contract.specs.Tree.{ContractTree, contract_tree}
use Rattle.contract.specs.declared.transaction.Transaction.{Transaction}
use Rattle.refusal_reasons.specs.Semantics.Walk.{Standing, standing}
use Rattle.serde_json.specs.Data.{Data, Items}
use Rattle.serde_json.specs.Find.{as_array, get, get_item}
use Rattle.refusal_reasons.specs.JsonReadNames.Forms.{has}
use Rattle.refusal_reasons.specs.JsonForms.declared.sort.Sort.{Sort}
use Rattle.refusal_reasons.specs.JsonForms.declared.sort.Sort.TheVariants as sorts
use Rattle.refusal_reasons.specs.JsonMembers.declared.spelling.Spelling.TheVariants.{Members}
use Rattle.refusal_reasons.specs.MarloweRefusals.declared.fault.Fault.TheVariants as faults
use Rattle.refusal_reasons.specs.MarloweRefusals.declared.trace_fault.TraceFault.TheVariants as trace
use Rattle.refusal_reasons.specs.MarloweRun.declared.readable.Readable.{Readable}
use Rattle.refusal_reasons.specs.Reasons.{ReadFirst, TellsIfRefused, TellsRead, TellsTable, numbers_of}
use Rattle.definitions.specs.declared.definition.Definition.{Definition}
use Rattle.requests.specs.Requests.{sole_member}
use Rattle.requests.specs.declared.kind.Kind.{Kind}
use Rattle.requests.specs.declared.kind.Kind.TheVariants as kinds
use Rattle.request_parts.specs.Parts.{contract_at, name_of, state_at, time_at, transaction_at, transactions_at}
use Rattle.request_parts.specs.declared.refusal.Part.{Part}
use Rattle.request_parts.specs.declared.refusal.Part.TheVariants as parts
use Rattle.request_parts.specs.declared.refusal.Refusal.{Refusal}
use Rattle.request_parts.specs.declared.refusal.Refusal.TheVariants as refusals
use Rattle.request_reasons.specs.Parts.{TellsAny, TellsAt, TellsPart}

-- ---- parts of a request: one that isn't read is explained, and else what comes behind it

abbrev unless_named : Option (List ℕ) → Data → Option Data
unless_named None d = Some d
unless_named (Some name) d = None

-- what stands at the key `contract`, unless it is a name
abbrev pub contract_there : Data → Option Data
contract_there body = option_and_then (λ d. unless_named (name_of d) d) (get (codes "contract") body)

abbrev pub TellsContract : List Definition → Data → (ContractTree → List ℕ → Type 0) → List ℕ → Type 0
TellsContract defs body Behind written = ReadFirst (contract_at defs body) (TellsAny sorts.Contract (contract_there body)) (λ c. Behind (contract_tree c)) written

abbrev pub state_sort : Bool → Sort
state_sort texts = sorts.State (numbers_of texts)

-- where the contract stands then
abbrev pub TellsState : Bool → Data → ContractTree → (Standing → List ℕ → Type 0) → List ℕ → Type 0
TellsState texts body c Behind written = ReadFirst (state_at texts body) (TellsAt (state_sort texts) (codes "state") body) (λ s. Behind (standing s c)) written

abbrev pub TellsTime : Part → List ℕ → Data → (Option ℤ → List ℕ → Type 0) → List ℕ → Type 0
TellsTime part key body Behind written = ReadFirst (time_at part key body) (TellsAt sorts.Time key body) Behind written

-- ---- transactions

abbrev numbered_by : ℕ → Data → Option Items → Option Data
numbered_by number d None = Some d
numbered_by number d (Some ds) = get_item (number - 1) ds

-- what stands for the transaction of a number, from 1: an item of a list, or the whole
abbrev pub numbered : ℕ → Data → Option Data
numbered number d = numbered_by number d (as_array d)

-- the one that isn't read, of those at a key; too many aren't
abbrev pub unread : Refusal → List ℕ → Data → Option Data
unread (refusals.Command (faults.Trace (trace.Text number fault))) key body = option_and_then (numbered number) (get key body)
unread refusal key body = None

abbrev pub TellsThese : List ℕ → Data → (List Transaction → List ℕ → Type 0) → List ℕ → Result (List Transaction) Refusal → Type 0
TellsThese key body Behind written (Ok txs) = Behind txs written
TellsThese key body Behind written (Err refusal) = TellsAny sorts.Transaction (unread refusal key body) written

abbrev pub TellsTransactions : List ℕ → Data → (List Transaction → List ℕ → Type 0) → List ℕ → Type 0
TellsTransactions key body Behind written = TellsThese key body Behind written (transactions_at key body)

-- ---- what is behind a contract and a state

-- a transaction that is refused
abbrev pub TellsRun : Data → Standing → List ℕ → Type 0
TellsRun body a written = ReadFirst (transaction_at body) (TellsAt sorts.Transaction (codes "transaction") body) (TellsIfRefused Members a.contract [] a) written

-- .. of many, from where those before it lead
abbrev pub TellsTrace : Data → Standing → List ℕ → Type 0
TellsTrace body a written = TellsTransactions (codes "transactions") body (TellsRead Members None a) written

-- .. or one without inputs over an interval, where all of them lead
abbrev pub TellsOver : Standing → List Transaction → Option ℤ → Option ℤ → List ℕ → Type 0
TellsOver a txs from to written = TellsRead Members (Some (record { from = from; to = to })) a txs written

abbrev pub TellsTimes : Data → Standing → List Transaction → List ℕ → Type 0
TellsTimes body a txs written = TellsTime parts.From (codes "from") body (λ from. TellsTime parts.To (codes "to") body (TellsOver a txs from)) written

abbrev pub TellsNext : Data → Standing → List ℕ → Type 0
TellsNext body a written = TellsTransactions (codes "after") body (TellsTimes body a) written

abbrev pub TellsFrom : Kind → Data → Standing → List ℕ → Type 0
TellsFrom kinds.Run body a written = TellsRun body a written
TellsFrom kinds.Trace body a written = TellsTrace body a written
TellsFrom kinds.Next body a written = TellsNext body a written
TellsFrom kinds.Analyse body a written = TellsAt sorts.Party (codes "party") body written
TellsFrom kind body a written = written ≡ []

-- ---- a request

-- behind the contract
abbrev pub TellsBehind : Readable → Kind → Data → ContractTree → List ℕ → Type 0
TellsBehind r kinds.Table body c written = TellsTable Members c written
TellsBehind r kinds.Read body c written = written ≡ []
TellsBehind r kinds.Bytes body c written = TellsAt sorts.Hex (codes "currency") body written
TellsBehind r kind body c written = TellsState r.text_numbers body c (TellsFrom kind body) written

-- the first of these that is there
abbrev pub TellsFirst : List (Sort × Option Data) → List ℕ → Type 0
TellsFirst [] written = written ≡ []
TellsFirst ((sort, None) ∷ others) written = TellsFirst others written
TellsFirst ((sort, Some d) ∷ others) written = TellsPart sort d written

abbrev TellsContractOr : Bool → (List ℕ → Type 0) → List (Sort × Option Data) → List ℕ → Type 0
TellsContractOr true Tells others written = Tells written
TellsContractOr false Tells others written = TellsFirst others written

-- the contract, where its key is there, or else the first of these
abbrev pub TellsValue : Readable → List Definition → Kind → Data → List (Sort × Option Data) → List ℕ → Type 0
TellsValue r defs kind body others written = TellsContractOr (has (codes "contract") body) (TellsContract defs body (TellsBehind r kind body)) others written

abbrev pub readable_parts : Readable → Data → List (Sort × Option Data)
readable_parts r body =
    (state_sort r.text_numbers, get (codes "state") body) ∷ (sorts.Transaction, get (codes "transaction") body) ∷ (sorts.Input, get (codes "input") body) ∷ []

abbrev pub encodable_parts : Readable → Data → List (Sort × Option Data)
encodable_parts r body =
    (state_sort r.text_numbers, get (codes "state") body) ∷ (sorts.Input, get (codes "input") body) ∷ (sorts.Party, get (codes "party") body) ∷ (sorts.Token, get (codes "token") body) ∷ []

-- the contract that is to have a name
abbrev pub TellsDefinition : Data → Option (List ℕ × Data) → List ℕ → Type 0
TellsDefinition body None written = written ≡ []
TellsDefinition body (Some m) written = TellsAt sorts.Contract m.0 body written

-- why a request is refused; nothing where it isn't, where a name isn't known or there is no room for one, and of a play
abbrev pub TellsReason : Readable → List Definition → Kind → Data → List ℕ → Type 0
TellsReason r defs kinds.Read body written = TellsValue r defs kinds.Read body (readable_parts r body) written
TellsReason r defs kinds.Bytes body written = TellsValue r defs kinds.Bytes body (encodable_parts r body) written
TellsReason r defs kinds.Define body written = TellsDefinition body (sole_member body) written
TellsReason r defs kinds.Forget body written = TellsPart sorts.Text body written
TellsReason r defs kinds.Play body written = written ≡ []
TellsReason r defs kind body written = TellsContract defs body (TellsBehind r kind body) written
