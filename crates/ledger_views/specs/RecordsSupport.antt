-- No reader needs this file: walks along a thread, which lead to what the records say.
use Rattle.std.specs.Prelude.{◌≡◌, ℕ, if◌then◌else◌, List, [], ◌∷◌, ◌++◌, map, position, slice_get, Option, Some, None}
use Rattle.std.specs.Option.{unwrap_or}
use Rattle.contract.specs.declared.input.Input.{Input}
use Rattle.ledger_kept.specs.Nodes.declared.cont.Cont.{Cont}
use Rattle.ledger_kept.specs.EutxoTypes.declared.output_ref.OutputRef.{OutputRef}
use Rattle.ledger_kept.specs.EutxoTypes.declared.output_ref.OutputRef.TheVariants.{Genesis, Made}
use Rattle.ledger_kept.specs.EutxoTypes.declared.spend.Spend.{Spend}
use Rattle.ledger_kept.specs.EutxoTypes.declared.tx.Tx.{Tx}
use Rattle.ledger_kept.specs.EutxoTypes.Parts.{Instance, same_bytes, contract_at, given_to}
use Rattle.ledger_kept.specs.Roles.declared.published.Published.{Published}
use Rattle.ledger_kept.specs.Roles.Steps.{marlowe}
use Rattle.ledger_kept.specs.Roles.Terms.{Terms}
use Rattle.ledger_kept.specs.LedgerLaws.Past.{Past}
use Rattle.ledger_kept.specs.LedgerLaws.Threads.{Link, Member, next_of, CarriesOne, Carries}
use Rattle.ledger_kept.specs.LedgerSpec.declared.step_record.StepRecord.{StepRecord}
use Rattle.ledger_kept.specs.LedgerSpec.Records.{member_of}
use Rattle.ledger_kept.specs.ChainIndex.Contents.{Contents, is_among}

-- ---- the start

-- the transaction of a number, where there is a number
abbrev pub numbered : List Tx → Option ℕ → Option Tx
numbered txs None = None
numbered txs (Some n) = slice_get txs n

abbrev pub contract_by : ℕ → Option Tx → Option Instance
contract_by i None = None
contract_by i (Some tx) = contract_at tx i

-- the contract that a transaction makes under a name, where these are the transactions' ids
abbrev pub contract_named : List (List ℕ) → List Tx → OutputRef → Option Instance
contract_named ids txs (Genesis i) = None
contract_named ids txs (Made id i) = contract_by i (numbered txs (position (same_bytes id) ids))

-- the contract of a start output, as it is read off an index
abbrev pub start_at : Contents → List Tx → OutputRef → Option Instance
start_at c txs r = if is_among c.starts r then contract_named c.used txs r else None

-- ---- a step

-- the inputs that are given to an output
abbrev pub given : OutputRef → List Spend → List Input
given r xs = unwrap_or (given_to r xs) []

-- where a thread goes on after a transaction of it: at the output that the next one spends, or where the thread ends
abbrev pub goes_to : List Link → Option OutputRef → Option OutputRef
goes_to [] end = end
goes_to (l ∷ ls) end = Some l.spends

-- so these links lead one to the other, and to this end
abbrev pub Leads : (OutputRef → Tx → Option OutputRef) → List Link → Option OutputRef → Type 0
Leads next [] end = Unit {0}
Leads next (l ∷ ls) end = (next l.spends l.tx ≡ goes_to ls end) × Leads next ls end

-- the contract that a transaction makes in the output in which a thread goes on
abbrev pub instance_next : Tx → Option OutputRef → Option Instance
instance_next tx None = None
instance_next tx (Some (Genesis i)) = None
instance_next tx (Some (Made id i)) = contract_at tx i

-- the number at which it goes on: the one that this output holds; where no output goes on, this place
abbrev pub number_after : Option Instance → Cont → Cont
number_after None place = place
number_after (Some i) place = i.datum.cont

-- what a transaction of some thread carries, and where it goes on
pub record IsStepOf (named : List ℕ → Option Published) (past : Past) (t : Terms) (next : Option OutputRef) (l : Link) (x : Member) : Type 0 where
  pub script : List ℕ
  pub later : List Link
  pub carried : CarriesOne named past t script l later x
  pub on : next_of marlowe named past l.spends l.tx ≡ next

-- a thread carries one there
abbrev pub IsAStep : Terms → Option OutputRef → Link → Type 0
IsAStep t next l = (named : List ℕ → Option Published) × (past : Past) × (x : Member) × IsStepOf named past t next l x

-- these are the links of some thread, which carries members and ends here
abbrev pub IsAThread : Terms → List ℕ → List Link → Option OutputRef → Type 0
IsAThread t script ls end = (named : List ℕ → Option Published) × (past : Past) × Leads (next_of marlowe named past) ls end × ((run : List Member) × Carries named past t script ls run)

-- of the links these are left, after these records
pub record Goes (named : List ℕ → Option Published) (past : Past) (t : Terms) (script : List ℕ) (ls : List Link) (xs : List StepRecord) (left : List Link) : Type 0 where
  pub rest : List Member
  pub whole : Carries named past t script ls (map (member_of t) xs ++ rest)
  pub here : Carries named past t script left rest
