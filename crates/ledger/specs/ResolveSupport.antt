-- No reader needs this file: what is published of one script more, as the code puts scripts one by one; and the rules that read
-- the ledger, together.
use Rattle.std.specs.Prelude.{ℕ, List, [], ◌∷◌, Option, Some, None}
use Rattle.std.specs.FinMap.{FinMap}
use Rattle.contract.specs.Names.Orders.{bytes_cmp}
use Rattle.roles.specs.EutxoTypes.declared.output.Output.{Output}
use Rattle.roles.specs.EutxoTypes.Parts.{script_in}
use Rattle.roles.specs.EutxoTypes.declared.fault.TxFault.{TxFault}
use Rattle.roles.specs.EutxoTypes.declared.tx.Tx.{Tx}
use Rattle.roles.specs.Eutxo.Faults.{first_of}
use Rattle.roles.specs.Eutxo.Judgement.{Moment, not_unspent, id_in_use, outside_interval, unknown_script, with_script}

-- the script that an output names, where there is one
abbrev pub script_of : Option Output → Option (List ℕ)
script_of None = None
script_of (Some o) = script_in o.lock

-- with the script that a contract lock names, where it is published
abbrev pub with_named : {V : Type 0} → (List ℕ → Option V) → Option (List ℕ) → FinMap bytes_cmp V → FinMap bytes_cmp V
with_named named None scripts = scripts
with_named named (Some id) scripts = with_script id (named id) scripts

-- the fault of the lowest of rules 4 to 7 that refuses
abbrev pub moment_fault : {V : Type 0} → Moment V → Tx → Option TxFault
moment_fault m tx = first_of (not_unspent m tx ∷ id_in_use m tx ∷ outside_interval m tx ∷ unknown_script m tx ∷ [])
