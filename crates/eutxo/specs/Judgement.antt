-- The judgement of a transaction at a moment: the rules that read the ledger, and the local verdict on what is found there.
use Rattle.std.specs.Prelude.{ℕ, ℤ, int_le, Bool, not, ◌&&◌, List, [], ◌∷◌, ◌++◌, map, Option, Some, None, is_none}
use Rattle.std.specs.FinMap as maps
use Rattle.std.specs.FinMap.{FinMap}
use Rattle.contract.specs.Names.Orders.{bytes_cmp}
use Rattle.eutxo_types.specs.declared.fault.TxFault.{TxFault}
use Rattle.eutxo_types.specs.declared.fault.TxFault.TheVariants.{NotUnspent, IdInUse, OutsideInterval, UnknownScript}
use Rattle.eutxo_types.specs.declared.output.Output.{Output}
use Rattle.eutxo_types.specs.declared.output_ref.OutputRef.{OutputRef}
use Rattle.eutxo_types.specs.declared.tx.Tx.{Tx}
use Rattle.eutxo_types.specs.Ids.{id_of}
use Rattle.eutxo.specs.declared.judged.Judged.{Judged}
use Rattle.eutxo.specs.declared.resolved.Resolved.{Resolved}
use Rattle.eutxo.specs.Asked.{Judges}
use Rattle.eutxo.specs.Found.{is_known}
use Rattle.eutxo.specs.Local.{tx_fault, local, places_of, judged_as}
use Rattle.eutxo_types.specs.Parts.{script_in}
use Rattle.eutxo.specs.Faults.{fault_if, fault_at, first_of}

-- what the rules read of a ledger at a moment: the unspent output that a reference names, what is published under an id, whether
-- an accepted transaction has an id, and the tick
pub record Moment (V : Type 0) : Type 0 where
  pub unspent : OutputRef → Option Output
  pub published : List ℕ → Option V
  pub is_used : List ℕ → Bool
  pub tick : ℤ

-- ---- the rules that read it

-- 4: the input at this place names no unspent output
abbrev pub not_unspent : {V : Type 0} → Moment V → Tx → Option TxFault
not_unspent m tx = fault_at NotUnspent (λ x. is_none (m.unspent x.reference)) tx.inputs

-- 5: an accepted transaction has this id
abbrev pub id_in_use : {V : Type 0} → Moment V → Tx → Option TxFault
id_in_use m tx = fault_if IdInUse (m.is_used (id_of tx))

-- 6: the tick doesn't lie from the interval's start to its end
abbrev pub outside_interval : {V : Type 0} → Moment V → Tx → Option TxFault
outside_interval m tx = fault_if OutsideInterval (not (int_le tx.interval.from m.tick && int_le m.tick tx.interval.to))

abbrev pub is_unknown : {V : Type 0} → (List ℕ → Option V) → Output → Bool
is_unknown named o = not (is_known named o.lock)

-- 7: the output at this place has a contract lock whose script isn't published
abbrev pub unknown_script : {V : Type 0} → Moment V → Tx → Option TxFault
unknown_script m tx = fault_at UnknownScript (is_unknown m.published) tx.outputs

-- ---- what is found

abbrev pub name_in : Option (List ℕ) → List (List ℕ)
name_in None = []
name_in (Some id) = id ∷ []

-- the scripts that the locks of these outputs name
abbrev pub made_names : List Output → List (List ℕ)
made_names [] = []
made_names (o ∷ os) = name_in (script_in o.lock) ++ made_names os

-- and those of the outputs that are there
abbrev pub found_names : List (Option Output) → List (List ℕ)
found_names [] = []
found_names (None ∷ os) = found_names os
found_names (Some o ∷ os) = name_in (script_in o.lock) ++ found_names os

-- the scripts that the outputs of a transaction name, and those that these outputs of its inputs do
abbrev pub names_of : Tx → List (Option Output) → List (List ℕ)
names_of tx os = made_names tx.outputs ++ found_names os

abbrev pub with_script : {V : Type 0} → List ℕ → Option V → FinMap bytes_cmp V → FinMap bytes_cmp V
with_script id None scripts = scripts
with_script id (Some v) scripts = maps.insert scripts id v

-- what is published of these, under their ids
abbrev pub scripts_found : {V : Type 0} → (List ℕ → Option V) → List (List ℕ) → FinMap bytes_cmp V
scripts_found named [] = maps.empty
scripts_found named (id ∷ ids) = with_script id (named id) (scripts_found named ids)

abbrev pub outputs_found : {V : Type 0} → Moment V → Tx → List (Option Output)
outputs_found m tx = map (λ x. m.unspent x.reference) tx.inputs

-- what is found of what a transaction names: for each input the unspent output, and what is published of the scripts that the
-- transaction's outputs and those unspent outputs name
abbrev pub found : {V : Type 0} → Moment V → Tx → Resolved V
found m tx = record { outputs = outputs_found m tx; scripts = scripts_found m.published (names_of tx (outputs_found m tx)) }

-- ---- all rules

-- THE JUDGEMENT: no fault, or that of the first rule that refuses: 1 to 3, then 4 to 7, then the others on what is found
abbrev pub judge : {V : Type 0} → Judges V → Moment V → Tx → Option TxFault
judge j m tx = first_of (tx_fault tx ∷ not_unspent m tx ∷ id_in_use m tx ∷ outside_interval m tx ∷ unknown_script m tx ∷ local j tx (found m tx) ∷ [])

-- and with it, where no rule refuses, the places of the outputs in which the contracts go on that are spent
abbrev pub judgement : {V : Type 0} → Judges V → Moment V → Tx → Judged
judgement j m tx = judged_as (judge j m tx) (places_of j tx (found m tx))
