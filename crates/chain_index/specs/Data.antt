-- Data of contracts: for each contract output the datum that the transaction that made it brought for it.
use Rattle.std.specs.Prelude.{not, List, [], ◌∷◌, ◌++◌, filter, Option, Some, None}
use Rattle.std.specs.Option.{option_map}
use Rattle.std.specs.Map.{keys_of}
use Rattle.ledger_spec.specs.Machine.declared.datum.Datum.{Datum}
use Rattle.ledger_spec.specs.EutxoTypes.declared.output_ref.OutputRef.{OutputRef}
use Rattle.ledger_spec.specs.EutxoTypes.declared.tx.Tx.{Tx}
use Rattle.ledger_spec.specs.LedgerLaws.Past.{Past, created_by, is_spent}
use Rattle.ledger_spec.specs.Views.{instance_in}

-- the datum that a transaction brings for the contract output that a reference names
abbrev pub datum_in : OutputRef → Tx → Option Datum
datum_in r tx = option_map (λ c. c.datum) (instance_in r tx)

abbrev pub with_datum : OutputRef → Option Datum → List (OutputRef × Datum) → List (OutputRef × Datum)
with_datum r None es = es
with_datum r (Some d) es = (r, d) ∷ es

-- the data that a transaction brings for the contracts among these outputs
abbrev pub data_under : Tx → List OutputRef → List (OutputRef × Datum)
data_under tx [] = []
data_under tx (r ∷ rs) = with_datum r (datum_in r tx) (data_under tx rs)

-- for those that it makes, in order
abbrev pub data_by : Tx → List (OutputRef × Datum)
data_by tx = data_under tx (keys_of (created_by tx))

abbrev pub data_of : List Tx → List (OutputRef × Datum)
data_of [] = []
data_of (tx ∷ txs) = data_by tx ++ data_of txs

-- the data of the unspent contract outputs, in order of creation
abbrev pub unspent_data : Past → List (OutputRef × Datum)
unspent_data past = filter (λ e. not (is_spent past.accepted e.0)) (data_of past.accepted)
