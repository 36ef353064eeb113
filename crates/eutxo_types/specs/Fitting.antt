-- Which transactions fit their spelling: numbers and places their bytes, lengths 8 bytes, and ids and digests are of 32 bytes.
use Rattle.std.specs.Prelude.{◌≡◌, ℕ, ◌<◌, ◌^◌, List, length}
use Rattle.std.specs.FinMap.{entries}
use Rattle.bundle.specs.Bundles.{Amounts}
use Rattle.machine.specs.ContractBytes.Numbers.{TimeFits, TextFits, ListFits}
use Rattle.machine.specs.ContractBytes.Names.{HoldingFits}
use Rattle.machine.specs.ContractBytes.Inputs.{InputFits}
use Rattle.machine.specs.Spelling.{DatumFits}
use Rattle.eutxo_types.specs.declared.output.Output.{Output}
use Rattle.eutxo_types.specs.declared.output_ref.OutputRef.{OutputRef}
use Rattle.eutxo_types.specs.declared.output_ref.OutputRef.TheVariants as references
use Rattle.eutxo_types.specs.declared.lock.Lock.{Lock}
use Rattle.eutxo_types.specs.declared.lock.Lock.TheVariants as locks
use Rattle.eutxo_types.specs.declared.redeemer.Redeemer.{Redeemer}
use Rattle.eutxo_types.specs.declared.redeemer.Redeemer.TheVariants as redeemers
use Rattle.eutxo_types.specs.declared.spend.Spend.{Spend}
use Rattle.eutxo_types.specs.declared.tx.Tx.{Tx}

abbrev pub PlaceFits : ℕ → Type 0
PlaceFits n = n < 2 ^ 64

abbrev pub IdFits : List ℕ → Type 0
IdFits id = length id ≡ 32

abbrev pub ReferenceFits : OutputRef → Type 0
ReferenceFits (references.Genesis index) = PlaceFits index
ReferenceFits (references.Made id index) = IdFits id × PlaceFits index

abbrev pub RedeemerFits : Redeemer → Type 0
RedeemerFits redeemers.None = Unit {0}
RedeemerFits redeemers.Claim = Unit {0}
RedeemerFits (redeemers.Step inputs) = ListFits InputFits inputs

abbrev pub SpendFits : Spend → Type 0
SpendFits x = ReferenceFits x.reference × RedeemerFits x.redeemer

abbrev pub LockFits : Lock → Type 0
LockFits (locks.Key address) = TextFits address
LockFits (locks.Payout currency role) = TextFits currency × TextFits role
LockFits (locks.Contract script digest) = IdFits script × IdFits digest

abbrev pub AmountFits : Amounts → Type 0
AmountFits m = ListFits HoldingFits (entries m)

abbrev pub OutputFits : Output → Type 0
OutputFits o = LockFits o.lock × AmountFits o.amount

abbrev pub TxFits : Tx → Type 0
TxFits tx = ListFits SpendFits tx.inputs × ListFits OutputFits tx.outputs × TimeFits tx.interval.from × TimeFits tx.interval.to × ListFits TextFits tx.signers × ListFits DatumFits tx.datums
