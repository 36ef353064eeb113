-- How a transaction is spelled in bytes: a tag is one byte, and fields stand in order.
use Rattle.std.specs.Prelude.{ℕ, List, [], ◌∷◌, ◌++◌}
use Rattle.std.specs.FinMap.{entries}
use Rattle.bundle.specs.Bundles.{Amounts}
use Rattle.machine.specs.ContractBytes.Numbers.{length_bytes, time_bytes, text_bytes, list_bytes}
use Rattle.machine.specs.ContractBytes.Names.{holding_bytes}
use Rattle.machine.specs.ContractBytes.Inputs.{input_bytes}
use Rattle.machine.specs.Spelling.{datum_bytes}
use Rattle.eutxo_types.specs.declared.output.Output.{Output}
use Rattle.eutxo_types.specs.declared.output_ref.OutputRef.{OutputRef}
use Rattle.eutxo_types.specs.declared.output_ref.OutputRef.TheVariants as references
use Rattle.eutxo_types.specs.declared.lock.Lock.{Lock}
use Rattle.eutxo_types.specs.declared.lock.Lock.TheVariants as locks
use Rattle.eutxo_types.specs.declared.redeemer.Redeemer.{Redeemer}
use Rattle.eutxo_types.specs.declared.redeemer.Redeemer.TheVariants as redeemers
use Rattle.eutxo_types.specs.declared.spend.Spend.{Spend}
use Rattle.eutxo_types.specs.declared.tx.Tx.{Tx}

-- a place: 8 bytes, the highest first, as a length
abbrev pub place_bytes : ℕ → List ℕ
place_bytes n = length_bytes n

-- an id is its 32 bytes
abbrev pub reference_bytes : OutputRef → List ℕ
reference_bytes (references.Genesis index) = 0x00 ∷ place_bytes index
reference_bytes (references.Made id index) = 0x01 ∷ id ++ place_bytes index

abbrev pub redeemer_bytes : Redeemer → List ℕ
redeemer_bytes redeemers.None = 0x00 ∷ []
redeemer_bytes redeemers.Claim = 0x01 ∷ []
redeemer_bytes (redeemers.Step inputs) = 0x02 ∷ list_bytes input_bytes inputs

abbrev pub spend_bytes : Spend → List ℕ
spend_bytes x = reference_bytes x.reference ++ redeemer_bytes x.redeemer

-- a contract: its script's 32 bytes, the 32 bytes of its datum's digest
abbrev pub lock_bytes : Lock → List ℕ
lock_bytes (locks.Key address) = 0x00 ∷ text_bytes address
lock_bytes (locks.Payout currency role) = 0x01 ∷ text_bytes currency ++ text_bytes role
lock_bytes (locks.Contract script digest) = 0x02 ∷ script ++ digest

-- an amount: what there is of each token, in the order of tokens
abbrev pub amount_bytes : Amounts → List ℕ
amount_bytes m = list_bytes holding_bytes (entries m)

abbrev pub output_bytes : Output → List ℕ
output_bytes o = lock_bytes o.lock ++ amount_bytes o.amount

-- inputs, outputs, the interval's ends, the signers, the data
abbrev pub tx_bytes : Tx → List ℕ
tx_bytes tx = list_bytes spend_bytes tx.inputs ++ list_bytes output_bytes tx.outputs ++ time_bytes tx.interval.from ++ time_bytes tx.interval.to ++ list_bytes text_bytes tx.signers ++ list_bytes datum_bytes tx.datums
