-- Spellings of inputs, outputs and transactions tell their values apart.
use Rattle.std.proofs.Common.{◌≡◌, refl, sym, ◌∙◌, ℕ, List}
use Rattle.std.specs.FinMap.{entries, same_entries_map}
use Rattle.bundle.specs.Bundles.{Amounts}
use Rattle.machine.specs.ContractBytes.Numbers.{text_bytes, TextFits}
use Rattle.machine.specs.ContractBytes.Names.{holding_bytes, HoldingFits}
use Rattle.machine.specs.ContractBytes.Inputs.{input_bytes, InputFits}
use Rattle.machine.specs.ContractBytes.Unambiguous.{ReadsOneWay, BeginsNoOther}
use Rattle.machine.proofs.FromContractBytes.Apart.{Tells, shows, nothing, both, tagged, other, of_one_length, length_tells, time_tells, text_tells, list_tells, reads_one_way, begins_no_other}
use Rattle.machine.proofs.FromContractBytes.ApartNames.{holding_tells, input_tells}
use Rattle.eutxo_types.specs.declared.output.Output.{Output}
use Rattle.eutxo_types.specs.declared.output_ref.OutputRef.{OutputRef}
use Rattle.eutxo_types.specs.declared.output_ref.OutputRef.TheVariants as references
use Rattle.eutxo_types.specs.declared.lock.Lock.{Lock}
use Rattle.eutxo_types.specs.declared.lock.Lock.TheVariants as locks
use Rattle.eutxo_types.specs.declared.redeemer.Redeemer.{Redeemer}
use Rattle.eutxo_types.specs.declared.redeemer.Redeemer.TheVariants as redeemers
use Rattle.eutxo_types.specs.declared.spend.Spend.{Spend}
use Rattle.eutxo_types.specs.declared.tx.Tx.{Tx}
use Rattle.machine.specs.Spelling.{datum_bytes, DatumFits}
use Rattle.machine.proofs.SpellingLaws.{datum_tells}
use Rattle.eutxo_types.specs.Spelling.{reference_bytes, redeemer_bytes, spend_bytes, lock_bytes, amount_bytes, output_bytes, tx_bytes}
use Rattle.eutxo_types.specs.Fitting.{IdFits, ReferenceFits, RedeemerFits, SpendFits, LockFits, AmountFits, OutputFits, TxFits}

id_tells : (x y : List ℕ) → IdFits x → IdFits y → Tells (x ≡ y) x y
id_tells x y f g = of_one_length x y (f ∙ sym g)

reference_tells : (x y : OutputRef) → ReferenceFits x → ReferenceFits y → Tells (x ≡ y) (reference_bytes x) (reference_bytes y)
reference_tells (references.Genesis i) (references.Genesis j) f g = shows (λ e. λ k. references.Genesis (e k)) (tagged (length_tells i j f g))
reference_tells (references.Made a i) (references.Made b j) f g = shows (λ e. λ k. references.Made (e.0 k) (e.1 k)) (tagged (both (id_tells a b f.0 g.0) (length_tells i j f.1 g.1)))
reference_tells (references.Genesis i) (references.Made b j) f g = other refl
reference_tells (references.Made a i) (references.Genesis j) f g = other refl

redeemer_tells : (x y : Redeemer) → RedeemerFits x → RedeemerFits y → Tells (x ≡ y) (redeemer_bytes x) (redeemer_bytes y)
redeemer_tells redeemers.None redeemers.None f g = tagged (nothing refl)
redeemer_tells redeemers.Claim redeemers.Claim f g = tagged (nothing refl)
redeemer_tells (redeemers.Step x) (redeemers.Step y) f g = shows (λ e. λ k. redeemers.Step (e k)) (tagged (list_tells InputFits input_bytes input_tells x y f g))
redeemer_tells redeemers.None redeemers.Claim f g = other refl
redeemer_tells redeemers.None (redeemers.Step y) f g = other refl
redeemer_tells redeemers.Claim redeemers.None f g = other refl
redeemer_tells redeemers.Claim (redeemers.Step y) f g = other refl
redeemer_tells (redeemers.Step x) redeemers.None f g = other refl
redeemer_tells (redeemers.Step x) redeemers.Claim f g = other refl

spend_tells : (x y : Spend) → SpendFits x → SpendFits y → Tells (x ≡ y) (spend_bytes x) (spend_bytes y)
spend_tells x y f g =
    shows (λ e. λ k. record { reference = e.0 k; redeemer = e.1 k })
    (both (reference_tells x.reference y.reference f.0 g.0) (redeemer_tells x.redeemer y.redeemer f.1 g.1))

lock_tells : (x y : Lock) → LockFits x → LockFits y → Tells (x ≡ y) (lock_bytes x) (lock_bytes y)
lock_tells (locks.Key a) (locks.Key b) f g = shows (λ e. λ k. locks.Key (e k)) (tagged (text_tells a b f g))
lock_tells (locks.Payout a r) (locks.Payout b s) f g = shows (λ e. λ k. locks.Payout (e.0 k) (e.1 k)) (tagged (both (text_tells a b f.0 g.0) (text_tells r s f.1 g.1)))
lock_tells (locks.Contract a d) (locks.Contract b c) f g =
    shows (λ e. λ k. locks.Contract (e.0 k) (e.1 k)) (tagged (both (id_tells a b f.0 g.0) (id_tells d c f.1 g.1)))
lock_tells (locks.Key a) (locks.Payout b s) f g = other refl
lock_tells (locks.Key a) (locks.Contract b c) f g = other refl
lock_tells (locks.Payout a r) (locks.Key b) f g = other refl
lock_tells (locks.Payout a r) (locks.Contract b c) f g = other refl
lock_tells (locks.Contract a d) (locks.Key b) f g = other refl
lock_tells (locks.Contract a d) (locks.Payout b s) f g = other refl

amount_tells : (x y : Amounts) → AmountFits x → AmountFits y → Tells (x ≡ y) (amount_bytes x) (amount_bytes y)
amount_tells x y f g = shows (same_entries_map x y) (list_tells HoldingFits holding_bytes holding_tells (entries x) (entries y) f g)

output_tells : (x y : Output) → OutputFits x → OutputFits y → Tells (x ≡ y) (output_bytes x) (output_bytes y)
output_tells x y f g =
    shows (λ e. λ k. record { lock = e.0 k; amount = e.1 k })
    (both (lock_tells x.lock y.lock f.0 g.0) (amount_tells x.amount y.amount f.1 g.1))

tx_tells : (x y : Tx) → TxFits x → TxFits y → Tells (x ≡ y) (tx_bytes x) (tx_bytes y)
tx_tells x y f g =
    shows (λ e. λ k. record {
      inputs = e.0.0.0.0.0 k;
      outputs = e.0.0.0.0.1 k;
      interval = record { from = e.0.0.0.1 k; to = e.0.0.1 k };
      signers = e.0.1 k;
      datums = e.1 k;
    })
    (both (both (both (both (both (list_tells SpendFits spend_bytes spend_tells x.inputs y.inputs f.0 g.0)
    (list_tells OutputFits output_bytes output_tells x.outputs y.outputs f.1 g.1))
    (time_tells x.interval.from y.interval.from f.2 g.2))
    (time_tells x.interval.to y.interval.to f.3 g.3))
    (list_tells TextFits text_bytes text_tells x.signers y.signers f.4 g.4))
    (list_tells DatumFits datum_bytes datum_tells x.datums y.datums f.5 g.5))

-- ---- the law

pub inputs_read_one_way : ReadsOneWay SpendFits spend_bytes
inputs_read_one_way = reads_one_way SpendFits spend_bytes spend_tells

pub outputs_read_one_way : ReadsOneWay OutputFits output_bytes
outputs_read_one_way = reads_one_way OutputFits output_bytes output_tells

pub transactions_read_one_way : ReadsOneWay TxFits tx_bytes
transactions_read_one_way = reads_one_way TxFits tx_bytes tx_tells

pub transactions_begin_no_other : BeginsNoOther TxFits tx_bytes
transactions_begin_no_other = begins_no_other TxFits tx_bytes transactions_read_one_way
