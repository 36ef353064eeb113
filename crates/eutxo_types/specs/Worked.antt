-- Worked spellings of the parts of a transaction.
use Rattle.std.specs.Prelude.{◌≡◌, pos, [], ◌∷◌, ◌++◌, replicate}
use Rattle.std.specs.FinMap.{entries}
use Rattle.bundle.specs.Bundles.{Amounts}
use Rattle.contract.specs.declared.input.Input.TheVariants as inputs
use Rattle.contract.specs.Names.Equal.{ada}
use Rattle.contract.specs.States.States.{StateMaps}
use Rattle.eutxo_types.specs.declared.output_ref.OutputRef.TheVariants as references
use Rattle.eutxo_types.specs.declared.redeemer.Redeemer.TheVariants as redeemers
use Rattle.eutxo_types.specs.declared.lock.Lock.TheVariants as locks
use Rattle.machine.specs.Spelling.{datum_bytes}
use Rattle.sha2.specs.Sha256.{sha256}
use Rattle.eutxo_types.specs.Digests.{datum_hash}
use Rattle.eutxo_types.specs.Spelling.{reference_bytes, redeemer_bytes, lock_bytes, amount_bytes, tx_bytes}

-- the second output that the ledger began with
abbrev pub BeginsTheLedger : Type 0
BeginsTheLedger = reference_bytes (references.Genesis 1) ≡ 0x00 ∷ 0 ∷ 0 ∷ 0 ∷ 0 ∷ 0 ∷ 0 ∷ 0 ∷ 1 ∷ []

-- the first output of the transaction whose id is all ff
abbrev pub MadeByOneTransaction : Type 0
MadeByOneTransaction = reference_bytes (references.Made (replicate 32 0xff) 0) ≡ 0x01 ∷ replicate 32 0xff ++ replicate 8 0

abbrev pub NoneIsZero : Type 0
NoneIsZero = redeemer_bytes redeemers.None ≡ 0x00 ∷ []

abbrev pub ClaimIsOne : Type 0
ClaimIsOne = redeemer_bytes redeemers.Claim ≡ 0x01 ∷ []

-- a step of one notification
abbrev pub StepIsTwo : Type 0
StepIsTwo = redeemer_bytes (redeemers.Step (inputs.Notify ∷ [])) ≡ 0x02 ∷ 0 ∷ 0 ∷ 0 ∷ 0 ∷ 0 ∷ 0 ∷ 0 ∷ 1 ∷ 0x02 ∷ []

-- the address x
abbrev pub KeyOfX : Type 0
KeyOfX = lock_bytes (locks.Key (0x78 ∷ [])) ≡ 0x00 ∷ 0 ∷ 0 ∷ 0 ∷ 0 ∷ 0 ∷ 0 ∷ 0 ∷ 1 ∷ 0x78 ∷ []

-- the role b of currency aa
abbrev pub PayoutOfB : Type 0
PayoutOfB = lock_bytes (locks.Payout (0xaa ∷ []) (0x62 ∷ [])) ≡ 0x01 ∷ 0 ∷ 0 ∷ 0 ∷ 0 ∷ 0 ∷ 0 ∷ 0 ∷ 1 ∷ 0xaa ∷ 0 ∷ 0 ∷ 0 ∷ 0 ∷ 0 ∷ 0 ∷ 0 ∷ 1 ∷ 0x62 ∷ []

-- the contract of the script of 32 zeros, at the datum whose digest is all ff
abbrev pub ContractOfZeros : Type 0
ContractOfZeros = lock_bytes (locks.Contract (replicate 32 0) (replicate 32 0xff)) ≡ 0x02 ∷ replicate 32 0 ++ replicate 32 0xff

-- a datum of number 0, whose state has no entries and the minimum time 0, is 36 zero bytes, and its digest is their SHA-256
abbrev pub ThirtySixZeros : Type 0
ThirtySixZeros = (s : StateMaps) → entries s.accounts ≡ [] → entries s.choices ≡ [] → entries s.bound_values ≡ [] → s.min_time ≡ pos 0
    → (datum_bytes (record { cont = record { 0 = 0 }; state = s }) ≡ replicate 36 0) × (datum_hash (record { cont = record { 0 = 0 }; state = s }) ≡ sha256 (replicate 36 0))

abbrev pub NothingHeld : Type 0
NothingHeld = (m : Amounts) → entries m ≡ [] → amount_bytes m ≡ replicate 8 0

-- 5 lovelace
abbrev pub FiveAda : Type 0
FiveAda = (m : Amounts) → entries m ≡ (ada, pos 5) ∷ [] → amount_bytes m ≡ 0 ∷ 0 ∷ 0 ∷ 0 ∷ 0 ∷ 0 ∷ 0 ∷ 1 ∷ replicate 31 0 ++ 5 ∷ []

-- the first output that the ledger began with goes to the address x with 5 lovelace, from 0 to 10, signed by x, without data
abbrev pub OneTransaction : Type 0
OneTransaction = (m : Amounts) → entries m ≡ (ada, pos 5) ∷ []
    → tx_bytes (record {
      inputs = record { reference = references.Genesis 0; redeemer = redeemers.None } ∷ [];
      outputs = record { lock = locks.Key (0x78 ∷ []); amount = m } ∷ [];
      interval = record { from = pos 0; to = pos 10 };
      signers = (0x78 ∷ []) ∷ [];
      datums = [];
    }) ≡ (replicate 7 0 ++ 1 ∷ replicate 10 0)
    ++ (replicate 7 0 ++ 1 ∷ replicate 8 0 ++ 1 ∷ 0x78 ∷ replicate 7 0 ++ 1 ∷ replicate 31 0 ++ 5 ∷ [])
    ++ replicate 8 0 ++ (replicate 7 0 ++ 10 ∷ [])
    ++ (replicate 7 0 ++ 1 ∷ replicate 7 0 ++ 1 ∷ 0x78 ∷ [])
    ++ replicate 8 0
