-- The worked spellings come out as they should.
use Rattle.std.proofs.Common.{◌≡◌, refl, ap, ◌++◌, ◌∷◌, []}
use Rattle.machine.specs.ContractBytes.Numbers.{length_bytes, number_bytes, time_bytes, text_bytes, list_bytes}
use Rattle.machine.specs.ContractBytes.Names.{holding_bytes}
use Rattle.machine.specs.ContractBytes.States.{money_bytes, chosen_bytes, bound_value_bytes}
use Rattle.std.specs.Prelude.{pos, replicate}
use Rattle.sha2.specs.Sha256.{sha256}
use Rattle.machine.specs.Spelling.{cont_bytes, datum_bytes}
use Rattle.eutxo_types.specs.Digests.{datum_hash}
use Rattle.eutxo_types.specs.Worked.{BeginsTheLedger, MadeByOneTransaction, NoneIsZero, ClaimIsOne, StepIsTwo, KeyOfX, PayoutOfB, ContractOfZeros, ThirtySixZeros, NothingHeld, FiveAda, OneTransaction}

pub begins_the_ledger : BeginsTheLedger
unfolding length_bytes
begins_the_ledger = refl

pub is_made : MadeByOneTransaction
unfolding length_bytes
is_made = refl

pub gives : NoneIsZero
gives = refl

pub claims : ClaimIsOne
claims = refl

pub steps : StepIsTwo
unfolding length_bytes
steps = refl

pub key_of_x : KeyOfX
unfolding length_bytes
key_of_x = refl

pub payout_of_b : PayoutOfB
unfolding length_bytes
payout_of_b = refl

pub contract_of_zeros : ContractOfZeros
contract_of_zeros = refl

pub thirty_six_zeros : ThirtySixZeros
unfolding length_bytes time_bytes cont_bytes datum_hash
thirty_six_zeros s a c b m =
    let zeros : datum_bytes (record { cont = record { 0 = 0 }; state = s }) ≡ replicate 36 0 = λ i. cont_bytes 0 ++ (list_bytes money_bytes (a i) ++ list_bytes chosen_bytes (c i) ++ list_bytes bound_value_bytes (b i) ++ time_bytes (m i)) in
    (zeros, ap sha256 zeros)

pub nothing_held : NothingHeld
unfolding length_bytes
nothing_held m e = ap (list_bytes holding_bytes) e

pub five_ada : FiveAda
unfolding length_bytes number_bytes
five_ada m e = ap (list_bytes holding_bytes) e

pub moves : OneTransaction
unfolding length_bytes number_bytes time_bytes
moves m e = λ i. (length_bytes 1 ++ replicate 10 0) ++ (length_bytes 1 ++ (((0x00 ∷ text_bytes (0x78 ∷ [])) ++ list_bytes holding_bytes (e i)) ++ [])) ++ time_bytes (pos 0) ++ time_bytes (pos 10) ++ list_bytes text_bytes ((0x78 ∷ []) ∷ []) ++ length_bytes 0
