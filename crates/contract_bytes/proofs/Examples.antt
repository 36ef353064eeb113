-- The worked spellings come out as they should.
use Rattle.std.proofs.Common.{refl, ◌++◌}
use Rattle.contract_bytes.specs.Numbers.{length_bytes, number_bytes, time_bytes, list_bytes}
use Rattle.contract_bytes.specs.Trees.{contract_bytes}
use Rattle.contract_bytes.specs.States.{money_bytes, chosen_bytes, bound_value_bytes}
use Rattle.contract_bytes.specs.Worked.{Closes, Waits, Addresses, AdaIsZeros, Notifies, EmptyIsZeros, MinusOneIsOnes, GreatestNumber, LeastTime}

pub closes : Closes
unfolding contract_bytes
closes = refl

pub waits : Waits
unfolding contract_bytes length_bytes time_bytes
waits = refl

pub addresses : Addresses
unfolding length_bytes
addresses = refl

pub ada_is_zeros : AdaIsZeros
unfolding length_bytes
ada_is_zeros = refl

pub notifies : Notifies
notifies = refl

pub empty_is_zeros : EmptyIsZeros
unfolding length_bytes time_bytes
empty_is_zeros s a c b m = λ i. list_bytes money_bytes (a i) ++ list_bytes chosen_bytes (c i) ++ list_bytes bound_value_bytes (b i) ++ time_bytes (m i)

pub minus_one_is_ones : MinusOneIsOnes
unfolding number_bytes
minus_one_is_ones = refl

pub greatest_number : GreatestNumber
unfolding number_bytes
greatest_number = refl

pub least_time : LeastTime
unfolding time_bytes
least_time = refl
