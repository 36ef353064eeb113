use Rattle.contract_bytes.proofs.Examples.{closes, waits, addresses, ada_is_zeros, notifies, empty_is_zeros, minus_one_is_ones, greatest_number, least_time}
use Rattle.contract_bytes.proofs.laws.worked_spellings.Goals as goal

pub returns : goal.returns
returns c = record {
  close = closes;
  when = waits;
  address = addresses;
  ada = ada_is_zeros;
  notify = notifies;
  empty_state = empty_is_zeros;
  minus_one = minus_one_is_ones;
  greatest_number = greatest_number;
  least_time = least_time;
}
