use Rattle.eutxo_types.proofs.WorkedLemmas.{begins_the_ledger, is_made, gives, claims, steps, key_of_x, payout_of_b, contract_of_zeros, thirty_six_zeros, nothing_held, five_ada, moves}
use Rattle.eutxo_types.proofs.laws.worked_transactions.Goals as goal

pub returns : goal.returns
returns c = record {
  genesis = begins_the_ledger;
  made = is_made;
  none = gives;
  claim = claims;
  step = steps;
  key = key_of_x;
  payout = payout_of_b;
  contract = contract_of_zeros;
  datum = thirty_six_zeros;
  nothing = nothing_held;
  five_ada = five_ada;
  moves = moves;
}
