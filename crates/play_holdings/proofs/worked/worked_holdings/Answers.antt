use Rattle.play_holdings.proofs.WorkedLemmas.{kinds_stand_in_order, each_kind_stands_in_order, locks_tell_holders, outputs_are_summed, holdings_are_printed}
use Rattle.play_holdings.proofs.worked.worked_holdings.Goals as goal

pub returns : goal.returns
returns c = record {
  kinds = kinds_stand_in_order;
  each = each_kind_stands_in_order;
  locks = locks_tell_holders;
  sums = outputs_are_summed;
  lines = holdings_are_printed;
}
