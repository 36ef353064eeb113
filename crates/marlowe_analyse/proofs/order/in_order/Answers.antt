use Rattle.std.proofs.lemmas.List.Sorted.{All-permutation}
use Rattle.marlowe_analyse.specs.OrderSupport.{HasKey}
use Rattle.marlowe_analyse.proofs.OrderLemmas.{still_stand}
use Rattle.marlowe_analyse.proofs.order.in_order.Goals as goal

pub returns : goal.returns
returns c = record {
  all = still_stand c.args.alarms.now c.in_ok-standings.standings.items c.sort.new.self.items c.in_ok-standings.ensures.all c.sort.ensures.permutation;
  keys = All-permutation HasKey c.in_ok-standings.standings.items c.sort.new.self.items c.sort.ensures.permutation c.in_ok-standings.ensures.keys;
  sorted = c.in_ok-sort.ensures.sorted;
}
