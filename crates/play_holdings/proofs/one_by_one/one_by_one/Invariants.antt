use Rattle.std.proofs.Common.{◌≡◌, ◌++◌, drop}
use Rattle.std.specs.List.{flat_map}
use Rattle.play_holdings.specs.Holdings.{AllAbove, held_in}
use Rattle.play_holdings.proofs.one_by_one.one_by_one.Given as goal

abbrev pub invariant-loop-lent : goal.invariant-loop-lent
invariant-loop-lent l = record {
  rows : l.rows.items ++ flat_map (held_in l.ends) (drop l.lent-index l.unspent) ≡ flat_map (held_in l.ends) l.unspent;
  above : AllAbove l.rows.items;
}
