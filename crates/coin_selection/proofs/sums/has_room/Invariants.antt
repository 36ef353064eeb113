use Rattle.std.proofs.Common.{◌≡◌, pos, ◌-◌, ◌^◌, int_lt, drop}
use Rattle.std.specs.List.{list_any}
use Rattle.coin_selection.proofs.sums.has_room.Given as goal

abbrev pub invariant-loop-entry : goal.invariant-loop-entry
invariant-loop-entry l = list_any (λ e. int_lt (pos (2 ^ 127 - 1)) e.1) l.entries ≡ list_any (λ e. int_lt (pos (2 ^ 127 - 1)) e.1) (drop l.entry-index l.entries)
