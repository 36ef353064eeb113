use Rattle.std.proofs.Common.{◌≡◌, map}
use Rattle.std.specs.List.{range_with_len}
use Rattle.alike_alarms.specs.Alike.{head_at}
use Rattle.alike_alarms.proofs.heads.heads.Given as goal

abbrev pub invariant-loop-index : goal.invariant-loop-index
invariant-loop-index l = l.all.items ≡ map (head_at l.tellers) (range_with_len 0 l.index)
