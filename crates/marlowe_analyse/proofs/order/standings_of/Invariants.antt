use Rattle.std.proofs.Common.{take}
use Rattle.std.specs.Prelude.{All}
use Rattle.marlowe_analyse.specs.OrderSupport.{HasKey, StandForAll}
use Rattle.marlowe_analyse.proofs.order.standings_of.Given as goal

abbrev pub invariant-loop-alarm : goal.invariant-loop-alarm
invariant-loop-alarm l = record { all : StandForAll (take l.alarm-index l.alarms) l.standings.items; keys : All HasKey l.standings.items }
