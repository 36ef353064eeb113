use Rattle.std.specs.BTreeMap.{get}
use Rattle.json_stops.specs.Repeats.{entry_key}
use Rattle.json_stops.specs.StopsSupport.{AreNew}
use Rattle.json_stops.proofs.repeats.first_repeat.Given as goal

-- the keys so far are new, and the map has their places
abbrev pub invariant-loop-index : goal.invariant-loop-index
invariant-loop-index g l = AreNew g.J.JsonValue.json g.K.Ord.cmp (entry_key g.K.EntryKey.reading) l.items (λ q. get g.K.Ord.cmp l.places q) l.index
