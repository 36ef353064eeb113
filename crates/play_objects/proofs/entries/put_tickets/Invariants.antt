use Rattle.std.proofs.Common.{◌≡◌, ◌++◌, drop, string_bytes}
use Rattle.play_objects.specs.EntryObjects.{ticket_objects}
use Rattle.play_objects.proofs.entries.put_tickets.Given as goal

abbrev pub invariant-loop-index : goal.invariant-loop-index
invariant-loop-index l = string_bytes l.out ++ ticket_objects l.index (drop l.index l.tickets) ≡ string_bytes l.fn.out ++ ticket_objects 0 l.tickets
