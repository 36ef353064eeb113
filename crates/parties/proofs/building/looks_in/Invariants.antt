use Rattle.std.proofs.Common.{◌≡◌, map, take}
use Rattle.hub.specs.Ledger.declared.call.Reply.TheVariants as replies
use Rattle.parties.specs.PlaysSupport.{replies_of}
use Rattle.parties.proofs.building.looks_in.Given as goal

abbrev pub invariant-loop-receipt : goal.invariant-loop-receipt
invariant-loop-receipt g l = replies_of (take l.receipt-index l.shown) ≡ map replies.Look l.looks.items
