use Rattle.std.proofs.Common.{◌≡◌, [], drop}
use Rattle.contract_notes.specs.Parties.{tally}
use Rattle.contract_notes.proofs.parties.seen_of.Given as goal

-- what was seen so far, and then the rest
abbrev pub invariant-loop-party : goal.invariant-loop-party
invariant-loop-party l = tally l.seen (drop l.party-index l.named) ≡ tally [] l.named
