use Rattle.std.proofs.Common.{◌≡◌, ◌++◌, drop}
use Rattle.contract_notes.specs.Parties.{not_again}
use Rattle.contract_notes.proofs.parties.not_again.Given as goal

-- those so far, and then those of the rest
abbrev pub invariant-loop-party : goal.invariant-loop-party
invariant-loop-party l = l.once ++ not_again (drop l.party-index l.seen) ≡ not_again l.seen
