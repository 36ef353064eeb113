use Rattle.std.proofs.Common.{[]}
use Rattle.contract_notes.specs.Parties.{tally}
use Rattle.contract_notes.proofs.CaseLemmas.{tally_more}
use Rattle.contract_notes.proofs.parties.seen_of.Goals as goal

pub loop-party-preserved : goal.loop-party-preserved
loop-party-preserved c =
    tally_more c.args.named.now c.loop-party.party-index c.party-item.result c.loop-party.seen c.see.new.seen (tally [] c.args.named.now) c.loop-party-test.true c.party-item.is c.in_ok-see.ensures c.loop-party.invariant
