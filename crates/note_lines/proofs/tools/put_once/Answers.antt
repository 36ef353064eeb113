use Rattle.std.proofs.Common.{refl}
use Rattle.json_write_contracts.proofs.AddsLaws.{wrote}
use Rattle.json_write_contracts.proofs.ListedLaws.{listed, closed}
use Rattle.json_write_contracts.specs.WrittenNames.{party_json}
use Rattle.note_lines.proofs.tools.put_once.Goals as goal

pub loop-party-preserved : goal.loop-party-preserved
loop-party-preserved c =
    listed party_json c.args.once.now c.loop-party.party-index c.party-item.result c.begin_array.new.self c.loop-party.out c.put_party.new.out c.loop-party-test.true c.party-item.is c.loop-party.invariant c.in_ok-put_party.ensures.put

pub returns : goal.returns
returns c =
    closed party_json c.args.once.now c.args.once.now c.loop-party.party-index c.args.out.now c.begin_array.new.self c.loop-party.out c.end_array.new.self refl c.loop-party-test.false (wrote c.in_ok-begin_array.ensures)
    c.loop-party.invariant (wrote c.in_ok-end_array.ensures)
