use Rattle.std.proofs.Common.{refl}
use Rattle.json_write_contracts.proofs.AddsLaws.{wrote}
use Rattle.json_write_contracts.proofs.ListedLaws.{listed-at, closed}
use Rattle.places.specs.Texts.{key_json}
use Rattle.places.proofs.printed.put_place_json.Goals as goal

pub loop-key-preserved : goal.loop-key-preserved
loop-key-preserved c =
    listed-at _ key_json c.args.place.now c.loop-key.key-index c.begin_array.new.self c.loop-key.out c.put_key_json.new.out c.loop-key-test.true c.loop-key.invariant c.in_ok-put_key_json.ensures.put

pub returns-clause-put : goal.returns-clause-put
returns-clause-put c =
    closed key_json c.args.place.now c.args.place.now c.loop-key.key-index c.args.out.now c.begin_array.new.self c.loop-key.out c.end_array.new.self refl c.loop-key-test.false (wrote c.in_ok-begin_array.ensures)
    c.loop-key.invariant (wrote c.in_ok-end_array.ensures)
