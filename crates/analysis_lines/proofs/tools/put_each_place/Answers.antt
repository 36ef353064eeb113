use Rattle.std.proofs.Common.{refl}
use Rattle.places.specs.Texts.{place_json}
use Rattle.json_write_contracts.proofs.AddsLaws.{wrote}
use Rattle.json_write_contracts.proofs.ListedLaws.{listed, closed}
use Rattle.analysis_lines.proofs.tools.put_each_place.Goals as goal

pub loop-keys-preserved : goal.loop-keys-preserved
loop-keys-preserved c =
    listed place_json c.args.places.now c.loop-keys.keys-index c.keys-item.result c.begin_array.new.self c.loop-keys.out c.put_keys.new.out c.loop-keys-test.true c.keys-item.is c.loop-keys.invariant c.in_ok-put_keys.ensures

pub returns : goal.returns
returns c =
    closed place_json c.args.places.now c.args.places.now c.loop-keys.keys-index c.args.out.now c.begin_array.new.self c.loop-keys.out c.end_array.new.self refl c.loop-keys-test.false (wrote c.in_ok-begin_array.ensures)
    c.loop-keys.invariant (wrote c.in_ok-end_array.ensures)
