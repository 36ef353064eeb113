use Rattle.std.proofs.Common.{refl}
use Rattle.json_write_contracts.proofs.AddsLaws.{wrote}
use Rattle.json_write_contracts.proofs.ListedLaws.{listed, closed}
use Rattle.analysis_lines.specs.Kept.{kept_token_json}
use Rattle.analysis_lines.proofs.kept.put_each_token.Goals as goal

pub loop-one-preserved : goal.loop-one-preserved
loop-one-preserved c =
    listed kept_token_json c.args.kept.now c.loop-one.one-index c.one-item.result c.begin_array.new.self c.loop-one.out c.put_token_of.new.out c.loop-one-test.true c.one-item.is c.loop-one.invariant c.in_ok-put_token_of.ensures

pub returns : goal.returns
returns c =
    closed kept_token_json c.args.kept.now c.args.kept.now c.loop-one.one-index c.args.out.now c.begin_array.new.self c.loop-one.out c.end_array.new.self refl c.loop-one-test.false (wrote c.in_ok-begin_array.ensures)
    c.loop-one.invariant (wrote c.in_ok-end_array.ensures)
