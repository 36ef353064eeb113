use Rattle.std.proofs.Common.{refl, sym, subst}
use Rattle.std.proofs.lemmas.List.Elements.{All-get_or}
use Rattle.bound_runs.specs.Told.{LossHasNumbers}
use Rattle.json_write_contracts.proofs.AddsLaws.{wrote}
use Rattle.json_write_contracts.proofs.ListedLaws.{listed, closed}
use Rattle.analysis_lines.specs.Tools.{loss_json}
use Rattle.analysis_lines.proofs.tools.put_each_loss.Goals as goal

pub loop-loss-preserved : goal.loop-loss-preserved
loop-loss-preserved c =
    listed (loss_json c.args.runs) c.args.losses.now c.loop-loss.loss-index c.loss-item.result c.begin_array.new.self c.loop-loss.out c.put_loss.new.out c.loop-loss-test.true c.loss-item.is c.loop-loss.invariant c.in_ok-put_loss.ensures

pub returns : goal.returns
returns c =
    closed (loss_json c.args.runs) c.args.losses.now c.args.losses.now c.loop-loss.loss-index c.args.out.now c.begin_array.new.self c.loop-loss.out c.end_array.new.self refl c.loop-loss-test.false (wrote c.in_ok-begin_array.ensures)
    c.loop-loss.invariant (wrote c.in_ok-end_array.ensures)

pub put_loss-requires : goal.put_loss-requires
put_loss-requires c = subst LossHasNumbers (sym c.loss-item.is) (All-get_or LossHasNumbers c.args.losses.now c.loop-loss.loss-index c.loss-item.result c.loop-loss-test.true c.requires)
