use Rattle.std.proofs.Common.{◌∙◌}
use Rattle.loss_walk.proofs.FloorLemmas.{closes_found}
use Rattle.loss_walk.proofs.rows.put_close.Goals as goal

pub returns : goal.returns
returns c =
    closes_found c.args.known.now c.as_slice.result.now c.args.asked.now c.args.rows.now c.put_all.new.rows c.put_all-2.new.rows (c.as_slice.ensures ∙ c.in_ok-names.ensures) c.in_ok-put_all.ensures c.in_ok-put_all-2.ensures
