use Rattle.std.proofs.Common.{rules, ◌≡◌, Some}
use Rattle.eutxo.specs.Found.{script_at, whole}
use Rattle.eutxo.proofs.LocalLemmas.{whole_so}
use Rattle.eutxo.proofs.local.judge_spent.Goals as goal

pub returns-in-Some : goal.returns-in-Some
returns-in-Some g c =
    let found = c.args.found.now in
    let there : whole c.args.tx.now found ≡ Some c.as_slice.result.now = search rules in
    whole_so g.V.Validator.judges (script_at found.scripts) c.args.tx.now (whole c.args.tx.now found) c.as_slice.result.now c.judge_whole.result there c.judge_whole.ensures
