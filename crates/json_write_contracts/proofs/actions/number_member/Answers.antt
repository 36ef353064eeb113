use Rattle.std.proofs.Common.{rules}
use Rattle.json_write_contracts.specs.Tokens.{PutsFitting}
use Rattle.json_write_contracts.specs.WrittenNames.{number_fits, number_json}
use Rattle.json_write_contracts.proofs.AddsLaws.{wrote, refused, left, after, failed}
use Rattle.json_write_contracts.proofs.actions.number_member.Goals as goal

pub returns-clause-put : goal.returns-clause-put
returns-clause-put c =
    let p : PutsFitting c.put_number.result c.key.new.self c.put_number.new.out (number_fits c.args.n.now) (number_json c.args.n.now) = search rules in
    after _ _ _ c.put_number.result (wrote c.in_ok-key.ensures) p

pub returns-clause-err : goal.returns-clause-err
returns-clause-err c = left _ c.put_number.result (wrote c.in_ok-key.ensures) c.put_number.ensures.err

pub returns-in_err-key-clause-err : goal.returns-in_err-key-clause-err
returns-in_err-key-clause-err c = failed c.from_residual.result (refused c.in_err-key.ensures)
