use Rattle.std.proofs.Common.{codes}
use Rattle.clap.specs.Words.{new_app, with_rule}
use Rattle.marlowe_usage.specs.Lines.{given, json, depth, explain}
use Rattle.marlowe_usage.proofs.commands.table_command.Goals as goal

pub returns : goal.returns
returns c =
    let none = new_app (codes "table") in
    let start = c.after_help.ensures none c.new.ensures in
    let with_one = c.with.ensures none (given (codes "CONTRACT")) start c.contract.ensures in
    let one = with_rule none (given (codes "CONTRACT")) in
    let with_two = c.with-2.ensures one json with_one c.json.ensures in
    let two = with_rule one json in
    let with_three = c.with-3.ensures two depth with_two c.depth.ensures in
    let three = with_rule two depth in
    c.with-4.ensures three explain with_three c.explain.ensures
