use Rattle.std.proofs.Common.{codes}
use Rattle.clap.specs.Words.{new_app, with_rule}
use Rattle.marlowe_usage.specs.Lines.{depth, text_numbers}
use Rattle.marlowe_usage.proofs.commands.serve_command.Goals as goal

pub returns : goal.returns
returns c =
    let none = new_app (codes "serve") in
    let start = c.after_help.ensures none c.new.ensures in
    let with_one = c.with.ensures none depth start c.depth.ensures in
    let one = with_rule none depth in
    c.with-2.ensures one text_numbers with_one c.text_numbers.ensures
