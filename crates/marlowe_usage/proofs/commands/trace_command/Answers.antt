use Rattle.std.proofs.Common.{codes}
use Rattle.clap.specs.Words.{new_app, with_rule}
use Rattle.marlowe_usage.specs.Lines.{given, several, option, flag, json, depth, text_numbers, big_as_text, explain}
use Rattle.marlowe_usage.proofs.commands.trace_command.Goals as goal

pub returns : goal.returns
returns c =
    let none = new_app (codes "trace") in
    let start = c.after_help.ensures none c.new.ensures in
    let with_one = c.with.ensures none (given (codes "CONTRACT")) start c.contract.ensures in
    let one = with_rule none (given (codes "CONTRACT")) in
    let with_two = c.with-2.ensures one (several (codes "TX")) with_one c.several.ensures in
    let two = with_rule one (several (codes "TX")) in
    let with_three = c.with-3.ensures two (option (codes "state")) with_two c.option.ensures in
    let three = with_rule two (option (codes "state")) in
    let with_four = c.with-4.ensures three (flag (codes "last")) with_three c.flag.ensures in
    let four = with_rule three (flag (codes "last")) in
    let with_five = c.with-5.ensures four json with_four c.json.ensures in
    let five = with_rule four json in
    let with_six = c.with-6.ensures five depth with_five c.depth.ensures in
    let six = with_rule five depth in
    let with_seven = c.with-7.ensures six text_numbers with_six c.text_numbers.ensures in
    let seven = with_rule six text_numbers in
    let with_eight = c.with-8.ensures seven big_as_text with_seven c.big_as_text.ensures in
    let eight = with_rule seven big_as_text in
    c.with-9.ensures eight explain with_eight c.explain.ensures
