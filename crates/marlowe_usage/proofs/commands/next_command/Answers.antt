use Rattle.std.proofs.Common.{codes}
use Rattle.clap.specs.Words.{new_app, with_rule}
use Rattle.marlowe_usage.specs.Lines.{given, optional, time, options, json, depth, text_numbers, explain}
use Rattle.marlowe_usage.proofs.commands.next_command.Goals as goal

pub returns : goal.returns
returns c =
    let none = new_app (codes "next") in
    let start = c.after_help.ensures none c.new.ensures in
    let with_one = c.with.ensures none (given (codes "CONTRACT")) start c.contract.ensures in
    let one = with_rule none (given (codes "CONTRACT")) in
    let with_two = c.with-2.ensures one (optional (codes "STATE")) with_one c.optional.ensures in
    let two = with_rule one (optional (codes "STATE")) in
    let with_three = c.with-3.ensures two (time (codes "from")) with_two c.time.ensures in
    let three = with_rule two (time (codes "from")) in
    let with_four = c.with-4.ensures three (time (codes "to")) with_three c.time-2.ensures in
    let four = with_rule three (time (codes "to")) in
    let with_five = c.with-5.ensures four (options (codes "after")) with_four c.options.ensures in
    let five = with_rule four (options (codes "after")) in
    let with_six = c.with-6.ensures five json with_five c.json.ensures in
    let six = with_rule five json in
    let with_seven = c.with-7.ensures six depth with_six c.depth.ensures in
    let seven = with_rule six depth in
    let with_eight = c.with-8.ensures seven text_numbers with_seven c.text_numbers.ensures in
    let eight = with_rule seven text_numbers in
    c.with-9.ensures eight explain with_eight c.explain.ensures
