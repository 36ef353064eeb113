use Rattle.std.proofs.Common.{codes}
use Rattle.clap.specs.Words.{new_app, with_rule}
use Rattle.marlowe_usage.specs.Lines.{given, json, depth, text_numbers, big_as_text, explain}
use Rattle.marlowe_usage.proofs.commands.run_command.Goals as goal

pub returns : goal.returns
returns c =
    let none = new_app (codes "run") in
    let start = c.after_help.ensures none c.new.ensures in
    let with_one = c.with.ensures none (given (codes "CONTRACT")) start c.contract.ensures in
    let one = with_rule none (given (codes "CONTRACT")) in
    let with_two = c.with-2.ensures one (given (codes "STATE")) with_one c.given.ensures in
    let two = with_rule one (given (codes "STATE")) in
    let with_three = c.with-3.ensures two (given (codes "TX")) with_two c.given-2.ensures in
    let three = with_rule two (given (codes "TX")) in
    let with_four = c.with-4.ensures three json with_three c.json.ensures in
    let four = with_rule three json in
    let with_five = c.with-5.ensures four depth with_four c.depth.ensures in
    let five = with_rule four depth in
    let with_six = c.with-6.ensures five text_numbers with_five c.text_numbers.ensures in
    let six = with_rule five text_numbers in
    let with_seven = c.with-7.ensures six big_as_text with_six c.big_as_text.ensures in
    let seven = with_rule six big_as_text in
    c.with-8.ensures seven explain with_seven c.explain.ensures
