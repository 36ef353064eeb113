use Rattle.std.proofs.Common.{codes}
use Rattle.clap.specs.Words.{new_app, with_rule}
use Rattle.marlowe_usage.specs.Lines.{given, optional, option, flag, json, depth, text_numbers, explain}
use Rattle.marlowe_usage.proofs.commands.analyse_command.Goals as goal

pub returns : goal.returns
returns c =
    let none = new_app (codes "analyse") in
    let start = c.after_help.ensures none c.new.ensures in
    let with_one = c.with.ensures none (given (codes "CONTRACT")) start c.contract.ensures in
    let one = with_rule none (given (codes "CONTRACT")) in
    let with_two = c.with-2.ensures one (optional (codes "STATE")) with_one c.optional.ensures in
    let two = with_rule one (optional (codes "STATE")) in
    let with_three = c.with-3.ensures two json with_two c.json.ensures in
    let three = with_rule two json in
    let with_four = c.with-4.ensures three (flag (codes "no-runs")) with_three c.flag.ensures in
    let four = with_rule three (flag (codes "no-runs")) in
    let with_five = c.with-5.ensures four (flag (codes "all")) with_four c.flag-2.ensures in
    let five = with_rule four (flag (codes "all")) in
    let with_six = c.with-6.ensures five (flag (codes "notes")) with_five c.flag-3.ensures in
    let six = with_rule five (flag (codes "notes")) in
    let with_seven = c.with-7.ensures six (option (codes "party")) with_six c.option.ensures in
    let seven = with_rule six (option (codes "party")) in
    let with_eight = c.with-8.ensures seven (flag (codes "strict")) with_seven c.flag-4.ensures in
    let eight = with_rule seven (flag (codes "strict")) in
    let with_nine = c.with-9.ensures eight depth with_eight c.depth.ensures in
    let nine = with_rule eight depth in
    let with_ten = c.with-10.ensures nine text_numbers with_nine c.text_numbers.ensures in
    let ten = with_rule nine text_numbers in
    c.with-11.ensures ten explain with_ten c.explain.ensures
