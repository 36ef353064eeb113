use Rattle.std.proofs.Common.{codes}
use Rattle.clap.specs.Words.{new_app, with_rule}
use Rattle.marlowe_usage.specs.Lines.{given, flag, options, json, depth, big_as_text}
use Rattle.marlowe_usage.proofs.commands.play_command.Goals as goal

pub returns : goal.returns
returns c =
    let none = new_app (codes "play") in
    let start = c.after_help.ensures none c.new.ensures in
    let with_one = c.with.ensures none (given (codes "SCENARIO")) start c.given.ensures in
    let one = with_rule none (given (codes "SCENARIO")) in
    let with_two = c.with-2.ensures one (flag (codes "one")) with_one c.flag.ensures in
    let two = with_rule one (flag (codes "one")) in
    let with_three = c.with-3.ensures two (flag (codes "files")) with_two c.flag-2.ensures in
    let three = with_rule two (flag (codes "files")) in
    let with_four = c.with-4.ensures three (flag (codes "strict")) with_three c.flag-3.ensures in
    let four = with_rule three (flag (codes "strict")) in
    let with_five = c.with-5.ensures four (options (codes "expect-open")) with_four c.options.ensures in
    let five = with_rule four (options (codes "expect-open")) in
    let with_six = c.with-6.ensures five json with_five c.json.ensures in
    let six = with_rule five json in
    let with_seven = c.with-7.ensures six depth with_six c.depth.ensures in
    let seven = with_rule six depth in
    let with_eight = c.with-8.ensures seven big_as_text with_seven c.flag-4.ensures in
    let eight = with_rule seven big_as_text in
    c.with-9.ensures eight (flag (codes "explain")) with_eight c.flag-5.ensures
