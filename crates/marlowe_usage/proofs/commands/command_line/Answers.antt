use Rattle.std.proofs.Common.{codes}
use Rattle.clap.specs.Words.{with_subcommand}
use Rattle.marlowe_usage.specs.Lines.{command, program, run_rules, trace_rules, next_rules, table_rules, analyse_rules, play_rules, serve_rules}
use Rattle.marlowe_usage.proofs.commands.command_line.Goals as goal

pub returns : goal.returns
returns c =
    let with_one = c.with_command.ensures program (command (codes "run") run_rules) c.program.ensures c.run_command.ensures in
    let one = with_subcommand program (command (codes "run") run_rules).top in
    let with_two = c.with_command-2.ensures one (command (codes "trace") trace_rules) with_one c.trace_command.ensures in
    let two = with_subcommand one (command (codes "trace") trace_rules).top in
    let with_three = c.with_command-3.ensures two (command (codes "next") next_rules) with_two c.next_command.ensures in
    let three = with_subcommand two (command (codes "next") next_rules).top in
    let with_four = c.with_command-4.ensures three (command (codes "table") table_rules) with_three c.table_command.ensures in
    let four = with_subcommand three (command (codes "table") table_rules).top in
    let with_five = c.with_command-5.ensures four (command (codes "analyse") analyse_rules) with_four c.analyse_command.ensures in
    let five = with_subcommand four (command (codes "analyse") analyse_rules).top in
    let with_six = c.with_command-6.ensures five (command (codes "play") play_rules) with_five c.play_command.ensures in
    let six = with_subcommand five (command (codes "play") play_rules).top in
    let made = c.with_command-7.ensures six (command (codes "serve") serve_rules) with_six c.serve_command.ensures in
    rw c.made.ensures made
