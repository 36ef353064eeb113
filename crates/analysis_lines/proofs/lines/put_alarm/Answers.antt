use Rattle.std.proofs.Common.{Option, ℕ, ◌++◌, sym, ap, ◌∙◌}
use Rattle.std.proofs.lemmas.Result.{on_ok_weaker}
use Rattle.analysis_lines.specs.ToldLines.{line_of}
use Rattle.analysis_lines.specs.Lines.{whole_lines, others_line, head_lines}
use Rattle.analysis_lines.proofs.LinesLemmas.{two_pieces}
use Rattle.analysis_lines.proofs.lines.put_alarm.Goals as goal

pub returns-in_ok-put_whole-in-Some : goal.returns-in_ok-put_whole-in-Some
returns-in_ok-put_whole-in-Some c =
    let l = line_of c.args.alarm.now in
    let a = c.args.out.now.items in
    on_ok_weaker c.put_others.result
    (λ h. two_pieces a c.put_whole.new.out.items c.put_others.new.out.items (whole_lines c.args.runs l) (others_line c.in-Some.others) c.in_ok-put_whole-in-Some.ensures h ∙ ap (λ (o : Option ℕ). a ++ head_lines c.args.runs l o) (sym c.in-Some.is))
    c.put_others.ensures
