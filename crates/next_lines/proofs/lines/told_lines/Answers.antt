use Rattle.next_lines.specs.Lines.{warning_line}
use Rattle.next_lines.specs.Seen.{seen_warning}
use Rattle.next_lines.proofs.PieceLemmas.{all_pieces}
use Rattle.next_lines.proofs.lines.told_lines.Goals as goal

pub returns : goal.returns
returns c =
    all_pieces warning_line seen_warning c.args.told.warned.now c.new-out.result.items c.put_standing.new.out.items c.put_warnings.new.out.items _ c.new-out.ensures.items c.in_ok-put_standing.ensures c.in_ok-put_warnings.ensures
