use Rattle.std.proofs.Common.{◌++◌}
use Rattle.told_parts.specs.Told.{seen}
use Rattle.told_parts.specs.Lines.{where_text, fault_text, hint_line, hint_text, near_sought, names_line, sought}
use Rattle.told_parts.proofs.PieceLemmas.{four_in_all}
use Rattle.told_parts.proofs.lines.told_lines.Goals as goal

pub returns : goal.returns
returns c =
    let t = seen c.args.told.now in
    four_in_all c.new-out.result.items c.put_where.new.out.items c.put_fault.new.out.items c.put_hint.new.out.items c.put_others.new.out.items (where_text c.args.file.now t.spot t.path) (fault_text t.fault t)
    (hint_line (hint_text t.fault t)) (near_sought t.sort (sought t.keys) ++ names_line t.sort t.names) c.new-out.ensures.items c.in_ok-put_where.ensures c.in_ok-put_fault.ensures c.in_ok-put_hint.ensures c.in_ok-put_others.ensures
