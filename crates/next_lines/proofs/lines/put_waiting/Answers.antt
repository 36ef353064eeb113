use Rattle.std.proofs.Common.{FitsSigned, rules}
use Rattle.std.specs.Prelude.{flat_map}
use Rattle.std.specs.Int.{w128}
use Rattle.std.proofs.lemmas.Int.{to_z-of_z}
use Rattle.std.proofs.lemmas.Result.{on_ok_weaker}
use Rattle.next_lines.specs.Lines.{input_line, more_line, waits_line, payment_line}
use Rattle.next_lines.specs.Seen.{seen_case}
use Rattle.next_lines.proofs.PieceLemmas.{waiting_pieces}
use Rattle.next_lines.proofs.lines.put_waiting.Goals as goal

pub returns : goal.returns
returns c =
    let t = c.args.told in
    let fits : FitsSigned w128 c.args.last = search rules in
    let until = rw (to_z-of_z w128 c.args.last fits) at c.in_ok-put_until.ensures in
    on_ok_weaker c.put_payments.result
    (λ h. waiting_pieces (input_line t.path.now) seen_case t.cases.now c.args.out.now.items c.put_cases.new.out.items c.put_more.new.out.items c.put_until.new.out.items c.put_payments.new.out.items (more_line t.more) (waits_line t.path.now c.args.last)
    (flat_map payment_line t.payments.now) c.in_ok-put_cases.ensures c.in_ok-put_more.ensures until h)
    c.put_payments.ensures
