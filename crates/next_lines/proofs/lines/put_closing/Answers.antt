use Rattle.std.proofs.Common.{◌≡◌, true, rules}
use Rattle.std.proofs.lemmas.Result.{on_ok_weaker}
use Rattle.next_lines.proofs.PieceLemmas.{closing_pieces}
use Rattle.next_lines.proofs.lines.put_closing.Goals as goal

pub returns : goal.returns
returns c =
    let reduces : c.args.can_reduce ≡ true = search rules in
    on_ok_weaker c.put_bytes-3.result
    (λ h. closing_pieces c.args.can_reduce c.is_empty.result c.args.payments.now c.args.out.now.items c.put_bytes-2.new.out.items c.put_joined.new.out.items c.put_bytes-3.new.out.items reduces c.is_empty.ensures c.if-is_empty.false
    c.in_ok-put_bytes.ensures c.in_ok-put_joined.ensures h)
    c.put_bytes-3.ensures
