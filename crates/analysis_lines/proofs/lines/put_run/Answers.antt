use Rattle.std.proofs.lemmas.Result.{on_ok_weaker}
use Rattle.analysis_lines.proofs.LinesLemmas.{run_pieces}
use Rattle.analysis_lines.proofs.lines.put_run.Goals as goal

pub returns-in_ok-put_bytes-in-Some : goal.returns-in_ok-put_bytes-in-Some
returns-in_ok-put_bytes-in-Some c =
    on_ok_weaker c.put_transactions.result
    (λ h. run_pieces c.args.out.now.items c.put_bytes.new.out.items c.put_transactions.new.out.items c.args.run.now c.in-Some.run' c.as_slice.result.now c.in-Some.is c.as_slice.ensures c.in_ok-put_bytes-in-Some.ensures h)
    c.put_transactions.ensures
