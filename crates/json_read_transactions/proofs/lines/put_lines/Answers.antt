use Rattle.std.proofs.Common.{◌+◌, ◌<◌, length, map, take, drop, sym, ◌∙◌, arith, length-drop}
use Rattle.std.proofs.lemmas.Result.{err_from_is_err_and}
use Rattle.json_read_names.specs.ReadsText.{of_text}
use Rattle.json_read_inputs.specs.ReadsInput.{transaction}
use Rattle.json_read_transactions.specs.ReadsTransactions.{lines}
use Rattle.json_read_transactions.specs.TakingSupport.{line_readings}
use Rattle.json_read_transactions.proofs.TakingLemmas.{further, stopped, ended}
use Rattle.json_read_transactions.proofs.LineLemmas.{line_first, line_last, the_rest}
use Rattle.json_read_transactions.proofs.lines.put_lines.Goals as goal

pub returns-in_err-put_line : goal.returns-in_err-put_line
returns-in_err-put_line c =
    let rest = c.lines.rest.now in
    let end = c.in-Some.end in
    let p = err_from_is_err_and c.from_residual.result c.from_residual.ensures.1 in
    rw (p.1, p.2)
    (λ n. stopped c.args.transactions.now c.lines.transactions (map (of_text transaction) (lines c.args.text.now)) (map (of_text transaction) (lines rest)) (line_readings (take end rest)) c.lines.invariant.taken c.in_err-put_line.field-0.0
    (map (of_text transaction) (lines (drop (end + 1) rest))) (line_first rest end (sym c.in-Some.is ∙ c.line_end.ensures)).1 (c.in_err-put_line.ensures n))

pub overflow_add-rest : goal.overflow_add-rest
overflow_add-rest c = let below : c.in-Some.end < length c.lines.rest.now = (line_first c.lines.rest.now c.in-Some.end (sym c.in-Some.is ∙ c.line_end.ensures)).0 in omega arith

pub lines-preserved : goal.lines-preserved
lines-preserved c =
    let rest = c.lines.rest.now in
    let end = c.in-Some.end in
    let below : end < length rest = (line_first rest end (sym c.in-Some.is ∙ c.line_end.ensures)).0 in
    rw the_rest (record {
      shorter = omega (arith, length-drop (end + 1) rest, c.lines.invariant.shorter);
      taken = further c.args.transactions.now c.lines.transactions (map (of_text transaction) (lines c.args.text.now)) (map (of_text transaction) (lines rest)) (line_readings (take end rest)) c.lines.invariant.taken c.put_line.new.transactions
          (map (of_text transaction) (lines (drop (end + 1) rest))) (line_first rest end (sym c.in-Some.is ∙ c.line_end.ensures)).1 c.in_ok-put_line.ensures;
    })

pub returns : goal.returns
returns c =
    let rest = c.lines.rest.now in
    ended c.args.transactions.now c.lines.transactions (map (of_text transaction) (lines c.args.text.now)) (map (of_text transaction) (lines rest)) (line_readings rest) c.lines.invariant.taken c.put_line-2.new.transactions c.put_line-2.result
    (line_last rest (sym c.in_default.is ∙ c.line_end.ensures)) c.put_line-2.ensures
