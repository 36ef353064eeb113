use Rattle.contract_json.specs.WrittenInput.{transaction_json}
use Rattle.analysis_lines.proofs.LinesLemmas.{whole_text}
use Rattle.analysis_lines.proofs.lines.transaction_text.Goals as goal

pub returns-in-Ok : goal.returns-in-Ok
returns-in-Ok c =
    whole_text c.new-out.result c.put.new.out c.new.result.items c.into_inner.result.items (transaction_json c.args.transaction.now) c.new.ensures.items c.new-out.ensures.before c.new-out.ensures.tokens c.in-Ok.ensures.put.1
    c.into_inner.ensures.items
