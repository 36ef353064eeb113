use Rattle.std.proofs.Common.{rules}
use Rattle.std.proofs.lemmas.Result.{IfOk-weaker}
use Rattle.refusal_reasons.proofs.LookLemmas.{by_fault}
use Rattle.refusal_reasons.proofs.looks.look_at.Goals as goal

pub returns : goal.returns
returns g c = (
  by_fault c.args.how.depth (g.R.TextReader.reading c.args.reader.now) c.args.source.text.now c.in-Err.fault (search rules),
  IfOk-weaker c.explained_fault-written.result _ _ (λ written told. told (g.R.TextReader.sort c.args.reader.now)) c.explained_fault-written.ensures,
)
