use Rattle.refusal_reasons.specs.Reasons.{TellsFlat}
use Rattle.refusal_reasons.proofs.LookLemmas.{flat_looks}
use Rattle.refusal_reasons.proofs.looks.flat_look.Goals as goal

pub returns : goal.returns
returns g c =
    flat_looks (g.R.TextReader.reading c.args.reader.now) c.args.source.text.now (TellsFlat c.args.spelling c.args.source (g.R.TextReader.sort c.args.reader.now)) c.look_at.result c.look_at.ensures
