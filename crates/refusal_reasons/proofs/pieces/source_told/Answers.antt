use Rattle.refusal_reasons.proofs.PieceLemmas.{source_told}
use Rattle.refusal_reasons.proofs.pieces.source_told.Goals as goal

pub returns : goal.returns
returns c = source_told c.args.spelling c.args.sources c.args.at c.in-Some.path c.placed_told.result c.in-Some.ensures c.placed_told.ensures
