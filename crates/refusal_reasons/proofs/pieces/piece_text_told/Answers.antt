use Rattle.refusal_reasons.proofs.PieceLemmas.{piece_told}
use Rattle.refusal_reasons.proofs.pieces.piece_text_told.Goals as goal

pub returns : goal.returns
returns c = piece_told c.args.spelling c.args.path.now c.args.text.now c.flat_told.result c.flat_told.ensures
