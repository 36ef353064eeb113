use Rattle.std.proofs.Common.{pos, refl, arith}
use Rattle.std.proofs.lemmas.Int.{ints}
use Rattle.symbols.proofs.QuotientLemmas.{room_full, room_none}
use Rattle.symbols.proofs.quotients.room_below.Goals as goal

pub returns-then-shows : goal.returns-then-shows
returns-then-shows c = room_none c.args.symbols.now c.args.dividend.now c.args.divisor (pos 0) c.requires (c.shows.ensures c.if-shows.true) refl

pub returns-else-shows : goal.returns-else-shows
returns-else-shows c = room_full c.args.symbols.now c.args.dividend.now c.args.divisor _ c.requires (omega (arith, ints))
