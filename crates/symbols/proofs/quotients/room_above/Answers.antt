use Rattle.std.proofs.Common.{pos, refl, arith}
use Rattle.std.proofs.lemmas.Int.{ints}
use Rattle.symbols.proofs.QuotientLemmas.{room_above_full, room_above_none}
use Rattle.symbols.proofs.quotients.room_above.Goals as goal

pub returns-then-bound-le0 : goal.returns-then-bound-le0
returns-then-bound-le0 c = room_above_none c.args.symbols.now c.args.dividend.now c.args.divisor c.in-Some.bound (pos 0) c.requires c.in-Some.ensures (omega (arith, ints)) refl

pub returns-else-bound-le0 : goal.returns-else-bound-le0
returns-else-bound-le0 c = room_above_full c.args.symbols.now c.args.dividend.now c.args.divisor _ c.requires (omega (arith, ints))

pub returns-in-None : goal.returns-in-None
returns-in-None c = room_above_full c.args.symbols.now c.args.dividend.now c.args.divisor _ c.requires (omega (arith, ints))
