use Rattle.std.proofs.Common.{length-take-le, sym, arith}
use Rattle.text_spots.proofs.shown.put_sides.Goals as goal

pub slice_bounds-first-end : goal.slice_bounds-first-end
slice_bounds-first-end c = sym (length-take-le 199 c.args.path.now (omega arith))
