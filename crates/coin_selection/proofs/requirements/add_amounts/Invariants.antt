use Rattle.std.proofs.Common.{◌-◌, drop, length}
use Rattle.builder_spec.specs.Holding.{wanted}
use Rattle.coin_selection.specs.RequiredSupport.{IsMissing}
use Rattle.coin_selection.proofs.RequiredLemmas.{Within}
use Rattle.coin_selection.proofs.requirements.add_amounts.Given as goal

-- those from a place on are counted, and they come to no more than there is room for
abbrev pub invariant-loop-i : goal.invariant-loop-i
invariant-loop-i l = record {
  counted : IsMissing (wanted (drop l.i l.amounts)) l.missing;
  within : Within (drop l.i l.amounts) (length l.amounts - l.i);
}
