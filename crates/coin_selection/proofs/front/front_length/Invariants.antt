use Rattle.std.proofs.Common.{◌≡◌, ℕ, ◌<◌, false, take}
use Rattle.builder_spec.specs.Fronts.{suffices}
use Rattle.coin_selection.specs.RequiredSupport.{lacking_amount, IsMissing}
use Rattle.coin_selection.proofs.front.front_length.Given as goal

-- the needs are what the outputs so far leave, and fewer of them don't suffice
abbrev pub invariant-loop-i : goal.invariant-loop-i
invariant-loop-i l = record {
  left : IsMissing (lacking_amount l.roles l.amounts (take l.i l.offered)) l.missing;
  shorter : (k : ℕ) → k < l.i → suffices l.roles l.amounts (take k l.offered) ≡ false;
}
