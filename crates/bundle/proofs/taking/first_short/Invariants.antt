use Rattle.std.proofs.Common.{◌≡◌, ◌≤◌, length, take, drop}
use Rattle.std.proofs.Math.Dec.{T}
use Rattle.std.specs.FinMap.{is_sorted, from_sorted}
use Rattle.names.specs.Orders.{token_cmp}
use Rattle.bundle.specs.Bundles.{first_short}
use Rattle.bundle.proofs.WalkLemmas.{BeforeFirst}
use Rattle.bundle.proofs.taking.first_short.Given as goal

abbrev pub invariant-loop-entry : goal.invariant-loop-entry
invariant-loop-entry l = record {
  rest : first_short (from_sorted l.held) (drop l.entry-index l.wanted) ≡ first_short (from_sorted l.held) l.wanted;
  within : l.at ≤ length l.held;
  before : BeforeFirst (drop l.entry-index l.wanted) (take l.at l.held);
  sorted : T (is_sorted token_cmp (drop l.entry-index l.wanted));
}
