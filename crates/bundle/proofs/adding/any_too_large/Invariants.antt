use Rattle.std.proofs.Common.{◌≡◌, ◌≤◌, length, take, drop}
use Rattle.std.proofs.Math.Dec.{T}
use Rattle.std.specs.FinMap.{is_sorted, from_sorted}
use Rattle.names.specs.Orders.{token_cmp}
use Rattle.bundle.specs.Bundles.{any_large}
use Rattle.bundle.proofs.WalkLemmas.{BeforeFirst}
use Rattle.bundle.proofs.adding.any_too_large.Given as goal

abbrev pub invariant-loop-entry : goal.invariant-loop-entry
invariant-loop-entry l = record {
  rest : any_large (from_sorted l.held) (drop l.entry-index l.more) ≡ any_large (from_sorted l.held) l.more;
  within : l.at ≤ length l.held;
  before : BeforeFirst (drop l.entry-index l.more) (take l.at l.held);
  sorted : T (is_sorted token_cmp (drop l.entry-index l.more));
}
