use Rattle.std.proofs.Common.{◌≡◌, drop}
use Rattle.std.specs.List.{list_all}
use Rattle.states.specs.Start.{is_positive, entries_of}
use Rattle.states.proofs.start.all_positive.Given as goal

abbrev pub invariant-loop-row : goal.invariant-loop-row
invariant-loop-row l = list_all is_positive (entries_of l.accounts) ≡ list_all is_positive (entries_of (drop l.row-index l.accounts))
