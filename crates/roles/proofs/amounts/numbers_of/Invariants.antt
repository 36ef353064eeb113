use Rattle.std.proofs.Common.{◌≡◌, ◌++◌, drop, map}
use Rattle.roles.proofs.amounts.numbers_of.Given as goal

abbrev pub invariant-loop-entry : goal.invariant-loop-entry
invariant-loop-entry l = l.numbers.items ++ map (λ e. e.1) (drop l.entry-index l.entries) ≡ map (λ e. e.1) l.entries
