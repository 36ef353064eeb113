use Rattle.std.proofs.Common.{drop}
use Rattle.coin_selection.specs.RequiredSupport.{AddsRoles}
use Rattle.coin_selection.proofs.requirements.add_roles.Given as goal

abbrev pub invariant-loop-i : goal.invariant-loop-i
invariant-loop-i l = AddsRoles (drop l.i l.roles) l.fn.missing l.missing
