use Rattle.std.proofs.Common.{drop}
use Rattle.builder_spec.proofs.FromRoles.PutLaws.{IsPut}
use Rattle.builder_spec.specs.Steps.{roles_of}
use Rattle.coin_selection.proofs.role_tokens.put_roles.Given as goal

abbrev pub invariant-loop-input : goal.invariant-loop-input
invariant-loop-input l = IsPut (roles_of l.currency l.inputs) (roles_of l.currency (drop l.input-index l.inputs)) l.fn.roles.items l.roles.items
