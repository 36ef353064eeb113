use Rattle.std.proofs.Common.{◌/◌, length}
use Rattle.claims.proofs.Joining.{halves_owner}
use Rattle.claims.proofs.settled.+first_come.Goals as goal

pub returns-in_ok-found-in_default-clause-owners :
    goal.returns-in_ok-found-in_default-clause-owners
returns-in_ok-found-in_default-clause-owners g t c = λ is_lane n i.
    halves_owner is_lane n c.args.claims.now c.split_at.result.0.now c.split_at.result.1.now c.in_ok-left-in_default.left.items c.in_ok-right-in_default.right.items c.deref.result.now c.deref_mut.result.now
    c.in_ok-found-in_default.found.items (length c.args.claims.now / 2) c.split_at.ensures.front c.split_at.ensures.back (c.in_ok-left-in_default.ensures.owners is_lane n i) (c.in_ok-right-in_default.ensures.owners is_lane n i)
    c.deref.ensures.value c.deref_mut.ensures.value (c.in_ok-found-in_default.ensures.owners is_lane n i)
