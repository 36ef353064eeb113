use Rattle.std.proofs.Common.{sym, subst}
use Rattle.builder.specs.PartsSupport.{AreStanding}
use Rattle.builder.proofs.StandingLemmas.{threads_stand}
use Rattle.builder.proofs.steps.build_steps.Goals as goal

pub build_on-requires : goal.build_on-requires
build_on-requires c =
    let told = rw c.in-Ok-Some.field-0-is at c.in-Ok-Some.ensures in
    subst AreStanding (sym c.deref.ensures.value) (threads_stand c.args.parts.now c.in-Ok-Some.steps.items (sym told))
