use Rattle.std.proofs.Common.{ℕ, List, sym, subst}
use Rattle.alike_alarms.specs.AlikeSupport.{AreCounts}
use Rattle.alike_alarms.proofs.heads.heads_by.Goals as goal

pub heads-requires : goal.heads-requires
heads-requires c = subst (λ (cs : List ℕ). AreCounts c.args.tellers.now cs) (sym c.deref.ensures.value) c.in_ok-counts.ensures
