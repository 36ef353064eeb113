use Rattle.std.proofs.Common.{ℕ, false, List, Result, subst}
use Rattle.std.specs.declared.vec.Vec.{Vec}
use Rattle.std.specs.declared.alloc.Global.{Global}
use Rattle.contract.specs.Collections.Answers.{AsideBy}
use Rattle.marlowe_refusals.specs.declared.fault.RunFault.{RunFault}
use Rattle.marlowe_refusals.specs.declared.fault.RunFault.TheVariants as run
use Rattle.marlowe_run.proofs.WithinLaws.{runs-127}
use Rattle.marlowe_run.proofs.transaction.run.Goals as goal

pub returns-clause-printed : goal.returns-clause-printed
returns-clause-printed c =
    subst (λ (r : Result (List ℕ) RunFault). AsideBy run.Memory (λ (text : Vec ℕ Global). text.items) c.run_within.result r)
    (runs-127 false c.args.contract.now c.args.state.now c.args.transaction.now) c.run_within.ensures.printed
