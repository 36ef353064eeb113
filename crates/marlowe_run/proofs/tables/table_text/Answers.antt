use Rattle.std.proofs.Common.{ℕ, List, Result, subst}
use Rattle.std.specs.declared.vec.Vec.{Vec}
use Rattle.std.specs.declared.alloc.Global.{Global}
use Rattle.contract.specs.Collections.Answers.{AsideBy}
use Rattle.marlowe_refusals.specs.declared.table_fault.TableFault.{TableFault}
use Rattle.marlowe_refusals.specs.declared.table_fault.TableFault.TheVariants as tables
use Rattle.marlowe_run.proofs.WithinLaws.{tables-127}
use Rattle.marlowe_run.proofs.tables.table_text.Goals as goal

pub returns : goal.returns
returns c =
    subst (λ (r : Result (List ℕ) TableFault). AsideBy tables.Memory (λ (text : Vec ℕ Global). text.items) c.table_text_within.result r)
    (tables-127 c.args.contract.now) c.table_text_within.ensures
