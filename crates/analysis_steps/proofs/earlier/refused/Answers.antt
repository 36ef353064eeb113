use Rattle.std.proofs.Common.{None, Option, subst, arith}
use Rattle.contract.specs.Tree.{action_tree}
use Rattle.analysis_values.specs.Known.{Known}
use Rattle.analysis_steps.specs.Earlier.{IsRefused}
use Rattle.analysis_steps.proofs.EarlierLemmas.{ignored_on}
use Rattle.analysis_steps.proofs.earlier.refused.Goals as goal

pub returns-in-None : goal.returns-in-None
returns-in-None c =
    let cases = c.args.cases.now in
    let case = c.case-item.result in
    ignored_on c.args.known.now c.loop-case.left None cases c.loop-case.case-index case (omega arith) c.case-item.is c.loop-case.invariant
    (subst (λ (o : Option Known). IsRefused c.loop-case.left (action_tree case.action) o) c.in-None.is c.in_ok-next.ensures)
