use Rattle.std.proofs.Common.{arith, inl}
use Rattle.contract.specs.Tree.{contract_tree}
use Rattle.explain_tables.proofs.RefusedLemmas.{no_fault}
use Rattle.explain_tables.proofs.finding.too_many.Goals as goal

pub returns-else-count-gt-MOST_OTHERS : goal.returns-else-count-gt-MOST_OTHERS
returns-else-count-gt-MOST_OTHERS c =
    inl (no_fault (contract_tree c.args.contract.now) c.requires (omega (arith, c.in_ok-count.ensures, c.if-count-gt-MOST_CONTINUATIONS.false)) (omega (arith, c.in_ok-count-2.ensures, c.if-count-gt-MOST_OTHERS.false)))
