use Rattle.std.proofs.Common.{sym}
use Rattle.contract.specs.Tree.{contract_tree}
use Rattle.compiler.proofs.Standing.{standing}
use Rattle.compiler.proofs.compiling.compile.Goals as goal

pub returns-clause-stands : goal.returns-clause-stands
returns-clause-stands c = (standing _ _ (contract_tree c.args.contract.now) c.codes_stand.ensures.stand (sym c.in_default.ensures) c.in_ok-table.ensures).0

pub returns-clause-tree : goal.returns-clause-tree
returns-clause-tree c = (standing _ _ (contract_tree c.args.contract.now) c.codes_stand.ensures.stand (sym c.in_default.ensures) c.in_ok-table.ensures).1
