use Rattle.contract.specs.Tree.{contract_tree}
use Rattle.roles.proofs.PublicationsLemmas.{is_table_of}
use Rattle.roles.proofs.publishing.publish.Goals as goal

pub returns-clause-table : goal.returns-clause-table
returns-clause-table c =
    is_table_of c.published_are_tables.ensures c.compile.result (contract_tree c.args.contract.now) c.args.currency c.in_ok-id.id c.in_ok-table.table c.in_ok-table.root c.compile.ensures.fault c.in_ok-table.was c.in_ok-table.ensures.code
