use Rattle.std.proofs.Common.{ℕ, List}
use Rattle.contract.specs.Tree.{contract_tree}
use Rattle.contract.specs.declared.tree.Contract.{Contract}
use Rattle.explanations.specs.JsonReadNames.ReadsText.{of_text_within}
use Rattle.marlowe_explain.specs.JsonReadContracts.ReadsContract.{contract}
use Rattle.marlowe_explain.specs.MarloweRefusals.TableFaults.{table_contract_fault}
use Rattle.marlowe_explain.specs.MarloweRun.TableText.{printed_table, table_text_within}
use Rattle.refusal_reasons.specs.Reasons as reasons
use Rattle.refusal_reasons.proofs.ReasonedLemmas.{look_read, look_told, reasoned_by, reasoned_here}
use Rattle.refusal_reasons.proofs.reasoned.table_reasoned.Goals as goal

pub returns-in-Read : goal.returns-in-Read
unfolding table_text_within
returns-in-Read c =
    let w = c.args.spelling in
    let depth = c.args.depth in
    let is = look_read (of_text_within depth contract c.args.contract.text.now) (λ (written : List ℕ). reasons.TellsContract depth w c.args.contract written) c.in_ok-whole.field-0 c.in-Read.whole c.in-Read.is c.in_ok-whole.ensures in
    reasoned_by (of_text_within depth contract c.args.contract.text.now) table_contract_fault (λ (given : Contract). printed_table (contract_tree given)) (λ (written : List ℕ). reasons.TellsContract depth w c.args.contract written) (λ (whole : Contract) (written : List ℕ). reasons.TellsTable w (contract_tree whole) written)
    c.in-Read.whole c.table_on-reasoned.result c.beside_dropped.result is c.table_on-reasoned.ensures c.beside_dropped.ensures

pub returns-in-Told : goal.returns-in-Told
unfolding table_text_within
returns-in-Told c =
    let w = c.args.spelling in
    let depth = c.args.depth in
    let it = look_told (of_text_within depth contract c.args.contract.text.now) (λ (written : List ℕ). reasons.TellsContract depth w c.args.contract written) c.in_ok-whole.field-0 c.in-Told.fault c.in-Told.written c.in-Told.is c.in_ok-whole.ensures in
    reasoned_here (of_text_within depth contract c.args.contract.text.now) table_contract_fault (λ (given : Contract). printed_table (contract_tree given)) (λ (written : List ℕ). reasons.TellsContract depth w c.args.contract written) (λ (whole : Contract) (written : List ℕ). reasons.TellsTable w (contract_tree whole) written)
    c.in-Told.fault c.of_contract.result c.in-Told.written c.if_written.result c.of_contract.ensures it.0 it.1 c.if_written.ensures
