use Rattle.std.proofs.Common.{ℕ, List, Some}
use Rattle.contract.specs.Tree.{contract_tree}
use Rattle.contract.specs.declared.tree.Contract.{Contract}
use Rattle.explanations.specs.JsonReadNames.ReadsText.{of_text_within}
use Rattle.marlowe_explain.specs.JsonReadContracts.ReadsContract.{contract}
use Rattle.marlowe_explain.specs.MarloweRefusals.Faults.{contract_fault}
use Rattle.marlowe_explain.specs.MarloweRun.Run.{run_from, run_within}
use Rattle.marlowe_explain.specs.MarloweRun.Start.{state_reading}
use Rattle.refusal_reasons.specs.declared.source.Behind.TheVariants as behind
use Rattle.refusal_reasons.specs.Reasons as reasons
use Rattle.refusal_reasons.proofs.ReasonedLemmas.{look_read, look_told, reasoned_by, reasoned_here}
use Rattle.refusal_reasons.proofs.reasoned.run_reasoned.Goals as goal

pub returns-in-Read : goal.returns-in-Read
unfolding run_within
returns-in-Read c =
    let s = c.args.state in
    let t = c.args.transaction in
    let w = c.args.spelling in
    let depth = c.args.readable.depth in
    let texts = c.args.readable.text_numbers in
    let is = look_read (of_text_within depth contract c.args.contract.text.now) (λ (written : List ℕ). reasons.TellsContract depth w c.args.contract written) c.in_ok-whole.field-0 c.in-Read.whole c.in-Read.is c.in_ok-whole.ensures in
    reasoned_by (of_text_within depth contract c.args.contract.text.now) contract_fault (λ (given : Contract). run_from (state_reading texts) (contract_tree given) s.text.now t.text.now) (λ (written : List ℕ). reasons.TellsContract depth w c.args.contract written) (λ (whole : Contract) (written : List ℕ). reasons.TellsFrom w (Some s) texts (behind.One t) (contract_tree whole) written)
    c.in-Read.whole c.from_state-reasoned.result c.beside_dropped.result is c.from_state-reasoned.ensures c.beside_dropped.ensures

pub returns-in-Told : goal.returns-in-Told
unfolding run_within
returns-in-Told c =
    let s = c.args.state in
    let t = c.args.transaction in
    let w = c.args.spelling in
    let depth = c.args.readable.depth in
    let texts = c.args.readable.text_numbers in
    let it = look_told (of_text_within depth contract c.args.contract.text.now) (λ (written : List ℕ). reasons.TellsContract depth w c.args.contract written) c.in_ok-whole.field-0 c.in-Told.fault c.in-Told.written c.in-Told.is c.in_ok-whole.ensures in
    reasoned_here (of_text_within depth contract c.args.contract.text.now) contract_fault (λ (given : Contract). run_from (state_reading texts) (contract_tree given) s.text.now t.text.now) (λ (written : List ℕ). reasons.TellsContract depth w c.args.contract written) (λ (whole : Contract) (written : List ℕ). reasons.TellsFrom w (Some s) texts (behind.One t) (contract_tree whole) written)
    c.in-Told.fault c.of_contract.result c.in-Told.written c.if_written.result c.of_contract.ensures it.0 it.1 c.if_written.ensures
