use Rattle.std.proofs.Common.{refl, ap}
use Rattle.std.specs.Prelude.{map, option_map}
use Rattle.contract.specs.Tree.{contract_tree}
use Rattle.marlowe_run.specs.JsonReadNames.declared.fault.JsonFault.TheVariants as json
use Rattle.marlowe_run.specs.JsonReadNames.ReadsText.{of_text_within}
use Rattle.marlowe_run.specs.JsonReadContracts.ReadsContract.{contract}
use Rattle.marlowe_run.specs.MarloweRefusals.Faults.{contract_fault}
use Rattle.marlowe_run.specs.MarloweRefusals.declared.trace_fault.TraceFault.TheVariants as trace
use Rattle.marlowe_next.specs.Question.{reached_from}
use Rattle.marlowe_next.proofs.AnswerLemmas.{reads_on, reads_badly}
use Rattle.marlowe_next.proofs.answer.from_contract.Goals as goal

pub returns-in-Ok : goal.returns-in-Ok
returns-in-Ok c =
    let start = option_map (λ text. text.now) c.args.state in
    let after = map (λ text. text.items) c.args.after.now in
    rw c.beside_dropped.ensures
    (reads_on c.args.asked (λ f. trace.Run (contract_fault f)) (λ given. reached_from c.args.asked (contract_tree given) start after) (of_text_within c.args.asked.readable.depth contract c.args.contract.now) c.in-Ok.whole c.from_state-text.result c.in-Ok.ensures.reading
    c.from_state-text.ensures)

pub returns-in-Err : goal.returns-in-Err
returns-in-Err c =
    let start = option_map (λ text. text.now) c.args.state in
    let after = map (λ text. text.items) c.args.after.now in
    reads_badly c.args.asked json.Memory (λ f. trace.Run (contract_fault f)) (λ given. reached_from c.args.asked (contract_tree given) start after) (of_text_within c.args.asked.readable.depth contract c.args.contract.now) c.in-Err.fault (trace.Run c.of_contract.result) refl
    c.in-Err.ensures.reading (ap trace.Run c.of_contract.ensures)
