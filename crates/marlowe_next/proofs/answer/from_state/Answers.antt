use Rattle.std.proofs.Common.{refl, ap}
use Rattle.std.specs.Prelude.{map, option_map}
use Rattle.contract.specs.Tree.{contract_tree}
use Rattle.marlowe_run.specs.JsonReadNames.declared.fault.JsonFault.TheVariants as json
use Rattle.marlowe_run.specs.MarloweRefusals.Faults.{state_fault}
use Rattle.marlowe_run.specs.MarloweRefusals.declared.trace_fault.TraceFault.TheVariants as trace
use Rattle.marlowe_run.specs.Start.{start_of}
use Rattle.marlowe_next.specs.Question.{reached_with}
use Rattle.marlowe_next.proofs.AnswerLemmas.{reads_on, reads_badly}
use Rattle.marlowe_next.proofs.answer.from_state.Goals as goal

pub returns-in-Ok : goal.returns-in-Ok
returns-in-Ok c =
    let start = option_map (λ text. text.now) c.args.state in
    let after = map (λ text. text.items) c.args.after.now in
    rw c.beside_dropped.ensures
    (reads_on c.args.asked (λ f. trace.Run (state_fault f)) (λ s. reached_with (contract_tree c.args.whole.now) s after) (start_of c.args.asked.readable.text_numbers start) c.in-Ok.start c.from_texts-text.result c.in-Ok.ensures.reading c.from_texts-text.ensures)

pub returns-in-Err : goal.returns-in-Err
returns-in-Err c =
    let start = option_map (λ text. text.now) c.args.state in
    let after = map (λ text. text.items) c.args.after.now in
    reads_badly c.args.asked json.Memory (λ f. trace.Run (state_fault f)) (λ s. reached_with (contract_tree c.args.whole.now) s after) (start_of c.args.asked.readable.text_numbers start) c.in-Err.fault (trace.Run c.of_state.result) refl c.in-Err.ensures.reading
    (ap trace.Run c.of_state.ensures)
