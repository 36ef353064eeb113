use Rattle.std.proofs.Common.{ℕ, List, Some}
use Rattle.contract.specs.Collections.Answers.{◌>>=◌}
use Rattle.contract.specs.Tree.{contract_tree}
use Rattle.marlowe_explain.specs.Semantics.Walk.{standing}
use Rattle.explanations.specs.JsonReadNames.ReadsText.{of_text}
use Rattle.marlowe_explain.specs.JsonReadInputs.ReadsInput.{transaction}
use Rattle.marlowe_explain.specs.MarloweRefusals.Faults.{state_fault, transaction_fault, read_as}
use Rattle.marlowe_explain.specs.MarloweRun.Run.{run_from, transaction_text}
use Rattle.marlowe_explain.specs.MarloweRun.Start.{state_reading}
use Rattle.refusal_reasons.specs.declared.source.Behind.TheVariants as behind
use Rattle.refusal_reasons.specs.Reasons as reasons
use Rattle.refusal_reasons.proofs.ReasonedLemmas.{look_read, look_told, reasoned_by, reasoned_here}
use Rattle.refusal_reasons.proofs.reasoned.from_state.Goals as goal

pub returns-in-Read : goal.returns-in-Read
unfolding run_from
returns-in-Read c =
    let s = c.args.state in
    let t = c.args.transaction in
    let w = c.args.spelling in
    let texts = c.args.texts in
    let whole = contract_tree c.args.whole.now in
    let is = look_read (of_text (state_reading texts) s.text.now) (λ (written : List ℕ). reasons.TellsState w (Some s) texts written) c.in_ok-start.field-0 c.in-Read.start c.in-Read.is c.in_ok-start.ensures in
    reasoned_by (of_text (state_reading texts) s.text.now) state_fault (λ start. read_as transaction_fault (of_text transaction t.text.now) >>= λ tx. transaction_text start whole tx) (λ (written : List ℕ). reasons.TellsState w (Some s) texts written) (λ start (written : List ℕ). reasons.TellsNext w (standing start whole) (behind.One t) written)
    c.in-Read.start c.from_start-reasoned.result c.beside_dropped.result is c.from_start-reasoned.ensures c.beside_dropped.ensures

pub returns-in-Told : goal.returns-in-Told
unfolding run_from
returns-in-Told c =
    let s = c.args.state in
    let t = c.args.transaction in
    let w = c.args.spelling in
    let texts = c.args.texts in
    let whole = contract_tree c.args.whole.now in
    let it = look_told (of_text (state_reading texts) s.text.now) (λ (written : List ℕ). reasons.TellsState w (Some s) texts written) c.in_ok-start.field-0 c.in-Told.fault c.in-Told.written c.in-Told.is c.in_ok-start.ensures in
    reasoned_here (of_text (state_reading texts) s.text.now) state_fault (λ start. read_as transaction_fault (of_text transaction t.text.now) >>= λ tx. transaction_text start whole tx) (λ (written : List ℕ). reasons.TellsState w (Some s) texts written) (λ start (written : List ℕ). reasons.TellsNext w (standing start whole) (behind.One t) written)
    c.in-Told.fault c.of_state.result c.in-Told.written c.if_written.result c.of_state.ensures it.0 it.1 c.if_written.ensures
