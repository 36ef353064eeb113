use Rattle.contract.specs.Tree.{contract_tree}
use Rattle.json_write_outcomes.specs.WrittenOutcome.{outcome_json}
use Rattle.contract_json.proofs.Returned.{state-text}
use Rattle.contract_json.proofs.texts.write_outcome.Goals as goal

pub returns-clause-reads_back : goal.returns-clause-reads_back
returns-clause-reads_back c = λ short shallow.
    let done = c.in_ok-text.ensures in
    let o = c.args.outcome.now in
    state-text c.in_ok-text.text.items (outcome_json o.warnings o.payments o.state (contract_tree o.place.now)) o.state done.utf8 (done.reads shallow) c.state_is_read_back.ensures short
