use Rattle.contract_json.proofs.Returned.{contract-text}
use Rattle.contract_json.proofs.texts.write_contract.Goals as goal

pub returns-clause-reads_back : goal.returns-clause-reads_back
returns-clause-reads_back c = λ short shallow.
    let done = c.in_ok-text.ensures in
    contract-text c.in_ok-text.text.items c.args.contract.now done.utf8 (done.reads shallow) done.reads_back short
