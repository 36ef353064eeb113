use Rattle.std.specs.Option.{option_map}
use Rattle.marlowe_analyse.proofs.ReadLemmas.{all_told_so, is_clear_so, read_as_started, not_read}
use Rattle.marlowe_analyse.proofs.analysed.analyse_text.Goals as goal

pub returns-in-Ok : goal.returns-in-Ok
returns-in-Ok c =
    let text = c.args.contract.now in
    let start = option_map (λ t. t.now) c.args.state in
    let given = c.in-Ok.given in
    let is = c.in-Ok.ensures.reading in
    let r = c.analysed_from-told.result in
    rw c.beside_dropped.ensures (record {
      told = all_told_so c.args.telling c.args.party.now c.args.readable text start given is r c.analysed_from-told.ensures.told;
      clear = is_clear_so c.args.telling c.args.party.now c.args.readable text start given is r c.analysed_from-told.ensures.told;
      read = read_as_started c.args.readable text start given r is c.analysed_from-told.ensures.read;
    })

pub returns-in-Err-clause-read : goal.returns-in-Err-clause-read
returns-in-Err-clause-read c = not_read c.args.readable c.args.contract.now (option_map (λ t. t.now) c.args.state) c.in-Err.fault c.of_contract.result c.in-Err.ensures.reading c.of_contract.ensures
