use Rattle.std.proofs.Common.{Bool, ◌∙◌, subst}
use Rattle.std.specs.Option.{option_map}
use Rattle.std.specs.Prelude.{is_some}
use Rattle.contract.specs.Tree.{contract_tree}
use Rattle.marlowe_run.specs.Start.{start_of}
use Rattle.marlowe_analyse.specs.Keeping.{TellsFor}
use Rattle.marlowe_analyse.proofs.ReadLemmas.{tells_from, started, not_started, some_seen}
use Rattle.marlowe_analyse.proofs.analysed.analysed_from.Goals as goal

pub returns-in_ok-told-in-Ok : goal.returns-in_ok-told-in-Ok
returns-in_ok-told-in-Ok c =
    let text = option_map (λ t. t.now) c.args.state in
    let start = start_of c.args.texts text in
    let tree = contract_tree c.args.contract.now in
    let party = c.args.party.now in
    let told = c.in_ok-told-in-Ok.told in
    let h = rw (← c.in_ok-told-in-Ok.ensures) at c.analysis_for-text.ensures in
    let given = c.is_some-given.ensures ∙ some_seen (λ t. t.now) c.args.state in
    let g = subst (λ (b : Bool). TellsFor c.args.telling party b c.in-Ok.first tree told.is_clear told.has_unreached told.text.items) given h in
    record {
      told = tells_from c.args.telling party (is_some text) tree start c.in-Ok.first told.is_clear told.has_unreached told.text.items c.in-Ok.ensures.reading g;
      read = started start c.in-Ok.first c.in-Ok.ensures.reading;
    }

pub returns-in-Err-clause-read : goal.returns-in-Err-clause-read
returns-in-Err-clause-read c = not_started (start_of c.args.texts (option_map (λ t. t.now) c.args.state)) c.in-Err.fault c.of_state.result c.in-Err.ensures.reading c.of_state.ensures
