use Rattle.std.proofs.Common.{◌≡◌, ◌∙◌, List, map, ap, subst}
use Rattle.parties.specs.Plans.declared.scenario.NamedContract.{NamedContract}
use Rattle.parties.specs.Plans.declared.scenario.NamedThread.{NamedThread}
use Rattle.parties.specs.Plans.declared.scenario.Scenario.{Scenario}
use Rattle.parties.specs.LedgerSpec.Roles.declared.published.Published.{Published}
use Rattle.play_setup.specs.SetUp.{object_of, publishes}
use Rattle.play_setup.specs.SetUpSupport.{WentOn, WereStarted}
use Rattle.play_setup.proofs.SetUpLemmas.{set_up_is}
use Rattle.play_setup.proofs.stage.set_up.Goals as goal

-- what was published, and then what was started
pub returns-clause-threads : goal.returns-clause-threads
returns-clause-threads g c =
    let s : Scenario = c.args.scenario.now in
    let a = c.args.seat.now in
    let b = c.publish_all.new.seat in
    let d = c.start_all.new.seat in
    let objects : List Published = c.in_ok-contracts.contracts.items in
    let outputs = c.in_ok-starts.starts.items in
    let are : objects ≡ map object_of s.contracts = c.in_ok-contracts.ensures.objects ∙ ap (map object_of) c.as_slice.ensures in
    let published = subst (λ (cs : List NamedContract). WentOn a b (map publishes cs)) c.as_slice.ensures c.in_ok-contracts.ensures.seat in
    let threads = subst (λ (ts : List NamedThread). WereStarted c.as_slice-2.result.now ts b d outputs) c.as_slice-threads.ensures c.in_ok-starts.ensures in
    let started = subst (λ (ps : List Published). WereStarted ps s.threads b d outputs) c.as_slice-2.ensures.value threads in
    set_up_is s objects outputs a b d c.requires.first are published started
