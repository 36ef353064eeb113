use Rattle.std.proofs.Common.{rules, ◌≡◌, ℕ, ◌<◌, List, length, take, get_or}
use Rattle.std.proofs.lemmas.List.{take_more}
use Rattle.parties.specs.Plans.declared.scenario.NamedContract.{NamedContract}
use Rattle.play_setup.specs.SetUp.{object_of, publishes}
use Rattle.play_setup.proofs.SetUpLemmas.{one_more, went_on_next}
use Rattle.play_setup.proofs.publishing.publish_all.Goals as goal

-- one contract more
pub loop-contract-preserved : goal.loop-contract-preserved
loop-contract-preserved g c =
    let all : List NamedContract = c.args.contracts.now in
    let i : ℕ = c.loop-contract.contract-index in
    let named : NamedContract = c.contract-item.result in
    let here : i < length all = c.loop-contract-test.true in
    let item : get_or all i named ≡ named = search rules in
    rw (take_more all i named here, item) (
      one_more object_of (take i all) named c.loop-contract.published.items c.push.new.self.items c.in_ok-publish_one.field-0 c.loop-contract.invariant.0 c.in_ok-push.ensures.items c.in_ok-publish_one.ensures.object,
      went_on_next publishes (take i all) named c.args.seat.now c.loop-contract.seat c.publish_one.new.seat c.loop-contract.invariant.1 c.in_ok-publish_one.ensures.seat,
    )
