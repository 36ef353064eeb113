use Rattle.std.proofs.Common.{ap, ◌∙◌, sym, subst, pos, ◌≤ℤ◌, ◌⊎◌, rules, SFits}
use Rattle.std.specs.Int.{w128}
use Rattle.std.proofs.lemmas.Int.{to_z-of_z}
use Rattle.loss_walk.specs.Floors.{IsFloor, least_of}
use Rattle.loss_walk.proofs.KeptLemmas.{owner_apart, owner_same, floor_for, least_for, turned_floor, tells_other, tells_own}
use Rattle.loss_walk.proofs.keeping.put_own.Goals as goal

pub returns-then-not-is_party : goal.returns-then-not-is_party
returns-then-not-is_party c =
    tells_other c.args.party.now c.args.asked.now c.args.paid.now c.args.net.now c.args.account.now c.args.all.now (owner_apart c.args.account.now.owner c.args.party.now c.is_party.result c.is_party.ensures c.if-not-is_party.true)

pub returns : goal.returns
returns c =
    let asked = c.args.asked.now in
    let x = c.args.account.now in
    let least = least_for asked c.args.paid.now x c.least_for-least.result c.least_of.result (c.least_of.ensures ∙ ap least_of c.get.ensures.value) c.least_for-least.ensures in
    let fits : SFits w128 c.least_for-least.result = search rules in
    let told = subst (λ n. (n ≤ℤ pos 0) ⊎ IsFloor asked c.args.paid.now x n) (sym (to_z-of_z w128 c.least_for-least.result fits)) least in
    let floor = floor_for asked c.args.net.now x c.floor_for-floor.result c.least_of-2.result (c.least_of-2.ensures ∙ ap least_of c.get-2.ensures.value) c.floor_for-floor.ensures in
    tells_own c.args.party.now asked c.args.paid.now c.args.net.now x _ c.args.all.now c.push.new.self c.in_ok-push.ensures.added c.in_ok-try_clone.ensures
    (owner_same x.owner c.args.party.now c.is_party.result c.is_party.ensures c.if-not-is_party.false) told
    (turned_floor asked c.args.net.now x c.floor_for-floor.result c.turned-most.result floor c.turned-most.ensures)
