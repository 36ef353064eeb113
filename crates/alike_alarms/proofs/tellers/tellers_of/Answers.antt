use Rattle.std.proofs.Common.{ℕ, List, ◌+◌, sym, subst, arith}
use Rattle.contract.specs.Tree.{contract_tree}
use Rattle.alike_alarms.specs.AlikeSupport.{AreChosen}
use Rattle.alike_alarms.proofs.TellerLemmas.{chosen_none, chosen_more, all_told}
use Rattle.alike_alarms.proofs.tellers.tellers_of.Goals as goal

pub loop-index-init : goal.loop-index-init
loop-index-init c =
    let tree = contract_tree c.args.contract.now in
    subst (λ (ts : List ℕ). AreChosen tree c.args.seen.now c.args.guesses.now ts 0) (sym c.new-tellers.ensures.items) (chosen_none tree c.args.seen.now c.args.guesses.now)

pub loop-index-preserved : goal.loop-index-preserved
loop-index-preserved c =
    let tree = contract_tree c.args.contract.now in
    subst (λ (ts : List ℕ). AreChosen tree c.args.seen.now c.args.guesses.now ts (c.loop-index.index + 1)) (sym c.in_ok-push.ensures.items)
    (chosen_more tree c.args.seen.now c.args.guesses.now c.loop-index.tellers.items c.loop-index.index c.teller_of.result c.loop-index.invariant c.teller_of.ensures)

pub returns : goal.returns
returns c =
    all_told (contract_tree c.args.contract.now) c.args.seen.now c.args.guesses.now c.loop-index.tellers.items c.loop-index.index (omega (arith, c.loop-index-test.false)) (omega (arith, c.loop-index-test.false)) c.loop-index.invariant
