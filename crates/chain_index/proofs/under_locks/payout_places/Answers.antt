use Rattle.std.proofs.Common.{◌∙◌, ◌||◌, List, sym, ap}
use Rattle.std.specs.List.{slice_get}
use Rattle.std.proofs.lemmas.List.{drop_all}
use Rattle.ledger_spec.specs.Ledger.declared.ask.PayoutLock.{PayoutLock}
use Rattle.ledger_spec.specs.Views.{is_payout_of}
use Rattle.chain_index.specs.declared.lock_name.LockName.TheVariants.{Role}
use Rattle.chain_index.specs.LocksSupport.{is_named}
use Rattle.chain_index.specs.UnderLocksSupport.{is_shown, passes_at, has_place}
use Rattle.chain_index.proofs.PlaceLemmas.{next_payout, no_payout_left}
use Rattle.chain_index.proofs.under_locks.payout_places.Goals as goal

pub loop-payout-preserved : goal.loop-payout-preserved
loop-payout-preserved c i =
    let old = c.loop-payout in
    let es = c.args.outputs.now in
    let gone = c.args.leaving.now.keys in
    let had = has_place old.places.keys i in
    old.invariant i
    ∙ next_payout gone es c.args.payouts.now old.payout-index c.payout-item.result i had (has_place c.collect.new.places.keys i) c.loop-payout-test.true c.payout-item.is
    (c.in_ok-collect.ensures i ∙ (λ j. passes_at (is_shown (is_named (Role (c.in_ok-currency.ensures j) (c.in_ok-role.ensures j))) gone) es i || had))

pub returns : goal.returns
returns c i =
    let es = c.args.outputs.now in
    let gone = c.args.leaving.now.keys in
    let left = c.loop-payout in
    sym (left.invariant i
    ∙ ap (λ (l : List (PayoutLock)). passes_at (is_shown (is_payout_of l) gone) es i || has_place left.places.keys i) (drop_all left.payout-index c.args.payouts.now c.loop-payout-test.false)
    ∙ no_payout_left gone (slice_get es i) (has_place left.places.keys i))
