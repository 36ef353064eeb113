use Rattle.std.proofs.Common.{◌∙◌, ◌||◌, ℕ, List, sym, ap}
use Rattle.std.specs.List.{slice_get}
use Rattle.std.proofs.lemmas.List.{drop_all}
use Rattle.ledger_spec.specs.Views.{is_key_of}
use Rattle.chain_index.specs.declared.lock_name.LockName.TheVariants.{Address}
use Rattle.chain_index.specs.LocksSupport.{is_named}
use Rattle.chain_index.specs.UnderLocksSupport.{is_shown, passes_at, has_place}
use Rattle.chain_index.proofs.PlaceLemmas.{next_key, no_key_left}
use Rattle.chain_index.proofs.under_locks.key_places.Goals as goal

pub loop-key-preserved : goal.loop-key-preserved
loop-key-preserved c i =
    let old = c.loop-key in
    let es = c.args.outputs.now in
    let gone = c.args.leaving.now.keys in
    let had = has_place old.places.keys i in
    old.invariant i
    ∙ next_key gone es c.args.keys.now old.key-index c.key-item.result i had (has_place c.collect.new.places.keys i) c.loop-key-test.true c.key-item.is
    (c.in_ok-collect.ensures i ∙ ap (λ (k : List ℕ). passes_at (is_shown (is_named (Address k)) gone) es i || had) c.in_ok-try_clone.ensures)

pub returns : goal.returns
returns c i =
    let es = c.args.outputs.now in
    let gone = c.args.leaving.now.keys in
    let left = c.loop-key in
    sym (left.invariant i
    ∙ ap (λ (l : List (List ℕ)). passes_at (is_shown (is_key_of l) gone) es i || has_place left.places.keys i) (drop_all left.key-index c.args.keys.now c.loop-key-test.false)
    ∙ no_key_left gone (slice_get es i) (has_place left.places.keys i))
