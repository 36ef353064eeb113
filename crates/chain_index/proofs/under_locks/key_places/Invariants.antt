use Rattle.std.proofs.Common.{◌≡◌, ◌||◌, ℕ, drop}
use Rattle.ledger_spec.specs.Views.{is_key_of}
use Rattle.chain_index.specs.UnderLocksSupport.{is_shown, passes_at, has_place}
use Rattle.chain_index.proofs.under_locks.key_places.Given as goal

abbrev pub invariant-loop-key : goal.invariant-loop-key
invariant-loop-key l =
    (i : ℕ) → passes_at (is_shown (is_key_of l.keys) l.leaving.keys) l.outputs i
    ≡ (passes_at (is_shown (is_key_of (drop l.key-index l.keys)) l.leaving.keys) l.outputs i || has_place l.places.keys i)
