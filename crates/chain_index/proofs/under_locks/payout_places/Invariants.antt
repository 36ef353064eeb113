use Rattle.std.proofs.Common.{◌≡◌, ◌||◌, ℕ, drop}
use Rattle.ledger_spec.specs.Views.{is_payout_of}
use Rattle.chain_index.specs.UnderLocksSupport.{is_shown, passes_at, has_place}
use Rattle.chain_index.proofs.under_locks.payout_places.Given as goal

abbrev pub invariant-loop-payout : goal.invariant-loop-payout
invariant-loop-payout l =
    (i : ℕ) → passes_at (is_shown (is_payout_of l.payouts) l.leaving.keys) l.outputs i
    ≡ (passes_at (is_shown (is_payout_of (drop l.payout-index l.payouts)) l.leaving.keys) l.outputs i || has_place l.places.keys i)
