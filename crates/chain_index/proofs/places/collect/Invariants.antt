use Rattle.std.proofs.Common.{◌≡◌, ◌||◌, ◌&&◌, ℕ, drop}
use Rattle.chain_index.specs.Contents.{is_among}
use Rattle.chain_index.specs.LocksSupport.{is_named}
use Rattle.chain_index.specs.UnderLocksSupport.{is_shown, passes_at, has_place}
use Rattle.chain_index.proofs.places.collect.Given as goal

abbrev pub invariant-loop-reference : goal.invariant-loop-reference
invariant-loop-reference l =
    (i : ℕ) → (passes_at (λ e. is_among l.references e.0 && is_shown (is_named l.name) l.leaving.keys e) l.slots.entries i || has_place l.fn.places.keys i)
    ≡ (passes_at (λ e. is_among (drop l.reference-index l.references) e.0 && is_shown (is_named l.name) l.leaving.keys e) l.slots.entries i || has_place l.places.keys i)
