-- No reader needs this file: it serves the proofs of this crate.
-- The spot behind one byte more.
use Rattle.std.specs.Prelude.{ℕ, suc, ◌==◌, if◌then◌else◌}
use Rattle.text_spots.specs.declared.spots.Spot.{Spot}
use Rattle.text_spots.specs.Spots.{begins_scalar}

abbrev pub next_spot : Spot → ℕ → Spot
next_spot spot b =
    if b == 10 then record { line = suc spot.line; column = 1 }
    else (if begins_scalar b then record { line = spot.line; column = suc spot.column } else spot)
