-- The numbers that JSON has.
use Rattle.std.proofs.Common.{◌≡◌, ℤ, pos, negsuc, ◌≤ℤ◌, ◌^◌, ◌-◌, Bool, arith}
use Rattle.std.proofs.lemmas.Int.{ints}
use Rattle.std.specs.Prelude.{◌↔◌, IsTrue}
use Rattle.std.proofs.lemmas.Bool.{ltb_from_iff}
use Rattle.marlowe_run.specs.JsonWriteContracts.WrittenNames.{number_fits}

pub fits_so : (n : ℤ) (b : Bool) → (IsTrue b ↔ ((negsuc (2 ^ 63 - 1) ≤ℤ n) × (n ≤ℤ pos (2 ^ 64 - 1)))) → b ≡ number_fits n
fits_so (pos n) b h = ltb_from_iff (λ t. let p = h.0 t in omega (arith, ints, p.1), λ l. h.1 (omega (arith, ints), omega (arith, ints, l)))
fits_so (negsuc n) b h = ltb_from_iff (λ t. let p = h.0 t in omega (arith, ints, p.0), λ l. h.1 (omega (arith, ints, l), omega (arith, ints)))
