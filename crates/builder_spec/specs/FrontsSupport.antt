-- No reader needs this file: it serves proofs on fronts.
use Rattle.std.specs.Prelude.{◌≡◌, ℕ, ◌<◌, ◌≤◌, Bool, true, false, List, length, take, ◌⊎◌}

-- no shorter beginning passes, and this one does, unless it is all
pub record IsShortest {A : Type 0} (test : List A → Bool) (xs : List A) (n : ℕ) : Type 0 where
  pub within : n ≤ length xs
  pub shorter : (k : ℕ) → k < n → test (take k xs) ≡ false
  pub reached : (test (take n xs) ≡ true) ⊎ (n ≡ length xs)
