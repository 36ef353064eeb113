-- A search for the first line feed.
use Rattle.std.proofs.Common.{◌≡◌, ℕ, zero, suc, ◌<◌, List, [], ◌∷◌, length, Bool, true, false, Option, Some, None, refl, sym, arith}
use Rattle.std.specs.Prelude.{◌==◌, option_map, if◌then◌else◌}
use Rattle.memchr.specs.Find.{IsFirstByte, Passes, is_byte}
use Rattle.lines_in.specs.LinesSupport.{first_feed}

none-step : (b : Bool) (rest : Option ℕ) → (b ≡ true → ⊥) → rest ≡ None → (if b then Some 0 else option_map suc rest) ≡ None
none-step true rest not none = absurd (not refl)
none-step false rest not none = rw none refl

first-step : (b : Bool) (rest : Option ℕ) (k : ℕ) → (b ≡ true → ⊥) → rest ≡ Some k → (if b then Some 0 else option_map suc rest) ≡ Some (suc k)
first-step true rest k not is = absurd (not refl)
first-step false rest k not is = rw is refl

nowhere : (bs : List ℕ) → ((k : ℕ) → k < length bs → Passes (is_byte 10) bs k → ⊥) → first_feed bs ≡ None
nowhere [] h = refl
nowhere (b ∷ bs) h = none-step (b == 10) (first_feed bs) (h 0 (omega arith)) (nowhere bs (λ k below. h (suc k) (omega arith)))

first : (bs : List ℕ) (k : ℕ) → k < length bs → ((j : ℕ) → j < k → Passes (is_byte 10) bs j → ⊥) → Passes (is_byte 10) bs k → first_feed bs ≡ Some k
first [] k below before is = absurd (omega arith)
first (b ∷ bs) zero below before is = rw is refl
first (b ∷ bs) (suc k) below before is =
    first-step (b == 10) (first_feed bs) k (before 0 (omega arith)) (first bs k (omega arith) (λ j under. before (suc j) (omega arith)) is)

pub is-first-feed : (bs : List ℕ) (r : Option ℕ) → IsFirstByte (is_byte 10) bs r → r ≡ first_feed bs
is-first-feed bs None h = sym (nowhere bs (λ k below. h k (omega arith) below))
is-first-feed bs (Some k) h = sym (first bs k h.0.high (λ j below. h.0.before j (omega arith) below) h.1)

pub ruleset is_first_feed = is-first-feed
