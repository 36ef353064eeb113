-- A bound behind others.
use Rattle.std.proofs.Common.{◌≡◌, ℤ, pos, ◌+ℤ◌, Bool, true, false, cond, List, [], ◌∷◌, ◌++◌, refl, ap}
use Rattle.std.specs.Ordering.{int_eq}
use Rattle.contract.specs.Names.declared.bound.Bound.{Bound}
use Rattle.next_inputs.specs.Claiming.{put}

-- with the last, where they touch
pub put_touch : (xs : List Bound) (b : Bound) (f t : ℤ) → int_eq (b.to +ℤ pos 1) f ≡ true → put (xs ++ b ∷ []) f t ≡ xs ++ record { from = b.from; to = t } ∷ []
put_touch [] b f t h = ap (λ z. cond z (record { from = b.from; to = t } ∷ []) (b ∷ record { from = f; to = t } ∷ [])) h
put_touch (x ∷ []) b f t h = ap (λ z. x ∷ cond z (record { from = b.from; to = t } ∷ []) (b ∷ record { from = f; to = t } ∷ [])) h
put_touch (x ∷ y ∷ xs) b f t h = ap (λ z. x ∷ z) (put_touch (y ∷ xs) b f t h)

-- and else by itself
pub put_gap : (xs : List Bound) (b : Bound) (f t : ℤ) → int_eq (b.to +ℤ pos 1) f ≡ false → put (xs ++ b ∷ []) f t ≡ (xs ++ b ∷ []) ++ record { from = f; to = t } ∷ []
put_gap [] b f t h = ap (λ z. cond z (record { from = b.from; to = t } ∷ []) (b ∷ record { from = f; to = t } ∷ [])) h
put_gap (x ∷ []) b f t h = ap (λ z. x ∷ cond z (record { from = b.from; to = t } ∷ []) (b ∷ record { from = f; to = t } ∷ [])) h
put_gap (x ∷ y ∷ xs) b f t h = ap (λ z. x ∷ z) (put_gap (y ∷ xs) b f t h)
