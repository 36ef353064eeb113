-- Bounds that are reached can't be sharpened.
use Rattle.std.proofs.Common.{◌≡◌, ℤ, ◌+ℤ◌, ◌≤ℤ◌, subst, arith}
use Rattle.std.proofs.lemmas.Int.{ints}
use Rattle.reached_bounds.specs.Reached.{MostIsNotLower, LeastIsNotHigher, LossIsNotLower}

less : (b p n m : ℤ) → b ≡ p +ℤ n → b ≤ℤ (p +ℤ m) → n ≤ℤ m
less b p n m e h = omega (arith, ints, e, h)

pub most_is_not_lower : MostIsNotLower
most_is_not_lower party token least m n s c ts h p = subst (λ z. z ≤ℤ m) h.1 (p.always ts)

pub least_is_not_higher : LeastIsNotHigher
least_is_not_higher party token most m n s c ts h p = subst (λ z. m ≤ℤ z) h.0.1 (p.once_closed ts h.1)

pub loss_is_not_lower : LossIsNotLower
loss_is_not_lower party token m n s c ts h p = less _ _ n m h.2 (p ts h.1)
