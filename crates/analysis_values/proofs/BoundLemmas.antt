-- Bounds of numbers, by which nothing of symbols is asked.
use Rattle.std.proofs.Common.{◌≡◌, ℤ, pos, ◌+ℤ◌, ◌≤ℤ◌, List, [], ap, arith, Some}
use Rattle.std.proofs.lemmas.Int.{ints}
use Rattle.linear.specs.Linear.{Linear, Range, sum_at, number_at}
use Rattle.linear.specs.Bounded.{IsUpToAll}

no_more : (c t n : ℤ) → t ≡ pos 0 → n ≡ c → (c +ℤ t) ≤ℤ n
no_more c t n e f = omega (arith, ints, e, f)

pub number_up_to : (es : List Range) (fs : List Linear) (l : Linear) (n : ℤ) → l.terms ≡ [] → n ≡ l.constant → IsUpToAll es fs (λ r. number_at r l) (Some n)
number_up_to es fs l n none is r x y = no_more l.constant (sum_at r l.terms) n (ap (sum_at r) none) is
