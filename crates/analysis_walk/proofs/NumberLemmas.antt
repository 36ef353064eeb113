-- Times.
use Rattle.std.proofs.Common.{◌≡◌, ℤ, ◌≤ℤ◌, ◌<ℤ◌, int_lt, int_le, Bool, true, false, cond, refl, arith}
use Rattle.std.proofs.lemmas.Int.{ints}
use Rattle.std.specs.Int.{int_max}

pub true_lt : (a b : ℤ) → int_lt a b ≡ true → a <ℤ b
true_lt a b h = grind (arith, ints)

pub false_lt : (a b : ℤ) → int_lt a b ≡ false → b ≤ℤ a
false_lt a b h = grind (arith, ints)

pub true_le : (a b : ℤ) → int_le a b ≡ true → a ≤ℤ b
true_le a b h = grind (arith, ints)

pub reaches : (a b c : ℤ) → a ≤ℤ b → b ≤ℤ c → a ≤ℤ c
reaches a b c h k = omega (arith, ints)

pub le_itself : (a : ℤ) → a ≤ℤ a
le_itself a = omega (arith, ints)

before : (a b : ℤ) → b <ℤ a → b ≤ℤ a
before a b h = omega (arith, ints)

pub max_within : (a b c : ℤ) → a ≤ℤ c → b ≤ℤ c → int_max a b ≤ℤ c
max_within a b c h k = by_test (int_lt b a)
  where
    by_test : (t : Bool) → cond t a b ≤ℤ c
    by_test true = h
    by_test false = k

pub max_after : (a b : ℤ) → b ≤ℤ int_max a b
max_after a b = by_test (int_lt b a) refl
  where
    by_test : (t : Bool) → int_lt b a ≡ t → b ≤ℤ cond t a b
    by_test true h = before a b (true_lt b a h)
    by_test false h = le_itself b

pub max_from : (a b : ℤ) → a ≤ℤ int_max a b
max_from a b = by_test (int_lt b a) refl
  where
    by_test : (t : Bool) → int_lt b a ≡ t → a ≤ℤ cond t a b
    by_test true h = le_itself a
    by_test false h = false_lt b a h
