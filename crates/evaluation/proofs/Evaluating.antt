-- Evaluation that stops at the first number outside 128 bits answers where all visited numbers fit.
use Rattle.std.proofs.Common.{◌≡◌, ℤ, ◌+ℤ◌, ◌-ℤ◌, ◌*ℤ◌, neg_ℤ, int_le, int_lt, Bool, true, false, cond, not, ◌&&◌, ◌||◌, List, [], ◌∷◌, ◌++◌, refl, ◌∙◌, Result, Ok, Err}
use Rattle.std.specs.Ordering.{int_eq}
use Rattle.contract.specs.declared.fault.SemFault.{SemFault}
use Rattle.contract.specs.declared.fault.SemFault.TheVariants.{Leaves128}
use Rattle.contract.specs.declared.interval.Interval.{Interval}
use Rattle.contract.specs.States.States.{StateMaps, money_of}
use Rattle.contract.specs.Tree.{ValueTree, available_money, constant, neg_value, add_value, sub_value, mul_value, div_value, choice_value, time_interval_start, time_interval_end, use_value, cond_value}
use Rattle.contract.specs.Tree.{ObservationTree, and_obs, or_obs, not_obs, chose_something, value_ge, value_gt, value_lt, value_le, value_eq, true_obs, false_obs}
use Rattle.evaluation.specs.Numbers.{fits, all_fit, within}
use Rattle.evaluation.specs.Evaluation.{quotient, chosen, bound_to, eval, holds, visited, looked}
use Rattle.contract.specs.Collections.Answers.{◌>>=◌}
use Rattle.evaluation.specs.Checked.{checked, both, eval128, holds128}
use Rattle.evaluation.proofs.Numbers.{all_fit_append}

and_true : (b : Bool) → b && true ≡ b
and_true true = refl
and_true false = refl

then_cond : {A B : Type 0} (b c : Bool) (x : A) (y : B) (k : A → Result B SemFault) → k x ≡ cond c (Ok y) (Err Leaves128) → (cond b (Ok x) (Err Leaves128) >>= k) ≡ cond (b && c) (Ok y) (Err Leaves128)
then_cond true c x y k h = h
then_cond false c x y k h = refl

map_cond : {A B : Type 0} (b : Bool) (x : A) (f : A → B) → (cond b (Ok x) (Err Leaves128) >>= (λ t. Ok (f t))) ≡ cond b (Ok (f x)) (Err Leaves128)
map_cond true x f = refl
map_cond false x f = refl

-- one step after another: their numbers one after another
then_within : {A B : Type 0} (xs ys : List ℤ) (x : A) (y : B) (r : Result A SemFault) (k : A → Result B SemFault) →
    r ≡ within xs x → k x ≡ within ys y → (r >>= k) ≡ within (xs ++ ys) y
then_within xs ys x y r k e h = rw (e, all_fit_append xs ys) (then_cond (all_fit xs) (all_fit ys) x y k h)

checked_within : (n : ℤ) → checked n ≡ within (n ∷ []) n
unfolding checked
checked_within n = rw (and_true (fits n))

-- what only reads a number or a truth visits no further number
map_within : {A B : Type 0} (xs : List ℤ) (x : A) (r : Result A SemFault) (f : A → B) → r ≡ within xs x → (r >>= (λ t. Ok (f t))) ≡ within xs (f x)
map_within xs x r f e = rw e (map_cond (all_fit xs) x f)

-- two operands one after another
both_then : {A B C : Type 0} (r : Result A SemFault) (q : Result B SemFault) (k : A × B → Result C SemFault) → (both r q >>= k) ≡ (r >>= (λ a. q >>= (λ b. k (a, b))))
both_then (Ok x) (Ok y) k = refl
both_then (Ok x) (Err e) k = refl
both_then (Err e) q k = refl

-- two operands, and a number made of them
both_within : (xs ys : List ℤ) (x y : ℤ) (r q : Result ℤ SemFault) (f : ℤ → ℤ → ℤ) → r ≡ within xs x → q ≡ within ys y →
    (both r q >>= (λ p. checked (f p.0 p.1))) ≡ within (xs ++ (ys ++ f x y ∷ [])) (f x y)
both_within xs ys x y r q f h k = both_then r q (λ p. checked (f p.0 p.1)) ∙ then_within xs _ x _ r _ h (then_within ys _ y _ q _ k (checked_within (f x y)))

-- two operands, and a test of them
test_within : (xs ys : List ℤ) (x y : ℤ) (r q : Result ℤ SemFault) (f : ℤ → ℤ → Bool) → r ≡ within xs x → q ≡ within ys y →
    (both r q >>= (λ p. Ok (f p.0 p.1))) ≡ within (xs ++ ys) (f x y)
test_within xs ys x y r q f h k = both_then r q (λ p. Ok (f p.0 p.1)) ∙ then_within xs ys x _ r _ h (map_within ys y q (f x) k)

-- the taken branch alone
branch_within : {A : Type 0} (t : Bool) (xs ys : List ℤ) (x y : A) (r q : Result A SemFault) → r ≡ within xs x → q ≡ within ys y → cond t r q ≡ within (cond t xs ys) (cond t x y)
branch_within true xs ys x y r q h k = h
branch_within false xs ys x y r q h k = k

and_within : (t u : Bool) (ys : List ℤ) (r : Result Bool SemFault) → r ≡ within ys u → cond t r (Ok false) ≡ within (cond t ys []) (t && u)
and_within true u ys r h = h
and_within false u ys r h = refl

or_within : (t u : Bool) (ys : List ℤ) (r : Result Bool SemFault) → r ≡ within ys u → cond t (Ok true) r ≡ within (cond t [] ys) (t || u)
or_within true u ys r h = refl
or_within false u ys r h = h

mutual
  pub eval128_is : (i : Interval) (s : StateMaps) (v : ValueTree) → eval128 i s v ≡ within (visited i s v) (eval i s v)
  eval128_is i s (available_money p t) = checked_within (money_of s (record { owner = p; token = t }))
  eval128_is i s (constant n) = checked_within n
  eval128_is i s (neg_value v) = then_within _ _ _ _ _ _ (eval128_is i s v) (checked_within (neg_ℤ (eval i s v)))
  eval128_is i s (add_value v w) = both_within _ _ _ _ _ _ (λ x y. x +ℤ y) (eval128_is i s v) (eval128_is i s w)
  eval128_is i s (sub_value v w) = both_within _ _ _ _ _ _ (λ x y. x -ℤ y) (eval128_is i s v) (eval128_is i s w)
  eval128_is i s (mul_value v w) = both_within _ _ _ _ _ _ (λ x y. x *ℤ y) (eval128_is i s v) (eval128_is i s w)
  eval128_is i s (div_value v w) = both_within _ _ _ _ _ _ quotient (eval128_is i s v) (eval128_is i s w)
  eval128_is i s (choice_value id) = checked_within (chosen s id)
  eval128_is i s time_interval_start = checked_within i.from
  eval128_is i s time_interval_end = checked_within i.to
  eval128_is i s (use_value x) = checked_within (bound_to s x)
  eval128_is i s (cond_value o v w) =
      then_within _ _ _ _ _ _ (holds128_is i s o) (branch_within (holds i s o) _ _ _ _ _ _ (eval128_is i s v) (eval128_is i s w))

  pub holds128_is : (i : Interval) (s : StateMaps) (o : ObservationTree) → holds128 i s o ≡ within (looked i s o) (holds i s o)
  holds128_is i s (and_obs o q) =
      then_within _ _ _ _ _ _ (holds128_is i s o) (and_within (holds i s o) (holds i s q) (looked i s q) (holds128 i s q) (holds128_is i s q))
  holds128_is i s (or_obs o q) =
      then_within _ _ _ _ _ _ (holds128_is i s o) (or_within (holds i s o) (holds i s q) (looked i s q) (holds128 i s q) (holds128_is i s q))
  holds128_is i s (not_obs o) = map_within _ _ _ not (holds128_is i s o)
  holds128_is i s (chose_something id) = refl
  holds128_is i s (value_ge v w) = test_within _ _ _ _ _ _ (λ x y. int_le y x) (eval128_is i s v) (eval128_is i s w)
  holds128_is i s (value_gt v w) = test_within _ _ _ _ _ _ (λ x y. int_lt y x) (eval128_is i s v) (eval128_is i s w)
  holds128_is i s (value_lt v w) = test_within _ _ _ _ _ _ int_lt (eval128_is i s v) (eval128_is i s w)
  holds128_is i s (value_le v w) = test_within _ _ _ _ _ _ int_le (eval128_is i s v) (eval128_is i s w)
  holds128_is i s (value_eq v w) = test_within _ _ _ _ _ _ int_eq (eval128_is i s v) (eval128_is i s w)
  holds128_is i s true_obs = refl
  holds128_is i s false_obs = refl
