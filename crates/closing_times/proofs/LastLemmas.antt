-- The later of two times, and the timeouts of a contract's parts.
use Rattle.std.proofs.Common.{◌≡◌, ℕ, zero, suc, ℤ, ◌≤ℤ◌, List, [], ◌∷◌, refl, ap, subst, arith, Option, Some, None, slice_get, option_map}
use Rattle.std.proofs.lemmas.Int.{ints, int_max_is}
use Rattle.std.specs.Int.{int_max}
use Rattle.std.specs.Option.{option_and_then}
use Rattle.contract.specs.Tree.{ActionTree, ContractTree, CaseTrees, close, pay, if_obs, when, let_be, assert, no_cases, case_then}
use Rattle.semantics.specs.Evaluation.Path.{Turn, refund, next, then_branch, else_branch, timed_out, in_case, case_list, part, along}
use Rattle.semantics.specs.Evaluation.Timeouts.{later, last, last_in}
use Rattle.semantics.specs.Closing.{HasReached}

-- ---- the later of two times

max_assoc : (a b c : ℤ) → int_max (int_max a b) c ≡ int_max a (int_max b c)
max_assoc a b c = omega (arith, ints, int_max_is)

pub later_none : (a : Option ℤ) → later a None ≡ a
later_none None = refl
later_none (Some a) = refl

pub later_assoc : (a b c : Option ℤ) → later (later a b) c ≡ later a (later b c)
later_assoc None b c = refl
later_assoc (Some a) None c = refl
later_assoc (Some a) (Some b) None = refl
later_assoc (Some a) (Some b) (Some c) = ap Some (max_assoc a b c)

left_of : (a b n : ℤ) → int_max a b ≤ℤ n → a ≤ℤ n
left_of a b n h = omega (arith, ints, int_max_is)

right_of : (a b n : ℤ) → int_max a b ≤ℤ n → b ≤ℤ n
right_of a b n h = omega (arith, ints, int_max_is)

later_left : (a b : Option ℤ) (n : ℤ) → HasReached (later a b) n → HasReached a n
later_left None b n h = tt
later_left (Some a) None n h = h
later_left (Some a) (Some b) n h = left_of a b n h

later_right : (a b : Option ℤ) (n : ℤ) → HasReached (later a b) n → HasReached b n
later_right None b n h = h
later_right (Some a) None n h = tt
later_right (Some a) (Some b) n h = right_of a b n h

-- ---- a part has no later timeout than the whole

same_part : (c d : ContractTree) (n : ℤ) → Some c ≡ Some d → HasReached (last c) n → HasReached (last d) n
same_part c d n e h = subst (λ (z : ContractTree). HasReached (last z) n) {x = c} {y = d} (cc) h

-- what follows a case
case_reached : (ks : CaseTrees) (m : ℕ) (d : ContractTree) (n : ℤ) → option_map (λ (k : ActionTree × ContractTree). k.1) (slice_get (case_list ks) m) ≡ Some d → HasReached (last_in ks) n → HasReached (last d) n
case_reached no_cases m d n e h = absurd (cc)
case_reached (case_then a c ks) zero d n e h = same_part c d n e (later_left (last c) (last_in ks) n h)
case_reached (case_then a c ks) (suc m) d n e h = case_reached ks m d n e (later_right (last c) (last_in ks) n h)

-- the part that a turn goes on with
part_reached : (c : ContractTree) (t : Turn) (d : ContractTree) (n : ℤ) → part c t ≡ Some d → HasReached (last c) n → HasReached (last d) n
part_reached close refund d n e h = same_part close d n e h
part_reached close next d n e h = absurd (cc)
part_reached close then_branch d n e h = absurd (cc)
part_reached close else_branch d n e h = absurd (cc)
part_reached close timed_out d n e h = absurd (cc)
part_reached close (in_case m) d n e h = absurd (cc)
part_reached (pay p y t v c) next d n e h = same_part c d n e h
part_reached (pay p y t v c) refund d n e h = absurd (cc)
part_reached (pay p y t v c) then_branch d n e h = absurd (cc)
part_reached (pay p y t v c) else_branch d n e h = absurd (cc)
part_reached (pay p y t v c) timed_out d n e h = absurd (cc)
part_reached (pay p y t v c) (in_case m) d n e h = absurd (cc)
part_reached (let_be x v c) next d n e h = same_part c d n e h
part_reached (let_be x v c) refund d n e h = absurd (cc)
part_reached (let_be x v c) then_branch d n e h = absurd (cc)
part_reached (let_be x v c) else_branch d n e h = absurd (cc)
part_reached (let_be x v c) timed_out d n e h = absurd (cc)
part_reached (let_be x v c) (in_case m) d n e h = absurd (cc)
part_reached (assert o c) next d n e h = same_part c d n e h
part_reached (assert o c) refund d n e h = absurd (cc)
part_reached (assert o c) then_branch d n e h = absurd (cc)
part_reached (assert o c) else_branch d n e h = absurd (cc)
part_reached (assert o c) timed_out d n e h = absurd (cc)
part_reached (assert o c) (in_case m) d n e h = absurd (cc)
part_reached (if_obs o b c) then_branch d n e h = same_part b d n e (later_left (last b) (last c) n h)
part_reached (if_obs o b c) else_branch d n e h = same_part c d n e (later_right (last b) (last c) n h)
part_reached (if_obs o b c) refund d n e h = absurd (cc)
part_reached (if_obs o b c) next d n e h = absurd (cc)
part_reached (if_obs o b c) timed_out d n e h = absurd (cc)
part_reached (if_obs o b c) (in_case m) d n e h = absurd (cc)
part_reached (when ks t c) timed_out d n e h = same_part c d n e (later_right (Some t) (last c) n (later_left (later (Some t) (last c)) (last_in ks) n h))
part_reached (when ks t c) (in_case m) d n e h = case_reached ks m d n e (later_right (later (Some t) (last c)) (last_in ks) n h)
part_reached (when ks t c) refund d n e h = absurd (cc)
part_reached (when ks t c) next d n e h = absurd (cc)
part_reached (when ks t c) then_branch d n e h = absurd (cc)
part_reached (when ks t c) else_branch d n e h = absurd (cc)

-- and the part that turns lead to
pub along_reached : (c : ContractTree) (ts : List Turn) (d : ContractTree) (n : ℤ) → along c ts ≡ Some d → HasReached (last c) n → HasReached (last d) n
along_reached c [] d n e h = same_part c d n e h
along_reached c (t ∷ ts) d n e h = by_part (part c t) (λ b p. part_reached c t b n p h) (λ b. along_reached b ts d n) e
  where
    by_part : (o : Option ContractTree) → ((b : ContractTree) → o ≡ Some b → HasReached (last b) n) → ((b : ContractTree) → along b ts ≡ Some d → HasReached (last b) n → HasReached (last d) n)
        → option_and_then (λ b. along b ts) o ≡ Some d → HasReached (last d) n
    by_part (Some b) f g q = g b q (f b refl)
    by_part None f g q = absurd (cc)
