-- What isn't read is no matter.
use Rattle.std.proofs.Common.{◌≡◌, pos, ◌+ℤ◌, ◌-ℤ◌, ◌*ℤ◌, neg_ℤ, int_le, int_lt, Bool, true, false, not, cond, ◌&&◌, ◌||◌, refl, ap, ◌∙◌}
use Rattle.std.specs.Option.{unwrap_or}
use Rattle.std.specs.Ordering.{int_eq}
use Rattle.std.specs.FinMap.{get}
use Rattle.contract.specs.Names.declared.account.Account.{Account}
use Rattle.contract.specs.declared.interval.Interval.{Interval}
use Rattle.contract.specs.Tree.{ValueTree, available_money, constant, neg_value, add_value, sub_value, mul_value, div_value, choice_value, time_interval_start, time_interval_end, use_value, cond_value}
use Rattle.contract.specs.Tree.{ObservationTree, and_obs, or_obs, not_obs, chose_something, value_ge, value_gt, value_lt, value_le, value_eq, true_obs, false_obs}
use Rattle.contract.specs.States.States.{StateMaps}
use Rattle.semantics.specs.Evaluation.Evaluation.{quotient, eval, holds}
use Rattle.contract_notes.specs.declared.note.Source.{Source}
use Rattle.contract_notes.specs.Reads.{reads, looks_at}
use Rattle.contract_notes.specs.Laws.{DifferIn, UnreadIsNoMatter}

pub left : (b c : Bool) → b || c ≡ false → b ≡ false
left true c e = absurd (cc)
left false c e = refl

pub right : (b c : Bool) → b || c ≡ false → c ≡ false
right true c e = absurd (cc)
right false c e = e

both : {X Y Z : Type 0} (f : X → Y → Z) (a b : X) (c d : Y) → a ≡ b → c ≡ d → f a c ≡ f b d
both f a b c d e h = ap (λ x. f x c) e ∙ ap (λ y. f b y) h

module _ (a : Source) (i : Interval) (s z : StateMaps) (d : DifferIn a s z) where
  mutual
    value : (v : ValueTree) → reads a v ≡ false → eval i z v ≡ eval i s v
    value (available_money p t) h = ap (λ m. unwrap_or (get m (let k : Account = record { owner = p; token = t } in k)) (pos 0)) d.accounts
    value (constant n) h = refl
    value (neg_value v) h = ap neg_ℤ (value v h)
    value (add_value v w) h = both (λ m n. m +ℤ n) _ _ _ _ (value v (left (reads a v) (reads a w) h)) (value w (right (reads a v) (reads a w) h))
    value (sub_value v w) h = both (λ m n. m -ℤ n) _ _ _ _ (value v (left (reads a v) (reads a w) h)) (value w (right (reads a v) (reads a w) h))
    value (mul_value v w) h = both (λ m n. m *ℤ n) _ _ _ _ (value v (left (reads a v) (reads a w) h)) (value w (right (reads a v) (reads a w) h))
    value (div_value v w) h = both quotient _ _ _ _ (value v (left (reads a v) (reads a w) h)) (value w (right (reads a v) (reads a w) h))
    value (choice_value id) h = ap (λ o. unwrap_or o (pos 0)) (d.choices id h)
    value time_interval_start h = refl
    value time_interval_end h = refl
    value (use_value x) h = ap (λ o. unwrap_or o (pos 0)) (d.names x h)
    value (cond_value o v w) h =
        let k = right (looks_at a o) (reads a v || reads a w) h in
        ap (λ b. cond b (eval i z v) (eval i z w)) (observation o (left (looks_at a o) (reads a v || reads a w) h))
        ∙ both (λ m n. cond (holds i s o) m n) _ _ _ _ (value v (left (reads a v) (reads a w) k)) (value w (right (reads a v) (reads a w) k))

    observation : (o : ObservationTree) → looks_at a o ≡ false → holds i z o ≡ holds i s o
    observation (and_obs o q) h = both (λ b c. b && c) _ _ _ _ (observation o (left (looks_at a o) (looks_at a q) h)) (observation q (right (looks_at a o) (looks_at a q) h))
    observation (or_obs o q) h = both (λ b c. b || c) _ _ _ _ (observation o (left (looks_at a o) (looks_at a q) h)) (observation q (right (looks_at a o) (looks_at a q) h))
    observation (not_obs o) h = ap not (observation o h)
    observation (chose_something id) h = d.made id
    observation (value_ge v w) h = both (λ m n. int_le n m) _ _ _ _ (value v (left (reads a v) (reads a w) h)) (value w (right (reads a v) (reads a w) h))
    observation (value_gt v w) h = both (λ m n. int_lt n m) _ _ _ _ (value v (left (reads a v) (reads a w) h)) (value w (right (reads a v) (reads a w) h))
    observation (value_lt v w) h = both int_lt _ _ _ _ (value v (left (reads a v) (reads a w) h)) (value w (right (reads a v) (reads a w) h))
    observation (value_le v w) h = both int_le _ _ _ _ (value v (left (reads a v) (reads a w) h)) (value w (right (reads a v) (reads a w) h))
    observation (value_eq v w) h = both int_eq _ _ _ _ (value v (left (reads a v) (reads a w) h)) (value w (right (reads a v) (reads a w) h))
    observation true_obs h = refl
    observation false_obs h = refl

pub unread_is_no_matter : UnreadIsNoMatter
unread_is_no_matter a i s z d = (value a i s z d, observation a i s z d)
