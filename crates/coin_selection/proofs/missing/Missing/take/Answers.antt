use Rattle.std.proofs.Common.{◌≡◌, neg_ℤ, if◌then◌else◌, refl, sym, ◌∙◌, ap, arith}
use Rattle.std.proofs.lemmas.Int.{ints}
use Rattle.std.specs.Ordering.{eq_by_cmp}
use Rattle.std.specs.FinMap.{get, from_entries}
use Rattle.contract.specs.Names.declared.token.Token.{Token}
use Rattle.contract.specs.Names.Orders.{token_cmp}
use Rattle.coin_selection.specs.MissingSupport.{left}
use Rattle.coin_selection.proofs.MissingLemmas.{in_range, taken_whole, taken_part, none_over, less_in_range, by_amount}
use Rattle.coin_selection.proofs.missing.Missing.take.Goals.{else-change-via-then-change+else-is_over, else-change-via-else-change}
use Rattle.coin_selection.proofs.missing.Missing.take.Goals as goal

pub change-requires : goal.change-requires
change-requires c = in_range c.self.inside.left.entries c.self.invariant c.args.token.now

pub returns-then-is_over : goal.returns-then-is_over
returns-then-is_over c =
    taken_whole c.self.inside.left.entries c.change.new.left.entries c.remove.new.self.entries c.args.self.now c.args.token.now c.args.amount c.self.view_is
    (sym c.if-change.ensures.there) (by_amount c.self.inside.left.entries c.change.new.left.entries c.args.token.now _ (neg_ℤ c.args.amount) c.if-change.ensures.changed (omega (arith, ints))) (sym c.if-is_over.ensures) c.remove.ensures.updates.0

pub invariant_of-self : goal.invariant_of-self
invariant_of-self c =
    let v = from_entries {R = token_cmp} c.self.inside.left.entries in
    less_in_range v (from_entries {R = token_cmp} c.remove.new.self.entries) c.args.token.now c.args.amount (omega (arith, ints, c.requires)) c.self.invariant
    (taken_whole c.self.inside.left.entries c.change.new.left.entries c.remove.new.self.entries v c.args.token.now c.args.amount refl
    (sym c.if-change.ensures.there) (by_amount c.self.inside.left.entries c.change.new.left.entries c.args.token.now _ (neg_ℤ c.args.amount) c.if-change.ensures.changed (omega (arith, ints))) (sym c.if-is_over.ensures) c.remove.ensures.updates.0)

pub invariant_of-self-else-is_over : goal.invariant_of-self-else-is_over
invariant_of-self-else-is_over c =
    let v = from_entries {R = token_cmp} c.self.inside.left.entries in
    less_in_range v (from_entries {R = token_cmp} c.change.new.left.entries) c.args.token.now c.args.amount (omega (arith, ints, c.requires)) c.self.invariant
    (taken_part c.self.inside.left.entries c.change.new.left.entries v c.args.token.now c.args.amount refl (by_amount c.self.inside.left.entries c.change.new.left.entries c.args.token.now _ (neg_ℤ c.args.amount) c.if-change.ensures.changed (omega (arith, ints))) (sym c.if-is_over.ensures))

pub invariant_of-self-else-change : goal.invariant_of-self-else-change
invariant_of-self-else-change c =
    let m = c.self.inside.left.entries in
    let n = c.change.new.left.entries in
    less_in_range (from_entries {R = token_cmp} m) (from_entries {R = token_cmp} n) c.args.token.now c.args.amount (omega (arith, ints, c.requires)) c.self.invariant
    (taken_part m n (from_entries {R = token_cmp} m) c.args.token.now c.args.amount refl (by_amount c.self.inside.left.entries c.change.new.left.entries c.args.token.now _ (neg_ℤ c.args.amount) c.if-change.ensures.changed (omega (arith, ints)))
    (none_over m n c.args.token.now (neg_ℤ c.args.amount) (sym c.if-change.ensures.there) (by_amount c.self.inside.left.entries c.change.new.left.entries c.args.token.now _ (neg_ℤ c.args.amount) c.if-change.ensures.changed (omega (arith, ints)))))

pub returns-else-change : goal.returns-else-change
returns-else-change c = elim c.else-change.branch as (λ _. (t : Token) → get c.else-change.self t ≡ (if eq_by_cmp token_cmp c.args.token.now t then left (get c.args.self.now t) c.args.amount else get c.args.self.now t)) [
  | else-change-via-then-change+else-is_over w ↦ λ t. ap (λ v. get v t) w.self-is
      ∙ taken_part c.self.inside.left.entries c.change.new.left.entries c.args.self.now c.args.token.now c.args.amount c.self.view_is (by_amount c.self.inside.left.entries c.change.new.left.entries c.args.token.now _ (neg_ℤ c.args.amount) w.if-change.ensures.changed (omega (arith, ints))) (sym w.if-is_over.ensures) t
  | else-change-via-else-change w ↦ λ t. ap (λ v. get v t) w.self-is
      ∙ taken_part c.self.inside.left.entries c.change.new.left.entries c.args.self.now c.args.token.now c.args.amount c.self.view_is (by_amount c.self.inside.left.entries c.change.new.left.entries c.args.token.now _ (neg_ℤ c.args.amount) w.if-change.ensures.changed (omega (arith, ints)))
      (none_over c.self.inside.left.entries c.change.new.left.entries c.args.token.now (neg_ℤ c.args.amount) (sym w.if-change.ensures.there) (by_amount c.self.inside.left.entries c.change.new.left.entries c.args.token.now _ (neg_ℤ c.args.amount) w.if-change.ensures.changed (omega (arith, ints)))) t
]
