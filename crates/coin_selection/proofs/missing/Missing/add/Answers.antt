use Rattle.std.proofs.Common.{◌+ℤ◌, Some, refl, sym, ◌∙◌, subst, arith}
use Rattle.std.proofs.lemmas.Int.{ints}
use Rattle.std.proofs.lemmas.Result.{on_err_weaker}
use Rattle.std.specs.Option.{IfSome}
use Rattle.std.specs.FinMap.{from_entries}
use Rattle.contract.specs.Names.Orders.{token_cmp}
use Rattle.builder_spec.specs.Bundle.Bundles.{amount_of}
use Rattle.coin_selection.specs.MissingSupport.{InRange}
use Rattle.coin_selection.proofs.MissingLemmas.{more, first, unchanged, in_range, set_in_range, more_in_range, on_ok, on_err, by_amount}
use Rattle.coin_selection.proofs.missing.Missing.add.Goals as goal

pub change-requires : goal.change-requires
change-requires c = in_range c.self.inside.left.entries c.self.invariant c.args.token.now

pub returns-then-change-clause-adds : goal.returns-then-change-clause-adds
returns-then-change-clause-adds c =
    more c.self.inside.left.entries c.change.new.left.entries c.args.self.now c.args.token.now c.args.amount c.self.view_is (sym c.if-change.ensures.there) (by_amount c.self.inside.left.entries c.change.new.left.entries c.args.token.now _ c.args.amount c.if-change.ensures.changed (omega (arith, ints)))

pub invariant_of-self : goal.invariant_of-self
invariant_of-self c =
    let v = from_entries {R = token_cmp} c.self.inside.left.entries in
    set_in_range v (from_entries {R = token_cmp} c.change.new.left.entries) c.args.token.now (Some (amount_of v c.args.token.now +ℤ c.args.amount)) c.self.invariant
    (more_in_range c.args.self.now v c.args.token.now c.args.amount c.self.view_is (omega (arith, ints, c.requires.positive)) (omega (arith, ints, c.requires.room)) c.self.invariant)
    (more c.self.inside.left.entries c.change.new.left.entries v c.args.token.now c.args.amount refl (sym c.if-change.ensures.there) (by_amount c.self.inside.left.entries c.change.new.left.entries c.args.token.now _ c.args.amount c.if-change.ensures.changed (omega (arith, ints))))

pub invariant_of-self-else-change : goal.invariant_of-self-else-change
invariant_of-self-else-change c t =
    let v = from_entries {R = token_cmp} c.self.inside.left.entries in
    subst (λ o. IfSome o InRange)
    (sym (unchanged c.self.inside.left.entries c.change.new.left.entries v c.args.token.now c.args.amount refl (sym c.if-change.ensures.there) (by_amount c.self.inside.left.entries c.change.new.left.entries c.args.token.now _ c.args.amount c.if-change.ensures.changed (omega (arith, ints))) t))
    (c.self.invariant t)

pub returns-in_ok-try_clone-clause-adds : goal.returns-in_ok-try_clone-clause-adds
returns-in_ok-try_clone-clause-adds c =
    let m = c.self.inside.left.entries in
    let n = c.change.new.left.entries in
    let k = c.args.token.now in
    on_ok c.put.result
    (λ h. first m n c.args.self.now c.put.new.self k c.in_ok-try_clone.field-0 c.args.amount _ c.self.view_is (sym c.if-change.ensures.there)
    (by_amount m n k _ c.args.amount c.if-change.ensures.changed (omega (arith, ints))) c.in_ok-try_clone.ensures (omega (arith, ints)) h)
    c.put.ensures.so_much

pub returns-in_err-try_clone-clause-err : goal.returns-in_err-try_clone-clause-err
returns-in_err-try_clone-clause-err c =
    on_err c.from_residual.result
    (unchanged c.self.inside.left.entries c.change.new.left.entries c.args.self.now c.args.token.now c.args.amount c.self.view_is (sym c.if-change.ensures.there)
    (by_amount c.self.inside.left.entries c.change.new.left.entries c.args.token.now _ c.args.amount c.if-change.ensures.changed (omega (arith, ints))))

pub returns-in_ok-try_clone-clause-err : goal.returns-in_ok-try_clone-clause-err
returns-in_ok-try_clone-clause-err c =
    on_err_weaker c.put.result
    (λ same t.
    same t
    ∙ unchanged c.self.inside.left.entries c.change.new.left.entries c.args.self.now c.args.token.now c.args.amount c.self.view_is (sym c.if-change.ensures.there)
    (by_amount c.self.inside.left.entries c.change.new.left.entries c.args.token.now _ c.args.amount c.if-change.ensures.changed (omega (arith, ints))) t)
    c.put.ensures.err
