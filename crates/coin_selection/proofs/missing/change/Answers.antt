use Rattle.std.proofs.Common.{sym, ap, arith}
use Rattle.std.proofs.lemmas.Int.{ints}
use Rattle.contract.specs.Names.Orders.{token_cmp}
use Rattle.std.specs.Prelude.{is_some}
use Rattle.std.specs.BTreeMap as tree
use Rattle.coin_selection.proofs.MissingLemmas.{plus_there, plus_none}
use Rattle.coin_selection.proofs.missing.change.Goals as goal

pub returns-in-Some-clause-changed : goal.returns-in-Some-clause-changed
returns-in-Some-clause-changed c =
    plus_there c.args.token.now c.in-Some.sum.now c.add.new.self c.args.amount (tree.get token_cmp c.args.left.now) (tree.get token_cmp (c.get_mut.follows.lender c.add.new.self)) (sym c.in-Some.ensures.value) (omega (arith, ints, c.add.ensures))
    ((c.get_mut.follows.holds c.add.new.self).3 (ap is_some (sym c.in-Some.ensures.value))).0

pub returns-in-None-clause-changed : goal.returns-in-None-clause-changed
returns-in-None-clause-changed c =
    plus_none c.args.token.now c.args.amount (tree.get token_cmp c.args.left.now) (tree.get token_cmp c.get_mut.follows.lender-at-none) (sym c.in-None.ensures.value)
    (λ t. ap (λ m. tree.get token_cmp m t) c.get_mut.follows.holds-at-none)
