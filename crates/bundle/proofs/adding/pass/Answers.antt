use Rattle.std.proofs.Common.{◌++◌, drop, take, ◌-◌, sym, ◌∙◌, ap, subst}
use Rattle.bundle.specs.WalksSupport.{AllBefore}
use Rattle.bundle.proofs.WalkLemmas.{before-append, before_part}
use Rattle.bundle.proofs.MergeLemmas.{joined}
use Rattle.bundle.proofs.adding.pass.Goals as goal

pub returns-clause-whole : goal.returns-clause-whole
returns-clause-whole c =
    ap (λ xs. xs ++ drop c.skip_before-at.result c.args.held.now) c.in_ok-copy_all.ensures
    ∙ joined c.args.sum.now.items c.args.held.now c.args.from c.skip_before-at.result c.skip_before-at.ensures.onward

pub returns-clause-sum_before : goal.returns-clause-sum_before
returns-clause-sum_before c =
    subst (AllBefore c.args.token.now) (sym c.in_ok-copy_all.ensures)
    (before-append c.args.token.now c.args.sum.now.items (take (c.skip_before-at.result - c.args.from) (drop c.args.from c.args.held.now)) c.requires.sum_before
    (before_part c.args.token.now c.args.held.now c.args.from c.skip_before-at.result c.skip_before-at.ensures.onward c.skip_before-at.ensures.before))
