use Rattle.std.proofs.Common.{◌≡◌, sym, ◌∙◌, ap, subst, List, ◌∷◌, [], ◌++◌, take, ◌+◌}
use Rattle.contract.specs.Names.declared.account.Account.{Account}
use Rattle.analysis_spec.specs.declared.paid.PaidRange.{PaidRange}
use Rattle.analysis_walk.specs.declared.row.Row.{Row}
use Rattle.analysis_walk.specs.Rows.{AreBounded, NameAll, range_of}
use Rattle.analysis_walk.proofs.RowLemmas.{AreNamed, bounded_more, named_more, named_all}
use Rattle.analysis_walk.proofs.closings.ranges_of.Goals as goal

pub loop-account-preserved : goal.loop-account-preserved
loop-account-preserved c =
    let rows = c.args.rows.now in
    let es = c.as_slice-account-items.result.now in
    let e = c.loop-account-item.result in
    let i = c.loop-account.account-index in
    let x = c.paid_span-span.result in
    let before = c.loop-account.ranges in
    let grown : c.push.new.self ≡ before ++ range_of e.0 x ∷ [] = c.in_ok-push.ensures.added ∙ ap (λ (r : PaidRange). before ++ r ∷ []) c.in_ok-range_of.ensures in
    record {
      bounded = subst (AreBounded rows c.args.count) (sym grown) (bounded_more rows c.args.count before e.0 x c.get.result c.get.ensures.value c.paid_span-span.ensures c.loop-account.invariant.bounded);
      named =
          subst (λ (rs : List PaidRange). AreNamed (take (i + 1) es) rs) (sym grown)
          (named_more es i e x before c.loop-account-test.true c.loop-account-item.is c.loop-account.invariant.named);
    }

pub returns-clause-all : goal.returns-clause-all
returns-clause-all c =
    let es = c.as_slice-account-items.result.now in
    let i = c.loop-account.account-index in
    subst (λ (rows : List (Account × Row)). NameAll rows c.loop-account.ranges) c.as_slice-account-items.ensures.all
    (named_all es i c.loop-account.ranges c.loop-account-test.false c.loop-account.invariant.named)
