use Rattle.std.proofs.Common.{◌≡◌, ◌+◌, true, length, drop, map, sym, ◌∙◌, ap, subst, arith}
use Rattle.std.specs.Prelude.{int_lt}
use Rattle.std.proofs.Math.Dec.{T}
use Rattle.std.proofs.lemmas.List.{drop_all}
use mathlib.Core.Bool.{false≢true}
use Rattle.std.specs.FinMap.{entries_sorted}
use Rattle.std.specs.FinMap.Entries.{is_sorted}
use Rattle.contract.specs.Names.Orders.{token_cmp}
use Rattle.contract.specs.States.States as states
use Rattle.roles.specs.LeftSupport.{left_of, IsTaken}
use Rattle.roles.specs.Sums.{sums_in}
use Rattle.roles.proofs.LeftLemmas.{all_zero, refused}
use Rattle.roles.proofs.SumsLemmas.{IsLeft, at_first, taken, too_little, all_taken, nothing_left, here}
use Rattle.roles.proofs.amounts.is_sums.Goals as goal

pub loop-account-init : goal.loop-account-init
loop-account-init c =
    let es = c.accounts-account-items.result.now in
    subst (λ ns. IsLeft c.args.amount.now ns es es) (sym (c.in_ok-left.ensures ∙ ap (map (λ e. e.1)) c.entries-entries.ensures.all))
    (at_first c.args.amount.now es (subst states.AllPositive (sym c.accounts-account-items.ensures.all) c.accounts-account-items.ensures.positive))

pub take-requires-clause-sorted : goal.take-requires-clause-sorted
take-requires-clause-sorted c = subst (λ es. T (is_sorted token_cmp es)) (sym c.entries-entries.ensures.all) (entries_sorted c.args.amount.now)

pub returns-then-not-take : goal.returns-then-not-take
returns-then-not-take c =
    let es = c.accounts-account-items.result.now in
    let e = c.account-item.result in
    let left = here es c.loop-account.account-index e c.loop-account-test.true c.account-item.is in
    let short = refused _ (int_lt (left_of c.entries-entries.result.now c.loop-account.left.items e.0.token) e.1) c.take.ensures.enough c.if-not-take.true in (
      λ yes. absurd (false≢true yes),
      λ is. absurd (too_little c.args.amount.now c.loop-account.left.items es e _ (subst (IsLeft c.args.amount.now c.loop-account.left.items es) left c.loop-account.invariant)
          (subst (λ xs. int_lt (left_of xs c.loop-account.left.items e.0.token) e.1 ≡ true) c.entries-entries.ensures.all short) (is ∙ ap sums_in (sym c.accounts-account-items.ensures.all))),
    )

pub loop-account-preserved : goal.loop-account-preserved
loop-account-preserved c =
    let es = c.accounts-account-items.result.now in
    let e = c.account-item.result in
    let left = here es c.loop-account.account-index e c.loop-account-test.true c.account-item.is in
    taken c.args.amount.now c.loop-account.left.items c.take.new.left.items es e (drop (c.loop-account.account-index + 1) es) (subst (IsLeft c.args.amount.now c.loop-account.left.items es) left c.loop-account.invariant)
    (c.take.ensures.each ∙ ap length c.entries-entries.ensures.all)
    (subst (λ xs. IsTaken xs c.loop-account.left.items c.take.new.left.items e.0.token e.1) c.entries-entries.ensures.all (c.take.ensures.taken c.if-not-take.false))

pub returns : goal.returns
returns c =
    let es = c.accounts-account-items.result.now in
    let end = subst (IsLeft c.args.amount.now c.loop-account.left.items es) (drop_all c.loop-account.account-index es (omega (arith, c.loop-account-test.false))) c.loop-account.invariant in
    let all = subst states.AllPositive (sym c.accounts-account-items.ensures.all) c.accounts-account-items.ensures.positive in
    let is = ap sums_in c.accounts-account-items.ensures.all in
    let zero : c.are_zero.result ≡ all_zero c.loop-account.left.items = c.are_zero.ensures ∙ ap all_zero c.as_slice.ensures.value in (
      λ yes. all_taken c.args.amount.now c.loop-account.left.items es end all c.entries-entries.ensures.positive (sym zero ∙ yes) ∙ is,
      λ e. zero ∙ nothing_left c.args.amount.now c.loop-account.left.items es end (e ∙ sym is),
    )
