use Rattle.std.proofs.Common.{◌≡◌, rules, [], sym, ◌∙◌, ap, subst}
use Rattle.std.proofs.Math.Dec.{T}
use Rattle.std.specs.FinMap.{entries_sorted, from_sorted}
use Rattle.std.specs.FinMap.Entries.{is_sorted}
use Rattle.contract.specs.Names.Orders.{account_cmp}
use Rattle.builder.proofs.CopyLemmas.{state_of, fresh_is}
use Rattle.builder.proofs.fresh.fresh.Goals as goal

pub copy_accounts-requires : goal.copy_accounts-requires
copy_accounts-requires c = subst (λ es. T (is_sorted account_cmp es)) (sym c.accounts.ensures.all) (entries_sorted c.args.state.now.accounts)

pub returns : goal.returns
returns c =
    let all = c.in_ok-accounts.accounts in
    let time = c.min_time-min_time.result in
    let made : c.from_entries.result ≡ state_of (from_sorted all) (from_sorted c.new-choices.result) (from_sorted c.new-bound_values.result) time = search (rules, c.from_entries.ensures) in
    made
    ∙ ap (λ x. state_of (from_sorted all) (from_sorted x) (from_sorted c.new-bound_values.result) time) c.new-choices.ensures
    ∙ ap (λ x. state_of (from_sorted all) (from_sorted []) (from_sorted x) time) c.new-bound_values.ensures
    ∙ fresh_is c.args.state.now all time (c.in_ok-accounts.ensures ∙ c.accounts.ensures.all) c.min_time-min_time.ensures
