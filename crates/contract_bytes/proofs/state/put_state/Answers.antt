use Rattle.std.proofs.Common.{sym, ◌++◌}
use Rattle.std.specs.FinMap.{entries}
use Rattle.contract_bytes.specs.Numbers.{time_bytes, list_bytes}
use Rattle.contract_bytes.specs.States.{money_bytes, chosen_bytes, bound_value_bytes}
use Rattle.contract_bytes.proofs.Fronts.{on_any_err, front_as, front_first, wrote_both, front_then}
use Rattle.contract_bytes.proofs.state.put_state.Goals as goal

pub returns-in_err-put_list-clause-err : goal.returns-in_err-put_list-clause-err
returns-in_err-put_list-clause-err c =
    let s = c.args.state.now in
    on_any_err c.from_residual.result
    (front_as (λ i. list_bytes money_bytes (sym c.accounts.ensures.all i) ++ list_bytes chosen_bytes (entries s.choices) ++ list_bytes bound_value_bytes (entries s.bound_values) ++ time_bytes s.min_time)
    (front_first (time_bytes s.min_time) (front_first (list_bytes bound_value_bytes (entries s.bound_values)) (front_first (list_bytes chosen_bytes (entries s.choices)) c.in_err-put_list.ensures.err))))

pub returns-in_err-put_list-2-clause-err : goal.returns-in_err-put_list-2-clause-err
returns-in_err-put_list-2-clause-err c =
    let s = c.args.state.now in
    on_any_err c.from_residual-in_err-put_list-2.result
    (front_as (λ i. list_bytes money_bytes (sym c.accounts.ensures.all i) ++ list_bytes chosen_bytes (sym c.choices.ensures i) ++ list_bytes bound_value_bytes (entries s.bound_values) ++ time_bytes s.min_time)
    (front_first (time_bytes s.min_time) (front_first (list_bytes bound_value_bytes (entries s.bound_values)) (front_then (list_bytes money_bytes c.accounts.result.now) c.in_ok-put_list.ensures.spelling c.in_err-put_list-2.ensures.err))))

pub returns-in_err-put_list-3-clause-err : goal.returns-in_err-put_list-3-clause-err
returns-in_err-put_list-3-clause-err c =
    let s = c.args.state.now in
    let accounts = list_bytes money_bytes c.accounts.result.now in
    let choices = list_bytes chosen_bytes c.choices.result.now in
    let both = wrote_both c.args.out.now.items accounts choices c.in_ok-put_list.ensures.spelling c.in_ok-put_list-2.ensures.spelling in
    on_any_err c.from_residual-in_err-put_list-3.result
    (front_as (λ i. list_bytes money_bytes (sym c.accounts.ensures.all i) ++ list_bytes chosen_bytes (sym c.choices.ensures i) ++ list_bytes bound_value_bytes (sym c.bound_values.ensures i) ++ time_bytes s.min_time)
    (front_first (time_bytes s.min_time) (front_then (accounts ++ choices) both c.in_err-put_list-3.ensures.err)))
