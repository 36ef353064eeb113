-- The worked traces.
use Rattle.std.proofs.Common.{◌≡◌, ℤ, pos, None, refl, ap}
use Rattle.std.specs.Option.{unwrap_or}
use Rattle.std.specs.FinMap.{get, empty, get-empty}
use Rattle.contract.specs.Names.Equal.{ada}
use Rattle.contract.specs.Names.Orders.{account_cmp, bytes_cmp}
use Rattle.semantics.specs.Reduction.{account_of, balance}
use Rattle.semantics.specs.Rows.{nothing, party_a, name_x}
use Rattle.semantics.specs.Computed.{applied, one_input, from_start, computed}
use Rattle.trace.specs.Rows.{TwoComeToTheThird, TwoTakeTheFirstCases, ThirdIsRefused, PayWarnsBehindTheLet}

pub two_come_to_the_third : TwoComeToTheThird
unfolding computed from_start one_input applied
two_come_to_the_third = refl

pub two_take_the_first_cases : TwoTakeTheFirstCases
unfolding computed from_start one_input applied
two_take_the_first_cases = refl

pub third_is_refused : ThirdIsRefused
unfolding computed from_start one_input applied
third_is_refused = refl

not_bound : get (empty {X = ℤ} {R = bytes_cmp}) name_x ≡ None
not_bound = get-empty bytes_cmp name_x

has_nothing : balance nothing party_a ada ≡ pos 0
has_nothing = ap (λ o. unwrap_or o (pos 0)) (get-empty account_cmp (account_of party_a ada))

pub pay_warns_behind_the_let : PayWarnsBehindTheLet
pay_warns_behind_the_let = rw (not_bound, has_nothing) refl
