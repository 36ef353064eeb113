-- The worked rows.
use Rattle.std.proofs.Common.{◌≡◌, ◌≤ℤ◌, ◌<ℤ◌, ℤ, pos, false, [], ◌∷◌, ap, refl, arith}
use Rattle.std.specs.Option.{unwrap_or}
use Rattle.std.specs.FinMap.{get-from_sorted}
use Rattle.std.proofs.lemmas.Int.{ints}
use Rattle.contract.specs.Names.Equal.{ada}
use Rattle.contract.specs.Names.Orders.{account_cmp}
use Rattle.contract.specs.declared.input.Input.TheVariants.{Notify}
use Rattle.contract.specs.Tree.{close, no_cases, notify, when, true_obs}
use Rattle.semantics.specs.Evaluation.Numbers.{fits, all_fit}
use Rattle.semantics.specs.Walk.{standing}
use Rattle.semantics.specs.Reduction.{account_of, balance, binding}
use Rattle.semantics.specs.Applying.{taken_numbers}
use Rattle.semantics.specs.Rows.{interval, nothing, a_has_three, party_a, name_x}
use Rattle.next_inputs.specs.Rows.{greatest, asks_greatest, deposits}
use Rattle.trace.specs.Rows.{third}
use Rattle.explain_transactions.specs.Moves.{reduces, takes}
use Rattle.explain_transactions.specs.Rows.{SecondIsUnmatched, TimeoutIsInside, SumIsTold}

pub second_is_unmatched : SecondIsUnmatched
unfolding fits
second_is_unmatched = record {
  front = Notify ∷ [];
  input = Notify;
  rest = [];
  index = refl;
  reaches = record {
    starts = omega (arith, ints);
    ends = omega (arith, ints);
    inputs = refl;
    comes = record {
      moves = takes Notify 0 (notify true_obs, third) ∷ [];
      runs = (record { waits = omega (arith, ints); takes = refl; case = refl; fits = refl }, refl);
      inputs = refl;
      path = refl;
    };
  };
  waits = omega (arith, ints);
  untaken = refl;
  within = refl;
}

pub timeout_is_inside : TimeoutIsInside
unfolding fits
timeout_is_inside = record {
  front = [];
  rest = [];
  there = standing (binding nothing name_x (pos 1) [] close).state (when no_cases (pos 5) close);
  reaches = record {
    starts = omega (arith, ints);
    ends = omega (arith, ints);
    inputs = refl;
    comes = record {
      moves = reduces (binding nothing name_x (pos 1) (pos 1 ∷ []) (when no_cases (pos 5) close)) ∷ [];
      runs = (record { reduces = refl; fits = refl }, refl);
      inputs = refl;
      path = refl;
    };
  };
  cases = no_cases;
  then = close;
  waits = refl;
  after = omega (arith, ints);
  within = omega (arith, ints);
}

has_three : balance a_has_three party_a ada ≡ pos 3
has_three = ap (λ o. unwrap_or o (pos 0)) (get-from_sorted account_cmp ((account_of party_a ada, pos 3) ∷ []) (account_of party_a ada) tt)

leaves : all_fit (taken_numbers a_has_three (deposits greatest)) ≡ false
unfolding fits
leaves = rw has_three refl

pub sum_is_told : SumIsTold
unfolding fits
sum_is_told = record {
  front = [];
  input = deposits greatest;
  rest = [];
  path = [];
  there = standing a_has_three asks_greatest;
  reaches = record { starts = omega (arith, ints); ends = omega (arith, ints); inputs = refl; comes = record { moves = []; runs = refl; inputs = refl; path = refl } };
  waits = omega (arith, ints);
  index = 0;
  takes = refl;
  leaves = (refl, leaves);
  action = refl;
}
