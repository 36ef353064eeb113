-- How a state is stored, as the tuple of its parts. No reader needs this file: `impl Model` asks for it.
use Rattle.std.specs.Prelude.{ℤ, refl}
use Rattle.std.specs.Coded.{Coded, code_by, coded×, coded_ℕ, coded_ℤ, coded_list}
use Rattle.std.specs.FinMap as map
use Rattle.std.specs.FinMap.{FinMap}
use Rattle.names.specs.contracts.account.Account as account
use Rattle.names.specs.contracts.choice_id.ChoiceId as choice
use Rattle.names.specs.Orders.{bytes_cmp, account_cmp, choice_id_cmp}
use Rattle.states.specs.States.{StateMaps}

abbrev pub maps_code : Coded StateMaps
maps_code =
    code_by (FinMap account_cmp ℤ × (FinMap choice_id_cmp ℤ × (FinMap bytes_cmp ℤ × ℤ)))
    (coded× (map.code (account.the_row).coded coded_ℤ) (coded× (map.code (choice.the_row).coded coded_ℤ) (coded× (map.code (coded_list coded_ℕ) coded_ℤ) coded_ℤ)))
    (λ s. (s.accounts, (s.choices, (s.bound_values, s.min_time))))
    (λ p. record { accounts = p.0; choices = p.1.0; bound_values = p.1.1.0; min_time = p.1.1.1 })
    (λ _. refl)
