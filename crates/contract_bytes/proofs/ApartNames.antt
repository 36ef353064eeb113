-- Spellings of names, inputs and states tell their values apart.
use Rattle.std.proofs.Common.{◌≡◌, refl, ℕ, ℤ, List}
use Rattle.std.specs.FinMap.{entries, same_entries_map}
use Rattle.contract.specs.Names.declared.party.Party.{Party}
use Rattle.contract.specs.Names.declared.party.Party.TheVariants as parties
use Rattle.contract.specs.Names.declared.token.Token.{Token}
use Rattle.contract.specs.Names.declared.account.Account.{Account}
use Rattle.contract.specs.Names.declared.choice_id.ChoiceId.{ChoiceId}
use Rattle.contract.specs.Names.declared.payee.Payee.{Payee}
use Rattle.contract.specs.Names.declared.payee.Payee.TheVariants as payees
use Rattle.contract.specs.Names.declared.bound.Bound.{Bound}
use Rattle.contract.specs.declared.input.Input.{Input}
use Rattle.contract.specs.declared.input.Input.TheVariants as inputs
use Rattle.contract.specs.States.States.{StateMaps}
use Rattle.contract_bytes.specs.Names.{party_bytes, token_bytes, choice_id_bytes, payee_bytes, bound_bytes, holding_bytes, PartyFits, TokenFits, ChoiceIdFits, PayeeFits, BoundFits, HoldingFits}
use Rattle.contract_bytes.specs.Inputs.{input_bytes, InputFits}
use Rattle.contract_bytes.specs.States.{money_bytes, chosen_bytes, bound_value_bytes, state_bytes, MoneyFits, ChosenFits, BoundValueFits, StateFits}
use Rattle.contract_bytes.specs.Unambiguous.{ReadsOneWay}
use Rattle.contract_bytes.proofs.Apart.{Tells, shows, nothing, both, tagged, other, number_tells, time_tells, text_tells, list_tells, reads_one_way}

pub party_tells : (x y : Party) → PartyFits x → PartyFits y → Tells (x ≡ y) (party_bytes x) (party_bytes y)
party_tells (parties.Address x) (parties.Address y) f g = shows (λ e. λ i. parties.Address (e i)) (tagged (text_tells x y f g))
party_tells (parties.Role x) (parties.Role y) f g = shows (λ e. λ i. parties.Role (e i)) (tagged (text_tells x y f g))
party_tells (parties.Address x) (parties.Role y) f g = other refl
party_tells (parties.Role x) (parties.Address y) f g = other refl

pub token_tells : (x y : Token) → TokenFits x → TokenFits y → Tells (x ≡ y) (token_bytes x) (token_bytes y)
token_tells x y f g = shows (λ e. λ i. record { symbol = e.0 i; name = e.1 i }) (both (text_tells x.symbol y.symbol f.0 g.0) (text_tells x.name y.name f.1 g.1))

pub choice_id_tells : (x y : ChoiceId) → ChoiceIdFits x → ChoiceIdFits y → Tells (x ≡ y) (choice_id_bytes x) (choice_id_bytes y)
choice_id_tells x y f g = shows (λ e. λ i. record { name = e.0 i; owner = e.1 i }) (both (text_tells x.name y.name f.0 g.0) (party_tells x.owner y.owner f.1 g.1))

pub payee_tells : (x y : Payee) → PayeeFits x → PayeeFits y → Tells (x ≡ y) (payee_bytes x) (payee_bytes y)
payee_tells (payees.Account x) (payees.Account y) f g = shows (λ e. λ i. payees.Account (e i)) (tagged (party_tells x y f g))
payee_tells (payees.Party x) (payees.Party y) f g = shows (λ e. λ i. payees.Party (e i)) (tagged (party_tells x y f g))
payee_tells (payees.Account x) (payees.Party y) f g = other refl
payee_tells (payees.Party x) (payees.Account y) f g = other refl

pub bound_tells : (x y : Bound) → BoundFits x → BoundFits y → Tells (x ≡ y) (bound_bytes x) (bound_bytes y)
bound_tells x y f g = shows (λ e. λ i. record { from = e.0 i; to = e.1 i }) (both (number_tells x.from y.from f.0 g.0) (number_tells x.to y.to f.1 g.1))

pub holding_tells : (x y : Token × ℤ) → HoldingFits x → HoldingFits y → Tells (x ≡ y) (holding_bytes x) (holding_bytes y)
holding_tells x y f g = shows (λ e. λ i. (e.0 i, e.1 i)) (both (token_tells x.0 y.0 f.0 g.0) (number_tells x.1 y.1 f.1 g.1))

pub input_tells : (x y : Input) → InputFits x → InputFits y → Tells (x ≡ y) (input_bytes x) (input_bytes y)
input_tells (inputs.Deposit a p t n) (inputs.Deposit b q u m) f g =
    shows (λ e. λ i. inputs.Deposit (e.0.0.0 i) (e.0.0.1 i) (e.0.1 i) (e.1 i)) (tagged (both (both (both (party_tells a b f.0 g.0) (party_tells p q f.1 g.1)) (token_tells t u f.2 g.2)) (number_tells n m f.3 g.3)))
input_tells (inputs.Choice a n) (inputs.Choice b m) f g = shows (λ e. λ i. inputs.Choice (e.0 i) (e.1 i)) (tagged (both (choice_id_tells a b f.0 g.0) (number_tells n m f.1 g.1)))
input_tells inputs.Notify inputs.Notify f g = tagged (nothing refl)
input_tells (inputs.Deposit a p t n) (inputs.Choice b m) f g = other refl
input_tells (inputs.Deposit a p t n) inputs.Notify f g = other refl
input_tells (inputs.Choice a n) (inputs.Deposit b q u m) f g = other refl
input_tells (inputs.Choice a n) inputs.Notify f g = other refl
input_tells inputs.Notify (inputs.Deposit b q u m) f g = other refl
input_tells inputs.Notify (inputs.Choice b m) f g = other refl

-- ---- states

money_tells : (x y : Account × ℤ) → MoneyFits x → MoneyFits y → Tells (x ≡ y) (money_bytes x) (money_bytes y)
money_tells x y f g =
    shows (λ e. λ i. (record { owner = e.0.0 i; token = e.0.1 i }, e.1 i)) (both (both (party_tells x.0.owner y.0.owner f.0 g.0) (token_tells x.0.token y.0.token f.1 g.1)) (number_tells x.1 y.1 f.2 g.2))

chosen_tells : (x y : ChoiceId × ℤ) → ChosenFits x → ChosenFits y → Tells (x ≡ y) (chosen_bytes x) (chosen_bytes y)
chosen_tells x y f g = shows (λ e. λ i. (e.0 i, e.1 i)) (both (choice_id_tells x.0 y.0 f.0 g.0) (number_tells x.1 y.1 f.1 g.1))

bound_value_tells : (x y : List ℕ × ℤ) → BoundValueFits x → BoundValueFits y → Tells (x ≡ y) (bound_value_bytes x) (bound_value_bytes y)
bound_value_tells x y f g = shows (λ e. λ i. (e.0 i, e.1 i)) (both (text_tells x.0 y.0 f.0 g.0) (number_tells x.1 y.1 f.1 g.1))

pub state_tells : (x y : StateMaps) → StateFits x → StateFits y → Tells (x ≡ y) (state_bytes x) (state_bytes y)
state_tells x y f g =
    shows (λ e. λ i. record {
      accounts = same_entries_map x.accounts y.accounts e.0.0.0 i;
      choices = same_entries_map x.choices y.choices e.0.0.1 i;
      bound_values = same_entries_map x.bound_values y.bound_values e.0.1 i;
      min_time = e.1 i;
    })
    (both (both (both (list_tells MoneyFits money_bytes money_tells (entries x.accounts) (entries y.accounts) f.0 g.0)
    (list_tells ChosenFits chosen_bytes chosen_tells (entries x.choices) (entries y.choices) f.1 g.1))
    (list_tells BoundValueFits bound_value_bytes bound_value_tells (entries x.bound_values) (entries y.bound_values) f.2 g.2))
    (time_tells x.min_time y.min_time f.3 g.3))

-- ---- the law

pub parties_read_one_way : ReadsOneWay PartyFits party_bytes
parties_read_one_way = reads_one_way PartyFits party_bytes party_tells

pub tokens_read_one_way : ReadsOneWay TokenFits token_bytes
tokens_read_one_way = reads_one_way TokenFits token_bytes token_tells

pub choice_ids_read_one_way : ReadsOneWay ChoiceIdFits choice_id_bytes
choice_ids_read_one_way = reads_one_way ChoiceIdFits choice_id_bytes choice_id_tells

pub payees_read_one_way : ReadsOneWay PayeeFits payee_bytes
payees_read_one_way = reads_one_way PayeeFits payee_bytes payee_tells

pub inputs_read_one_way : ReadsOneWay InputFits input_bytes
inputs_read_one_way = reads_one_way InputFits input_bytes input_tells

pub states_read_one_way : ReadsOneWay StateFits state_bytes
states_read_one_way = reads_one_way StateFits state_bytes state_tells
