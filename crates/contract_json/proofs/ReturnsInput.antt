-- An input and a transaction that were written are read as they were.
use Rattle.std.proofs.Common.{◌≡◌, ℤ, true, List, [], ◌∷◌, map, Ok, refl}
use Rattle.std.specs.Prelude.{codes}
use Rattle.serde_json.specs.Data.{Data, array}
use Rattle.serde_json.specs.View.{items_of}
use Rattle.contract.specs.Names.declared.party.Party.{Party}
use Rattle.contract.specs.Names.declared.token.Token.{Token}
use Rattle.contract.specs.Names.declared.choice_id.ChoiceId.{ChoiceId}
use Rattle.contract.specs.declared.input.Input.{Input}
use Rattle.contract.specs.declared.input.Input.TheVariants as inputs
use Rattle.contract.specs.declared.interval.Interval.{Interval}
use Rattle.json_read_names.specs.Forms.{input_form}
use Rattle.json_read_names.specs.Parts.{whole_number, all_items, list}
use Rattle.json_read_names.specs.ReadsNames.{party, token, choice_id}
use Rattle.json_read_inputs.specs.ReadsInput.{input, input_by, interval, transaction}
use Rattle.contract.specs.declared.transaction.Transaction.{Transaction}
use Rattle.json_write_outcomes.specs.Each.{Each}
use Rattle.json_write_contracts.specs.WrittenNames.{two, four, number_json, time_fits, party_json, token_json, choice_id_json}
use Rattle.contract_json.specs.WrittenInput.{input_json, interval_json, transaction_json}
use Rattle.contract_json.specs.InputSymbols.{InputSymbols}
use Rattle.contract_json.proofs.Hexes.{token-token_json}
use Rattle.contract_json.proofs.ReturnsNames.{whole-number_json, time-number_json, party-party_json, choice_id-choice_id_json}

input-deposit : (p a t n : Data) (r q : Party) (k : Token) (z : ℤ) → party p ≡ Ok q → party a ≡ Ok r → token t ≡ Ok k → whole_number n ≡ Ok z
    → input (four (codes "input_from_party") p (codes "into_account") a (codes "of_token") t (codes "that_deposits") n) ≡ Ok (inputs.Deposit r q k z)
unfolding input_by input_form
input-deposit p a t n r q k z h i j l = rw (h, i, j, l) refl

input-choice : (i n : Data) (id : ChoiceId) (z : ℤ) → choice_id i ≡ Ok id → whole_number n ≡ Ok z → input (two (codes "for_choice_id") i (codes "input_that_chooses_num") n) ≡ Ok (inputs.Choice id z)
unfolding input_by input_form
input-choice i n id z h j = rw (h, j) refl

input-notify : input (input_json inputs.Notify) ≡ Ok inputs.Notify
unfolding input_by input_form
input-notify = refl

pub input-back : (i : Input) → InputSymbols i → input (input_json i) ≡ Ok i
input-back (inputs.Deposit a p t n) h = input-deposit (party_json p) (party_json a) (token_json t) (number_json n) a p t n (party-party_json p) (party-party_json a) (token-token_json (token_json t) t refl h) (whole-number_json n)
input-back (inputs.Choice id n) h = input-choice (choice_id_json id) (number_json n) id n (choice_id-choice_id_json id) (whole-number_json n)
input-back inputs.Notify h = input-notify

inputs-back : (is : List Input) → Each InputSymbols is → all_items input (items_of (map input_json is)) ≡ Ok is
inputs-back [] h = refl
inputs-back (i ∷ is) h = rw (input-back i h.0, inputs-back is h.1) refl

interval-back : (i : Interval) → time_fits i.from ≡ true → time_fits i.to ≡ true → interval (interval_json i) ≡ Ok i
interval-back i h k = rw (time-number_json i.from h, time-number_json i.to k) refl

transaction-two : (l t : Data) (x : Transaction) → list input l ≡ Ok x.inputs → interval t ≡ Ok x.interval → transaction (two (codes "tx_inputs") l (codes "tx_interval") t) ≡ Ok x
transaction-two l t x h k = rw (h, k) refl

pub transaction-back : (t : Transaction) → Each InputSymbols t.inputs → time_fits t.interval.from ≡ true → time_fits t.interval.to ≡ true → transaction (transaction_json t) ≡ Ok t
transaction-back t h from to = transaction-two (array (items_of (map input_json t.inputs))) (interval_json t.interval) t (inputs-back t.inputs h) (interval-back t.interval from to)
