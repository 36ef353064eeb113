-- What a JSON value stands for as a party, a token, a choice id, a payee and a bound.
use Rattle.std.specs.Prelude.{Ok, Err, codes, if◌then◌else◌}
use Rattle.serde_json.specs.Data.{Data}
use Rattle.names.specs.declared.party.Party.{Party}
use Rattle.names.specs.declared.party.Party.TheVariants as parties
use Rattle.names.specs.declared.token.Token.{Token}
use Rattle.names.specs.declared.choice_id.ChoiceId.{ChoiceId}
use Rattle.names.specs.declared.payee.Payee.{Payee}
use Rattle.names.specs.declared.payee.Payee.TheVariants as payees
use Rattle.names.specs.declared.bound.Bound.{Bound}
use Rattle.json_read_names.specs.Forms.{has, has_two}
use Rattle.names.specs.Collections.Answers.{◌>>=◌}
use Rattle.json_read_names.specs.Parts.{Reading, of_one, reading_at, text, bytes, whole_number}
use Rattle.json_read_names.specs.declared.fault.JsonFault.TheVariants.{NoForm}

abbrev pub party : Data → Reading Party
party d =
    if has (codes "address") d then of_one parties.Address (reading_at text d (codes "address"))
    else of_one parties.Role (reading_at text d (codes "role_token"))

abbrev pub token : Data → Reading Token
token d =
    if has_two (codes "currency_symbol") (codes "token_name") d then (do
      symbol ← reading_at bytes d (codes "currency_symbol")
      name ← reading_at text d (codes "token_name")
      Ok (record { symbol = symbol; name = name }))
    else Err NoForm

abbrev pub choice_id : Data → Reading ChoiceId
choice_id d =
    if has_two (codes "choice_name") (codes "choice_owner") d then (do
      name ← reading_at text d (codes "choice_name")
      owner ← reading_at party d (codes "choice_owner")
      Ok (record { name = name; owner = owner }))
    else Err NoForm

abbrev pub payee : Data → Reading Payee
payee d =
    if has (codes "account") d then of_one payees.Account (reading_at party d (codes "account"))
    else of_one payees.Party (reading_at party d (codes "party"))

abbrev pub bound : Data → Reading Bound
bound d =
    if has_two (codes "from") (codes "to") d then (do
      from ← reading_at whole_number d (codes "from")
      to ← reading_at whole_number d (codes "to")
      Ok (record { from = from; to = to }))
    else Err NoForm
