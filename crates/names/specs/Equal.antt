-- Which names are the same, as tests, and ada. Each test passes exactly for equal ones (the law
-- `names_are_told_apart`).
use Rattle.std.specs.Prelude.{ℕ, Bool, List, []}
use Rattle.std.specs.Ordering.{eq_by_cmp}
use Rattle.std.specs.Str.{bytes_eq}
use Rattle.names.specs.declared.party.Party.{Party}
use Rattle.names.specs.declared.token.Token.{Token}
use Rattle.names.specs.declared.choice_id.ChoiceId.{ChoiceId}
use Rattle.names.specs.Orders.{party_cmp, token_cmp, choice_id_cmp}

abbrev pub same_bytes : List ℕ → List ℕ → Bool
same_bytes = bytes_eq

-- texts, by their bytes
abbrev pub same_text : List ℕ → List ℕ → Bool
same_text = same_bytes

abbrev pub same_party : Party → Party → Bool
same_party = eq_by_cmp party_cmp

abbrev pub same_token : Token → Token → Bool
same_token = eq_by_cmp token_cmp

abbrev pub same_choice_id : ChoiceId → ChoiceId → Bool
same_choice_id = eq_by_cmp choice_id_cmp

-- ada: no currency symbol and no name
abbrev pub ada : Token
ada = record { symbol = []; name = [] }

abbrev pub is_ada : Token → Bool
is_ada t = same_token t ada
