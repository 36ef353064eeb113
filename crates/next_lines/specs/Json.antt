-- The JSON for tools. The keys of each object stand in the order of their bytes. Tools are told all inputs, so no key says how many more apply.
use Rattle.std.specs.Prelude.{ℕ, ℤ, pos, int_le, false, List, [], ◌∷◌, ◌++◌, map, flat_map, Option, Some, None, codes}
use Rattle.serde_json.specs.Data.{Data, null, boolean, string, array, object, no_members, member}
use Rattle.serde_json.specs.View.{items_of}
use Rattle.serde_json.specs.Written.{compact_text}
use Rattle.contract.specs.Names.declared.party.Party.{Party}
use Rattle.contract.specs.Names.declared.token.Token.{Token}
use Rattle.contract.specs.Names.declared.choice_id.ChoiceId.{ChoiceId}
use Rattle.contract.specs.Names.declared.bound.Bound.{Bound}
use Rattle.contract.specs.declared.fault.SemFault.{SemFault}
use Rattle.json_write_contracts.specs.WrittenNames.{two, three, four, six, number_json, wide_json, party_json, token_json, choice_id_json}
use Rattle.json_write_outcomes.specs.WrittenOutcome.{payment_json}
use Rattle.marlowe_refusals.specs.Refusals.{sem_fault_name}
use Rattle.places.specs.declared.key.Key.{Key}
use Rattle.places.specs.Texts.{place_json}
use Rattle.next_lines.specs.Applicable.{Applicable, deposits, chooses, notifies, deposit_leaves, notify_leaves}
use Rattle.next_lines.specs.Told.{Told}

-- why what follows is refused, or null where it isn't
abbrev pub refused_json : Option SemFault → Data
refused_json None = null
refused_json (Some f) = string (sem_fault_name f)

abbrev pub range_json : Bound → Data
range_json b = two (codes "from") (wide_json b.from) (codes "to") (wide_json b.to)

-- ---- what applies

abbrev pub deposit_json : ℕ → Option SemFault → Party → Party → Token → ℤ → Data
deposit_json n refused a p t m = object
    (member (codes "can_deposit") (wide_json m)
    (member (codes "case_index") (number_json (pos n))
    (member (codes "into_account") (party_json a)
    (member (codes "is_merkleized_continuation") (boolean false)
    (member (codes "of_token") (token_json t)
    (member (codes "party") (party_json p)
    (member (codes "refused") (refused_json refused)
    (member (codes "warns") (boolean (int_le m (pos 0))) no_members))))))))

abbrev pub choice_json : ℕ → ChoiceId → List Bound → Data
choice_json n id bounds = four (codes "can_choose_between") (array (items_of (map range_json bounds))) (codes "case_index") (number_json (pos n))
    (codes "for_choice") (choice_id_json id) (codes "is_merkleized_continuation") (boolean false)

abbrev pub notify_json : ℕ → Option SemFault → Data
notify_json n refused = three (codes "case_index") (number_json (pos n)) (codes "is_merkleized_continuation") (boolean false) (codes "refused") (refused_json refused)

-- what is told of a case in each list
abbrev pub in_deposits : Applicable → List Data
in_deposits (deposits n a p t m refused) = deposit_json n refused a p t m ∷ []
in_deposits _ = []

abbrev pub in_choices : Applicable → List Data
in_choices (chooses n id bounds) = choice_json n id bounds ∷ []
in_choices _ = []

abbrev pub in_leaves : Applicable → List Data
in_leaves (deposit_leaves n a p t) = number_json (pos n) ∷ []
in_leaves (notify_leaves n) = number_json (pos n) ∷ []
in_leaves _ = []

-- the case that takes a notify, or null where none does
abbrev pub notify_of : List Applicable → Data
notify_of [] = null
notify_of (notifies n refused ∷ xs) = notify_json n refused
notify_of (_ ∷ xs) = notify_of xs

abbrev pub listed : (Applicable → List Data) → List Applicable → Data
listed f xs = array (items_of (flat_map f xs))

abbrev pub inputs_json : List Applicable → Data
inputs_json xs = four (codes "choices") (listed in_choices xs) (codes "deposits") (listed in_deposits xs) (codes "leaves_128") (listed in_leaves xs) (codes "notify") (notify_of xs)

-- ---- all that is told

-- the last moment at which it waits, or null where it closes
abbrev pub until_json : Option ℤ → Data
until_json None = null
until_json (Some last) = wide_json last

abbrev pub warning_json : List Key × List ℕ → Data
warning_json w = two (codes "at") (place_json w.0) (codes "kind") (string w.1)

abbrev pub told_json : Told → Data
told_json t = six (codes "applicable_inputs") (inputs_json t.inputs) (codes "at") (place_json t.path) (codes "can_reduce") (boolean t.can_reduce)
    (codes "payments") (array (items_of (map payment_json t.payments))) (codes "waits_until") (until_json t.until)
    (codes "warnings") (array (items_of (map warning_json t.warned)))

-- its compact text, on one line
abbrev pub json_line : Told → List ℕ
json_line t = compact_text (told_json t) ++ 10 ∷ []
