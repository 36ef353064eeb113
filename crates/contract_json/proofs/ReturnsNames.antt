-- Names, numbers and lists that were written are read as they were.
use Rattle.std.proofs.Common.{◌≡◌, ℤ, pos, negsuc, true, List, [], ◌∷◌, map, Ok, refl}
use Rattle.serde_json.specs.Data.{Data, array}
use Rattle.serde_json.specs.View.{items_of}
use Rattle.contract.specs.Names.declared.party.Party.{Party}
use Rattle.contract.specs.Names.declared.party.Party.TheVariants as parties
use Rattle.contract.specs.Names.declared.payee.Payee.{Payee}
use Rattle.contract.specs.Names.declared.payee.Payee.TheVariants as payees
use Rattle.contract.specs.Names.declared.choice_id.ChoiceId.{ChoiceId}
use Rattle.contract.specs.Names.declared.bound.Bound.{Bound}
use Rattle.json_read_names.specs.Parts.{Reading, whole_number, time, all_items, list}
use Rattle.json_read_names.specs.ReadsNames.{party, payee, choice_id, bound}
use Rattle.json_write_contracts.specs.WrittenNames.{number_json, time_fits, party_json, payee_json, choice_id_json}
use Rattle.json_write_contracts.specs.WrittenContract.{bound_json}

pub whole-number_json : (n : ℤ) → whole_number (number_json n) ≡ Ok n
whole-number_json (pos n) = refl
whole-number_json (negsuc n) = refl

-- a time that fits is read as it was
pub time-number_json : (t : ℤ) → time_fits t ≡ true → time (number_json t) ≡ Ok t
time-number_json (pos n) h = rw h refl
time-number_json (negsuc n) h = refl

pub party-party_json : (p : Party) → party (party_json p) ≡ Ok p
party-party_json (parties.Address text) = refl
party-party_json (parties.Role text) = refl

pub payee-payee_json : (p : Payee) → payee (payee_json p) ≡ Ok p
payee-payee_json (payees.Account p) = rw (party-party_json p) refl
payee-payee_json (payees.Party p) = rw (party-party_json p) refl

pub choice_id-choice_id_json : (id : ChoiceId) → choice_id (choice_id_json id) ≡ Ok id
choice_id-choice_id_json id = rw (party-party_json id.owner) refl

pub bound-bound_json : (b : Bound) → bound (bound_json b) ≡ Ok b
bound-bound_json b = rw (whole-number_json b.from, whole-number_json b.to) refl

-- a list that was written is read as it was, where its items are
all_items-written : {X : Type 0} (reading : Data → Reading X) (json : X → Data) → ((x : X) → reading (json x) ≡ Ok x) → (xs : List X) → all_items reading (items_of (map json xs)) ≡ Ok xs
all_items-written reading json h [] = refl
all_items-written reading json h (x ∷ xs) = rw (h x, all_items-written reading json h xs) refl

pub bounds-written : (bounds : List Bound) → list bound (array (items_of (map bound_json bounds))) ≡ Ok bounds
bounds-written = all_items-written bound bound_json bound-bound_json
