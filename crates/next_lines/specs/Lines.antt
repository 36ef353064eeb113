-- The lines for people.
use Rattle.std.specs.Prelude.{ℕ, ◌==◌, ℤ, pos, ◌+ℤ◌, int_le, Bool, true, false, List, [], ◌∷◌, ◌++◌, flat_map, if◌then◌else◌, Option, Some, None, codes, decimal}
use Rattle.std.specs.List.{join_by}
use Rattle.std.specs.Ordering.{int_eq}
use Rattle.std.specs.Fmt.{signed_decimal}
use Rattle.serde_json.specs.Data.{string}
use Rattle.serde_json.specs.Written.{compact_text}
use Rattle.contract.specs.Names.declared.party.Party.{Party}
use Rattle.contract.specs.Names.declared.token.Token.{Token}
use Rattle.contract.specs.Names.declared.choice_id.ChoiceId.{ChoiceId}
use Rattle.contract.specs.Names.declared.bound.Bound.{Bound}
use Rattle.contract.specs.declared.fault.SemFault.{SemFault}
use Rattle.contract.specs.declared.payment.Payment.{Payment}
use Rattle.json_write_contracts.specs.WrittenNames.{party_json, payee_json}
use Rattle.analysis_spec.specs.declared.path.PathStep.TheVariants.{Case, TimeoutContinuation}
use Rattle.marlowe_refusals.specs.Refusals.{sem_fault_name}
use Rattle.places.specs.declared.key.Key.{Key}
use Rattle.places.specs.Places.{step_keys}
use Rattle.places.specs.Texts.{place_text, token_text}
use Rattle.next_lines.specs.Applicable.{Applicable, deposits, chooses, notifies, deposit_leaves, notify_leaves}
use Rattle.next_lines.specs.Told.{Told}

-- a party as compact JSON
abbrev pub party_text : Party → List ℕ
party_text p = compact_text (party_json p)

-- an amount of a token
abbrev pub money_text : ℤ → Token → List ℕ
money_text n t = signed_decimal n ++ (codes " " ++ token_text t)

-- from one number to another, or the number that is both
abbrev pub bound_text : Bound → List ℕ
bound_text b = if int_eq b.from b.to then signed_decimal b.from else signed_decimal b.from ++ (codes " to " ++ signed_decimal b.to)

abbrev pub payment_text : Payment → List ℕ
payment_text p = money_text p.amount p.token ++ (codes " from " ++ (party_text p.from ++ (codes " to " ++ compact_text (payee_json p.to))))

-- ---- what applies

-- an amount of 0 or less is taken with a warning
abbrev pub warns_text : ℤ → List ℕ
warns_text n = if int_le n (pos 0) then codes ", warns NonPositiveDeposit" else []

abbrev pub deposit_text : Party → Party → Token → ℤ → List ℕ
deposit_text a p t n = codes "deposit " ++ (money_text n t ++ (codes " by " ++ (party_text p ++ (codes " into " ++ (party_text a ++ warns_text n)))))

abbrev pub choice_text : ChoiceId → List Bound → List ℕ
choice_text id bounds = codes "choose " ++ (compact_text (string id.name) ++ (codes " of " ++ (party_text id.owner ++ (codes ": " ++ join_by bound_text (codes ", ") bounds))))

abbrev pub refused_text : Option SemFault → List ℕ
refused_text None = []
refused_text (Some f) = codes ", refused " ++ sem_fault_name f

-- where a case of the contract leads, and whether what follows is refused
abbrev pub then_text : List Key → ℕ → Option SemFault → List ℕ
then_text path n refused = codes ", then " ++ (place_text (path ++ step_keys (Case n)) ++ (refused_text refused ++ 10 ∷ []))

-- a deposit that isn't taken
abbrev pub leaving_line : Party → Party → Token → List ℕ
leaving_line a p t = codes "deposit by " ++ (party_text p ++ (codes " into " ++ (party_text a ++ (codes " of " ++ (token_text t ++ (codes ": Leaves128" ++ 10 ∷ []))))))

abbrev pub input_line : List Key → Applicable → List ℕ
input_line path (deposits n a p t m refused) = deposit_text a p t m ++ then_text path n refused
input_line path (chooses n id bounds) = choice_text id bounds ++ then_text path n None
input_line path (notifies n refused) = codes "notify" ++ then_text path n refused
input_line path (deposit_leaves n a p t) = leaving_line a p t
input_line path (notify_leaves n) = codes "notify: Leaves128" ++ 10 ∷ []

-- how many more apply, where some aren't told
abbrev pub more_line : ℕ → List ℕ
more_line more = if more == 0 then [] else codes ".. and " ++ (decimal more ++ codes " more: marlowe next lists all\n")

-- ---- until when it waits, and what came on the way

-- the last moment, and what follows from the next on
abbrev pub times_text : ℤ → List ℕ
times_text last = codes "waits until " ++ (signed_decimal last ++ (codes "; from " ++ (signed_decimal (last +ℤ pos 1) ++ codes " on ")))

abbrev pub waits_line : List Key → ℤ → List ℕ
waits_line path last = times_text last ++ (place_text (path ++ step_keys TimeoutContinuation) ++ 10 ∷ [])

abbrev pub payment_line : Payment → List ℕ
payment_line p = codes "pays on the way " ++ (payment_text p ++ 10 ∷ [])

abbrev pub warning_line : List Key × List ℕ → List ℕ
warning_line w = codes "warns on the way: " ++ (w.1 ++ (codes " at " ++ (place_text w.0 ++ 10 ∷ [])))

-- a contract that is closed already has nothing to reduce
abbrev pub closes_line : Bool → List Payment → List ℕ
closes_line false ps = codes "closed" ++ 10 ∷ []
closes_line true [] = codes "closes, and pays nothing" ++ 10 ∷ []
closes_line true (p ∷ ps) = codes "closes, and pays " ++ (join_by payment_text (codes ", ") (p ∷ ps) ++ 10 ∷ [])

-- ---- all lines

abbrev pub stands_lines : Option ℤ → Told → List ℕ
stands_lines (Some last) t = flat_map (input_line t.path) t.inputs ++ (more_line t.more ++ (waits_line t.path last ++ flat_map payment_line t.payments))
stands_lines None t = closes_line t.can_reduce t.payments

abbrev pub lines_of : Told → List ℕ
lines_of t = stands_lines t.until t ++ flat_map warning_line t.warned
