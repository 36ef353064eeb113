-- Worked rows of what is printed, computed on the definitions.
use Rattle.std.specs.Prelude.{◌≡◌, ◌++◌, ℕ, ◌^◌, ℤ, pos, negsuc, true, false, List, [], ◌∷◌, Some, None, codes}
use Rattle.serde_json.specs.Written.{compact_text}
use Rattle.contract.specs.Names.declared.choice_id.ChoiceId.{ChoiceId}
use Rattle.contract.specs.Names.declared.party.Party.{Party}
use Rattle.contract.specs.Names.declared.party.Party.TheVariants.{Role}
use Rattle.contract.specs.Names.declared.payee.Payee.TheVariants.{Party as ToParty}
use Rattle.contract.specs.Names.declared.token.Token.{Token}
use Rattle.contract.specs.Names.Equal.{ada}
use Rattle.contract.specs.declared.fault.SemFault.TheVariants.{Ambiguous}
use Rattle.contract.specs.declared.payment.Payment.{Payment}
use Rattle.places.specs.declared.key.Key.TheVariants as keys
use Rattle.next_lines.specs.Applicable.{Applicable, deposits, chooses, notifies, deposit_leaves, notify_leaves}
use Rattle.next_lines.specs.Told.{Told, up_to}
use Rattle.next_lines.specs.Lines.{input_line, more_line, waits_line, payment_line, warning_line, closes_line, lines_of}
use Rattle.next_lines.specs.Json.{deposit_json, choice_json, told_json}

abbrev pub party_a : Party
party_a = Role (codes "a")

abbrev pub party_b : Party
party_b = Role (codes "b")

-- ---- lines

abbrev pub IsLine : List ℕ → List ℕ → Type 0
IsLine line text = line ≡ text ++ 10 ∷ []

abbrev pub DepositsAreTold : Type 0
DepositsAreTold =
    IsLine (input_line [] (deposits 0 party_a party_b ada (pos 50) None)) (codes "deposit 50 ADA by {\"role_token\":\"b\"} into {\"role_token\":\"a\"}, then .when[0].then")
    × IsLine (input_line [] (deposits 1 party_a party_b ada (negsuc 4) None)) (codes "deposit -5 ADA by {\"role_token\":\"b\"} into {\"role_token\":\"a\"}, warns NonPositiveDeposit, then .when[1].then")
    × IsLine (input_line (keys.Then ∷ []) (deposits 2 party_a party_b ada (pos 7) (Some Ambiguous))) (codes "deposit 7 ADA by {\"role_token\":\"b\"} into {\"role_token\":\"a\"}, then .then.when[2].then, refused Ambiguous")
    × IsLine (input_line [] (deposit_leaves 3 party_a party_b ada)) (codes "deposit by {\"role_token\":\"b\"} into {\"role_token\":\"a\"} of ADA: Leaves128")

-- a choice of the role b, of 0, of 1, of 7 and of 9 to 12
abbrev pub release : ChoiceId
release = record { name = codes "release"; owner = party_b }

abbrev pub zero_seven_nine : Applicable
zero_seven_nine = chooses 3 release (record { from = pos 0; to = pos 1 } ∷ record { from = pos 7; to = pos 7 } ∷ record { from = pos 9; to = pos 12 } ∷ [])

abbrev pub ChoicesAndNotifiesAreTold : Type 0
ChoicesAndNotifiesAreTold =
    IsLine (input_line [] zero_seven_nine) (codes "choose \"release\" of {\"role_token\":\"b\"}: 0 to 1, 7, 9 to 12, then .when[3].then")
    × IsLine (input_line [] (notifies 4 None)) (codes "notify, then .when[4].then")
    × IsLine (input_line [] (notify_leaves 5)) (codes "notify: Leaves128")

abbrev pub pays : ℤ → Token → Payment
pays n t = record { from = party_a; to = ToParty party_b; token = t; amount = n }

abbrev pub gold : Token
gold = record { symbol = 170 ∷ []; name = codes "gold" }

abbrev pub TheWayIsTold : Type 0
TheWayIsTold =
    IsLine (waits_line [] (pos 1735689599999)) (codes "waits until 1735689599999; from 1735689600000 on .timeout_continuation")
    × IsLine (payment_line (pays (pos 5) ada)) (codes "pays on the way 5 ADA from {\"role_token\":\"a\"} to {\"party\":{\"role_token\":\"b\"}}")
    × IsLine (warning_line (keys.Pay ∷ [], codes "PartialPay")) (codes "warns on the way: PartialPay at .pay")

abbrev pub ClosingIsTold : Type 0
ClosingIsTold =
    IsLine (closes_line false []) (codes "closed")
    × IsLine (closes_line true []) (codes "closes, and pays nothing")
    × IsLine (closes_line true (pays (pos 50) ada ∷ pays (pos 7) gold ∷ []))
    (codes "closes, and pays 50 ADA from {\"role_token\":\"a\"} to {\"party\":{\"role_token\":\"b\"}}, 7 {\"currency_symbol\":\"aa\",\"token_name\":\"gold\"} from {\"role_token\":\"a\"} to {\"party\":{\"role_token\":\"b\"}}")

-- ---- all of a contract

-- it waits until 99 for a notify, and has paid and warned before
abbrev pub on_the_way : Told
on_the_way = record { path = keys.Then ∷ []; inputs = notifies 0 None ∷ notify_leaves 1 ∷ []; more = 0; until = Some (pos 99); can_reduce = true; payments = pays (pos 5) ada ∷ []; warned = (keys.Pay ∷ [], codes "PartialPay") ∷ [] }

abbrev pub AllIsToldInOrder : Type 0
AllIsToldInOrder =
    lines_of on_the_way
    ≡ codes "notify, then .then.when[0].then\nnotify: Leaves128\nwaits until 99; from 100 on .then.timeout_continuation\npays on the way 5 ADA from {\"role_token\":\"a\"} to {\"party\":{\"role_token\":\"b\"}}\nwarns on the way: PartialPay at .pay\n"

-- of its two inputs none is told, or the first. Or both, and then there are no more
abbrev pub TheFirstAreTold : Type 0
TheFirstAreTold =
    IsLine (more_line 6781) (codes ".. and 6781 more: marlowe next lists all")
    × (lines_of (up_to (Some 0) on_the_way)
    ≡ codes ".. and 2 more: marlowe next lists all\nwaits until 99; from 100 on .then.timeout_continuation\npays on the way 5 ADA from {\"role_token\":\"a\"} to {\"party\":{\"role_token\":\"b\"}}\nwarns on the way: PartialPay at .pay\n")
    × (lines_of (up_to (Some 1) on_the_way)
    ≡ codes "notify, then .then.when[0].then\n.. and 1 more: marlowe next lists all\nwaits until 99; from 100 on .then.timeout_continuation\npays on the way 5 ADA from {\"role_token\":\"a\"} to {\"party\":{\"role_token\":\"b\"}}\nwarns on the way: PartialPay at .pay\n")
    × (up_to (Some 2) on_the_way ≡ on_the_way)
    × (up_to None on_the_way ≡ on_the_way)

-- ---- JSON

abbrev pub DepositsAreWritten : Type 0
DepositsAreWritten =
    compact_text (deposit_json 1 (Some Ambiguous) party_a party_b ada (negsuc 4))
    ≡ codes "{\"can_deposit\":-5,\"case_index\":1,\"into_account\":{\"role_token\":\"a\"},\"is_merkleized_continuation\":false,\"of_token\":{\"currency_symbol\":\"\",\"token_name\":\"\"},\"party\":{\"role_token\":\"b\"},\"refused\":\"Ambiguous\",\"warns\":true}"

-- a number beyond those of JSON is a text
abbrev pub ChoicesAreWritten : Type 0
ChoicesAreWritten =
    compact_text (choice_json 3 release (record { from = pos 0; to = pos (2 ^ 64) } ∷ []))
    ≡ codes "{\"can_choose_between\":[{\"from\":0,\"to\":\"18446744073709551616\"}],\"case_index\":3,\"for_choice\":{\"choice_name\":\"release\",\"choice_owner\":{\"role_token\":\"b\"}},\"is_merkleized_continuation\":false}"

abbrev pub AllIsWritten : Type 0
AllIsWritten =
    compact_text (told_json on_the_way)
    ≡ codes "{\"applicable_inputs\":{\"choices\":[],\"deposits\":[],\"leaves_128\":[1],\"notify\":{\"case_index\":0,\"is_merkleized_continuation\":false,\"refused\":null}},\"at\":[\"then\"],\"can_reduce\":true,\"payments\":[{\"amount\":5,\"payment_from\":{\"role_token\":\"a\"},\"to\":{\"party\":{\"role_token\":\"b\"}},\"token\":{\"currency_symbol\":\"\",\"token_name\":\"\"}}],\"waits_until\":99,\"warnings\":[{\"at\":[\"pay\"],\"kind\":\"PartialPay\"}]}"
