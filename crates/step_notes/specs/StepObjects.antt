-- What is told of an accepted step, as the members of an object for tools.
use Rattle.std.specs.Prelude.{ℕ, ◌+◌, ◌==◌, ℤ, Bool, true, false, if◌then◌else◌, List, [], ◌∷◌, ◌++◌, Option, Some, None, Result, Ok, Err, codes}
use Rattle.serde_json.specs.Data.{string}
use Rattle.serde_json.specs.Written.{compact_text}
use Rattle.contract.specs.Names.declared.party.Party.{Party}
use Rattle.contract.specs.Names.declared.token.Token.{Token}
use Rattle.contract.specs.Names.declared.choice_id.ChoiceId.{ChoiceId}
use Rattle.contract.specs.Names.declared.bound.Bound.{Bound}
use Rattle.contract.specs.declared.fault.SemFault.{SemFault}
use Rattle.contract.specs.declared.interval.Interval.{Interval}
use Rattle.contract.specs.declared.payment.Payment.{Payment}
use Rattle.contract.specs.declared.warning.Warning.{Warning}
use Rattle.contract.specs.Tree.{ActionTree, deposit, choice, notify, ContractTree}
use Rattle.contract.specs.States.States.{StateMaps}
use Rattle.machine.specs.Evaluation.Evaluation.{number_within, truth_within}
use Rattle.machine.specs.Evaluation.Path.{waits_for}
use Rattle.next_inputs.specs.Opening.{waits_until}
use Rattle.json_write_contracts.specs.WrittenNames.{wide_json, token_json}
use Rattle.json_write_outcomes.specs.WrittenOutcome.{payment_json, warning_json}
use Rattle.next_lines.specs.Lines.{party_text}

-- a comma before each item of a list but the first, by its index
abbrev pub comma : ℕ → List ℕ
comma n = if n == 0 then [] else codes ","

abbrev pub number_text : ℤ → List ℕ
number_text n = compact_text (wide_json n)

-- ---- what it did, the first of these at index n

abbrev pub payment_objects : ℕ → List Payment → List ℕ
payment_objects n [] = []
payment_objects n (p ∷ ps) = (comma n ++ compact_text (payment_json p)) ++ payment_objects (n + 1) ps

abbrev pub warning_objects : ℕ → List Warning → List ℕ
warning_objects n [] = []
warning_objects n (w ∷ ws) = (comma n ++ compact_text (warning_json w)) ++ warning_objects (n + 1) ws

-- ---- what the contract waits for: of each case the deposit, the choice or the notify; null for a number or a truth of which a number leaves 128 bits

abbrev pub amount_text : Result ℤ SemFault → List ℕ
amount_text (Ok n) = number_text n
amount_text (Err fault) = codes "null"

abbrev pub truth_text : Result Bool SemFault → List ℕ
truth_text (Ok true) = codes "true"
truth_text (Ok false) = codes "false"
truth_text (Err fault) = codes "null"

abbrev pub deposit_object : Party → Party → Token → Result ℤ SemFault → List ℕ
deposit_object a p t n =
    codes "{\"deposit\":" ++ (amount_text n ++ (codes ",\"token\":" ++ (compact_text (token_json t)
    ++ (codes ",\"by\":" ++ (party_text p ++ (codes ",\"into\":" ++ (party_text a ++ codes "}")))))))

abbrev pub bound_object : Bound → List ℕ
bound_object b = codes "{\"from\":" ++ (number_text b.from ++ (codes ",\"to\":" ++ (number_text b.to ++ codes "}")))

abbrev pub bound_objects : ℕ → List Bound → List ℕ
bound_objects n [] = []
bound_objects n (b ∷ bs) = (comma n ++ bound_object b) ++ bound_objects (n + 1) bs

abbrev pub choice_head : ChoiceId → List ℕ
choice_head id = codes "{\"choose\":" ++ (compact_text (string id.name) ++ (codes ",\"of\":" ++ (party_text id.owner ++ codes ",\"bounds\":[")))

abbrev pub choice_object : ChoiceId → List Bound → List ℕ
choice_object id bounds = choice_head id ++ (bound_objects 0 bounds ++ codes "]}")

abbrev pub notify_object : Result Bool SemFault → List ℕ
notify_object truth = codes "{\"notify\":" ++ (truth_text truth ++ codes "}")

abbrev pub case_object : Interval → StateMaps → ActionTree → List ℕ
case_object i s (deposit a p t v) = deposit_object a p t (number_within i s v)
case_object i s (choice id bounds) = choice_object id bounds
case_object i s (notify o) = notify_object (truth_within i s o)

abbrev pub case_objects : Interval → StateMaps → ℕ → List (ActionTree × ContractTree) → List ℕ
case_objects i s n [] = []
case_objects i s n (k ∷ ks) = (comma n ++ case_object i s k.0) ++ case_objects i s (n + 1) ks

-- the last moment at which it waits; null where it is closed
abbrev pub until_text : Option ℤ → List ℕ
until_text (Some last) = number_text last
until_text None = codes "null"

-- ---- all members, and the end of their object and line

abbrev pub waiting_members : Interval → StateMaps → ContractTree → List ℕ
waiting_members i s c = codes "\"waits_for\":[" ++ (case_objects i s 0 (waits_for c) ++ (codes "],\"waits_until\":" ++ (until_text (waits_until c) ++ codes "}\n")))

abbrev pub done_members : List Payment → List Warning → List ℕ
done_members payments warnings = codes "\"payments\":[" ++ (payment_objects 0 payments ++ (codes "],\"warnings\":[" ++ (warning_objects 0 warnings ++ codes "],")))

abbrev pub outcome_members : List Payment → List Warning → Interval → StateMaps → ContractTree → List ℕ
outcome_members payments warnings i s c = done_members payments warnings ++ waiting_members i s c
