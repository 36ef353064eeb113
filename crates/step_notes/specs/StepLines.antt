-- What is told of an accepted step, in lines for people.
use Rattle.std.specs.Prelude.{ℕ, ℤ, Bool, true, false, List, [], ◌∷◌, ◌++◌, ◌==◌, if◌then◌else◌, Option, Some, None, Result, Ok, Err, codes}
use Rattle.std.specs.Fmt.{signed_decimal}
use Rattle.serde_json.specs.Data.{string}
use Rattle.serde_json.specs.Written.{compact_text}
use Rattle.contract.specs.Names.declared.party.Party.{Party}
use Rattle.contract.specs.Names.declared.token.Token.{Token}
use Rattle.contract.specs.Names.declared.choice_id.ChoiceId.{ChoiceId}
use Rattle.contract.specs.Names.declared.bound.Bound.{Bound}
use Rattle.contract.specs.declared.fault.SemFault.{SemFault}
use Rattle.contract.specs.declared.input.Input.{Input}
use Rattle.contract.specs.declared.interval.Interval.{Interval}
use Rattle.contract.specs.declared.payment.Payment.{Payment}
use Rattle.contract.specs.declared.warning.Warning.{Warning}
use Rattle.contract.specs.Tree.{ActionTree, deposit, choice, notify, ContractTree}
use Rattle.contract.specs.States.States.{StateMaps}
use Rattle.machine.specs.Evaluation.Evaluation.{number_within, truth_within}
use Rattle.machine.specs.Evaluation.Path.{waits_for}
use Rattle.next_inputs.specs.Opening.{waits_until}
use Rattle.analysis_spec.specs.Promises.{kind_of}
use Rattle.places.specs.Texts.{kind_name}
use Rattle.next_lines.specs.Lines.{party_text, money_text, bound_text, payment_text}

-- ---- what it did

abbrev pub payment_line : Payment → List ℕ
payment_line p = codes "pays " ++ (payment_text p ++ 10 ∷ [])

abbrev pub payment_lines : List Payment → List ℕ
payment_lines [] = []
payment_lines (p ∷ ps) = payment_line p ++ payment_lines ps

abbrev pub warning_line : Warning → List ℕ
warning_line w = codes "warns " ++ (kind_name (kind_of w) ++ 10 ∷ [])

abbrev pub warning_lines : List Warning → List ℕ
warning_lines [] = []
warning_lines (w ∷ ws) = warning_line w ++ warning_lines ws

-- ---- what the contract waits for: of each case the deposit, the choice or the notify. A notify whose observation is false has no line; and a number of the
-- case's own may leave 128 bits

abbrev pub paid_line : Party → Party → Token → ℤ → List ℕ
paid_line a p t n = codes "waits for deposit " ++ (money_text n t ++ (codes " by " ++ (party_text p ++ (codes " into " ++ (party_text a ++ codes "\n")))))

abbrev pub leaving_line : Party → Party → List ℕ
leaving_line a p = codes "waits for deposit by " ++ (party_text p ++ (codes " into " ++ (party_text a ++ codes ": Leaves128\n")))

abbrev pub deposit_line : Party → Party → Token → Result ℤ SemFault → List ℕ
deposit_line a p t (Ok n) = paid_line a p t n
deposit_line a p t (Err fault) = leaving_line a p

-- bounds with a comma between each two
abbrev pub more_bounds : List Bound → List ℕ
more_bounds [] = []
more_bounds (b ∷ bs) = codes ", " ++ (bound_text b ++ more_bounds bs)

abbrev pub bounds_text : List Bound → List ℕ
bounds_text [] = []
bounds_text (b ∷ bs) = bound_text b ++ more_bounds bs

abbrev pub choice_start : ChoiceId → List ℕ
choice_start id = codes "waits for choose " ++ (compact_text (string id.name) ++ (codes " of " ++ (party_text id.owner ++ codes ": ")))

abbrev pub choice_words : ChoiceId → List Bound → List ℕ
choice_words id bounds = choice_start id ++ bounds_text bounds

abbrev pub choice_line : ChoiceId → List Bound → List ℕ
choice_line id bounds = choice_words id bounds ++ codes "\n"

abbrev pub notify_line : Result Bool SemFault → List ℕ
notify_line (Ok true) = codes "waits for notify\n"
notify_line (Ok false) = []
notify_line (Err fault) = codes "waits for notify: Leaves128\n"

abbrev pub case_line : Interval → StateMaps → ActionTree → List ℕ
case_line i s (deposit a p t v) = deposit_line a p t (number_within i s v)
case_line i s (choice id bounds) = choice_line id bounds
case_line i s (notify o) = notify_line (truth_within i s o)

abbrev pub case_lines : Interval → StateMaps → List (ActionTree × ContractTree) → List ℕ
case_lines i s [] = []
case_lines i s (k ∷ ks) = case_line i s k.0 ++ case_lines i s ks

-- the last moment at which it waits; a contract that doesn't is closed
abbrev pub last_line : ℤ → List ℕ
last_line last = codes "waits until " ++ (signed_decimal last ++ codes "\n")

abbrev pub until_line : Option ℤ → List ℕ
until_line (Some last) = last_line last
until_line None = codes "closed\n"

abbrev pub waiting_lines : Interval → StateMaps → ContractTree → List ℕ
waiting_lines i s c = case_lines i s (waits_for c) ++ until_line (waits_until c)

-- ---- all lines

abbrev pub outcome_lines : List Payment → List Warning → Interval → StateMaps → ContractTree → List ℕ
outcome_lines payments warnings i s c = payment_lines payments ++ (warning_lines warnings ++ waiting_lines i s c)

-- each line of a text behind a head; whether a line starts here
abbrev pub headed : List ℕ → Bool → List ℕ → List ℕ
headed head starts [] = []
headed head starts (c ∷ cs) = (if starts then head else []) ++ c ∷ headed head (c == 10) cs
