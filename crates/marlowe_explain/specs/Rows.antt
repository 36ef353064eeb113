-- Worked rows of the lines and of the members, computed on the definitions.
use Rattle.std.specs.Prelude.{◌≡◌, pos, true, [], ◌∷◌, codes}
use Rattle.contract.specs.Tree.{ContractTree, close, when, notify, true_obs, no_cases, case_then}
use Rattle.marlowe_next.specs.AnalysisSpec.declared.path.PathStep.TheVariants.{Case}
use Rattle.contract.specs.Names.Equal.{ada}
use Rattle.contract.specs.declared.input.Input.TheVariants.{Deposit, Choice, Notify}
use Rattle.contract.specs.declared.interval.Interval.{Interval}
use Rattle.marlowe_next.specs.NextLines.Rows.{party_a, party_b, release}
use Rattle.marlowe_explain.specs.Members.{invalid_members, past_members, ambiguous_members, value_members, sum_members, unmatched_members, useless_members}
use Rattle.marlowe_explain.specs.Lines.{input_text, indented, invalid_line, past_line, ambiguous_line, value_line, sum_line, unmatched_lines, useless_lines}

abbrev pub from_to : Interval
from_to = record { from = pos 3; to = pos 10 }

-- the three sorts of inputs
abbrev pub InputsAreTold : Type 0
InputsAreTold =
    (input_text (Deposit party_a party_b ada (pos 40)) ≡ codes "deposit 40 ADA by {\"role_token\":\"b\"} into {\"role_token\":\"a\"}")
    × (input_text (Choice release (pos 4)) ≡ codes "choose \"release\" of {\"role_token\":\"b\"}: 4") × (input_text Notify ≡ codes "notify")

-- two lines, and no blanks behind the last
abbrev pub LinesAreIndented : Type 0
LinesAreIndented = indented true (codes "notify\nclosed\n") ≡ codes "    notify\n    closed\n"

abbrev pub FaultsAreTold : Type 0
FaultsAreTold =
    (invalid_line (record { from = pos 1; to = pos 0 }) ≡ codes "  the interval ends at 0, before it begins at 1\n")
    × (past_line from_to (pos 11) ≡ codes "  the interval ends at 10, before the minimum time 11\n")
    × (ambiguous_line from_to (codes ".when") (pos 5) ≡ codes "  the timeout 5 at .when lies inside the interval from 3 to 10\n")
    × (value_line (codes ".let") ≡ codes "  at .let: a number leaves 128 bits\n")
    × (sum_line (codes ".pay") party_a ada ≡ codes "  at .pay: the sum of ADA in the account of {\"role_token\":\"a\"} leaves 128 bits\n")

abbrev pub StandingIsTold : Type 0
StandingIsTold =
    (unmatched_lines 1 Notify (codes ".close") (codes "closed\n") ≡ codes "  at .tx_inputs[1]: no case takes notify\n  the contract stands at .close\n    closed\n")
    × (useless_lines (codes ".close") (codes "closed\n") ≡ codes "  there is no input, and nothing to reduce; the contract stands at .close\n    closed\n")

-- ---- members for tools

-- a When with one case, a notify
abbrev pub waits : ContractTree
waits = when (case_then (notify true_obs) close no_cases) (pos 5) close

abbrev pub FaultsAreMembers : Type 0
FaultsAreMembers =
    (invalid_members ≡ codes "\"reason\":\"invalid_interval\"") × (past_members (pos 11) ≡ codes "\"reason\":\"interval_in_past\",\"least\":11")
    × (ambiguous_members waits [] (pos 5) ≡ codes "\"reason\":\"ambiguous\",\"place\":[\"when\"],\"timeout\":5")
    × (value_members waits (Case 0 ∷ []) ≡ codes "\"reason\":\"value_leaves\",\"place\":[\"when\",0,\"then\",\"close\"]")
    × (sum_members waits [] party_a ada
    ≡ codes "\"reason\":\"sum_leaves\",\"place\":[\"when\"],\"party\":{\"role_token\":\"a\"},\"token\":{\"currency_symbol\":\"\",\"token_name\":\"\"}")

-- the answer is on a line of its own, whose line feed is left out
abbrev pub StandingIsMembers : Type 0
StandingIsMembers =
    (unmatched_members waits 1 (Case 0 ∷ []) (codes "{}\n") ≡ codes "\"reason\":\"no_match\",\"input\":1,\"place\":[\"when\",0,\"then\",\"close\"],\"next\":{}")
    × (useless_members waits [] (codes "{}\n") ≡ codes "\"reason\":\"useless\",\"place\":[\"when\"],\"next\":{}")
