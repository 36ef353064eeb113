-- What is told of each fault, in either spelling.
use Rattle.std.specs.Prelude.{ℕ, ℤ, Bool, true, false, List}
use Rattle.contract.specs.Names.declared.party.Party.{Party}
use Rattle.contract.specs.Names.declared.token.Token.{Token}
use Rattle.contract.specs.declared.input.Input.{Input}
use Rattle.contract.specs.declared.interval.Interval.{Interval}
use Rattle.contract.specs.Tree.{ContractTree}
use Rattle.marlowe_next.specs.AnalysisSpec.declared.path.PathStep.{PathStep}
use Rattle.json_members.specs.declared.spelling.Spelling.{Spelling}
use Rattle.json_members.specs.declared.spelling.Spelling.TheVariants as spellings
use Rattle.marlowe_explain.specs.Lines.{place_of, invalid_line, past_line, ambiguous_line, value_line, sum_line, unmatched_lines, useless_lines}
use Rattle.marlowe_explain.specs.Members.{invalid_members, past_members, ambiguous_members, value_members, sum_members, unmatched_members, useless_members}

abbrev pub is_for_tools : Spelling → Bool
is_for_tools spellings.Lines = false
is_for_tools spellings.Members = true

abbrev pub invalid_told : Spelling → Interval → List ℕ
invalid_told spellings.Lines i = invalid_line i
invalid_told spellings.Members i = invalid_members

abbrev pub past_told : Spelling → Interval → ℤ → List ℕ
past_told spellings.Lines i least = past_line i least
past_told spellings.Members i least = past_members least

abbrev pub ambiguous_told : Spelling → Interval → ContractTree → List PathStep → ℤ → List ℕ
ambiguous_told spellings.Lines j c place timeout = ambiguous_line j (place_of c place) timeout
ambiguous_told spellings.Members j c place timeout = ambiguous_members c place timeout

abbrev pub value_told : Spelling → ContractTree → List PathStep → List ℕ
value_told spellings.Lines c place = value_line (place_of c place)
value_told spellings.Members c place = value_members c place

abbrev pub sum_told : Spelling → ContractTree → List PathStep → Party → Token → List ℕ
sum_told spellings.Lines c place p t = sum_line (place_of c place) p t
sum_told spellings.Members c place p t = sum_members c place p t

abbrev pub unmatched_told : Spelling → ContractTree → ℕ → Input → List PathStep → List ℕ → List ℕ
unmatched_told spellings.Lines c n x place next = unmatched_lines n x (place_of c place) next
unmatched_told spellings.Members c n x place next = unmatched_members c n place next

abbrev pub useless_told : Spelling → ContractTree → List PathStep → List ℕ → List ℕ
useless_told spellings.Lines c place next = useless_lines (place_of c place) next
useless_told spellings.Members c place next = useless_members c place next
