-- The members of a JSON object that tell tools why a transaction is refused.
use Rattle.std.specs.Prelude.{ℕ, ℤ, List, ◌++◌, ◌-◌, length, take, codes}
use Rattle.serde_json.specs.Data.{string}
use Rattle.contract.specs.Names.declared.party.Party.{Party}
use Rattle.contract.specs.Names.declared.token.Token.{Token}
use Rattle.contract.specs.Tree.{ContractTree}
use Rattle.marlowe_next.specs.AnalysisSpec.declared.path.PathStep.{PathStep}
use Rattle.marlowe_next.specs.JsonWriteContracts.WrittenNames.{number_json, party_json, token_json}
use Rattle.json_members.specs.Members.{first_member, next_member, next_text, count_json}
use Rattle.marlowe_next.specs.Places.Places.{keys_of}
use Rattle.marlowe_next.specs.Places.Texts.{place_json}

-- why, in one word
abbrev pub reason_member : List ℕ → List ℕ
reason_member word = first_member (codes "reason") (string word)

-- a place of a contract, in the spelling of an analysis
abbrev pub place_member : ContractTree → List PathStep → List ℕ
place_member c place = next_member (codes "place") (place_json (keys_of place c))

-- the line of JSON that answers what can be done next, without its line feed
abbrev pub next_answer : List ℕ → List ℕ
next_answer line = next_text (codes "next") (take (length line - 1) line)

-- ---- what is told of each fault

abbrev pub invalid_members : List ℕ
invalid_members = reason_member (codes "invalid_interval")

-- the minimum time
abbrev pub past_members : ℤ → List ℕ
past_members least = reason_member (codes "interval_in_past") ++ next_member (codes "least") (number_json least)

-- the timeout inside the interval, and where it stands
abbrev pub ambiguous_members : ContractTree → List PathStep → ℤ → List ℕ
ambiguous_members c place timeout = reason_member (codes "ambiguous") ++ (place_member c place ++ next_member (codes "timeout") (number_json timeout))

abbrev pub value_members : ContractTree → List PathStep → List ℕ
value_members c place = reason_member (codes "value_leaves") ++ place_member c place

-- the account in which the sum is made
abbrev pub sum_members : ContractTree → List PathStep → Party → Token → List ℕ
sum_members c place p t = reason_member (codes "sum_leaves") ++ (place_member c place ++ (next_member (codes "party") (party_json p) ++ next_member (codes "token") (token_json t)))

-- which input no case takes; where the contract stands then, and what it takes there
abbrev pub unmatched_members : ContractTree → ℕ → List PathStep → List ℕ → List ℕ
unmatched_members c n place next = reason_member (codes "no_match") ++ (next_member (codes "input") (count_json n) ++ (place_member c place ++ next_answer next))

abbrev pub useless_members : ContractTree → List PathStep → List ℕ → List ℕ
useless_members c place next = reason_member (codes "useless") ++ (place_member c place ++ next_answer next)
