-- What the writers of single members put, behind what they wrote before.
use Rattle.std.specs.Prelude.{◌≡◌, ◌≢◌, List, ℕ, ◌∷◌, Bool, true, false, Result, MatchResult}
use Rattle.json.specs.Token.{Token}
use Rattle.json.specs.Tree.{members_tokens}
use Rattle.json.specs.Written as json
use Rattle.serde_json.specs.Data.{Data, Members, no_members, member}
use Rattle.serde_json.specs.Written.{members_outline}
use Rattle.json_write_contracts.specs.Tokens.{Adds, data_tokens}
use Rattle.json_write_contracts.specs.declared.fault.WriteFault.{WriteFault}
use Rattle.json_write_contracts.specs.declared.fault.WriteFault.TheVariants as faults

-- a member: its key, and its value
abbrev pub member_tokens : List ℕ → Data → List Token
member_tokens key d = Token.key key ∷ data_tokens d

-- the members with which an object ends, and its end
abbrev pub Ends : json.Written → json.Written → Members → Type 0
Ends old new ms = Adds old new (members_tokens (members_outline ms))

-- it ends with three members: the keys k, l and m, each with its value
abbrev pub EndsWithThree : json.Written → json.Written → List ℕ → Data → List ℕ → Data → List ℕ → Data → Type 0
EndsWithThree old new k a l b m c = Ends old new (member k a (member l b (member m c no_members)))

-- These tokens came, and JSON has all their numbers; or one it doesn't have; or the call was refused for memory.
abbrev pub AddsFitting : Result (Unit {0}) WriteFault → json.Written → json.Written → Bool → List Token → Type 0
AddsFitting result old new fits ts = MatchResult result (λ done. (fits ≡ true) × Adds old new ts) (λ fault. fault ≢ faults.Memory → fits ≡ false)
