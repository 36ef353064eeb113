-- What a writer puts: the tokens of a JSON value, behind those that it wrote before.
use Rattle.std.specs.Prelude.{◌≡◌, ◌≢◌, List, ◌++◌, Bool, true, false, Result, MatchResult}
use Rattle.json.specs.Token.{Token}
use Rattle.json.specs.Tree.{json_tokens}
use Rattle.json.specs.Written as json
use Rattle.serde_json.specs.Data.{Data}
use Rattle.serde_json.specs.Written.{outline}
use Rattle.json_write_contracts.specs.declared.fault.WriteFault.{WriteFault}
use Rattle.json_write_contracts.specs.declared.fault.WriteFault.TheVariants as faults

abbrev pub data_tokens : Data → List Token
data_tokens d = json_tokens (outline d)

-- these tokens came behind those of before, and nothing else changed
pub record Adds (old new : json.Written) (ts : List Token) : Type 0 where
  pub tokens : new.tokens ≡ old.tokens ++ ts
  pub before : new.before ≡ old.before

-- what stood there stays, and some tokens came behind it, or none: what a refused call leaves
abbrev pub Keeps : json.Written → json.Written → Type 0
Keeps old new = (more : List Token) × Adds old new more

-- the value was written
abbrev pub Puts : json.Written → json.Written → Data → Type 0
Puts old new d = Adds old new (data_tokens d)

-- The value was written, and JSON has all its numbers; or one it doesn't have; or the call was refused for memory.
abbrev pub PutsFitting : Result (Unit {0}) WriteFault → json.Written → json.Written → Bool → Data → Type 0
PutsFitting result old new fits d = MatchResult result (λ done. (fits ≡ true) × Puts old new d) (λ fault. fault ≢ faults.Memory → fits ≡ false)
