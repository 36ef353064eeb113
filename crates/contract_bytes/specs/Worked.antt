-- Worked spellings.
use Rattle.std.specs.Prelude.{◌≡◌, pos, negsuc, ◌-◌, ◌^◌, [], ◌∷◌, replicate}
use Rattle.std.specs.FinMap.{entries}
use Rattle.contract.specs.Names.declared.party.Party.TheVariants as parties
use Rattle.contract.specs.Names.Equal.{ada}
use Rattle.contract.specs.declared.input.Input.TheVariants as inputs
use Rattle.contract.specs.States.States.{StateMaps}
use Rattle.contract.specs.Tree.{close, when, no_cases}
use Rattle.contract_bytes.specs.Numbers.{number_bytes, time_bytes}
use Rattle.contract_bytes.specs.Names.{party_bytes, token_bytes}
use Rattle.contract_bytes.specs.Trees.{contract_bytes}
use Rattle.contract_bytes.specs.Inputs.{input_bytes}
use Rattle.contract_bytes.specs.States.{state_bytes}

abbrev pub Closes : Type 0
Closes = contract_bytes close ≡ 0x00 ∷ []

-- a When without cases until 100, then Close
abbrev pub Waits : Type 0
Waits = contract_bytes (when no_cases (pos 100) close) ≡ 0x03 ∷ 0 ∷ 0 ∷ 0 ∷ 0 ∷ 0 ∷ 0 ∷ 0 ∷ 0 ∷ 0 ∷ 0 ∷ 0 ∷ 0 ∷ 0 ∷ 0 ∷ 0 ∷ 0x64 ∷ 0x00 ∷ []

-- the address x
abbrev pub Addresses : Type 0
Addresses = party_bytes (parties.Address (0x78 ∷ [])) ≡ 0x00 ∷ 0 ∷ 0 ∷ 0 ∷ 0 ∷ 0 ∷ 0 ∷ 0 ∷ 1 ∷ 0x78 ∷ []

abbrev pub AdaIsZeros : Type 0
AdaIsZeros = token_bytes ada ≡ replicate 16 0

abbrev pub Notifies : Type 0
Notifies = input_bytes inputs.Notify ≡ 0x02 ∷ []

-- a state without entries at minimum time 0
abbrev pub EmptyIsZeros : Type 0
EmptyIsZeros = (s : StateMaps) → entries s.accounts ≡ [] → entries s.choices ≡ [] → entries s.bound_values ≡ [] → s.min_time ≡ pos 0 → state_bytes s ≡ replicate 32 0

abbrev pub MinusOneIsOnes : Type 0
MinusOneIsOnes = number_bytes (negsuc 0) ≡ replicate 16 0xff

abbrev pub GreatestNumber : Type 0
GreatestNumber = number_bytes (pos (2 ^ 127 - 1)) ≡ 0x7f ∷ replicate 15 0xff

-- the least time, -2^63
abbrev pub LeastTime : Type 0
LeastTime = time_bytes (negsuc (2 ^ 63 - 1)) ≡ 0x80 ∷ replicate 7 0
