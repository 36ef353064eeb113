-- How much of a token lacks of what an intent deposits.
use Rattle.std.specs.Prelude.{ℕ, ℤ, pos, ◌+ℤ◌, ◌-ℤ◌, int_lt, ◌&&◌, List, [], ◌∷◌, if◌then◌else◌, Result, Ok, Err}
use Rattle.contract.specs.Names.declared.token.Token.{Token}
use Rattle.contract.specs.Names.Equal.{same_token}
use Rattle.builder_spec.specs.Bundle.Bundles.{amount_of}
use Rattle.contract.specs.declared.fault.SemFault.{SemFault}
use Rattle.contract.specs.declared.input.Input.{Input}
use Rattle.contract.specs.declared.input.Input.TheVariants.{Deposit}
use Rattle.builder_spec.specs.Evaluation.Checked.{checked}
use Rattle.builder_spec.specs.Ledger.declared.look.Unspent.{Unspent}
use Rattle.plans.specs.declared.intent.Intent.{Intent}
use Rattle.plans.specs.declared.intent.Intent.TheVariants.{Step, Steps}

-- a sum with one more, and with one less, while it stays within 128 bits
abbrev pub and_more : Result ℤ SemFault → ℤ → Result ℤ SemFault
and_more (Ok n) m = checked (n +ℤ m)
and_more (Err fault) m = Err fault

abbrev pub and_less : Result ℤ SemFault → ℤ → Result ℤ SemFault
and_less (Ok n) m = checked (n -ℤ m)
and_less (Err fault) m = Err fault

-- what an input deposits of a token, where that is above 0
abbrev pub deposited : Token → Input → ℤ
deposited token (Deposit account party t n) = if int_lt (pos 0) n && same_token t token then n else pos 0
deposited token x = pos 0

-- so much, and what these inputs deposit
abbrev pub with_inputs : Token → Result ℤ SemFault → List Input → Result ℤ SemFault
with_inputs token n [] = n
with_inputs token n (x ∷ xs) = with_inputs token (and_more n (deposited token x)) xs

abbrev pub with_steps : Token → Result ℤ SemFault → List (ℕ × List Input) → Result ℤ SemFault
with_steps token n [] = n
with_steps token n (s ∷ ss) = with_steps token (with_inputs token n s.1) ss

abbrev pub wanted : Token → Intent ℕ ℕ → Result ℤ SemFault
wanted token (Step thread inputs interval pooled) = with_inputs token (Ok (pos 0)) inputs
wanted token (Steps steps interval pooled) = with_steps token (Ok (pos 0)) steps
wanted token intent = Ok (pos 0)

-- .. less what these outputs hold
abbrev pub without : Token → Result ℤ SemFault → List Unspent → Result ℤ SemFault
without token n [] = n
without token n (u ∷ us) = without token (and_less n (amount_of u.output.amount token)) us

-- LACKING: what the intent deposits of the token, less what is offered
abbrev pub lacking : Token → Intent ℕ ℕ → List Unspent → Result ℤ SemFault
lacking token intent offered = without token (wanted token intent) offered
