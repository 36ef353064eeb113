-- The inputs that apply where a contract waits, case by case.
use Rattle.std.specs.Prelude.{ℕ, ℤ, List, Option}
use Rattle.contract.specs.Names.declared.party.Party.{Party}
use Rattle.contract.specs.Names.declared.token.Token.{Token}
use Rattle.contract.specs.Names.declared.choice_id.ChoiceId.{ChoiceId}
use Rattle.contract.specs.Names.declared.bound.Bound.{Bound}
use Rattle.contract.specs.declared.fault.SemFault.{SemFault}

-- what the case at an index takes, and why what follows is refused, if it is: a deposit into an account by a party of an
-- amount of a token, a choice in bounds, or a notify. Or a number of the case's own leaves 128 bits
pub data Applicable : Type 0 where
  deposits : ℕ → Party → Party → Token → ℤ → Option SemFault → Applicable
  chooses : ℕ → ChoiceId → List Bound → Applicable
  notifies : ℕ → Option SemFault → Applicable
  deposit_leaves : ℕ → Party → Party → Token → Applicable
  notify_leaves : ℕ → Applicable
