-- What is told of a contract: where it stands when the next inputs come, which inputs apply there, until when it waits, and what came
-- on the way.
use Rattle.std.specs.Prelude.{ℕ, ◌+◌, ◌-◌, ℤ, Bool, List, length, take, Option, Some, None}
use Rattle.contract.specs.declared.payment.Payment.{Payment}
use Rattle.places.specs.declared.key.Key.{Key}
use Rattle.next_lines.specs.Applicable.{Applicable}

-- the keys that lead to the contract where the next inputs come, the inputs that apply there, how many more apply than these, and the
-- last moment at which it waits, if it doesn't close. Whether a transaction without inputs is accepted; what the reduction before the
-- inputs pays; and of each of its warnings the keys that lead to its place, and the name of its kind
pub record Told : Type 0 where
  pub path : List Key
  pub inputs : List Applicable
  pub more : ℕ
  pub until : Option ℤ
  pub can_reduce : Bool
  pub payments : List Payment
  pub warned : List (List Key × List ℕ)

-- all of it; or of the inputs only the first, so many at most, and how many more there are
abbrev pub up_to : Option ℕ → Told → Told
up_to None t = t
up_to (Some most) t = record t { inputs = take most t.inputs; more = t.more + (length t.inputs - most) }
