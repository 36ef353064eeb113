-- Alarms that stand in order. It serves proofs alone.
use Rattle.std.specs.Prelude.{◌≡◌, ◌≢◌, ◌+◌, ◌<◌, ℕ, List, Contains, get_or, ◌⊎◌}
use Rattle.std.specs.declared.cmp.Ordering.TheVariants.{Less}
use Rattle.analysis_spec.specs.declared.alarm.Alarm.{Alarm}
use Rattle.marlowe_analyse.specs.declared.order.Standing.{Standing}
use Rattle.marlowe_analyse.specs.Order.{alarm_key, key_cmp}

-- its numbers are the alarm's
abbrev pub HasKey : Standing → Type 0
HasKey s = s.key.items ≡ alarm_key s.alarm.now

-- each alarm is that of one of them
abbrev pub StandForAll : List Alarm → List Standing → Type 0
StandForAll alarms all = (a : Alarm) → Contains alarms a → (s : Standing) × (s.alarm.now ≡ a) × Contains all s

-- the one at an index stands behind the one before it, if there is one
abbrev pub IsNewAt : List Standing → ℕ → Type 0
IsNewAt all n = (i : ℕ) (s t : Standing) → i + 1 ≡ n → s ≡ get_or all i s → t ≡ get_or all n t → key_cmp s.key.items t.key.items ≡ Less

-- .. there is one, and it doesn't
abbrev pub IsOldAt : List Standing → ℕ → Type 0
IsOldAt all n = (0 < n) × ((i : ℕ) (s t : Standing) → i + 1 ≡ n → s ≡ get_or all i s → t ≡ get_or all n t → key_cmp s.key.items t.key.items ≢ Less)

-- an alarm stands where this key does, or before
abbrev pub IsUpTo : List ℕ → Alarm → Type 0
IsUpTo key a = (alarm_key a ≡ key) ⊎ (key_cmp (alarm_key a) key ≡ Less)
