-- The order in which alarms are told: that of their places in the contract, and at one place that of their kinds. And that of
-- parts to which no run comes.
use Rattle.std.specs.Prelude.{◌≡◌, ℕ, List, [], ◌∷◌, ◌++◌, flat_map}
use Rattle.std.specs.List.{AllByRecursion}
use Rattle.std.specs.declared.cmp.Ordering.{Ordering}
use Rattle.std.specs.declared.cmp.Ordering.TheVariants.{Less}
use Rattle.std.specs.Ordering.{nat_cmp}
use Rattle.std.specs.Cmp.Lexicographic.{slice_cmp}
use Rattle.analysis_spec.specs.declared.kind.AlarmKind.{AlarmKind}
use Rattle.analysis_spec.specs.declared.kind.AlarmKind.TheVariants.{NonPositiveDeposit, NonPositivePay, PartialPay, Shadowing, AssertionFailed, Leaves128}
use Rattle.analysis_spec.specs.declared.path.PathStep.{PathStep}
use Rattle.analysis_spec.specs.declared.path.PathStep.TheVariants.{Then, Else, TimeoutContinuation, Case, Action}
use Rattle.analysis_spec.specs.declared.alarm.Alarm.{Alarm}

-- kinds in the order of the table of warnings
abbrev pub kind_rank : AlarmKind → ℕ
kind_rank NonPositiveDeposit = 0
kind_rank NonPositivePay = 1
kind_rank PartialPay = 2
kind_rank Shadowing = 3
kind_rank AssertionFailed = 4
kind_rank Leaves128 = 5

-- steps behind all kinds: `then` before `else`; cases in their order, of each first the action; then what follows the timeout
abbrev pub step_key : PathStep → List ℕ
step_key Then = 6 ∷ 0 ∷ 0 ∷ []
step_key Else = 7 ∷ 0 ∷ 0 ∷ []
step_key (Action n) = 8 ∷ n ∷ 0 ∷ []
step_key (Case n) = 8 ∷ n ∷ 1 ∷ []
step_key TimeoutContinuation = 9 ∷ 0 ∷ 0 ∷ []

abbrev pub place_key : List PathStep → List ℕ
place_key = flat_map step_key

-- alarms stand in the order of these numbers, as words in a dictionary: so a place stands before those that go on from it
abbrev pub alarm_key : Alarm → List ℕ
alarm_key a = place_key a.place ++ kind_rank a.kind ∷ []

abbrev pub key_cmp : List ℕ → List ℕ → Ordering
key_cmp = slice_cmp nat_cmp

abbrev pub IsBefore : Alarm → Alarm → Type 0
IsBefore a b = key_cmp (alarm_key a) (alarm_key b) ≡ Less

-- each stands before all behind it, so none stands twice
abbrev pub AreInOrder : List Alarm → Type 0
AreInOrder [] = Unit {0}
AreInOrder (a ∷ rest) = AllByRecursion (IsBefore a) rest × AreInOrder rest

-- a place lies below another, or is that one
abbrev pub IsBelow : List PathStep → List PathStep → Type 0
IsBelow above place = (path : List PathStep) × (place ≡ above ++ path)

-- places stand in their order, and none lies below one before it
abbrev pub StandApart : List (List PathStep) → Type 0
StandApart [] = Unit {0}
StandApart (p ∷ ps) = AllByRecursion (λ q. (key_cmp (place_key p) (place_key q) ≡ Less) × (IsBelow p q → ⊥)) ps × StandApart ps
