-- What is told of an alarm: its kind, the keys that lead to its place, its run, and how many others are told with it: none where it is told
-- with another.
use Rattle.std.specs.Prelude.{◌≡◌, ℕ, true, List, [], ◌∷◌, Option, Some, IfSome, All}
use Rattle.contract.specs.Tree.{ContractTree}
use Rattle.contract.specs.declared.transaction.Transaction.{Transaction}
use Rattle.contract_json.specs.WrittenInput.{transaction_fits}
use Rattle.analysis_spec.specs.declared.kind.AlarmKind.{AlarmKind}
use Rattle.analysis_spec.specs.declared.alarm.Alarm.{Alarm}
use Rattle.places.specs.declared.key.Key.{Key}
use Rattle.analysis_lines.specs.declared.told.ToldAlarm.{ToldAlarm}
use Rattle.places.specs.Places.{keys_of}

pub record Line : Type 0 where
  pub kind : AlarmKind
  pub place : List Key
  pub run : Option (List Transaction)
  pub head : Option ℕ

-- .. of one that is told itself, and no other with it
abbrev pub line_at : ContractTree → Alarm × Option (List Transaction) → Line
line_at c a = record { kind = a.0.kind; place = keys_of a.0.place c; run = a.1; head = Some 0 }

-- of each how many others are told with it, or none where it is told with another
abbrev pub with_heads : List Line → List (Option ℕ) → List Line
with_heads [] hs = []
with_heads (l ∷ ls) [] = l ∷ ls
with_heads (l ∷ ls) (h ∷ hs) = record l { head = h } ∷ with_heads ls hs

abbrev pub line_of : ToldAlarm → Line
line_of t = record { kind = t.alarm.kind; place = t.place.items; run = t.run; head = t.head }

-- JSON has all numbers of a run
abbrev pub RunFits : List Transaction → Type 0
RunFits = All (λ t. transaction_fits t ≡ true)

abbrev pub LineFits : ToldAlarm → Type 0
LineFits t = IfSome t.run RunFits
