-- Alarms of one kind at equal parts, as they are told. It serves proofs alone.
use Rattle.std.specs.Prelude.{◌≡◌, ℕ, Bool, true, false, not, ◌||◌, List, [], map, All, Option, is_some}
use Rattle.contract.specs.Tree.{ContractTree}
use Rattle.alike_alarms.specs.Alike.{SeenAlarm, AreHeads}
use Rattle.analysis_lines.specs.declared.told.ToldAlarm.{ToldAlarm}
use Rattle.analysis_lines.specs.ToldLines.{line_of, with_heads, LineFits}

abbrev pub seen_told : ToldAlarm → SeenAlarm
seen_told t = (t.alarm, is_some t.run)

-- alarms that have these heads
pub record HaveHeads (c : ContractTree) (alarms told : List ToldAlarm) : Type 0 where
  pub found : List (Option ℕ)
  pub heads : AreHeads c (map seen_told alarms) found
  pub lines : map line_of told ≡ with_heads (map line_of alarms) found
  pub fit : All LineFits told

-- .. where each is told once, and else the same
abbrev pub ToldOnce : Bool → ContractTree → List ToldAlarm → List ToldAlarm → Type 0
ToldOnce true c alarms told = HaveHeads c alarms told
ToldOnce false c alarms told = told ≡ alarms
