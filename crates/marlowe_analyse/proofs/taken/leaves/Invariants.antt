use Rattle.std.proofs.Common.{drop}
use Rattle.analysis_spec.specs.declared.kind.AlarmKind.TheVariants.{Leaves128}
use Rattle.analysis_spec.specs.Analysed.{IsSilent}
use Rattle.marlowe_analyse.proofs.taken.leaves.Given as goal

-- those before are none of it
abbrev pub invariant-loop-alarm : goal.invariant-loop-alarm
invariant-loop-alarm l = record {
  none : IsSilent (drop l.alarm-index l.alarms) Leaves128 → IsSilent l.alarms Leaves128;
  some : IsSilent l.alarms Leaves128 → IsSilent (drop l.alarm-index l.alarms) Leaves128;
}
