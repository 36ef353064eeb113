use Rattle.std.proofs.Common.{◌≡◌, ◌++◌, take}
use Rattle.std.specs.Prelude.{flat_map}
use Rattle.unread_notes.specs.Lines.{step_text}
use Rattle.unread_notes.proofs.lines.put_steps.Given as goal

-- the steps so far are put
abbrev pub invariant-loop-step : goal.invariant-loop-step
invariant-loop-step l = l.out.items ≡ l.fn.out.items ++ flat_map step_text (take l.step-index l.path)
