use Rattle.std.proofs.Common.{◌≡◌, ◌++◌}
use Rattle.contract.specs.Tree.{contract_tree}
use Rattle.semantics.specs.Evaluation.Numbers.{all_fit}
use Rattle.semantics.specs.Computed.{settled}
use Rattle.semantics.proofs.Settling.{height}
use Rattle.analysis_spec.specs.Marks.{led, settling}
use Rattle.trace.specs.Warned.{warned_at}
use Rattle.trace.proofs.trail.Trail.settle.Given as goal

-- how it settles from here, with what is told of that, is how it settles from the start, after what is done
abbrev pub invariant-loop-next : goal.invariant-loop-next
invariant-loop-next l =
    let i = l.interval in
    let c = contract_tree l.fn.contract in
    let d = contract_tree l.at in
    let whole = settled i l.fn.state c in
    let rest = settled i l.state d in
    record {
      fits : all_fit whole.numbers ≡ all_fit rest.numbers;
      end : whole.end ≡ rest.end;
      path : led l.fn.self.path whole.turns ≡ led l.self.path rest.turns;
      warnings : l.fn.self.log.warnings ++ whole.warnings ≡ l.self.log.warnings ++ rest.warnings;
      payments : l.fn.self.log.payments ++ whole.payments ≡ l.self.log.payments ++ rest.payments;
      warned : l.fn.self.warned ++ warned_at (settling l.fn.self.path i l.fn.state c) ≡ l.self.warned ++ warned_at (settling l.self.path i l.state d);
    }

abbrev pub decreases-loop-next : goal.decreases-loop-next
decreases-loop-next l = height (contract_tree l.at)
