use Rattle.std.proofs.Common.{◌≡◌}
use Rattle.contract.specs.Tree.{contract_tree}
use Rattle.semantics.specs.Evaluation.Numbers.{all_fit}
use Rattle.semantics.specs.Computed.{settled}
use Rattle.semantics.proofs.Settling.{height}
use Rattle.analysis_spec.specs.Marks.{led}
use Rattle.trace.proofs.steps.settle.Given as goal

-- how it settles from here, and where that leads, is how it settles from the start
abbrev pub invariant-loop-next : goal.invariant-loop-next
invariant-loop-next l =
    let whole = settled l.interval l.fn.state (contract_tree l.fn.contract) in
    let rest = settled l.interval l.state (contract_tree l.at) in
    record {
      fits : all_fit whole.numbers ≡ all_fit rest.numbers;
      end : whole.end ≡ rest.end;
      path : led l.fn.path whole.turns ≡ led l.path rest.turns;
    }

abbrev pub decreases-loop-next : goal.decreases-loop-next
decreases-loop-next l = height (contract_tree l.at)
