use Rattle.std.proofs.Common.{◌≡◌, drop}
use Rattle.contract.specs.Tree.{contract_tree}
use Rattle.semantics.specs.Evaluation.Numbers.{all_fit}
use Rattle.semantics.specs.Walk.{standing}
use Rattle.semantics.specs.Computed.{all_inputs}
use Rattle.analysis_spec.specs.Marks.{led}
use Rattle.trace.proofs.steps.take_inputs.Given as goal

-- the inputs that are left, from here, are all inputs from the start, after what is done
abbrev pub invariant-loop-input : goal.invariant-loop-input
invariant-loop-input l =
    let whole = all_inputs l.interval l.inputs (standing l.fn.state (contract_tree l.fn.contract)) in
    let rest = all_inputs l.interval (drop l.input-index l.inputs) (standing l.state (contract_tree l.at)) in
    record {
      fits : all_fit whole.numbers ≡ all_fit rest.numbers;
      end : whole.end ≡ rest.end;
      path : led l.fn.path whole.turns ≡ led l.path rest.turns;
    }
