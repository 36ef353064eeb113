use Rattle.std.proofs.Common.{◌∙◌, sym}
use Rattle.contract.specs.Tree.{value_tree}
use Rattle.linear.proofs.NumberLaws.{both}
use Rattle.analysis_steps.proofs.EarlierLemmas.{equal_so}
use Rattle.analysis_steps.proofs.earlier.equal.Goals as goal

pub returns : goal.returns
returns c = λ h.
    let w = both c.in_ok-least.least c.in_ok-most.most (sym c.both.ensures ∙ h) in
    equal_so c.args.known.now c.evaluate.new.known c.evaluate-2.new.known (value_tree c.args.one.now) (value_tree c.args.other.now) c.in_ok-first.first.number c.in_ok-second.second.number
    (rw c.in_ok-copy.ensures at c.in_ok-first.ensures.number) c.in_ok-second.ensures.number (c.in_ok-least.ensures w.0) (c.in_ok-most.ensures w.1)
