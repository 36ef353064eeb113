use Rattle.std.proofs.Common.{refl, string_bytes}
use Rattle.machine.specs.Evaluation.Path.{waits_for}
use Rattle.machine.specs.Evaluation.Parts.{case_tree_of}
use Rattle.machine.specs.Table.Flat.{cont_tree, value_tree, observation_tree}
use Rattle.step_notes.proofs.CasesLemmas.{case_more}
use Rattle.step_notes.proofs.cases.put_cases.Goals as goal

-- one case more
pub loop-index-preserved : goal.loop-index-preserved
loop-index-preserved c =
    let t = c.args.table.now in
    case_more c.args.interval c.args.state.now (waits_for (cont_tree t c.args.place.0)) c.loop-index.index (case_tree_of (λ k. cont_tree t k.0) (value_tree t) (observation_tree t) c.case-case.result) (string_bytes c.loop-index.out) (string_bytes c.put_case.new.out) _
    c.case-case.ensures.tree c.in_ok-put_case.ensures c.loop-index.invariant
