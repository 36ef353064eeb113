use Rattle.std.proofs.Common.{List, ◌+◌, sym, subst}
use Rattle.std.proofs.Math.ListN.{get_or}
use Rattle.std.proofs.lemmas.List.{get_or_default}
use Rattle.contract.specs.Tree.{contract_tree}
use Rattle.analysis_lines.specs.declared.told.ToldAlarm.{ToldAlarm}
use Rattle.marlowe_analyse.specs.RunsSupport.{TellsOf}
use Rattle.marlowe_analyse.proofs.RunsLemmas.{none_told, some_at, told_one_more, told_again}
use Rattle.marlowe_analyse.proofs.runs.told_each.Goals as goal
use Rattle.marlowe_analyse.proofs.runs.told_each.Goals.{then-is_new+in_ok-one+in_ok-push, else-is_new}

pub loop-index-init : goal.loop-index-init
loop-index-init c =
    let s = c.args.state.now in
    let t = contract_tree c.args.contract.now in
    let ss = c.args.standings.now in
    subst (λ (told : List ToldAlarm). TellsOf s t ss 0 told) (sym c.new-told.ensures.items) (none_told s t ss)

pub loop-index-preserved : goal.loop-index-preserved
loop-index-preserved c =
    let s = c.args.state.now in
    let t = contract_tree c.args.contract.now in
    let ss = c.args.standings.now in
    let n = c.loop-index.index in
    let told = c.loop-index.told.items in
    let few = c.loop-index-test.true in
    elim c.if-is_new.branch [
      | then-is_new+in_ok-one+in_ok-push w ↦
          let at = get_or ss n w.index-standings-index.result in
          let here = get_or_default ss n w.index-standings-index.result at few in
          let one = w.in_ok-one in
          let more = told_one_more s t ss n told at few here c.requires.keys c.loop-index.invariant one.one (c.is_new.ensures.new w.if-is_new.true) one.ensures.line one.ensures.seen one.ensures.ends one.ensures.fits in
          rw w.told-is (subst (λ (ts : List ToldAlarm). TellsOf s t ss (n + 1) ts) (sym w.in_ok-push.ensures.items) more)
      | else-is_new w ↦
          let here = some_at ss n few in
          rw w.told-is (told_again s t ss n told here.0 few here.1 c.requires.keys c.loop-index.invariant c.requires.sorted (c.is_new.ensures.old w.if-is_new.false))
    ]
