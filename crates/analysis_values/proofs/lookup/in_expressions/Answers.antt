use Rattle.std.proofs.Common.{ap, ◌∙◌, rules, FitsSigned}
use Rattle.std.specs.Int.{w128}
use Rattle.std.proofs.lemmas.Int.{to_z-of_z}
use Rattle.linear.specs.Linear.{number}
use Rattle.analysis_values.proofs.NumberedLemmas.{numbers_more}
use Rattle.analysis_values.proofs.lookup.in_expressions.Goals as goal

pub loop-key-preserved : goal.loop-key-preserved
loop-key-preserved g c =
    let x = c.loop-key-item.result in
    let f : FitsSigned w128 x.1 = search rules in
    numbers_more c.args.entries.now c.loop-key.key-index x c.in_ok-own.own c.number-number.result c.loop-key.out.items c.push.new.self.items c.loop-key-test.true c.loop-key-item.is c.in_ok-own.ensures
    (c.number-number.ensures ∙ ap number (to_z-of_z w128 x.1 f)) c.loop-key.invariant c.in_ok-push.ensures.items
