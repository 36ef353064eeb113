use Rattle.std.proofs.Common.{rules, FitsSigned}
use Rattle.std.specs.Int.{w128}
use Rattle.std.proofs.lemmas.Result.{IfOk-weaker}
use Rattle.analysis_values.proofs.TimeLemmas.{stays_by, number_stays}
use Rattle.analysis_values.proofs.stays.stays.Goals as goal

pub returns-then-whole : goal.returns-then-whole
returns-then-whole c =
    let f : FitsSigned w128 c.constant-constant.result = search rules in
    number_stays c.args.view.now c.args.symbols.now c.args.number.now c.constant-constant.result f c.constant-constant.ensures (c.is_number-whole.ensures c.if-whole.true)

pub returns-in-Some : goal.returns-in-Some
returns-in-Some c =
    let s = rw c.in-Some.is at c.in_ok-opposite.ensures in
    let h = rw c.times.ensures at c.both_stay.ensures in
    IfOk-weaker c.both_stay.result _ _ (λ said f. stays_by c.args.view.now c.args.symbols.now c.args.number.now c.number-least.result c.in-Some.other said c.number-least.ensures s f) h

pub returns : goal.returns
returns c = λ h. absurd (cc)
