use Rattle.std.proofs.Common.{FitsSigned, rules}
use Rattle.std.specs.Int.{w128}
use Rattle.std.proofs.lemmas.Int.{to_z-of_z}
use Rattle.analysis_steps.proofs.ChosenLemmas.{chosen_by, low_of, high_of}
use Rattle.analysis_steps.proofs.choices.chosen_from.Goals as goal

pub returns : goal.returns
returns c =
    let f : FitsSigned w128 c.args.range.from = search rules in
    let g : FitsSigned w128 c.args.range.to = search rules in
    let h = rw (to_z-of_z w128 c.args.range.from f, to_z-of_z w128 c.args.range.to g) at c.in_ok-number.ensures.symbols in
    chosen_by c.args.known c.fresh.new.self c.set_choice.new.self c.args.id.now c.in_ok-number.number c.args.range (low_of c.args.range.from f) (high_of c.args.range.to g) h c.fresh.ensures.view
    c.in_ok-set_choice.ensures
