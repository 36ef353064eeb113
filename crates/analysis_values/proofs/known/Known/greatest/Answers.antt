use Rattle.std.proofs.Common.{◌∙◌, rules, FitsSigned}
use Rattle.std.specs.Int.{w128}
use Rattle.std.proofs.lemmas.Int.{to_z-of_z}
use Rattle.analysis_values.proofs.BoundLemmas.{number_up_to}
use Rattle.analysis_values.proofs.known.Known.greatest.Goals as goal

pub returns-then-is_number : goal.returns-then-is_number
returns-then-is_number c =
    let f : FitsSigned w128 c.constant.result = search rules in
    number_up_to c.args.self.now.symbols.ranges c.args.self.now.symbols.facts c.args.number.now _ (c.is_number.ensures c.if-is_number.true) (to_z-of_z w128 c.constant.result f ∙ c.constant.ensures)
