use Rattle.std.proofs.Common.{rules, FitsSigned}
use Rattle.std.specs.Int.{w128}
use Rattle.analysis_values.proofs.TimeLemmas.{from_128}
use Rattle.analysis_values.proofs.stays.has_least.Goals as goal

pub returns-in-Some : goal.returns-in-Some
returns-in-Some c =
    let f : FitsSigned w128 c.in-Some.bound = search rules in
    λ h. from_128 c.args.symbols.now c.args.number.now c.in-Some.bound f c.in-Some.ensures
