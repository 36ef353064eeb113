use Rattle.std.proofs.Common.{◌≡◌, true, FitsSigned, subst, rules}
use Rattle.std.specs.Int.{w64}
use Rattle.semantics.specs.Evaluation.Numbers.{fits}
use Rattle.analysis_steps.proofs.StartLemmas.{fits_short}
use Rattle.analysis_steps.proofs.starts.time_of.Goals as goal

pub returns-clause-fits : goal.returns-clause-fits
returns-clause-fits c =
    let f : FitsSigned w64 c.min_time.result = search rules in
    subst (λ n. fits n ≡ true) c.min_time.ensures (fits_short c.min_time.result f)
