use Rattle.std.proofs.Common.{subst}
use Rattle.std.proofs.lemmas.Result.{IfOk-weaker}
use Rattle.analysis_walk.specs.Limits.{Scope}
use Rattle.analysis_walk.specs.Conclusions.{IsLater, DescribesStart}
use Rattle.analysis_values.specs.Known.{IsDescribed}
use Rattle.analysis_values.specs.Entries.{EntriesFit}
use Rattle.analysis_steps.proofs.StartLemmas.{NumbersFit, starts_by}
use Rattle.analysis_steps.proofs.starts.start.Goals as goal

pub returns : goal.returns
returns c =
    let s = c.args.state.now in
    let k = c.in_ok-known.known in
    let fit : NumbersFit s = record {
      accounts = subst EntriesFit c.accounts.ensures.all c.see.ensures;
      choices = subst EntriesFit c.choices.ensures c.see-2.ensures;
      bound = subst EntriesFit c.bound_values.ensures c.see-3.ensures;
    } in
    let is = rw (c.new-symbols.ensures, c.time_of-from.ensures.value, c.time_of-to.ensures.value) at c.in_ok-known.ensures in
    IfOk-weaker c.later.result (IsLater IsDescribed k) (λ m. (scope : Scope) → DescribesStart IsDescribed scope m s) (λ m h. starts_by s k m c.accounts.ensures.positive fit c.time_of-from.ensures.fits is h) c.later.ensures
