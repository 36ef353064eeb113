use Rattle.std.proofs.Common.{◌∙◌}
use Rattle.analysis_values.proofs.TruthLemmas.{unites_one, unites_both}
use Rattle.analysis_values.proofs.observed.united.Goals as goal

pub returns-in-None : goal.returns-in-None
returns-in-None c = rw c.in-None.is (unites_one c.args.known.now c.args.one)

pub returns-in_ok-view-in-Some : goal.returns-in_ok-view-in-Some
returns-in_ok-view-in-Some c = rw c.in-Some.is (unites_both c.args.known.now c.args.one c.in-Some.another c.in_ok-symbols-in-Some.symbols c.in_ok-view-in-Some.view (c.in_ok-view-in-Some.ensures ∙ c.view-seen.ensures) (rw (c.symbols-base.ensures, c.symbols-left.ensures, c.symbols-right.ensures) at c.in_ok-symbols-in-Some.ensures))
