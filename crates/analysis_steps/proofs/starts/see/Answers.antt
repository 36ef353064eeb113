use Rattle.std.proofs.Common.{◌≡◌, true, All, FitsSigned, subst, arith, rules}
use Rattle.std.specs.Int.{w128}
use Rattle.std.proofs.lemmas.List.{take_all}
use Rattle.std.proofs.lemmas.List.Elements.{All-more, recursion_from_All}
use Rattle.semantics.specs.Evaluation.Numbers.{fits}
use Rattle.analysis_steps.proofs.StartLemmas.{fits_signed}
use Rattle.analysis_steps.proofs.starts.see.Goals as goal

pub loop-entry-preserved : goal.loop-entry-preserved
loop-entry-preserved g c =
    let x = c.entry-item.result in
    let f : FitsSigned w128 x.1 = search rules in
    All-more (λ e. fits e.1 ≡ true) c.args.entries.now c.loop-entry.entry-index x (omega arith) c.loop-entry.invariant (subst (λ e. fits e.1 ≡ true) c.entry-item.is (fits_signed x.1 f))

pub returns : goal.returns
returns g c =
    let es = c.args.entries.now in
    let i = c.loop-entry.entry-index in
    recursion_from_All (λ e. fits e.1 ≡ true) es (subst (All (λ e. fits e.1 ≡ true)) (take_all i es (omega arith)) c.loop-entry.invariant)
