use Rattle.std.proofs.Common.{◌≡◌, drop}
use Rattle.semantics.specs.Evaluation.Path.{waits_for}
use Rattle.next_inputs.specs.Taking.{taken_case, leaving_case}
use Rattle.explain_transactions.proofs.CasesLemmas.{further}
use Rattle.explain_transactions.proofs.cases.find_case.Given as goal

-- what the rest of the cases do, so many further on, is what all do
abbrev pub invariant-loop-index : goal.invariant-loop-index
invariant-loop-index g l =
    let ks = waits_for (g.S.Parts.tree l.parts l.place) in
    record {
      taken : taken_case l.interval l.state l.input ks ≡ further l.index (taken_case l.interval l.state l.input (drop l.index ks));
      leaving : leaving_case l.interval l.state l.input ks ≡ further l.index (leaving_case l.interval l.state l.input (drop l.index ks));
    }
