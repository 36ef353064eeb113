use Rattle.std.proofs.Common.{List, subst, ◌∙◌}
use Rattle.contract.specs.Names.declared.account.Account.{Account}
use Rattle.analysis.specs.Closes.{NamesAll}
use Rattle.analysis.proofs.ClosesLemmas.{closed}
use Rattle.analysis.proofs.closes.spans.Goals as goal

pub returns : goal.returns
returns c =
    let all = c.in_ok-all.all in
    closed c.args.known.now all c.in_ok-all.ensures.paid (subst (λ (names : List Account). NamesAll names all) (c.as_slice.ensures ∙ c.in_ok-names.ensures) c.in_ok-all.ensures.all)
