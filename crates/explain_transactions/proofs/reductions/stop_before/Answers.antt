use Rattle.std.proofs.Common.{◌≡◌, ℤ, SFits, w64, sym, subst, rules}
use Rattle.std.proofs.lemmas.Int.{to_z-of_z}
use Rattle.contract.specs.Tree.{contract_tree}
use Rattle.explain_transactions.specs.Support.{IsInside}
use Rattle.explain_transactions.proofs.ReductionLemmas.{inside_so}
use Rattle.explain_transactions.proofs.reductions.stop_before.Goals as goal

pub returns-in-Some : goal.returns-in-Some
returns-in-Some c =
    let d = contract_tree c.args.contract.now in
    let fits : SFits w64 c.in-Some.timeout = search rules in
    subst (λ (m : ℤ). IsInside c.args.interval d m) (sym (to_z-of_z w64 c.in-Some.timeout fits)) (inside_so c.args.interval d c.in-Some.timeout c.in-Some.ensures)
