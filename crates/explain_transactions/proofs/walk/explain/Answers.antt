use Rattle.std.proofs.Common.{◌≡◌, sym, ap, subst, arith}
use Rattle.std.proofs.lemmas.Int.{ints}
use Rattle.contract.specs.declared.interval.Interval.{Interval}
use Rattle.contract.specs.Tree.{contract_tree}
use Rattle.contract.specs.States.States.{StateMaps}
use Rattle.semantics.specs.Reduction.{Quiet}
use Rattle.semantics.specs.Transaction.{begun}
use Rattle.semantics.specs.Walk.{standing}
use Rattle.explain_transactions.proofs.ReductionLemmas.{is_quiet_so, none_brought}
use Rattle.explain_transactions.proofs.walk.explain.Goals as goal

pub returns-then-is_quiet : goal.returns-then-is_quiet
returns-then-is_quiet c =
    let d = contract_tree c.args.contract.now in
    let now = begun c.args.interval c.args.state.now in
    let quiet = is_quiet_so c.fixed-fixed.result c.in_ok-begun.begun d (sym c.if-is_quiet.ensures) in
    record {
      inputs = none_brought c.args.inputs.now c.if-is_empty.ensures;
      path = c.new.ensures;
      stands = ap (λ (t : StateMaps). standing t d) c.in_ok-begun.ensures;
      starts = omega (arith, ints);
      ends = omega (arith, ints);
      waits = subst (λ (j : Interval). Quiet j now d) c.fixed-fixed.ensures (subst (λ (t : StateMaps). Quiet c.fixed-fixed.result t d) c.in_ok-begun.ensures quiet);
    }
