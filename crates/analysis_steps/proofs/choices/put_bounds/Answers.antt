use Rattle.std.proofs.Common.{pos, sym, ap, ◌++◌, ◌∷◌, [], ◌∙◌, append-nil, arith}
use Rattle.contract.specs.Names.declared.bound.Bound.{Bound}
use Rattle.analysis_steps.proofs.ChosenLemmas.{claims_bound, claims_all}
use Rattle.analysis_steps.proofs.choices.put_bounds.Goals as goal

pub loop-bound-init : goal.loop-bound-init
loop-bound-init c = sym (append-nil c.args.claims.now.items)

pub loop-bound-preserved : goal.loop-bound-preserved
loop-bound-preserved c =
    let d : Bound = record { from = pos 0; to = pos 0 } in
    claims_bound c.args.by c.args.bounds.now c.loop-bound.bound-index d c.args.claims.now.items c.loop-bound.claims.items c.push.new.self.items (omega arith)
    (c.in_ok-push.ensures.items ∙ ap (λ z. c.loop-bound.claims.items ++ z ∷ []) c.claim_of-claim.ensures) c.loop-bound.invariant

pub returns : goal.returns
returns c = claims_all c.args.by c.args.bounds.now c.loop-bound.bound-index c.args.claims.now.items c.loop-bound.claims.items (omega arith) c.loop-bound.invariant
