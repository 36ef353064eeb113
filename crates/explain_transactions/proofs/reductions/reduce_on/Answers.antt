use Rattle.std.proofs.Common.{◌≡◌, ◌++◌, ◌∙◌, ap, refl, option_to_list, Err}
use Rattle.std.proofs.lemmas.Result.{IfOk-weaker}
use Rattle.contract.specs.declared.fault.SemFault.TheVariants.{Leaves128, Memory}
use Rattle.contract.specs.Tree.{contract_tree}
use Rattle.trace.specs.declared.sequence.Left.{Left}
use Rattle.semantics.specs.Reduced.{step, reply, turn_of}
use Rattle.trace.proofs.SteppingLemmas.{listed}
use Rattle.explain_transactions.proofs.ReductionLemmas.{moves_on, moves_less, moves_last, payment_moved}
use Rattle.explain_transactions.proofs.reductions.reduce_on.Goals as goal

pub returns-in_ok-push_step-in-Ok-Some : goal.returns-in_ok-push_step-in-Ok-Some
returns-in_ok-push_step-in-Ok-Some c =
    let i = c.args.interval in
    let s = c.args.left.now.state in
    let d = contract_tree c.args.left.now.contract.now in
    let p = c.args.left.now.path in
    let h = c.in-Ok-Some.ensures in
    let reply = rw c.in-Ok-Some.field-0-is at h.reply in
    let entered = rw c.in-Ok-Some.field-0-is at h.place in
    let path = c.in_ok-push_step-in-Ok-Some.ensures ∙ (ap (λ z. p ++ option_to_list z) entered.1.1 ∙ ap (λ z. p ++ z) (listed (turn_of (step i s d)))) in
    record { moved = moves_on i p _ s d c.reduce.new.state _ reply h.state path; less = moves_less i s d _ reply }

pub returns-in-Ok-None : goal.returns-in-Ok-None
returns-in-Ok-None c =
    let h = c.in-Ok-None.ensures in
    record { moved = moves_last c.args.interval c.args.left.now.path c.args.left.now.state (contract_tree c.args.left.now.contract.now) c.reduce.new.state (rw c.in-Ok-None.field-0-is at h.reply) h.state; less = tt }

pub returns-in-Err-Leaves128-clause-moved : goal.returns-in-Err-Leaves128-clause-moved
returns-in-Err-Leaves128-clause-moved c =
    let i = c.args.interval in
    let old = c.args.left.now in
    let new : Left = record { state = c.reduce.new.state; contract = c.args.left.now.contract; path = c.args.left.now.path } in
    let told = rw c.in-Err-Leaves128.field-0-is at c.in-Err-Leaves128.ensures.reply in
    let leaves : reply (step i old.state (contract_tree old.contract.now)) ≡ Err Leaves128 = told (λ m. let e : Leaves128 ≡ Memory = m in cc) in
    IfOk-weaker c.payment_stop.result _ _ (λ m q. payment_moved i old new m refl refl c.requires leaves q) c.payment_stop.ensures
