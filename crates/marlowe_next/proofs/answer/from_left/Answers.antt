use Rattle.std.proofs.Common.{ℕ, ap, sym, subst, ◌∙◌, Result}
use Rattle.std.specs.Prelude.{IfOk}
use Rattle.std.specs.declared.vec.Vec.{Vec}
use Rattle.std.specs.declared.alloc.Global.{Global}
use Rattle.std.specs.declared.alloc.AllocError.{AllocError}
use Rattle.contract.specs.Tree.{contract_tree}
use Rattle.marlowe_run.specs.Semantics.Walk.{standing}
use Rattle.marlowe_run.specs.MarloweRefusals.declared.trace_fault.TraceFault.TheVariants as trace
use Rattle.marlowe_next.specs.Question.{reached_at}
use Rattle.marlowe_next.specs.AnswerSupport.{TellsSettled}
use Rattle.marlowe_next.proofs.AnswerLemmas.{left_answer, left_badly}
use Rattle.marlowe_next.proofs.answer.from_left.Goals as goal

pub returns-in_ok-text-in-Ok : goal.returns-in_ok-text-in-Ok
returns-in_ok-text-in-Ok c =
    let i = c.interval_of-interval.result in
    let r = reached_at c.args.whole.now c.args.left.now in
    let b = standing c.in-Ok.settled.outcome.state (contract_tree c.in-Ok.settled.outcome.place.now) in
    let is = sym c.beside_dropped.ensures ∙ c.in_ok-text-in-Ok.was in
    let told = subst (λ (t : Result (Vec ℕ Global) AllocError). IfOk t (λ text. TellsSettled c.args.most i r b c.args.asked.json text.items)) is c.settled_text-text.ensures in
    left_answer c.args.most c.args.asked r b i c.in_ok-text-in-Ok.text.items c.interval_of-interval.ensures c.in-Ok.ensures.answer told

pub returns-in-Err : goal.returns-in-Err
returns-in-Err c =
    left_badly c.args.asked (reached_at c.args.whole.now c.args.left.now) c.interval_of-interval.result c.in-Err.fault (trace.Run c.from.result)
    c.interval_of-interval.ensures c.in-Err.ensures.answer (ap (λ x. trace.Run x) c.from.ensures)
