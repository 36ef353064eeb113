use Rattle.std.proofs.Common.{◌≡◌, [], refl, rules, Some, Err}
use Rattle.chain.specs.LedgerSpec.BuilderSpec.declared.fault.BuildFault.{BuildFault}
use Rattle.chain.specs.LedgerSpec.BuilderSpec.Requests.{request}
use Rattle.chain.specs.LedgerSpec.BuilderSpec.Parts.{hinders_step}
use Rattle.uses.specs.Uses.{thread_look, step_asked}
use Rattle.uses.proofs.CallerLemmas.{step_answer, stepped_by, after_by, only_looked, hindered_by}
use Rattle.uses.proofs.step.step_now.Goals as goal

pub returns-clause-stepped : goal.returns-clause-stepped
returns-clause-stepped c =
    stepped_by _ _ _ _ _ _ _ _ _ _ _ _ _ c.at_tick-now.ensures refl c.thread_ask.ensures c.in_ok-look.ensures.look c.in_ok-look.ensures.after c.in_ok-look.ensures.second c.in_ok-tx.ensures.answer c.in_ok-tx.ensures.fits c.in_ok-reply.ensures.reply

pub returns-clause-after : goal.returns-clause-after
returns-clause-after c =
    after_by _ _ _ _ _ _ _ _ _ _ _ _ _ c.at_tick-now.ensures refl c.thread_ask.ensures c.in_ok-look.ensures.look c.in_ok-look.ensures.after c.in_ok-tx.ensures.answer c.in_ok-reply.ensures.after

pub returns-in_err-tx-clause-err : goal.returns-in_err-tx-clause-err
returns-in_err-tx-clause-err c =
    let hindered : (fault : BuildFault) → step_answer c.in_ok-look.look (request c.at_tick-now.result c.args.inputs.now c.args.signers.now [] c.args.change.now) ≡ Err fault → hinders_step (thread_look c.args.chain.now c.args.start) (step_asked c.args.chain.now c.args.inputs.now c.args.signers.now c.args.change.now) ≡ Some fault =
    λ fault h. hindered_by c.args.chain.now c.args.start c.args.inputs.now c.args.signers.now [] c.args.change.now _ _ _ fault c.at_tick-now.ensures refl c.thread_ask.ensures c.in_ok-look.ensures.look h in
    search (rules, hindered)

pub returns-in_err-reply-clause-looked : goal.returns-in_err-reply-clause-looked
returns-in_err-reply-clause-looked c =
    only_looked c.from_residual-in_err-reply.result c.args.chain.now _ c.submit.new.chain c.args.seat c.args.start _ c.thread_ask.ensures c.in_ok-look.ensures.after c.in_err-reply.ensures.err
