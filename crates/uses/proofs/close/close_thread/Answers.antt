use Rattle.std.proofs.Common.{◌≡◌, ◌≢◌, IfErr, rules, Some}
use Rattle.std.proofs.lemmas.Result.{IfErr-weaker}
use Rattle.chain.specs.LedgerSpec.BuilderSpec.declared.fault.BuildFault.{BuildFault}
use Rattle.chain.specs.LedgerSpec.BuilderSpec.declared.fault.BuildFault.TheVariants.{Memory}
use Rattle.chain.specs.LedgerSpec.BuilderSpec.Parts.{hinders_step}
use Rattle.uses.specs.Uses.{thread_look, closing_asked, NeedNotClose}
use Rattle.uses.proofs.SteppedLemmas.{closed, need_not}
use Rattle.uses.proofs.close.close_thread.Goals as goal

pub returns-clause-closed : goal.returns-clause-closed
returns-clause-closed c = closed _ _ _ _ c.history.ensures.second c.in_ok-reply.ensures.stepped

pub returns-in_err-reply-clause-err : goal.returns-in_err-reply-clause-err
returns-in_err-reply-clause-err c =
    let Hindered : BuildFault → Type 0 = λ fault. fault ≢ Memory → hinders_step (thread_look c.args.chain.now c.args.start) (closing_asked c.args.chain.now c.args.change.now) ≡ Some fault in
    let hindered : IfErr c.from_residual.result Hindered = search rules in
    IfErr-weaker c.from_residual.result Hindered (λ fault. fault ≢ Memory → NeedNotClose c.args.chain.now c.args.start c.args.change.now fault)
    (λ fault h ne. need_not c.args.chain.now c.args.start c.args.change.now fault c.history.ensures.second (h ne)) hindered
