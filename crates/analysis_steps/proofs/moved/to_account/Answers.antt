use Rattle.std.proofs.lemmas.Result.{IfOk-weaker}
use Rattle.contract.specs.Names.declared.payee.Payee.TheVariants.{Account as ToAccount}
use Rattle.analysis_steps.specs.Moved.{Grows, Moves}
use Rattle.analysis_steps.proofs.MovedLemmas.{moves_to_account}
use Rattle.analysis_steps.proofs.moved.to_account.Goals as goal

pub returns : goal.returns
returns c =
    let k = c.args.known.now in
    let z = c.debit.new.known in
    let m = c.grow.new.known in
    let p = c.args.payer.now in
    let q = c.args.owner.now in
    let t = c.args.token.now in
    let l = c.args.amount.now in
    IfOk-weaker c.grow.result (Grows z m q t l) (Moves k m p (ToAccount q) t l) (λ fit h. moves_to_account k z m p q t l fit c.in_ok-debit.ensures h) c.grow.ensures
