use Rattle.analysis_steps.proofs.MovedLemmas.{grows_by}
use Rattle.analysis_steps.proofs.moved.grow.Goals as goal

pub returns : goal.returns
returns c =
    grows_by c.args.known.now c.sum.new.known c.replace_account.new.self c.args.owner.now c.args.token.now c.args.amount.now c.args.before.now c.in_ok-total.total c.in_ok-fits.fits
    c.requires c.in_ok-total.ensures.symbols c.sum.ensures.view c.in_ok-fits.ensures c.in_ok-replace_account.ensures
