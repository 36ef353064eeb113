use Rattle.analysis_steps.proofs.MovedLemmas.{transfers_by}
use Rattle.analysis_steps.proofs.moved.transfer.Goals as goal

pub returns : goal.returns
returns c =
    transfers_by c.args.known.now c.paid.new.known c.move_amount.new.known c.args.from.now c.args.to.now c.args.token.now c.args.due.now c.args.balance.now c.in_ok-amount.amount c.in_ok-fits.fits
    c.requires.balance c.in_ok-amount.ensures.symbols c.paid.ensures.view c.in_ok-fits.ensures
