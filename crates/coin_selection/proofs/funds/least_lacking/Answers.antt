use Rattle.std.proofs.Common.{Some, sym, ◌∙◌, ap}
use Rattle.coin_selection.proofs.EnoughLemmas.{lacking_is, none_lacking}
use Rattle.coin_selection.proofs.funds.least_lacking.Goals as goal

pub returns-in-None : goal.returns-in-None
returns-in-None c = sym (none_lacking c.args.amounts.now c.args.outputs.now c.in_ok-missing.missing c.in_ok-missing.ensures c.in-None.ensures)

pub returns : goal.returns
returns c =
    let is = c.in-Some.ensures in
    ap Some c.in_ok-try_clone-in-Some.ensures ∙ sym (lacking_is c.args.amounts.now c.args.outputs.now c.in_ok-missing.missing c.in-Some.token.now c.requires c.in_ok-missing.ensures is.0 is.1)
