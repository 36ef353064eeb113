use Rattle.std.proofs.Common.{sym, ◌∙◌, arith}
use Rattle.contract.specs.Tree.{contract_tree}
use Rattle.alike_alarms.proofs.TellerLemmas.{can_tell_so}
use Rattle.alike_alarms.proofs.tellers.can_tell.Goals as goal

pub returns : goal.returns
returns c =
    λ h. can_tell_so (contract_tree c.args.contract.now) c.args.seen.now c.args.guesses.now c.args.index c.args.guess c.index-seen-guess.result c.index-seen-index.result (omega arith) c.requires
    (sym c.guess_at-own.ensures ∙ omega arith) c.index-seen-guess.is c.index-seen-index.is (c.leads.ensures h)
