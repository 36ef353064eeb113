use Rattle.std.proofs.Common.{◌≡◌, None, ◌∙◌, subst, sym}
use Rattle.std.specs.Map.{lookup}
use Rattle.ledger_spec.specs.EutxoTypes.contracts.output_ref.OutputRefPartialEq.TheImpl.{ghosts}
use Rattle.indexmap.proofs.CallerLemmas.{insert_entry-new}
use Rattle.chain_index.proofs.RefLemmas.{eq_same}
use Rattle.chain_index.proofs.LiveLemmas.{absent_lookup}
use Rattle.chain_index.proofs.holes.put.Goals as goal

pub returns-in-Ok-clause-ok : goal.returns-in-Ok-clause-ok
returns-in-Ok-clause-ok g c =
    c.in-Ok.ensures.entries ∙ insert_entry-new ghosts.eq c.args.slots.now c.args.reference _
    (subst (λ e. lookup (e c.args.reference) c.args.slots.now.entries ≡ None) (sym eq_same) (absent_lookup c.args.reference c.args.slots.now.entries c.requires))
