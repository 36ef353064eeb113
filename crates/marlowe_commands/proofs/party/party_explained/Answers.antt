use Rattle.std.proofs.Common.{◌≡◌, []}
use Rattle.serve.specs.JsonForms.declared.sort.Sort.TheVariants as sorts
use Rattle.serve.specs.RefusalReasons.Reasons.{TellsFlat}
use Rattle.marlowe_commands.specs.Streams.{refuses, saying_of}
use Rattle.marlowe_commands.specs.Tasks.{unread_party}
use Rattle.marlowe_commands.proofs.ShownLemmas.{shown_by}
use Rattle.marlowe_commands.proofs.party.party_explained.Goals as goal

pub returns : goal.returns
returns c =
    shown_by c.args.face (λ said. said ≡ refuses [] (unread_party c.args.fault)) (λ spelling. TellsFlat spelling c.args.source sorts.Party) (saying_of c.in_ok-said.said)
    c.why-told.result.items c.shown.result c.in_ok-said.ensures c.why-told.ensures c.shown.ensures
