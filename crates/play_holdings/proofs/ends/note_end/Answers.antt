use Rattle.std.proofs.Common.{Option, ◌∙◌, ap, sym}
use Rattle.std.specs.Map.{lookup}
use Rattle.eutxo.specs.EutxoTypes.declared.output_ref.OutputRef.{OutputRef}
use Rattle.eutxo.specs.EutxoTypes.Parts.{same_ref}
use Rattle.play_holdings.specs.Holdings.{ends_at}
use Rattle.play_holdings.specs.SumsSupport.{or_place}
use Rattle.play_holdings.proofs.EndsLemmas.{put}
use Rattle.play_holdings.proofs.ends.note_end.Goals as goal

pub returns-in-Ok : goal.returns-in-Ok
returns-in-Ok c r =
    put c.args.places.now.entries c.insert.new.self.entries c.in-Some.end r c.args.place (sym c.contains_key.ensures ∙ c.if-contains_key.false) c.in-Ok.ensures.updates.0
    ∙ ap (λ (e : Option OutputRef). or_place (lookup (same_ref r) c.args.places.now.entries) (ends_at r e) c.args.place) (sym c.in-Some.is)
