use Rattle.std.proofs.Common.{false, [], subst}
use Rattle.marlowe_play.specs.declared.asked.Face.{Face}
use Rattle.marlowe_play.specs.Played.{TellsAPlay, face_of, wanted}
use Rattle.marlowe_play.proofs.PlayingLemmas.{was_told}
use Rattle.marlowe_play.proofs.playing.play_watched.Goals as goal

-- what is printed tells of the scenario that was read
pub returns-clause-played : goal.returns-clause-played
returns-clause-played g c =
    let p = c.in_ok-played.played in
    let s = c.in-Ok.scenario in
    let told = subst (λ (f : Face). TellsAPlay s (wanted f false []) p.text.items p.well) c.face.ensures c.in_ok-played.ensures.played in
    (p.well, was_told _ s (wanted (face_of c.args.how.explain) false []) p.text.items p.well c.in-Ok.ensures.reading told)
