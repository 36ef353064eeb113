use Rattle.std.proofs.Common.{map}
use Rattle.marlowe_play.specs.Played.{wanted}
use Rattle.marlowe_play.proofs.PlayingLemmas.{ok_more, was_told}
use Rattle.marlowe_play.proofs.playing.play_value.Goals as goal

-- what is answered tells of the scenario that was read
pub returns-clause-played : goal.returns-clause-played
returns-clause-played g c =
    let w = wanted c.args.asked.face c.args.asked.strict (map (λ s. s.now) c.args.asked.kept_open.now) in
    ok_more _ _ c.play_scenario.result (λ p told. was_told _ c.in-Ok.scenario w p.text.items p.well c.in-Ok.ensures.reading told) c.play_scenario.ensures.played
