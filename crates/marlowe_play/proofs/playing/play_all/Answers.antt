use Rattle.std.proofs.Common.{◌∙◌, List, map, ap}
use Rattle.play_endings.specs.EutxoTypes.declared.output_ref.OutputRef.{OutputRef}
use Rattle.play_endings.specs.Plans.declared.scenario.Scenario.{Scenario}
use Rattle.play_setup.specs.SetUp.{currencies, plan_on}
use Rattle.marlowe_play.proofs.PlayingLemmas.{were_played}
use Rattle.marlowe_play.proofs.playing.play_all.Goals as goal

-- the first seat set up, and the others played
pub returns-clause-seats : goal.returns-clause-seats
returns-clause-seats g c =
    let s : Scenario = c.args.scenario.now in
    let outputs : List OutputRef = c.in_ok-stage.stage.starts.items in
    let plans = c.in_ok-turns.ensures.plans ∙ ap (λ (os : List OutputRef). map (plan_on (currencies s.contracts) os) s.plans) c.deref.ensures.value in
    were_played (λ turn. turn.party.plan) (λ turn. turn.place.seat) (λ end. end.0) (λ end. end.1) s c.args.seats.items c.take_first-first.new.items.items c.take_first-first.result c.set_up.new.seat outputs c.in_ok-turns.turns.items c.in_ok-ended.ended.items c.in_ok-seats.seats.items c.in_ok-seats.left.items
    c.take_first-first.ensures c.requires.numbers c.requires.answers c.in_ok-stage.ensures.threads plans c.in_ok-turns.ensures.seats c.in_ok-ended.ensures c.in_ok-seats.ensures.seats c.in_ok-seats.ensures.left
