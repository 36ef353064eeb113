use Rattle.marlowe_play.proofs.PlayingLemmas.{zip_push}
use Rattle.marlowe_play.proofs.turns.in_turn.Goals as goal

-- one turn more
pub loop-turn-preserved : goal.loop-turn-preserved
loop-turn-preserved g c = rw c.in_ok-push.ensures.items (zip_push _ c.loop-turn.yielded c.loop-turn.ended.items c.in-Some.turn c.played.result c.loop-turn.invariant c.played.ensures)
