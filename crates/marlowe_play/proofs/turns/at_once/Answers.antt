use Rattle.std.proofs.Common.{rules, arith}
use denote.Exit.{no}
use denote.Param.{param}
use denote.Param.Send.{sendable, param_send, arg_send}
use Rattle.std.proofs.Crossing.{crosses}
use Rattle.std.proofs.result.Result.TheSendSync as result
use Rattle.std.proofs.alloc.AllocError.TheSendSync as refused
use Rattle.parties.proofs.FromHub.Crossing.{seats_are_sent}
use Rattle.parties.proofs.left_out.LeftOut.TheSendSync as left
use Rattle.marlowe_play.proofs.Crossing.{turns_are_sent}
use Rattle.marlowe_play.proofs.PlayingLemmas.{ok_both, zip_from}
use Rattle.marlowe_play.proofs.turns.at_once.Goals as goal

-- turns go to the threads
pub map_vec-requires-send-J : goal.map_vec-requires-send-J
map_vec-requires-send-J g c κs within = param_send 1 _ (arg_send _ no _ (turns_are_sent (param 1 g.row.J) g.J.Session _))

-- and their seats come back
pub map_vec-requires-send-X : goal.map_vec-requires-send-X
map_vec-requires-send-X g c κs within = search (seats_are_sent, left.the_field_send, result.the_send, refused.the_send, crosses, sendable) depth 60 fits 20000

-- each seat comes back from its turn
pub returns : goal.returns
returns g c =
    ok_both _ _ _ c.map_vec.result
    (λ v len each. zip_from _ c.args.turns.items v.items (omega (arith, len, v.ok.0, c.args.turns.ok.0)) (λ i d e within. let gives = (each i e within).1 in rw (gives.job_is d) (search (rules, gives.call.met))))
    c.map_vec.ensures.len c.map_vec.ensures.each
