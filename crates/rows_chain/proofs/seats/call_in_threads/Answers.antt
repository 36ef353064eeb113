use denote.Exit.{no}
use denote.Param.{param}
use denote.Param.Send.{sendable, param_send, arg_send}
use Rattle.std.proofs.Crossing.{crosses}
use Rattle.std.proofs.result.Result.TheSendSync as result
use Rattle.std.proofs.alloc.AllocError.TheSendSync as refused
use Rattle.parties.proofs.FromHub.Crossing.{seats_are_sent, receipts_are_sent, at_hubs_are_sent}
use Rattle.rows_chain.proofs.seats.call_in_threads.Goals as goal

-- seats at their hub go to the threads
pub map_vec-requires-send-J : goal.map_vec-requires-send-J
map_vec-requires-send-J g c κs within = param_send 1 _ (arg_send _ no _ (at_hubs_are_sent (param 0 g.row.J) g.J.Session _))

-- and come back with their receipts
pub map_vec-requires-send-X : goal.map_vec-requires-send-X
map_vec-requires-send-X g c κs within = search (seats_are_sent, receipts_are_sent, result.the_send, refused.the_send, crosses, sendable) depth 60 fits 20000
