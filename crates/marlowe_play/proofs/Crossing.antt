-- A turn goes to another thread: its party, and its seat at the hub.
use denote.RattleType.{RattleType}
use denote.Ref.{NamedLft}
use denote.Param.Send.{IsSend, recorded_send, struct_send, shr_send}
use denote.Struct.Declared.{shape}
use Rattle.parties.proofs.party.Party.TheSendSync as party
use Rattle.parties.specs.Hub.declared.session.Session as session
use Rattle.parties.specs.Hub.contracts.at_hub.SeatAtHub as SeatAtHub
use Rattle.parties.proofs.FromHub.Crossing.{seats_are_sent, hubs_are_lent}
use Rattle.marlowe_play.specs.contracts.turns.Turn as Turn

module _ (J : RattleType) (S : session.Ghosts J.Denot) where
  place : (a : NamedLft) → IsSend (SeatAtHub.the_field a J S).row
  place a = struct_send (shape (SeatAtHub.the_type a J S)) (shr_send _ _ _ (hubs_are_lent J S), (seats_are_sent J S, tt))

  pub turns_are_sent : (a : NamedLft) → IsSend (Turn.the_row a J S)
  turns_are_sent a = recorded_send (Turn.the_field a J S).row _ _ (Turn.the_type a J S).to_one (struct_send (shape (Turn.the_type a J S)) (party.the_field_send, (place a, tt)))
