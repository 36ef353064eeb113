-- Seats and receipts go to other threads, and threads share a hub: what they hold crosses, step by step.
use denote.RattleType.{RattleType}
use denote.Param.Send.{IsSend, IsSync, sendable, recorded_send, struct_send, shr_send}
use denote.Ref.{NamedLft}
use denote.Struct.Declared.{shape}
use Rattle.std.proofs.Crossing.{crosses}
use Rattle.std.proofs.marker.PhantomData.TheSendSync as phantom
use Rattle.std.proofs.sync.Mutex.TheSendSync as mutex
use Rattle.std.proofs.sync.ledger.Book.TheSendSync as book
use Rattle.std.proofs.sync.ledger.Share.TheSendSync as share
use Rattle.collections.proofs.boxed.Boxed.TheSendSync as boxed
use Rattle.collections.proofs.bytes.Bytes.TheSendSync as bytes
use Rattle.collections.proofs.items.Items.TheSendSync as items
use Rattle.collections.proofs.text.Text.TheSendSync as text
use Rattle.names.proofs.bound.Bound.TheSendSync as bound
use Rattle.names.proofs.choice_id.ChoiceId.TheSendSync as choice_id
use Rattle.names.proofs.party.Party.TheSendSync as party
use Rattle.names.proofs.payee.Payee.TheSendSync as payee
use Rattle.names.proofs.token.Token.TheSendSync as token
use Rattle.contract.specs.contracts.tree.Contract as Contract
use Rattle.contract.proofs.tree.Contract.TheLaws.TheKnot as tree_knot
use Rattle.contract.proofs.value.Observation.TheLaws.TheKnot as value_knot
use Rattle.eutxo_types.proofs.output.Output.TheSendSync as output
use Rattle.eutxo_types.proofs.tx.Tx.TheSendSync as tx
use Rattle.ledger.proofs.ask.Ask.TheSendSync as ask
use Rattle.ledger.proofs.call.Reply.TheSendSync as reply
use Rattle.ledger.specs.contracts.call.Call as Call
use Rattle.ledger.specs.contracts.call.Entry as Entry
use Rattle.chain_index.proofs.index.Index.TheSendSync as index
use Rattle.ledger_kept.proofs.tally.Tally.TheSendSync as tally
use Rattle.chain.specs.contracts.chain.Chain as Chain
use Rattle.journal.proofs.journal.Journal.TheSendSync as journal
use Rattle.journal.proofs.beginning.Beginning.TheSendSync as beginning
use Rattle.hub.proofs.carried.Carried.TheSendSync as carried
use Rattle.hub.specs.declared.session.Session as session
use Rattle.hub.specs.contracts.answer.Answer as Answer
use Rattle.hub.specs.contracts.seat.Seat as Seat
use Rattle.hub.specs.contracts.receipt.Receipt as Receipt
use Rattle.hub.specs.contracts.hub.Hub as Hub
use Rattle.hub.specs.contracts.at_hub.SeatAtHub as SeatAtHub

trees : IsSend (Contract.the_field).row
trees = search (boxed.the_send, items.the_send, text.the_send, bound.the_send, choice_id.the_field_send, party.the_field_send, payee.the_field_send, token.the_field_send, tree_knot.crosses, value_knot.crosses, crosses, sendable) depth 60 fits 20000

calls : IsSend (Call.the_field).row
calls = search (trees, bytes.the_send, ask.the_field_send, tx.the_field_send, crosses, sendable) depth 60 fits 20000

answers : IsSend Answer.the_row
answers = search (calls, reply.the_field_send, crosses, sendable) depth 60 fits 20000

entries : IsSend Entry.the_row
entries = search (calls, reply.the_field_send, crosses, sendable) depth 60 fits 20000

chains : IsSend (Chain.the_field).row
chains = search (entries, output.the_send, items.the_send, index.the_send, tally.the_send, crosses, sendable) depth 60 fits 20000

module _ (J : RattleType) (S : session.Ghosts J.Denot) where
  pub seats_are_sent : IsSend (Seat.the_row J S)
  seats_are_sent = search (answers, share.the_send, beginning.the_send, crosses, sendable) depth 60 fits 20000

  pub receipts_are_sent : IsSend (Receipt.the_row J S)
  receipts_are_sent = search (reply.the_field_send, carried.the_send, beginning.the_send, crosses, sendable) depth 60 fits 20000

  pub hubs_are_lent : IsSync (Hub.the_row J S)
  hubs_are_lent = search (chains, book.the_send, share.the_send, journal.the_send, phantom.the_field_send, phantom.the_field_sync, mutex.the_sync, crosses, sendable) depth 60 fits 20000

  pub at_hubs_are_sent : (a : NamedLft) → IsSend (SeatAtHub.the_row a J S)
  at_hubs_are_sent a = recorded_send (SeatAtHub.the_field a J S).row _ _ (SeatAtHub.the_type a J S).to_one (struct_send (shape (SeatAtHub.the_type a J S)) (shr_send _ _ _ hubs_are_lent, (seats_are_sent, tt)))
