-- Contracts that have names go to another thread, step by step.
use denote.Param.Send.{IsSend, sendable}
use Rattle.std.proofs.Crossing.{crosses}
use Rattle.collections.proofs.boxed.Boxed.TheSendSync as boxed
use Rattle.collections.proofs.items.Items.TheSendSync as items
use Rattle.collections.proofs.text.Text.TheSendSync as text
use Rattle.names.proofs.bound.Bound.TheSendSync as bound
use Rattle.names.proofs.choice_id.ChoiceId.TheSendSync as choice_id
use Rattle.names.proofs.party.Party.TheSendSync as party
use Rattle.names.proofs.payee.Payee.TheSendSync as payee
use Rattle.names.proofs.token.Token.TheSendSync as token
use Rattle.contract.specs.contracts.tree.Contract as Contract
use Rattle.contract.proofs.tree.Contract.TheLaws.TheKnot as tree_knot
use Rattle.contract.proofs.value.Observation.TheLaws.TheKnot as value_knot
use Rattle.definitions.specs.contracts.definition.Definition as Definition
use Rattle.definitions.specs.contracts.definitions.Definitions as Definitions

trees : IsSend (Contract.the_field).row
trees = search (boxed.the_send, items.the_send, text.the_send, bound.the_send, choice_id.the_field_send, party.the_field_send, payee.the_field_send, token.the_field_send, tree_knot.crosses, value_knot.crosses, crosses, sendable) depth 60 fits 20000

one : IsSend (Definition.the_field).row
one = search (trees, text.the_send, crosses, sendable) depth 60 fits 20000

pub names_are_sent : IsSend Definitions.the_row
names_are_sent = search (one, crosses, sendable) depth 60 fits 20000
