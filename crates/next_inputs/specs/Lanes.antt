-- No reader needs this file: it serves private functions. Inputs and actions apart from their numbers, in an order.
use Rattle.std.specs.Prelude.{ℕ, []}
use Rattle.std.specs.declared.cmp.Ordering.{Ordering}
use Rattle.std.specs.Ordering.{nat_cmp, then_cmp, on}
use Rattle.std.specs.Cmp.{IsTotalOrder, on_total, then_total}
use Rattle.std.proofs.lemmas.Cmp.{nat_cmp_total}
use Rattle.contract.specs.Names.Equal.{ada}
use Rattle.contract.specs.Names.declared.party.Party.{Party}
use Rattle.contract.specs.Names.declared.party.Party.TheVariants.{Address}
use Rattle.contract.specs.Names.declared.token.Token.{Token}
use Rattle.contract.specs.Names.declared.choice_id.ChoiceId.{ChoiceId}
use Rattle.contract.specs.Names.Orders.{party_cmp, token_cmp, choice_id_cmp}
use Rattle.contract.specs.Names.Totals.{party_total, token_total, choice_id_total}
use Rattle.contract.specs.declared.input.Input.{Input}
use Rattle.contract.specs.declared.input.Input.TheVariants as inputs
use Rattle.contract.specs.Tree.{ActionTree, deposit, choice, notify}
use Rattle.next_inputs.specs.declared.lane.Lane.{Lane}
use Rattle.next_inputs.specs.declared.lane.Lane.TheVariants as lanes

-- a deposit's account, party and token; a choice; a notify
pub data Way : Type 0 where
  deposits : Party → Party → Token → Way
  chooses : ChoiceId → Way
  notifies : Way

abbrev pub way : Lane → Way
way (lanes.Deposit a p t) = deposits a.now p.now t.now
way (lanes.Choice id) = chooses id.now
way lanes.Notify = notifies

abbrev pub way_of : Input → Way
way_of (inputs.Deposit a p t n) = deposits a p t
way_of (inputs.Choice id n) = chooses id
way_of inputs.Notify = notifies

abbrev pub way_in : ActionTree → Way
way_in (deposit a p t v) = deposits a p t
way_in (choice id bounds) = chooses id
way_in (notify o) = notifies

-- ---- the order of ways: deposits, choices, notify

abbrev pub nobody : Party
nobody = Address []

abbrev pub no_choice : ChoiceId
no_choice = record { name = []; owner = nobody }

abbrev pub rank : Way → ℕ
rank (deposits a p t) = 0
rank (chooses id) = 1
rank notifies = 2

abbrev pub account_in : Way → Party
account_in (deposits a p t) = a
account_in _ = nobody

abbrev pub party_in : Way → Party
party_in (deposits a p t) = p
party_in _ = nobody

abbrev pub token_in : Way → Token
token_in (deposits a p t) = t
token_in _ = ada

abbrev pub choice_in : Way → ChoiceId
choice_in (chooses id) = id
choice_in _ = no_choice

abbrev pub way_cmp : Way → Way → Ordering
way_cmp = then_cmp (on rank nat_cmp) (then_cmp (on choice_in choice_id_cmp) (then_cmp (on account_in party_cmp) (then_cmp (on party_in party_cmp) (on token_in token_cmp))))

pub way_total : IsTotalOrder way_cmp
way_total = then_total (on_total rank nat_cmp_total) (then_total (on_total choice_in choice_id_total) (then_total (on_total account_in party_total) (then_total (on_total party_in party_total) (on_total token_in token_total))))

abbrev pub lane_cmp : Lane → Lane → Ordering
lane_cmp = on way way_cmp

pub lane_total : IsTotalOrder lane_cmp
lane_total = on_total way way_total
