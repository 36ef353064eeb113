-- Claims of payouts: what hinders one, and how it is laid out.
use Rattle.std.specs.Prelude.{not, ◌||◌, if◌then◌else◌, List, [], ◌∷◌, ◌++◌, map, Option, Some, None, option_map}
use Rattle.std.specs.List.{list_any, filter_map}
use Rattle.contract.specs.Names.declared.party.Party.TheVariants.{Role}
use Rattle.contract.specs.Names.declared.token.Token.{Token}
use Rattle.ledger.specs.EutxoTypes.declared.lock.Lock.{Lock}
use Rattle.ledger.specs.EutxoTypes.declared.tx.Tx.{Tx}
use Rattle.ledger.specs.EutxoTypes.Parts.{is_payout, payout_in}
use Rattle.ledger.specs.Eutxo.Faults.{first_of, is_empty}
use Rattle.ledger.specs.Roles.Steps.{role_token}
use Rattle.ledger.specs.declared.look.Unspent.{Unspent}
use Rattle.builder_spec.specs.declared.fault.BuildFault.{BuildFault}
use Rattle.builder_spec.specs.declared.fault.BuildFault.TheVariants.{NoThread, NotAuthorised}
use Rattle.builder_spec.specs.Requests.{ClaimRequest}
use Rattle.builder_spec.specs.Holding.{sums, amount_in, first_unheld}
use Rattle.builder_spec.specs.Fronts.{front}
use Rattle.builder_spec.specs.Causes.{signature_cause, limit_cause, repeat_cause}
use Rattle.builder_spec.specs.Laying.{by_key, by_claim, paid_to}

-- the token for which a payout waits, of its currency and named as its role; another lock has none
abbrev pub awaited_token : Lock → Option Token
awaited_token lock = option_map (λ p. role_token p.currency p.role) (payout_in lock)

abbrev pub tokens_awaited : List Unspent → List Token
tokens_awaited payouts = filter_map (λ u. awaited_token u.output.lock) payouts

-- 1: there is no payout, or one among them has another lock
abbrev pub payout_cause : List Unspent → Option BuildFault
payout_cause payouts = if is_empty payouts || list_any (λ u. not (is_payout u.output.lock)) payouts then Some NoThread else None

-- the role of the first of these tokens that no output holds
abbrev pub unheld_cause : List Unspent → List Token → Option BuildFault
unheld_cause us ts = option_map (λ t. NotAuthorised (Role t.name)) (first_unheld us ts)

-- 4: the role of the first payout whose token isn't offered
abbrev pub role_cause : ClaimRequest → Option BuildFault
role_cause r = unheld_cause r.offered (tokens_awaited r.payouts)

abbrev pub claim_front : ClaimRequest → List Unspent
claim_front r = front (tokens_awaited r.payouts) [] r.offered

-- WHAT HINDERS A CLAIM: the first clause that fails
abbrev pub hinders_claim : ClaimRequest → Option BuildFault
hinders_claim r =
    first_of
    (payout_cause r.payouts
    ∷ signature_cause r.signers r.offered
    ∷ role_cause r
    ∷ limit_cause (r.payouts ++ claim_front r)
    ∷ repeat_cause (r.payouts ++ r.offered)
    ∷ [])

-- ITS LAYOUT: the payouts and then the front are spent; the payouts' sum goes to one address, and the front's to another
abbrev pub layout_claim : ClaimRequest → Tx
layout_claim r = record {
  inputs = map by_claim r.payouts ++ map by_key (claim_front r);
  outputs = paid_to r.to (sums amount_in r.payouts) ++ paid_to r.change (sums amount_in (claim_front r));
  interval = r.interval;
  signers = r.signers;
  datums = [];
}
