use Rattle.std.proofs.Common.{[], ◌∷◌, ◌++◌}
use Rattle.contract.specs.Tree.{value_tree}
use Rattle.contract_bytes.specs.Names.{party_bytes, token_bytes}
use Rattle.contract_bytes.specs.Trees.{action_bytes}
use Rattle.contract_bytes.specs.Values.{value_bytes}
use Rattle.contract_bytes.proofs.Fronts.{front_first, front_then, wrote_both}
use Rattle.contract_bytes.proofs.Spellings.{no_front, refused, behind, fitting}
use Rattle.contract_bytes.proofs.tree.put_deposit.Goals as goal

pub returns-in_err-put_byte : goal.returns-in_err-put_byte
returns-in_err-put_byte c = refused c.from_residual.result c.from_residual.ensures.0 (no_front _ c.in_err-put_byte.ensures.err)

pub returns-in_err-put_party : goal.returns-in_err-put_party
unfolding action_bytes
returns-in_err-put_party c =
    let rest = front_first (token_bytes c.args.token.now) (front_first (party_bytes c.args.party.now) (front_then (0x00 ∷ []) c.in_ok-put_byte.ensures.spelling c.in_err-put_party.ensures.err)) in
    refused c.from_residual-in_err-put_party.result c.from_residual-in_err-put_party.ensures.0 (front_first (value_bytes (value_tree c.args.value.now)) rest)

pub returns-in_err-put_party-2 : goal.returns-in_err-put_party-2
unfolding action_bytes
returns-in_err-put_party-2 c =
    let account = party_bytes c.args.account.now in
    let first = wrote_both _ (0x00 ∷ []) account c.in_ok-put_byte.ensures.spelling c.in_ok-put_party.ensures.spelling in
    let rest = front_first (token_bytes c.args.token.now) (front_then (0x00 ∷ account) first c.in_err-put_party-2.ensures.err) in
    refused c.from_residual-in_err-put_party-2.result c.from_residual-in_err-put_party-2.ensures.0 (front_first (value_bytes (value_tree c.args.value.now)) rest)

pub returns-in_err-put_token : goal.returns-in_err-put_token
unfolding action_bytes
returns-in_err-put_token c =
    let account = party_bytes c.args.account.now in
    let party = party_bytes c.args.party.now in
    let first = wrote_both _ (0x00 ∷ []) account c.in_ok-put_byte.ensures.spelling c.in_ok-put_party.ensures.spelling in
    let second = wrote_both _ (0x00 ∷ account) party first c.in_ok-put_party-2.ensures.spelling in
    refused c.from_residual-in_err-put_token.result c.from_residual-in_err-put_token.ensures.0 (front_first (value_bytes (value_tree c.args.value.now)) (front_then (0x00 ∷ account ++ party) second c.in_err-put_token.ensures.err))

pub returns : goal.returns
unfolding action_bytes
returns c =
    let account = party_bytes c.args.account.now in
    let party = party_bytes c.args.party.now in
    let token = token_bytes c.args.token.now in
    let first = wrote_both _ (0x00 ∷ []) account c.in_ok-put_byte.ensures.spelling c.in_ok-put_party.ensures.spelling in
    let second = wrote_both _ (0x00 ∷ account) party first c.in_ok-put_party-2.ensures.spelling in
    let third = wrote_both _ (0x00 ∷ account ++ party) token second c.in_ok-put_token.ensures.spelling in
    fitting c.put_value.result (λ h. (c.in_ok-put_party.ensures.fits, c.in_ok-put_party-2.ensures.fits, c.in_ok-put_token.ensures.fits, h))
    (behind (0x00 ∷ account ++ party ++ token) c.put_value.result third c.put_value.ensures)
