use Rattle.std.proofs.Common.{[], ◌∷◌}
use Rattle.contract_bytes.specs.Names.{party_bytes, token_bytes}
use Rattle.contract_bytes.specs.Values.{value_bytes}
use Rattle.contract_bytes.proofs.Fronts.{front_first, front_then, wrote_both}
use Rattle.contract_bytes.proofs.Spellings.{no_front, refused, part, behind, fitting}
use Rattle.contract_bytes.proofs.value.put_available.Goals as goal

pub returns-in_err-put_byte : goal.returns-in_err-put_byte
returns-in_err-put_byte c = refused c.from_residual.result c.from_residual.ensures.0 (no_front _ c.in_err-put_byte.ensures.err)

pub returns-in_err-put_party : goal.returns-in_err-put_party
unfolding value_bytes
returns-in_err-put_party c = refused c.from_residual-in_err-put_party.result c.from_residual-in_err-put_party.ensures.0 (front_first (token_bytes c.args.token.now) (front_then (0x00 ∷ []) c.in_ok-put_byte.ensures.spelling c.in_err-put_party.ensures.err))

pub returns : goal.returns
unfolding value_bytes
returns c =
    let party = party_bytes c.args.party.now in
    let first = wrote_both _ (0x00 ∷ []) party c.in_ok-put_byte.ensures.spelling c.in_ok-put_party.ensures.spelling in
    fitting c.put_token.result (λ h. (c.in_ok-put_party.ensures.fits, h)) (behind (0x00 ∷ party) c.put_token.result first (part c.put_token.result c.put_token.ensures.spelling c.put_token.ensures.fits c.put_token.ensures.err))
