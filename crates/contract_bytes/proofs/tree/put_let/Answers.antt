use Rattle.std.proofs.Common.{[], ◌∷◌}
use Rattle.contract.specs.Tree.{value_tree}
use Rattle.contract_bytes.specs.Numbers.{text_bytes}
use Rattle.contract_bytes.specs.Values.{value_bytes}
use Rattle.contract_bytes.proofs.Fronts.{front_first, front_then, wrote_both}
use Rattle.contract_bytes.proofs.Spellings.{no_front, refused, behind, fitting}
use Rattle.contract_bytes.proofs.tree.put_let.Goals as goal

pub returns-in_err-put_byte : goal.returns-in_err-put_byte
returns-in_err-put_byte c = refused c.from_residual.result c.from_residual.ensures.0 (no_front _ c.in_err-put_byte.ensures.err)

pub returns-in_err-put_text : goal.returns-in_err-put_text
returns-in_err-put_text c = refused c.from_residual-in_err-put_text.result c.from_residual-in_err-put_text.ensures.0 (front_first (value_bytes (value_tree c.args.value.now)) (front_then (0x04 ∷ []) c.in_ok-put_byte.ensures.spelling c.in_err-put_text.ensures.err))

pub returns : goal.returns
returns c =
    let name = text_bytes c.args.name.now in
    let first = wrote_both _ (0x04 ∷ []) name c.in_ok-put_byte.ensures.spelling c.in_ok-put_text.ensures.spelling in
    fitting c.put_value.result (λ h. (c.in_ok-put_text.ensures.fits, h)) (behind (0x04 ∷ name) c.put_value.result first c.put_value.ensures)
