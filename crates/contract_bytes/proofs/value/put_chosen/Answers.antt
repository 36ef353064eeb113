use Rattle.std.proofs.Common.{[], ◌∷◌}
use Rattle.contract_bytes.proofs.Spellings.{no_front, refused, part, behind}
use Rattle.contract_bytes.proofs.value.put_chosen.Goals as goal

pub returns-in_err-put_byte : goal.returns-in_err-put_byte
returns-in_err-put_byte c = refused c.from_residual.result c.from_residual.ensures.0 (no_front _ c.in_err-put_byte.ensures.err)

pub returns : goal.returns
returns c = behind (c.args.tag ∷ []) c.put_choice_id.result c.in_ok-put_byte.ensures.spelling (part c.put_choice_id.result c.put_choice_id.ensures.spelling c.put_choice_id.ensures.fits c.put_choice_id.ensures.err)
