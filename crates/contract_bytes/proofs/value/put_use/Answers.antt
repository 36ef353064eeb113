use Rattle.std.proofs.Common.{[], ◌∷◌}
use Rattle.contract_bytes.proofs.Spellings.{no_front, refused, held, part, behind}
use Rattle.contract_bytes.proofs.value.put_use.Goals as goal

pub returns-in_err-put_byte : goal.returns-in_err-put_byte
returns-in_err-put_byte c = refused c.from_residual.result c.from_residual.ensures.0 (no_front _ c.in_err-put_byte.ensures.err)

pub returns : goal.returns
returns c = behind (0x0a ∷ []) c.put_text.result c.in_ok-put_byte.ensures.spelling (part c.put_text.result c.put_text.ensures.spelling (held c.put_text.result c.put_text.ensures.fits) c.put_text.ensures.err)
