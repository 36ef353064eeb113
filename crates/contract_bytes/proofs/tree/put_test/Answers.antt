use Rattle.std.proofs.Common.{[], ◌∷◌}
use Rattle.contract_bytes.proofs.Spellings.{no_front, refused, behind}
use Rattle.contract_bytes.proofs.tree.put_test.Goals as goal

pub returns-in_err-put_byte : goal.returns-in_err-put_byte
returns-in_err-put_byte c = refused c.from_residual.result c.from_residual.ensures.0 (no_front _ c.in_err-put_byte.ensures.err)

pub returns : goal.returns
returns c = behind (c.args.tag ∷ []) c.put_observation.result c.in_ok-put_byte.ensures.spelling c.put_observation.ensures
