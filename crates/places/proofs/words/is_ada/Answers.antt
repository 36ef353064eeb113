use Rattle.places.proofs.AdaLemmas.{ada_by_name, not_ada}
use Rattle.places.proofs.words.is_ada.Goals as goal

pub returns-then-is_empty : goal.returns-then-is_empty
returns-then-is_empty c = ada_by_name c.args.token.now _ _ c.is_empty.result c.is_empty-then-is_empty.result c.is_empty.ensures c.is_empty-then-is_empty.ensures c.as_slice.ensures.value c.as_str.ensures c.if-is_empty.true

pub returns-else-is_empty : goal.returns-else-is_empty
returns-else-is_empty c = not_ada c.args.token.now _ c.is_empty.result c.is_empty.ensures c.as_slice.ensures.value c.if-is_empty.false
