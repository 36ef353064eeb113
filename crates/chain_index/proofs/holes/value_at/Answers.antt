use Rattle.std.proofs.Common.{◌∙◌, sym}
use Rattle.chain_index.proofs.LiveLemmas.{value_so}
use Rattle.chain_index.proofs.holes.value_at.Goals as goal

pub returns-in-Some-Some : goal.returns-in-Some-Some
returns-in-Some-Some g c = sym c.in-Some-Some.field-0-is ∙ value_so c.args.reference.now c.args.slots.now.entries _ c.len-len.ensures.unique c.in-Some-Some.ensures.value

pub returns-in-Some-None : goal.returns-in-Some-None
returns-in-Some-None g c = sym c.in-Some-None.field-0-is ∙ value_so c.args.reference.now c.args.slots.now.entries _ c.len-len.ensures.unique c.in-Some-None.ensures.value

pub returns-in-None : goal.returns-in-None
returns-in-None g c = value_so c.args.reference.now c.args.slots.now.entries _ c.len-len.ensures.unique c.in-None.ensures.value
