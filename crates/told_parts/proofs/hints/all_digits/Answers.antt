use Rattle.std.proofs.Common.{sym, ◌∙◌}
use Rattle.told_parts.specs.Lines.{is_digit}
use Rattle.told_parts.proofs.SearchLemmas.{all_here, all_past, all_end}
use Rattle.told_parts.proofs.hints.all_digits.Goals as goal

pub returns-then-wrong : goal.returns-then-wrong
returns-then-wrong c = all_here is_digit c.args.bytes.now 0 c.loop-byte.byte-index c.loop-byte-test.true c.loop-byte.invariant (sym c.is_no_digit-wrong.ensures ∙ c.if-wrong.true)

pub loop-byte-preserved : goal.loop-byte-preserved
loop-byte-preserved c = all_past is_digit c.args.bytes.now 0 c.loop-byte.byte-index c.loop-byte-test.true c.loop-byte.invariant (sym c.is_no_digit-wrong.ensures ∙ c.if-wrong.false)

pub returns : goal.returns
returns c = all_end is_digit c.args.bytes.now c.loop-byte.byte-index c.loop-byte-test.false c.loop-byte.invariant
