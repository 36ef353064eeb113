use Rattle.std.proofs.Common.{◌∙◌, ◌-◌, ap, sym, take, length, arith}
use Rattle.std.proofs.lemmas.List.{length-take-le, take_all}
use Rattle.ledger_spec.proofs.FromLedgerLaws.PlainLaws.{take_twice}
use Rattle.chain_index.proofs.outputs.truncate.Goals as goal

pub loop-outputs-preserved : goal.loop-outputs-preserved
loop-outputs-preserved c =
    let old = c.loop-outputs.outputs in
    ap (take c.args.len) c.drop_last.ensures ∙ take_twice c.args.len (length old - 1) old (omega (arith, c.loop-outputs-test.true, c.len.ensures)) ∙ c.loop-outputs.invariant

pub loop-outputs-smaller : goal.loop-outputs-smaller
loop-outputs-smaller c =
    let old = c.loop-outputs.outputs in
    let e = length-take-le (length old - 1) old (omega arith) in
    let f = ap length c.drop_last.ensures in
    omega (arith, e, f, c.loop-outputs-test.true, c.len.ensures)

pub returns : goal.returns
returns c =
    let old = c.loop-outputs.outputs in
    sym (take_all c.args.len old (omega (arith, c.loop-outputs-test.false, c.len.ensures))) ∙ c.loop-outputs.invariant
