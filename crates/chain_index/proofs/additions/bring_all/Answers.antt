use Rattle.std.proofs.Common.{◌∙◌, ◌++◌, arith}
use Rattle.ledger_spec.specs.EutxoTypes.declared.output_ref.OutputRef.TheVariants.{Made}
use Rattle.chain_index.specs.NamingSupport.{slots}
use Rattle.chain_index.specs.PartsSupport.{one_datum}
use Rattle.chain_index.proofs.DataLemmas.{next_bringing}
use Rattle.chain_index.proofs.additions.bring_all.Goals as goal

pub loop-i-preserved : goal.loop-i-preserved
loop-i-preserved c =
    let old = c.loop-i.datums.entries in
    let tx = c.args.tx.now in
    let i = c.loop-i.i in
    record {
      bringing =
          next_bringing tx c.args.datums.now.entries old c.bring_one.new.datums.entries i (omega (arith, c.loop-i-test.true, c.len-i-end.ensures))
          (c.in_ok-bring_one.ensures.ok ∙ (λ k. old ++ slots (one_datum (Made (c.requires.named k) i) (c.made_at-made.ensures k)))) c.loop-i.invariant.bringing;
      count = c.count_through-count.ensures;
    }
