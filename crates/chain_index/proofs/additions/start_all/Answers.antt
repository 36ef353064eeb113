use Rattle.std.proofs.Common.{◌∙◌, ◌++◌, ℕ, List, ap, arith}
use Rattle.chain_index.specs.PartsSupport.{one_start}
use Rattle.chain_index.proofs.StartLemmas.{next_starting}
use Rattle.chain_index.proofs.additions.start_all.Goals as goal

pub loop-i-preserved : goal.loop-i-preserved
loop-i-preserved c =
    let old = c.loop-i.starts.keys in
    let i = c.loop-i.i in
    record {
      starting =
          next_starting c.args.tx.now c.args.starts.now.keys old c.start_one.new.starts.keys i (omega (arith, c.loop-i-test.true, c.len-i-end.ensures))
          (c.in_ok-start_one.ensures.ok ∙ ap (λ (id : List ℕ). old ++ one_start id c.args.tx.now i) c.requires.named) c.loop-i.invariant.starting;
      count = c.count_through-count.ensures;
    }
