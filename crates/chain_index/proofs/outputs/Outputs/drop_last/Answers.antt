use Rattle.chain_index.proofs.LockLemmas.{listed_before}
use Rattle.chain_index.proofs.outputs.Outputs.drop_last.Goals as goal

pub invariant_of-self : goal.invariant_of-self
invariant_of-self c =
    let s = c.self.inside in
    listed_before s.by_lock.entries c.unlist.new.by_lock.entries c.pop.new.self.entries s.entries.entries c.in-Some.reference c.in-Some.output
    c.in-Some.ensures.entries c.in-Some.ensures.updates.1 c.unlist.ensures c.self.invariant
