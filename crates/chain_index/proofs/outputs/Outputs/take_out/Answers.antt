use Rattle.chain_index.specs.HolesSupport.{live}
use Rattle.chain_index.proofs.LockLemmas.{listed_less}
use Rattle.chain_index.proofs.outputs.Outputs.take_out.Goals as goal

pub invariant_of-self : goal.invariant_of-self
invariant_of-self c =
    let s = c.self.inside in
    listed_less s.by_lock.entries c.unlist.new.by_lock.entries (live s.entries.entries) (live c.take_out-spent.new.slots.entries) c.args.reference.now c.take_out-spent.result
    c.take_out-spent.ensures.live c.take_out-spent.ensures.value c.unlist.ensures c.self.invariant
