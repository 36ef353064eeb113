use Rattle.std.proofs.Common.{◌∙◌, ap, sym, subst}
use Rattle.chain_index.specs.Contents.{is_among}
use Rattle.chain_index.specs.HolesSupport.{live, known}
use Rattle.chain_index.specs.LocksSupport.{AreListed}
use Rattle.chain_index.proofs.LockLemmas.{ok_so, listed_more}
use Rattle.chain_index.proofs.outputs.Outputs.put.Goals as goal

pub invariant_of-self-2 : goal.invariant_of-self-2
invariant_of-self-2 c =
    let s = c.self.inside in
    let roomy = c.reserve.new.self in
    let same = c.reserve.ensures.entries in
    listed_more s.by_lock.entries c.list.new.by_lock.entries roomy.entries c.put.new.slots.entries c.args.reference c.args.output
    (ok_so c.put.result (c.put.ensures.succeeds c.in_ok-reserve.ensures.ok) c.put.ensures.ok)
    (ap (λ es. is_among (known es) c.args.reference) (same ∙ c.self.view_is) ∙ c.requires)
    c.in_ok-list.ensures.ok
    (subst (λ es. AreListed s.by_lock.entries (live es)) (sym same) c.self.invariant)
