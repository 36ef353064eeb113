use Rattle.std.proofs.Common.{◌∙◌, ◌&&◌, not, sym, ap, refl, Some, is_some}
use Rattle.std.specs.Map.{lookup}
use Rattle.ledger_spec.specs.EutxoTypes.Parts.{same_ref}
use Rattle.chain_index.specs.Contents.{is_among}
use Rattle.chain_index.specs.LocksSupport.{refs_in}
use Rattle.chain_index.proofs.LockLemmas.{name_same, told_under, gone}
use Rattle.chain_index.proofs.by_lock.take_off.Goals as goal

pub returns-in-Some-clause-less : goal.returns-in-Some-clause-less
returns-in-Some-clause-less c =
    let old = c.args.by_lock.now in
    let name = c.args.name.now in
    let q = c.args.reference.now in
    let w = c.swap_remove.new.self in
    let there = c.in-Some.ensures.value in
    let updates = (c.get_mut.follows.holds w).3 (sym (ap is_some there)) in
    told_under old.entries (c.get_mut.follows.lender w).entries name (Some w) updates.0 (λ hit was. not hit && was) q (λ b. refl)
    (λ r. gone q c.in-Some.refs.now.keys w.keys c.swap_remove.ensures.updates.0 r
    ∙ ap (λ o. not (same_ref q r) && is_among (refs_in o) r) (there ∙ ap (λ e. lookup (e name) old.entries) name_same))
