use Rattle.std.proofs.Common.{◌∙◌, sym, ap, refl, None}
use Rattle.chain_index.specs.Contents.{is_among}
use Rattle.chain_index.proofs.LockLemmas.{told_under}
use Rattle.chain_index.proofs.by_lock.unlist_under.Goals as goal

pub returns-then-take_off : goal.returns-then-take_off
returns-then-take_off c n r =
    let left = c.take_off.new.by_lock.entries in
    told_under left c.swap_remove.new.self.entries c.args.name.now None c.swap_remove.ensures.updates.0 (λ hit was. was) c.args.reference.now (λ b. refl)
    (λ s. sym (ap (λ rs. is_among rs s) (c.take_off.ensures.none c.if-take_off.true))) n r
    ∙ c.take_off.ensures.less n r
