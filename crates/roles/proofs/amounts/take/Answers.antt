use Rattle.std.proofs.Common.{◌-ℤ◌, set, not, sym, ◌∙◌, ap, arith}
use Rattle.std.specs.Prelude.{int_lt}
use Rattle.contract.specs.Names.Orders.{token_cmp}
use Rattle.contract.proofs.FromCollections.Places.{at_in_range}
use Rattle.roles.specs.LeftSupport.{left_of}
use Rattle.roles.proofs.LeftLemmas.{left_at, left_gap, left_set, too_few}
use Rattle.roles.proofs.amounts.take.Goals as goal

pub index_mut-requires : goal.index_mut-requires
index_mut-requires c =
    let within = at_in_range token_cmp c.args.account.now.0.token c.args.entries.now c.in-Ok.at c.in-Ok.ensures in
    omega (arith, within, c.requires.each, c.args.left.now.ok.0)

pub returns-in-Ok-clause-enough : goal.returns-in-Ok-clause-enough
returns-in-Ok-clause-enough c =
    let within = at_in_range token_cmp c.args.account.now.0.token c.args.entries.now c.in-Ok.at c.in-Ok.ensures in
    let there = left_at c.args.account.now.0.token c.args.entries.now c.args.left.now.items c.in-Ok.at c.index_mut.result.now c.in-Ok.ensures (omega (arith, within, c.requires.each)) in
    c.lessen.ensures.enough ∙ ap (λ m. not (int_lt m c.args.account.now.1)) (c.index_mut.ensures.value ∙ sym there)

pub returns-in-Ok-clause-taken : goal.returns-in-Ok-clause-taken
returns-in-Ok-clause-taken c = λ yes u.
    let t = c.args.account.now.0.token in
    let within = at_in_range token_cmp t c.args.entries.now c.in-Ok.at c.in-Ok.ensures in
    let there = left_at t c.args.entries.now c.args.left.now.items c.in-Ok.at c.index_mut.result.now c.in-Ok.ensures (omega (arith, within, c.requires.each)) in
    ap (λ v. left_of c.args.entries.now (set c.args.left.now.items c.in-Ok.at v) u) (c.lessen.ensures.taken yes ∙ ap (λ m. m -ℤ c.args.account.now.1) (c.index_mut.ensures.value ∙ sym there))
    ∙ left_set t (left_of c.args.entries.now c.args.left.now.items t -ℤ c.args.account.now.1) c.args.entries.now c.args.left.now.items c.in-Ok.at u c.in-Ok.ensures (omega (arith, within, c.requires.each))

pub returns-in-Err-clause-enough : goal.returns-in-Err-clause-enough
returns-in-Err-clause-enough c =
    too_few _ c.args.account.now.1 (left_gap c.args.account.now.0.token c.args.entries.now c.args.left.now.items c.in-Err.field-0 c.requires.sorted c.in-Err.ensures) c.requires.positive
