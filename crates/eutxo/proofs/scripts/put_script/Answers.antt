use Rattle.std.proofs.Math.Dec.{T}
use Rattle.std.specs.FinMap.Entries.{is_sorted}
use Rattle.std.proofs.Common.{◌∙◌, sym, subst, arith}
use Rattle.contract.specs.Names.Orders.{bytes_cmp}
use Rattle.contract.proofs.FromCollections.Places.{IsAt, IsGap, at_in_range, gap_in_range, put_at, put_gap}
use Rattle.eutxo.proofs.ScriptPutLemmas.{sorted_put}
use Rattle.eutxo.proofs.scripts.put_script.Goals as goal

pub index_mut-requires : goal.index_mut-requires
index_mut-requires g c =
    let within = at_in_range bytes_cmp c.args.id c.deref.result.now c.in-Ok.at c.in-Ok.ensures in
    let same = c.deref.ensures.len in
    omega arith

pub insert-requires : goal.insert-requires
insert-requires g c =
    let within = gap_in_range bytes_cmp c.args.id c.deref.result.now c.in-Err.at c.in-Err.ensures in
    let same = c.deref.ensures.len in
    omega arith

pub returns-in-Ok-clause-ok : goal.returns-in-Ok-clause-ok
returns-in-Ok-clause-ok g c =
    let there = subst (λ es. IsAt bytes_cmp c.args.id es c.in-Ok.at) c.deref.ensures.value c.in-Ok.ensures in
    cc (put_at bytes_cmp c.args.id c.args.script c.args.entries.now.items c.in-Ok.at c.index_mut.result.now there, c.index_mut.ensures.value)

pub returns-in_ok-insert-in-Err-clause-ok : goal.returns-in_ok-insert-in-Err-clause-ok
returns-in_ok-insert-in-Err-clause-ok g c =
    let there = subst (λ es. IsGap bytes_cmp c.args.id es c.in-Err.at) c.deref.ensures.value c.in-Err.ensures in
    c.in_ok-insert-in-Err.ensures.items ∙ sym (put_gap bytes_cmp c.args.id c.args.script c.args.entries.now.items c.in-Err.at there)

pub returns-in-Ok-clause-sorted : goal.returns-in-Ok-clause-sorted
returns-in-Ok-clause-sorted g c = subst (λ es. T (is_sorted bytes_cmp es)) (sym (returns-in-Ok-clause-ok g c)) (sorted_put c.args.id c.args.script c.args.entries.now.items c.requires)

pub returns-in_ok-insert-in-Err-clause-sorted : goal.returns-in_ok-insert-in-Err-clause-sorted
returns-in_ok-insert-in-Err-clause-sorted g c =
    subst (λ es. T (is_sorted bytes_cmp es)) (sym (returns-in_ok-insert-in-Err-clause-ok g c)) (sorted_put c.args.id c.args.script c.args.entries.now.items c.requires)
