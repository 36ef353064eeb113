use Rattle.std.proofs.Common.{◌≡◌, ◌<◌, Option, None, ℕ, length, get_or, refl, arith}
use Rattle.std.proofs.lemmas.List.{get_or_default}
use Rattle.marlowe_analyse.proofs.OnceLemmas.{heads_none, heads_more}
use Rattle.marlowe_analyse.proofs.once.put_heads.Goals as goal

pub loop-index-init : goal.loop-index-init
loop-index-init c = heads_none c.args.told.now.items c.args.heads.now c.requires.1

pub loop-index-preserved : goal.loop-index-preserved
loop-index-preserved c =
    let old = c.args.told.now.items in
    let heads = c.args.heads.now in
    let now = c.loop-index.told.items in
    let i = c.loop-index.index in
    let v = c.loop-index.invariant in
    let few : i < length old = omega (arith, c.loop-index-test.true, c.len-index-end.ensures, c.args.told.now.ok.0) in
    let l : i < length now = omega (arith, few, v.many) in
    let k : i < length heads = omega (arith, few, c.requires.0) in
    let h = get_or heads i None in
    heads_more old heads i now c.index_mut.result.now _ h l k (get_or_default heads i None h k) c.index_mut.ensures.value refl v
