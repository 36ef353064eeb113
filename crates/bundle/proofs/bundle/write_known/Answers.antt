use Rattle.std.proofs.Common.{◌≡◌, ◌<ℤ◌, pos, ℤ, set, ◌∙◌, ap, subst, arith}
use Rattle.std.proofs.Math.Facts.{to_z-of_z}
use Rattle.std.proofs.lemmas.Int.{ints}
use Rattle.names.specs.declared.token.Token.{Token}
use Rattle.std.specs.Option.{unwrap_or}
use Rattle.names.specs.Orders.{token_cmp}
use Rattle.names.specs.Totals.{token_total}
use Rattle.names.proofs.FromCollections.Places.{IsAt, IsGap, at_in_range, find_gap}
use Rattle.bundle.proofs.LessLemmas.{put_is_set}
use Rattle.bundle.proofs.bundle.write_known.Goals as goal

none : (n : ℤ) → pos 0 <ℤ n → n ≡ pos 0 → ⊥
none n h e = omega (arith, ints, h, e)

pub index_mut-requires : goal.index_mut-requires
index_mut-requires c =
    let within = at_in_range token_cmp c.args.token.now c.deref.result.now c.in-Ok.at c.in-Ok.ensures in
    let same = c.deref.ensures.len in
    omega arith

pub returns-in-Ok : goal.returns-in-Ok
returns-in-Ok c =
    let there = subst (λ es. IsAt token_cmp c.args.token.now es c.in-Ok.at) c.deref.ensures.value c.in-Ok.ensures in
    ap (set c.args.entries.now.items c.in-Ok.at)
    (c.write_amount.ensures
    ∙ ap (λ (n : ℤ). (c.index_mut.result.now.0, n)) (to_z-of_z c.ranges.amount)
    ∙ ap (λ (e : Token × ℤ). (e.0, c.args.amount)) c.index_mut.ensures.value)
    ∙ put_is_set c.args.token.now c.args.amount c.args.entries.now.items c.in-Ok.at c.index_mut.result.now there

pub returns-in-Err : goal.returns-in-Err
returns-in-Err c =
    absurd (none _ c.requires.known (ap (λ o. unwrap_or o (pos 0)) (find_gap token_cmp c.args.token.now token_total c.args.entries.now.items c.in-Err.field-0 c.requires.sorted (subst (λ es. IsGap token_cmp c.args.token.now es c.in-Err.field-0) c.deref.ensures.value c.in-Err.ensures))))
