use Rattle.std.proofs.Common.{◌<ℤ◌, ◌≤ℤ◌, ◌-ℤ◌, pos, ℤ, get_or, set, sym, ◌∙◌, ap, subst, arith}
use Rattle.std.proofs.lemmas.Int.{ints}
use Rattle.bundle.specs.WalksSupport.{amount_in}
use Rattle.bundle.proofs.WalkLemmas.{starts, starts_within, is_at, amount_there}
use Rattle.bundle.proofs.LessLemmas.{put_is_set}
use Rattle.bundle.proofs.taking.reduce.Goals as goal

above : (m n : ℤ) → pos 0 <ℤ n → n ≤ℤ m → pos 0 <ℤ m
above m n g h = omega (arith, ints, g, h)

pub bounds-entries-at : goal.bounds-entries-at
bounds-entries-at c =
    starts_within c.args.less.now.0 c.args.entries.now c.skip_before-at.result
    (starts c.args.less.now.0 c.args.entries.now c.skip_before-at.result c.requires.sorted c.skip_before-at.ensures.before c.skip_before-at.ensures.next (above _ c.args.less.now.1 c.requires.positive c.requires.held))

pub lessen-requires-clause-enough : goal.lessen-requires-clause-enough
lessen-requires-clause-enough c =
    let there = is_at c.args.less.now.0 c.args.entries.now c.skip_before-at.result c.skip_before-at.ensures.before (starts c.args.less.now.0 c.args.entries.now c.skip_before-at.result c.requires.sorted c.skip_before-at.ensures.before c.skip_before-at.ensures.next (above _ c.args.less.now.1 c.requires.positive c.requires.held)) in
    subst (λ n. c.args.less.now.1 ≤ℤ n) (amount_there c.args.less.now.0 c.args.entries.now c.skip_before-at.result c.index-entries-at.result there) c.requires.held

pub returns-clause-put : goal.returns-clause-put
returns-clause-put c =
    let there = is_at c.args.less.now.0 c.args.entries.now c.skip_before-at.result c.skip_before-at.ensures.before (starts c.args.less.now.0 c.args.entries.now c.skip_before-at.result c.requires.sorted c.skip_before-at.ensures.before c.skip_before-at.ensures.next (above _ c.args.less.now.1 c.requires.positive c.requires.held)) in
    ap (set c.args.entries.now c.skip_before-at.result)
    (c.lessen.ensures ∙ ap (λ (n : ℤ). ((get_or c.args.entries.now c.skip_before-at.result c.index-entries-at.result).0, n -ℤ c.args.less.now.1)) (sym (amount_there c.args.less.now.0 c.args.entries.now c.skip_before-at.result c.index-entries-at.result there)))
    ∙ put_is_set c.args.less.now.0 (amount_in c.args.entries.now c.args.less.now.0 -ℤ c.args.less.now.1) c.args.entries.now c.skip_before-at.result c.index-entries-at.result there
