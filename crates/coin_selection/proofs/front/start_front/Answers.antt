use Rattle.std.proofs.Common.{◌≡◌, ◌<◌, inl, inr, ◌⊎◌, arith}
use Rattle.builder_spec.specs.Holding.{amount_in}
use Rattle.builder_spec.proofs.SufficesLaws.{bundles_take}
use Rattle.coin_selection.proofs.StartFrontLemmas.{start_is}
use Rattle.coin_selection.proofs.front.start_front.Goals.{then-length-eq0, else-length-eq0}
use Rattle.coin_selection.proofs.front.start_front.Goals as goal

pub returns-clause-front : goal.returns-clause-front
returns-clause-front c =
    let n = c.in_ok-length.length in
    let m = c.if-length-eq0.some in
    start_is c.args.amounts.now c.args.offered.now n m c.requires.bundles c.requires.some c.in_ok-length.ensures
    (elim c.if-length-eq0.branch as (λ _. ((n ≡ 0) × (m ≡ 1)) ⊎ ((0 < n) × (m ≡ n))) [
      | then-length-eq0 w ↦ inl (omega (arith, w.if-length-eq0.true), w.some-is)
      | else-length-eq0 w ↦ inr (omega (arith, w.if-length-eq0.false), w.some-is)
    ])

pub returns-clause-bundles : goal.returns-clause-bundles
returns-clause-bundles c = bundles_take amount_in c.if-length-eq0.some c.args.offered.now c.requires.bundles
