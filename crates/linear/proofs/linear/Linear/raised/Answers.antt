use Rattle.std.proofs.Common.{◌+ℤ◌}
use Rattle.std.specs.Int.{w128}
use Rattle.std.proofs.lemmas.Int.{to_z-of_z}
use Rattle.linear.specs.Linear.{number_at, IsBelow, number}
use Rattle.linear.specs.Combined.{StandsFor, AreBelow}
use Rattle.linear.proofs.LinearLaws.{both_weaker}
use Rattle.linear.proofs.QueryLemmas.{stands_as, raised_sum}
use Rattle.linear.proofs.linear.Linear.raised.Goals as goal

pub returns : goal.returns
returns c =
    let l = c.args.self.now in
    let b = c.args.by in
    let e = rw (to_z-of_z w128 c.args.by c.ranges.by) at c.number-more.ensures in
    let h = rw e at c.plus.ensures in
    both_weaker c.plus.result (StandsFor (λ r. number_at r l +ℤ number_at r (number b)) (AreBelow l (number b))) (StandsFor (λ r. number_at r l +ℤ b) (λ n. IsBelow n l))
    (λ x s. stands_as (λ r. number_at r l +ℤ number_at r (number b)) (λ r. number_at r l +ℤ b) (AreBelow l (number b)) (λ n. IsBelow n l) x (λ r. raised_sum (number_at r l) b) (λ n k. (k, tt)) s) h
