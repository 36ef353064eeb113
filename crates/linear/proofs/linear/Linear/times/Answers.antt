use Rattle.std.proofs.Common.{◌*ℤ◌, pos}
use Rattle.std.specs.Int.{w128}
use Rattle.std.proofs.lemmas.Int.{to_z-of_z}
use Rattle.linear.specs.Linear.{number_at, IsBelow}
use Rattle.linear.specs.Combined.{StandsFor, AreBelow, combined_at}
use Rattle.linear.proofs.LinearLaws.{both_weaker}
use Rattle.linear.proofs.QueryLemmas.{stands_as, first_alone}
use Rattle.linear.proofs.linear.Linear.times.Goals as goal

pub returns : goal.returns
returns c =
    let l = c.args.self.now in
    let p = c.args.factor in
    let h = rw (to_z-of_z w128 c.args.factor c.ranges.factor) at c.combine.ensures in
    both_weaker c.combine.result (StandsFor (combined_at p l (pos 0) l) (AreBelow l l)) (StandsFor (λ r. p *ℤ number_at r l) (λ n. IsBelow n l))
    (λ e s. stands_as (combined_at p l (pos 0) l) (λ r. p *ℤ number_at r l) (AreBelow l l) (λ n. IsBelow n l) e (λ r. first_alone (p *ℤ number_at r l) (number_at r l)) (λ n b. (b, b)) s) h
