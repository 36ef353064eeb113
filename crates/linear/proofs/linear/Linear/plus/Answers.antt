use Rattle.std.proofs.Common.{◌+ℤ◌, pos}
use Rattle.linear.specs.Linear.{number_at}
use Rattle.linear.specs.Combined.{StandsFor, AreBelow, combined_at}
use Rattle.linear.proofs.LinearLaws.{both_weaker}
use Rattle.linear.proofs.QueryLemmas.{stands_as, sum_of_both}
use Rattle.linear.proofs.linear.Linear.plus.Goals as goal

pub returns : goal.returns
returns c =
    let l = c.args.self.now in
    let m = c.args.other.now in
    both_weaker c.combine.result (StandsFor (combined_at (pos 1) l (pos 1) m) (AreBelow l m)) (StandsFor (λ r. number_at r l +ℤ number_at r m) (AreBelow l m))
    (λ e s. stands_as (combined_at (pos 1) l (pos 1) m) (λ r. number_at r l +ℤ number_at r m) (AreBelow l m) (AreBelow l m) e (λ r. sum_of_both (number_at r l) (number_at r m)) (λ n b. b) s)
    c.combine.ensures
