use Rattle.std.proofs.Common.{◌++◌, refl, ap, codes, arith}
use Rattle.std.proofs.lemmas.Fmt.{decimal_digit}
use Rattle.places.proofs.laws.worked_places.Goals as goal

-- the digit of the first case
pub returns-clause-paths : goal.returns-clause-paths
returns-clause-paths c =
    let digit = decimal_digit 0 (omega arith) in
    (refl, refl, ap (λ ds. codes ".when[" ++ ((ds ++ codes "]") ++ codes ".then")) digit, ap (λ ds. codes ".when[" ++ ((ds ++ codes "]") ++ codes ".then.assert")) digit)

pub returns-clause-actions : goal.returns-clause-actions
returns-clause-actions c = (ap (λ ds. codes ".when[" ++ ((ds ++ codes "]") ++ codes ".case.notify_if")) (decimal_digit 0 (omega arith)), refl)
