use Rattle.std.proofs.Common.{refl, ap, Some}
use Rattle.analysis_values.specs.Known.{View, Known, known}
use Rattle.std.proofs.Common.{Option}
use Rattle.analysis_values.proofs.observed.in_view.Goals as goal

pub returns-in-None : goal.returns-in-None
returns-in-None c = rw c.in-None.is refl

pub returns-in_ok-view-in-Some : goal.returns-in_ok-view-in-Some
returns-in_ok-view-in-Some c = rw c.in-Some.is (ap (λ (v : View). let o : Option Known = Some (known c.in-Some.symbols v) in o) c.in_ok-view-in-Some.ensures)
