use Rattle.std.proofs.lemmas.Result.{on_ok_weaker}
use Rattle.symbols.proofs.branches.keep_side.Goals as goal

pub returns-in-Some : goal.returns-in-Some
returns-in-Some c =
    let e = rw c.in-Some.is at c.in_ok-found.ensures in
    on_ok_weaker c.keep_number.result (λ h. h c.args.away.now e) c.keep_number.ensures
