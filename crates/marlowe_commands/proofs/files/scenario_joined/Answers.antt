use Rattle.std.proofs.Common.{ℕ, map, Vec, Global}
use Rattle.marlowe_commands.proofs.FileLemmas.{joined_refused}
use Rattle.marlowe_commands.proofs.files.scenario_joined.Goals as goal

pub returns-in_ok-fault_shown-in-Err : goal.returns-in_ok-fault_shown-in-Err
returns-in_ok-fault_shown-in-Err c =
    joined_refused c.args.face c.args.depth c.args.scenario c.args.files.now (map (λ (t : Vec ℕ Global). t.items) c.args.texts.now)
    c.in-Err.fault c.told_if-told.result.items c.in_ok-fault_shown-in-Err.field-0 c.in-Err.ensures.err c.told_if-told.ensures
    c.in_ok-fault_shown-in-Err.ensures
