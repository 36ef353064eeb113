use Rattle.std.proofs.Common.{map}
use Rattle.scenario_files.specs.ScenarioFiles.{beside}
use Rattle.scenario_files.proofs.FileLemmas.{joined_is}
use Rattle.scenario_files.proofs.files.joined.Goals as goal

pub returns-clause-ok : goal.returns-clause-ok
returns-clause-ok c =
    joined_is c.args.depth c.args.scenario.now c.in-Ok.text.now c.as_slice.result.now c.in_ok-texts.texts.items
    (beside c.args.files.now (map (λ t. t.items) c.args.texts.now)) c.in_ok-with_files.field-0.items c.in-Ok.ensures.cases.0
    c.as_slice.ensures.value c.in_ok-texts.ensures.ok c.in_ok-with_files.ensures
