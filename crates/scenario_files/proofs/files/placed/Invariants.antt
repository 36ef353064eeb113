use Rattle.std.proofs.Common.{◌≡◌, ◌++◌, drop, map}
use Rattle.file_parts.specs.Files.{text_of}
use Rattle.scenario_files.specs.ScenarioFiles.{beside}
use Rattle.scenario_files.proofs.files.placed.Given as goal

-- those so far and those to come are all
abbrev pub invariant-loop-index : goal.invariant-loop-index
invariant-loop-index l = map text_of l.placed.items ++ beside (drop l.index l.files) (map (λ t. t.items) (drop l.index l.texts)) ≡ beside l.files (map (λ t. t.items) l.texts)
