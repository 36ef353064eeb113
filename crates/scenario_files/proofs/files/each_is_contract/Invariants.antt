use Rattle.std.proofs.Common.{◌≡◌, drop, map}
use Rattle.scenario_files.specs.ScenarioFiles.{first_fault}
use Rattle.scenario_files.proofs.files.each_is_contract.Given as goal

-- none of the files so far has a fault
abbrev pub invariant-loop-index : goal.invariant-loop-index
invariant-loop-index l = first_fault l.depth l.files (map (λ t. t.items) l.texts) ≡ first_fault l.depth (drop l.index l.files) (map (λ t. t.items) (drop l.index l.texts))
