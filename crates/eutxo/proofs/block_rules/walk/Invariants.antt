use Rattle.std.proofs.Common.{◌≡◌, ℕ, ◌++◌}
use Rattle.eutxo.specs.Blocks.{blocks, lowest, faults_in, places_in}
use Rattle.eutxo.specs.BlocksSupport.{lower_of, blocks_left}
use Rattle.eutxo.specs.Found.{script_at}
use Rattle.eutxo.specs.Rules.{steps_of}
use Rattle.eutxo.proofs.block_rules.walk.Given as goal

-- what was walked over, and then what is left, is all
abbrev pub invariant-loop-x : goal.invariant-loop-x
invariant-loop-x g l =
    let j = g.V.Validator.judges in
    let named = script_at l.scripts in
    let all = blocks j named l.tx l.spent (steps_of l.spent l.tx.datums) 0 in
    let left = blocks_left j named l.tx l.spent l.walked l.x-index in
    record {
      lowest : lower_of l.walked.lowest (lowest (faults_in left)) ≡ lowest (faults_in all);
      places : l.walked.places ++ places_in left ≡ places_in all;
    }
