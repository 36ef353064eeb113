use Rattle.std.proofs.Common.{◌≡◌, map, take}
use Rattle.play_setup.specs.SetUp.{key_output}
use Rattle.play_setup.proofs.genesis.key_outputs.Given as goal

abbrev pub invariant-loop-funds : goal.invariant-loop-funds
invariant-loop-funds l = l.outputs ≡ map key_output (take l.funds-index l.genesis)
