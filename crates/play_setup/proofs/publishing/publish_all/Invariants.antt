use Rattle.std.proofs.Common.{◌≡◌, map, take}
use Rattle.play_setup.specs.SetUp.{object_of, publishes}
use Rattle.play_setup.specs.SetUpSupport.{WentOn}
use Rattle.play_setup.proofs.publishing.publish_all.Given as goal

abbrev pub invariant-loop-contract : goal.invariant-loop-contract
invariant-loop-contract g l = (l.published.items ≡ map object_of (take l.contract-index l.contracts)) × WentOn l.initial.seat l.seat (map publishes (take l.contract-index l.contracts))
