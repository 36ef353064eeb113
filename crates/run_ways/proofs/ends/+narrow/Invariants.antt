use Rattle.contract.specs.declared.value.Observation.{size-Observation}
use Rattle.run_ways.proofs.ends.«+narrow».Given as goal

-- what the parts need is less than what the whole needs
abbrev pub decreases-narrow : goal.decreases-narrow
decreases-narrow l = size-Observation l.observation.now
