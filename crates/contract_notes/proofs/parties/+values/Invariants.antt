use Rattle.std.proofs.Common.{◌+◌, ◌*◌}
use Rattle.std.specs.Prelude.{max}
use Rattle.contract.specs.declared.value.Value.{size-Value}
use Rattle.contract.specs.declared.value.Observation.{size-Observation}
use Rattle.contract_notes.proofs.parties.«+values».Given as goal

-- what the parts need is less than what the whole needs
abbrev pub decreases-add_valued : goal.decreases-add_valued
decreases-add_valued l = 2 * size-Value l.value.now

abbrev pub decreases-add_both : goal.decreases-add_both
decreases-add_both l = 2 * max (size-Value l.a.now) (size-Value l.b.now) + 1

abbrev pub decreases-add_observed : goal.decreases-add_observed
decreases-add_observed l = 2 * size-Observation l.observation.now

abbrev pub decreases-add_observations : goal.decreases-add_observations
decreases-add_observations l = 2 * max (size-Observation l.a.now) (size-Observation l.b.now) + 1
