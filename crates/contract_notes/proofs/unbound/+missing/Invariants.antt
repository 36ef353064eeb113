use Rattle.std.proofs.Common.{◌+◌, ◌*◌}
use Rattle.std.specs.Prelude.{max}
use Rattle.contract.specs.declared.value.Value.{size-Value}
use Rattle.contract.specs.declared.value.Observation.{size-Observation}
use Rattle.contract_notes.proofs.unbound.«+missing».Given as goal

-- what the parts need is less than what the whole needs
abbrev pub decreases-add_missing : goal.decreases-add_missing
decreases-add_missing l = 2 * size-Value l.value.now

abbrev pub decreases-add_both : goal.decreases-add_both
decreases-add_both l = 2 * max (size-Value l.a.now) (size-Value l.b.now) + 1

abbrev pub decreases-add_missing_in : goal.decreases-add_missing_in
decreases-add_missing_in l = 2 * size-Observation l.observation.now
