use Rattle.contract.specs.declared.tree.Contract.{size-Contract}
use Rattle.counter_runs.proofs.closing.«+last_timeout».Given as goal

-- what follows a part is smaller than the part
abbrev pub decreases-last_timeout : goal.decreases-last_timeout
decreases-last_timeout l = size-Contract l.contract.now
