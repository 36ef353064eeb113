use Rattle.std.proofs.Common.{◌≡◌, true, take, map}
use Rattle.std.specs.List.{list_all}
use Rattle.json_write_contracts.specs.Tokens.{Adds}
use Rattle.json_write_contracts.specs.WrittenContract.{bound_json, bound_fits}
use Rattle.json_write_contracts.proofs.ListedLaws.{front}
use Rattle.json_write_contracts.proofs.actions.put_bounds.Given as goal

-- the bounds so far fit, and are written
abbrev pub invariant-loop-bound : goal.invariant-loop-bound
invariant-loop-bound l = (list_all bound_fits (take l.bound-index l.bound-items) ≡ true) × Adds l.initial.out l.out (front (map bound_json (take l.bound-index l.bound-items)))
