use Rattle.std.proofs.Common.{◌≡◌, drop}
use Rattle.std.specs.List.{list_all}
use Rattle.contract_notes.specs.Notes.{holds_only}
use Rattle.contract_notes.proofs.bounds.all_hold_only.Given as goal

-- all so far hold no other
abbrev pub invariant-loop-bound : goal.invariant-loop-bound
invariant-loop-bound l = list_all (holds_only l.number) (drop l.bound-index l.bounds) ≡ list_all (holds_only l.number) l.bounds
