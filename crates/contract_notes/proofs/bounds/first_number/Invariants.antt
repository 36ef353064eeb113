use Rattle.std.proofs.Common.{◌≡◌, drop}
use Rattle.contract_notes.specs.Notes.{first_number}
use Rattle.contract_notes.proofs.bounds.first_number.Given as goal

-- none so far has a number
abbrev pub invariant-loop-bound : goal.invariant-loop-bound
invariant-loop-bound l = first_number (drop l.bound-index l.bounds) ≡ first_number l.bounds
