use Rattle.std.proofs.Common.{◌≡◌, drop}
use Rattle.std.specs.List.{list_any}
use Rattle.contract_notes.specs.Reads.{same_source}
use Rattle.contract_notes.proofs.unbound.is_among.Given as goal

-- none so far is it
abbrev pub invariant-loop-other : goal.invariant-loop-other
invariant-loop-other l = list_any (same_source l.source) (drop l.other-index l.found) ≡ list_any (same_source l.source) l.found
