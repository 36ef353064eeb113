use Rattle.std.proofs.Common.{◌≡◌, drop}
use Rattle.part_tokens.specs.PartTokens.{tokens_from}
use Rattle.part_tokens.proofs.find.go_down.Given as goal

-- the rest of the path leads on from here
abbrev pub invariant-loop-index : goal.invariant-loop-index
invariant-loop-index l = tokens_from l.depth l.path l.initial.reader ≡ tokens_from l.depth (drop l.index-index l.path) l.reader
