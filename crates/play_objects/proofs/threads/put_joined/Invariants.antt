use Rattle.std.proofs.Common.{◌≡◌, ◌++◌, drop, map, string_bytes}
use Rattle.play_objects.specs.EntryObjects.{joined}
use Rattle.play_objects.proofs.threads.put_joined.Given as goal

abbrev pub invariant-loop-text : goal.invariant-loop-text
invariant-loop-text l = string_bytes l.out ++ joined (drop l.text-index (map (λ s. string_bytes s) l.texts)) ≡ string_bytes l.fn.out ++ joined (map (λ s. string_bytes s) l.texts)
