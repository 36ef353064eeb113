use Rattle.std.proofs.Common.{◌≡◌, drop, map, string_bytes}
use Rattle.marlowe_play.specs.Notes.{put_left}
use Rattle.marlowe_play.proofs.notes.put_left.Given as goal

abbrev pub invariant-loop-out : goal.invariant-loop-out
invariant-loop-out l =
    put_left l.spelling l.scenario l.entries l.intents (drop l.out-index l.left) (map (λ s. string_bytes s) l.notes.items)
    ≡ put_left l.spelling l.scenario l.entries l.intents l.left (map (λ s. string_bytes s) l.fn.notes.items)
