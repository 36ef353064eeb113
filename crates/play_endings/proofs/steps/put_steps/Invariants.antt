use Rattle.std.proofs.Common.{◌≡◌, drop, map, string_bytes}
use Rattle.play_endings.specs.StepTexts.{put_ended}
use Rattle.play_endings.proofs.steps.put_steps.Given as goal

abbrev pub invariant-loop-place : goal.invariant-loop-place
invariant-loop-place l =
    put_ended l.spelling l.threads l.intents l.place (drop l.place l.ended) (map (λ s. string_bytes s) l.notes.items)
    ≡ put_ended l.spelling l.threads l.intents 0 l.ended (map (λ s. string_bytes s) l.fn.notes.items)
