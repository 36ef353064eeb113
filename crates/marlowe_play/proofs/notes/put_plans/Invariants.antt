use Rattle.std.proofs.Common.{◌≡◌, ◌++◌, drop, map, string_bytes}
use Rattle.marlowe_play.specs.Notes.{put_plans, marlowe_play}
use Rattle.marlowe_play.proofs.notes.put_plans.Given as goal

abbrev pub invariant-loop-place : goal.invariant-loop-place
invariant-loop-place l =
    let rest = drop l.place (map (λ v. v.items) l.left) in
    let all = map (λ v. v.items) l.left in
    (put_plans l.spelling l.scenario l.entries l.taken l.place rest (map (λ s. string_bytes s) l.told.notes.items)
    ≡ put_plans l.spelling l.scenario l.entries l.taken 0 all (map (λ s. string_bytes s) l.fn.told.notes.items))
    × (string_bytes l.told.lines ++ marlowe_play l.spelling l.scenario l.entries l.taken l.place rest
    ≡ string_bytes l.fn.told.lines ++ marlowe_play l.spelling l.scenario l.entries l.taken 0 all)
