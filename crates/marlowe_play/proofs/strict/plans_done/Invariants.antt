use Rattle.std.proofs.Common.{◌≡◌, drop, map}
use Rattle.marlowe_play.specs.Strict.{plans_done}
use Rattle.marlowe_play.proofs.strict.plans_done.Given as goal

abbrev pub invariant-loop-place : goal.invariant-loop-place
invariant-loop-place l =
    plans_done l.scenario l.entries l.taken l.place (drop l.place (map (λ v. v.items) l.left)) ≡ plans_done l.scenario l.entries l.taken 0 (map (λ v. v.items) l.left)
