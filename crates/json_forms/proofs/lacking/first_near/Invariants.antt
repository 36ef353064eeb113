use Rattle.std.proofs.Common.{◌≡◌, ◌&&◌, drop, map, find}
use Rattle.json_forms.specs.Lacking.{is_free, is_near}
use Rattle.json_forms.proofs.lacking.first_near.Given as goal

-- none of the keys so far is
abbrev pub invariant-loop-key : goal.invariant-loop-key
invariant-loop-key l =
    find (λ key. is_free l.form key && is_near l.word key) (map (λ key. key.now) l.keys) ≡ find (λ key. is_free l.form key && is_near l.word key) (map (λ key. key.now) (drop l.key-index l.keys))
