use Rattle.std.proofs.Common.{◌≡◌, ◌&&◌, drop, map, find}
use Rattle.json_forms.specs.Spelling.{one_apart}
use Rattle.json_forms.specs.Lacking.{is_free}
use Rattle.json_forms.proofs.lacking.first_one_apart.Given as goal

-- none of the keys so far is
abbrev pub invariant-loop-key : goal.invariant-loop-key
invariant-loop-key l =
    find (λ key. is_free l.form key && one_apart l.word key) (map (λ key. key.now) l.keys) ≡ find (λ key. is_free l.form key && one_apart l.word key) (map (λ key. key.now) (drop l.key-index l.keys))
