use Rattle.std.proofs.Common.{◌≡◌, drop, map}
use Rattle.std.specs.List.{list_any}
use Rattle.names.specs.Equal.{same_text}
use Rattle.unread_keys.specs.UnreadSupport.{Entry}
use Rattle.unread_keys.proofs.sorts.is_there.Given as goal

-- none of the members so far has the key
abbrev pub invariant-loop-member : goal.invariant-loop-member
invariant-loop-member l =
    list_any (λ key. same_text key l.word) (map (λ (m : Entry). m.0.now) l.members)
    ≡ list_any (λ key. same_text key l.word) (map (λ (m : Entry). m.0.now) (drop l.member-index l.members))
