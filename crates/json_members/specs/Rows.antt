-- Worked rows, computed on the definitions.
use Rattle.std.specs.Prelude.{◌≡◌, [], ◌∷◌, ◌++◌, Some, None, codes}
use Rattle.serde_json.specs.Data.{string}
use Rattle.json_members.specs.Members.{first_member, next_member, member_if, count_json, words_json}

-- three members one behind another, and one that isn't there
abbrev pub MembersAreWritten : Type 0
MembersAreWritten =
    first_member (codes "file") (string (codes "a \"b\".json")) ++ (next_member (codes "line") (count_json 12)
    ++ (member_if (codes "hint") None ++ member_if (codes "keys") (Some (words_json (codes "pay" ∷ codes "to" ∷ [])))))
    ≡ codes "\"file\":\"a \\\"b\\\".json\",\"line\":12,\"keys\":[\"pay\",\"to\"]"
