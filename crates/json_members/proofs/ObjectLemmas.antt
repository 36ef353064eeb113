-- Members in braces.
use Rattle.std.proofs.Common.{◌≡◌, ℕ, List, [], ◌∷◌, ◌++◌, true, refl, sym, ap, ◌∙◌, append_assoc}
use Rattle.std.specs.Prelude.{codes}
use Rattle.serde_json.specs.Data.{Data, object}
use Rattle.serde_json.specs.Written.{compact_text}
use Rattle.serde_json.specs.Written as json
use Rattle.json.specs.Print.{quoted}
use Rattle.json_members.specs.Members.{Member, member_text, next_members, members_text, members_from, HavePlainKeys, MembersAreAnObject}

-- one member before others
one_before : (key value rest : List ℕ) → quoted key ≡ codes "\"" ++ (key ++ codes "\"") → member_text key value ++ rest ≡ quoted key ++ 58 ∷ (value ++ rest)
one_before key value rest plain =
    ap (λ (z : List ℕ). 34 ∷ z) (append_assoc key (34 ∷ 58 ∷ value) rest ∙ sym (append_assoc key (34 ∷ []) (58 ∷ (value ++ rest)))) ∙ ap (λ (z : List ℕ). z ++ 58 ∷ (value ++ rest)) (sym plain)

rest_of : (ms : List Member) → HavePlainKeys ms → next_members ms ++ 125 ∷ [] ≡ json.members_text true (members_from ms)
rest_of [] plain = refl
rest_of (m ∷ ms) plain =
    let value = compact_text m.1 in
    let rest = next_members ms ++ 125 ∷ [] in
    ap (λ (z : List ℕ). 44 ∷ z) (append_assoc (member_text m.0 value) (next_members ms) (125 ∷ []) ∙ one_before m.0 value rest plain.0)
    ∙ ap (λ (z : List ℕ). 44 ∷ (quoted m.0 ++ 58 ∷ (value ++ z))) (rest_of ms plain.1)

pub members_are_an_object : MembersAreAnObject
members_are_an_object [] plain = refl
members_are_an_object (m ∷ ms) plain =
    let value = compact_text m.1 in
    let rest = next_members ms ++ 125 ∷ [] in
    ap (λ (z : List ℕ). 123 ∷ z) (append_assoc (member_text m.0 value) (next_members ms) (125 ∷ []) ∙ one_before m.0 value rest plain.0)
    ∙ ap (λ (z : List ℕ). 123 ∷ (quoted m.0 ++ 58 ∷ (value ++ z))) (rest_of ms plain.1)
