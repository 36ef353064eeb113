-- The members that are told are one JSON object.
use Rattle.std.proofs.Common.{◌≡◌, ℕ, List, [], ◌∷◌, ◌++◌, Option, Some, None, refl, sym, ap, ◌∙◌, append_assoc, append-nil}
use Rattle.std.specs.Prelude.{codes}
use Rattle.json.specs.Token.{Token}
use Rattle.json.specs.Print.{quoted}
use Rattle.json.proofs.OnLiterals.{json_on_literals}
use Rattle.serde_json.specs.Data.{object, string}
use Rattle.serde_json.specs.Written.{compact_text}
use Rattle.text_spots.specs.declared.spots.Spot.{Spot}
use Rattle.json_members.specs.Members.{Member, first_member, next_member, next_members, members_text, members_from, next_text, HavePlainKeys, count_json}
use Rattle.json_members.proofs.ObjectLemmas.{members_are_an_object}
use Rattle.told_parts.specs.Told.{Told}
use Rattle.told_parts.specs.Lines.{token_text, hint_text, near_key, sought}
use Rattle.told_parts.specs.Members.{path_json, spot_members, wanted_text, keys_member, what_members, near_member, hint_members, spot_object, first_spot_member, names_told, names_member, other_members, members_of, keys_before, near_before, spot_json, first_before, names_last, behind_stands, record_of, ToldIsAnObject}

-- no letter of these keys is escaped
abbrev IsPlain : List ℕ → Type 0
IsPlain key = quoted key ≡ codes "\"" ++ (key ++ codes "\"")

plain_file : IsPlain (codes "file")
unfolding json_on_literals
plain_file = refl

plain_line : IsPlain (codes "line")
unfolding json_on_literals
plain_line = refl

plain_column : IsPlain (codes "column")
unfolding json_on_literals
plain_column = refl

plain_place : IsPlain (codes "place")
unfolding json_on_literals
plain_place = refl

plain_wanted : IsPlain (codes "wanted")
unfolding json_on_literals
plain_wanted = refl

plain_stands : IsPlain (codes "stands")
unfolding json_on_literals
plain_stands = refl

plain_keys : IsPlain (codes "keys")
unfolding json_on_literals
plain_keys = refl

plain_hint : IsPlain (codes "hint")
unfolding json_on_literals
plain_hint = refl

plain_nearest : IsPlain (codes "nearest")
unfolding json_on_literals
plain_nearest = refl

plain_first : IsPlain (codes "first")
unfolding json_on_literals
plain_first = refl

plain_names : IsPlain (codes "names")
unfolding json_on_literals
plain_names = refl

-- ---- what is there, before the rest

keys_put : (token : Token) (keys : List (List ℕ)) (rest : List Member) → next_members (keys_before token keys rest) ≡ keys_member token keys ++ next_members rest
keys_put Token.begin_object keys rest = refl
keys_put Token.end_object keys rest = refl
keys_put Token.begin_array keys rest = refl
keys_put Token.end_array keys rest = refl
keys_put (Token.key s) keys rest = refl
keys_put (Token.string s) keys rest = refl
keys_put (Token.number s) keys rest = refl
keys_put (Token.boolean b) keys rest = refl
keys_put Token.null keys rest = refl
keys_put Token.bad keys rest = refl

keys_plain : (token : Token) (keys : List (List ℕ)) (rest : List Member) → HavePlainKeys rest → HavePlainKeys (keys_before token keys rest)
keys_plain Token.begin_object keys rest plain = (plain_keys, plain)
keys_plain Token.end_object keys rest plain = plain
keys_plain Token.begin_array keys rest plain = plain
keys_plain Token.end_array keys rest plain = plain
keys_plain (Token.key s) keys rest plain = plain
keys_plain (Token.string s) keys rest plain = plain
keys_plain (Token.number s) keys rest plain = plain
keys_plain (Token.boolean b) keys rest plain = plain
keys_plain Token.null keys rest plain = plain
keys_plain Token.bad keys rest plain = plain

near_put : (key : Option (List ℕ)) (rest : List Member) → next_members (near_before key rest) ≡ near_member key ++ next_members rest
near_put None rest = refl
near_put (Some key) rest = refl

near_plain : (key : Option (List ℕ)) (rest : List Member) → HavePlainKeys rest → HavePlainKeys (near_before key rest)
near_plain None rest plain = plain
near_plain (Some key) rest plain = (plain_nearest, plain)

-- the object of a spot
spot_is : (spot : Spot) → spot_object spot ≡ compact_text (spot_json spot)
spot_is spot =
    let line = first_member (codes "line") (count_json spot.line) in
    let column = next_member (codes "column") (count_json spot.column) in
    ap (λ (z : List ℕ). codes "{" ++ z) (ap (λ (z : List ℕ). line ++ (z ++ codes "}")) (sym (append-nil column)) ∙ sym (append_assoc line (column ++ []) (codes "}")))
    ∙ members_are_an_object ((codes "line", count_json spot.line) ∷ (codes "column", count_json spot.column) ∷ []) (plain_line, (plain_column, tt))

first_put : (first : Option Spot) (rest : List Member) → next_members (first_before first rest) ≡ first_spot_member first ++ next_members rest
first_put None rest = refl
first_put (Some spot) rest = ap (λ (z : List ℕ). next_text (codes "first") z ++ next_members rest) (sym (spot_is spot))

first_plain : (first : Option Spot) (rest : List Member) → HavePlainKeys rest → HavePlainKeys (first_before first rest)
first_plain None rest plain = plain
first_plain (Some spot) rest plain = (plain_first, plain)

names_put : (names : Option (List (List ℕ))) → next_members (names_last names) ≡ names_member names
names_put None = refl
names_put (Some names) = append-nil (names_member (Some names))

names_plain : (names : Option (List (List ℕ))) → HavePlainKeys (names_last names)
names_plain None = tt
names_plain (Some names) = (plain_names, tt)

-- ---- all members

abbrev behind_near : Told → List Member
behind_near t = first_before t.first (names_last (names_told t.sort t.names))

behind_near_put : (t : Told) → next_members (behind_near t) ≡ other_members t
behind_near_put t = first_put t.first (names_last (names_told t.sort t.names)) ∙ ap (λ (z : List ℕ). first_spot_member t.first ++ z) (names_put (names_told t.sort t.names))

abbrev behind_keys : Told → List Member
behind_keys t = (codes "hint", string (hint_text t.fault t)) ∷ near_before (near_key t.sort (sought t.keys)) (behind_near t)

behind_keys_put : (t : Told) → next_members (behind_keys t) ≡ hint_members t ++ other_members t
behind_keys_put t =
    let hint = next_member (codes "hint") (string (hint_text t.fault t)) in
    let near = near_key t.sort (sought t.keys) in
    ap (λ (z : List ℕ). hint ++ z) (near_put near (behind_near t) ∙ ap (λ (z : List ℕ). near_member near ++ z) (behind_near_put t))
    ∙ sym (append_assoc hint (near_member near) (other_members t))

behind_put : (t : Told) → next_members (behind_stands t) ≡ keys_member t.token t.keys ++ (hint_members t ++ other_members t)
behind_put t = keys_put t.token t.keys (behind_keys t) ∙ ap (λ (z : List ℕ). keys_member t.token t.keys ++ z) (behind_keys_put t)

behind_plain : (t : Told) → HavePlainKeys (behind_stands t)
behind_plain t =
    keys_plain t.token t.keys (behind_keys t)
    (plain_hint, near_plain (near_key t.sort (sought t.keys)) (behind_near t) (first_plain t.first (names_last (names_told t.sort t.names)) (names_plain (names_told t.sort t.names))))

record_put : (file : List ℕ) (t : Told) → members_of file t ≡ members_text (record_of file t)
record_put file t =
    let name = first_member (codes "file") (string file) in
    let line = next_member (codes "line") (count_json t.spot.line) in
    let column = next_member (codes "column") (count_json t.spot.column) in
    let place = next_member (codes "place") (path_json t.path) in
    let wanted = next_member (codes "wanted") (string (wanted_text t.sort)) in
    let stands = next_member (codes "stands") (string (token_text t.token)) in
    let keys = keys_member t.token t.keys in
    let last = hint_members t ++ other_members t in
    append_assoc (name ++ (line ++ column)) place (what_members t ++ last) ∙ append_assoc name (line ++ column) (place ++ (what_members t ++ last))
    ∙ ap (λ (z : List ℕ). name ++ z) (append_assoc line column (place ++ (what_members t ++ last)))
    ∙ ap (λ (z : List ℕ). name ++ (line ++ (column ++ (place ++ z)))) (append_assoc wanted (stands ++ keys) last ∙ ap (λ (z : List ℕ). wanted ++ z) (append_assoc stands keys last))
    ∙ ap (λ (z : List ℕ). name ++ (line ++ (column ++ (place ++ (wanted ++ (stands ++ z)))))) (sym (behind_put t))

pub told_is_an_object : ToldIsAnObject
told_is_an_object file t =
    ap (λ (z : List ℕ). codes "{" ++ (z ++ codes "}")) (record_put file t)
    ∙ members_are_an_object (record_of file t) (plain_file, (plain_line, (plain_column, (plain_place, (plain_wanted, (plain_stands, behind_plain t))))))
