-- The tokens of a JSON text from a part of it on. A path has for each list the index of an item, and for each object the index of a
-- member, from 0.
use Rattle.std.specs.Prelude.{ℕ, zero, suc, List, [], ◌∷◌, Option, Some, None, option_and_then}
use Rattle.json.specs.Token.{Token}
use Rattle.json.specs.Json.{skip_value, read_key}

-- behind so many items of a list
abbrev pub behind_items : ℕ → ℕ → List Token → Option (List Token)
behind_items depth zero ts = Some ts
behind_items depth (suc n) ts = option_and_then (behind_items depth n) (skip_value depth ts)

-- behind a key, if one comes next
abbrev pub if_key : Option (List ℕ) × List Token → Option (List Token)
if_key (Some key, ts) = Some ts
if_key (None, ts) = None

abbrev pub behind_key : List Token → Option (List Token)
behind_key ts = option_and_then if_key (read_key ts)

-- behind a key and its value
abbrev pub behind_member : ℕ → List Token → Option (List Token)
behind_member depth ts = option_and_then (skip_value depth) (behind_key ts)

-- behind so many members of an object, and the key of the next
abbrev pub behind_members : ℕ → ℕ → List Token → Option (List Token)
behind_members depth zero ts = behind_key ts
behind_members depth (suc n) ts = option_and_then (behind_members depth n) (behind_member depth ts)

-- from the value at an index of a list or an object on; what is passed over nests no deeper than the number
abbrev pub tokens_inside : ℕ → ℕ → List Token → Option (List Token)
tokens_inside depth n [] = None
tokens_inside depth n (Token.begin_object ∷ ts) = behind_members depth n ts
tokens_inside depth n (Token.end_object ∷ ts) = None
tokens_inside depth n (Token.begin_array ∷ ts) = behind_items depth n ts
tokens_inside depth n (Token.end_array ∷ ts) = None
tokens_inside depth n (Token.key s ∷ ts) = None
tokens_inside depth n (Token.string s ∷ ts) = None
tokens_inside depth n (Token.number s ∷ ts) = None
tokens_inside depth n (Token.boolean b ∷ ts) = None
tokens_inside depth n (Token.null ∷ ts) = None
tokens_inside depth n (Token.bad ∷ ts) = None

-- from the part at a path on
abbrev pub tokens_from : ℕ → List ℕ → List Token → Option (List Token)
tokens_from depth [] ts = Some ts
tokens_from depth (n ∷ path) ts = option_and_then (tokens_from depth path) (tokens_inside depth n ts)

abbrev pub first_token : List Token → Option Token
first_token [] = None
first_token (t ∷ ts) = Some t

-- the token with which the part begins
abbrev pub token_at : ℕ → List ℕ → List Token → Option Token
token_at depth path ts = option_and_then first_token (tokens_from depth path ts)
