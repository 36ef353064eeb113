-- What is told of a party that keeps up: in lines behind the others for people, or in a last member of the object for tools.
use Rattle.std.specs.Prelude.{ℕ, ℤ, pos, ◌-◌, int_lt, unsigned_abs, if◌then◌else◌, Bool, true, false, List, [], ◌∷◌, ◌++◌, flat_map, length, map, take, Option, Some, None, codes}
use Rattle.std.specs.Fmt.{decimal, signed_decimal}
use Rattle.serde_json.specs.Data.{Data, array, null}
use Rattle.serde_json.specs.View.{items_of}
use Rattle.serde_json.specs.Written.{compact_text}
use Rattle.contract.specs.Names.declared.party.Party.{Party}
use Rattle.json_write_contracts.specs.WrittenNames.{two, three, party_json, token_json}
use Rattle.keeping_up.specs.declared.kept.Kept.{Kept}
use Rattle.analysis_lines.specs.Lines.{holder_text, loss_text, given_text}
use Rattle.analysis_lines.specs.Tools.{bound_json}

-- ---- for people

-- how much more it brings than it is paid, at most: below 0 it is paid so much more
abbrev pub up_text : ℤ → List ℕ
up_text n = codes "at least " ++ (decimal (unsigned_abs n) ++ codes " up")

abbrev pub down_text : Option ℤ → List ℕ
down_text None = loss_text None
down_text (Some n) = if int_lt n (pos 0) then up_text n else loss_text (Some n)

-- what it is paid at least, once the contract is closed
abbrev pub least_text : ℤ → List ℕ
least_text n = codes "at least " ++ signed_decimal n

-- .. both
abbrev pub sure_text : Kept → List ℕ
sure_text k = least_text k.least ++ (codes ", " ++ (down_text k.most ++ codes " while it keeps up"))

abbrev pub kept_line : Bool → Party → Kept → List ℕ
kept_line given p k = holder_text p k.token ++ (sure_text k ++ given_text given)

-- .. where no token is told
abbrev pub nothing_text : Party → List ℕ
nothing_text p = compact_text (party_json p) ++ codes " at least 0, never down of any token while it keeps up"

abbrev pub nothing_line : Bool → Party → List ℕ
nothing_line given p = nothing_text p ++ given_text given

abbrev pub kept_lines : Bool → Party → Option (List Kept) → List ℕ
kept_lines given p None = []
kept_lines given p (Some []) = nothing_line given p
kept_lines given p (Some (k ∷ ks)) = flat_map (kept_line given p) (k ∷ ks)

-- ---- for tools

abbrev pub kept_token_json : Kept → Data
kept_token_json k = three (codes "down") (bound_json k.most) (codes "least") (bound_json (Some k.least)) (codes "token") (token_json k.token)

-- null where it isn't told
abbrev pub tokens_json : Option (List Kept) → Data
tokens_json None = null
tokens_json (Some ks) = array (items_of (map kept_token_json ks))

abbrev pub kept_json : Party → Option (List Kept) → Data
kept_json p kept = two (codes "party") (party_json p) (codes "tokens") (tokens_json kept)

-- an object on a line, with one more member behind its others
abbrev pub with_member : List ℕ → Data → List ℕ
with_member text d = take (length text - 2) text ++ (codes ",\"while_keeping_up\":" ++ (compact_text d ++ codes "}\n"))

-- ---- both

abbrev pub with_kept : Bool → Bool → Party → Option (List Kept) → List ℕ → List ℕ
with_kept true given p kept text = with_member text (kept_json p kept)
with_kept false given p kept text = text ++ kept_lines given p kept
