-- How holdings are printed: a line for each, which ends in a line feed.
use Rattle.std.specs.Prelude.{ℕ, List, [], ◌∷◌, ◌++◌, slice_get, Option, Some, None, codes}
use Rattle.std.specs.Fmt.{signed_decimal}
use Rattle.hex.specs.Hex.{encode_lower}
use Rattle.serde_json.specs.Data.{string}
use Rattle.serde_json.specs.Written.{compact_text}
use Rattle.plans.specs.declared.scenario.NamedThread.{NamedThread}
use Rattle.places.specs.Texts.{token_text}
use Rattle.play_holdings.specs.declared.holder.Holder.{Holder}
use Rattle.play_holdings.specs.declared.holder.Holder.TheVariants.{Address, Payout, Thread, Elsewhere}
use Rattle.play_holdings.specs.declared.holding.Holding.{Holding}

-- the name of the thread at a place, which every holding that is printed has
abbrev pub name_of : Option NamedThread → List ℕ
name_of None = []
name_of (Some t) = t.name

-- a name or an address as a JSON text
abbrev pub quoted : List ℕ → List ℕ
quoted name = compact_text (string name)

abbrev pub holder_text : List NamedThread → Holder → List ℕ
holder_text threads (Address address) = codes "holds " ++ quoted address
holder_text threads (Payout currency role) = codes "unclaimed " ++ (quoted (encode_lower currency) ++ (codes " " ++ quoted role))
holder_text threads (Thread place) = codes "in thread " ++ quoted (name_of (slice_get threads place))
holder_text threads Elsewhere = codes "in no thread"

abbrev pub holding_line : List NamedThread → Holding → List ℕ
holding_line threads h = holder_text threads h.holder ++ (codes " " ++ (token_text h.token ++ (codes " " ++ (signed_decimal h.amount ++ 10 ∷ []))))

abbrev pub holding_lines : List NamedThread → List Holding → List ℕ
holding_lines threads [] = []
holding_lines threads (h ∷ hs) = holding_line threads h ++ holding_lines threads hs
