-- The objects of holdings.
use Rattle.std.specs.Prelude.{ℕ, List, [], ◌∷◌, ◌++◌, slice_get, codes}
use Rattle.hex.specs.Hex.{encode_lower}
use Rattle.serde_json.specs.Written.{compact_text}
use Rattle.json_write_contracts.specs.WrittenNames.{token_json, wide_json}
use Rattle.plans.specs.declared.scenario.NamedThread.{NamedThread}
use Rattle.play_holdings.specs.declared.holder.Holder.{Holder}
use Rattle.play_holdings.specs.declared.holder.Holder.TheVariants.{Address, Payout, Thread, Elsewhere}
use Rattle.play_holdings.specs.declared.holding.Holding.{Holding}
use Rattle.play_notes.specs.Intents.{quoted, thread_named}

abbrev pub holder_members : List NamedThread → Holder → List ℕ
holder_members ts (Address address) = codes "\"holds\":" ++ quoted address
holder_members ts (Payout currency role) = codes "\"unclaimed\":" ++ (quoted (encode_lower currency) ++ (codes ",\"role\":" ++ quoted role))
holder_members ts (Thread place) = codes "\"in_thread\":" ++ thread_named (slice_get ts place)
holder_members ts Elsewhere = codes "\"in_thread\":null"

abbrev pub holding_object : List NamedThread → Holding → List ℕ
holding_object ts h =
    codes "{" ++ (holder_members ts h.holder ++ (codes ",\"token\":" ++ (compact_text (token_json h.token)
    ++ (codes ",\"amount\":" ++ (compact_text (wide_json h.amount) ++ codes "}\n")))))

abbrev pub holding_objects : List NamedThread → List Holding → List ℕ
holding_objects ts [] = []
holding_objects ts (h ∷ hs) = holding_object ts h ++ holding_objects ts hs
