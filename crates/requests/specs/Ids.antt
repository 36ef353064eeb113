-- The id under which a line is answered.
use Rattle.std.specs.Prelude.{◌≡◌, ◌≤◌, ℕ, List, false, Option, Some, None, codes}
use Rattle.std.specs.Option.{unwrap_or}
use Rattle.serde_json.specs.Data.{Data, null, depth}
use Rattle.serde_json.specs.Find.{get}
use Rattle.serde_json.specs.Read.{read, max_depth}
use Rattle.serde_json.specs.Written.{compact_text, has_float}

-- what stands at `id`, and null where there is nothing, or no value
abbrev pub id_of : Option Data → Data
id_of None = null
id_of (Some d) = unwrap_or (get (codes "id") d) null

-- a text has this value: it is the compact one, where no number has a fraction or an exponent
pub record SpellsId (d : Data) (text : List ℕ) : Type 0 where
  pub compact : has_float d ≡ false → text ≡ compact_text d
  pub reads : depth d ≤ max_depth → read text ≡ Some d
