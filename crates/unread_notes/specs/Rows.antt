-- Worked rows, computed on the definitions.
use Rattle.std.specs.Prelude.{◌≡◌, ℕ, List, [], ◌∷◌, codes}
use Rattle.text_spots.specs.declared.spots.Spot.{Spot}
use Rattle.json_forms.specs.declared.key.Key.TheVariants as keys
use Rattle.unread_keys.specs.declared.unread.Step.TheVariants.{Key, Item}
use Rattle.unread_keys.specs.declared.unread.Why.TheVariants.{NoKey, Again}
use Rattle.unread_keys.specs.Unread.{Note}
use Rattle.unread_notes.specs.Lines.{line_of, more_line}

abbrev pub spot : ℕ → ℕ → Spot
spot line column = record { line = line; column = column }

abbrev pub LinesAreTold : Type 0
LinesAreTold =
    (line_of (codes "contract.json") (spot 3 5) (record { path = Key keys.When ∷ Item 0 ∷ []; index = 0; key = codes "note"; why = NoKey })
    ≡ codes "note: contract.json:3:5 at .when[0]: the key \"note\" is not read\n")
    × (line_of (codes "s.json") (spot 1 2) (record { path = []; index = 0; key = codes "a\"\n"; why = Again })
    ≡ codes "note: s.json:1:2: the key \"a\\\"\\n\" stands again; the last is read\n")

abbrev pub AHundredAreTold : Type 0
AHundredAreTold = (more_line (codes "c.json") 100 ≡ []) × (more_line (codes "c.json") 101 ≡ codes "note: c.json: .. and more\n")
