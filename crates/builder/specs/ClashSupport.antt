-- No reader needs this file: a map from scripts to published objects.
use Rattle.std.specs.Prelude.{◌≡◌, ℕ, if◌then◌else◌, List, Option, Some, option_copied}
use Rattle.std.specs.Borrow.{Bor}
use Rattle.std.specs.HashMap.{HashMap, get}
use Rattle.builder_spec.specs.EutxoTypes.Parts.{same_bytes}
use Rattle.builder_spec.specs.Roles.declared.published.Published.{Published}

-- what a map has under a script
abbrev pub kept : {S : Type 0} → HashMap (List ℕ) (Bor Published) S → List ℕ → Option Published
kept m id = option_copied (get same_bytes m id)

-- under its script an object is put, and all else is as it was
abbrev pub IsPut : (List ℕ → Option Published) → (List ℕ → Option Published) → Published → Type 0
IsPut old new p = (id : List ℕ) → new id ≡ (if same_bytes p.id id then Some p else old id)
