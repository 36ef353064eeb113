-- No reader needs this file: a set of references that grows.
use Rattle.std.specs.Prelude.{◌≡◌, Bool, true, if◌then◌else◌}
use Rattle.builder_spec.specs.EutxoTypes.declared.output_ref.OutputRef.{OutputRef}
use Rattle.builder_spec.specs.EutxoTypes.Parts.{same_ref}

-- it has what it had, and one more
abbrev pub HasAlso : (OutputRef → Bool) → (OutputRef → Bool) → OutputRef → Type 0
HasAlso old new reference = (r : OutputRef) → new r ≡ (if same_ref reference r then true else old r)
