-- No reader needs this file: it serves the proofs of this crate.
-- What a look at a text finds.
use Rattle.std.specs.Prelude.{◌≡◌, ℕ, List, Result, Ok, Err, IfOk}
use Rattle.explanations.specs.JsonReadNames.Parts.{Reading}
use Rattle.refusal_reasons.specs.declared.looks.Look.{Look}
use Rattle.refusal_reasons.specs.declared.looks.Look.TheVariants.{Read, Told}

-- it is read, or it isn't, and what is written tells why
abbrev pub IsLook : {X : Type 0} → Reading X → (List ℕ → Type 0) → Look X → Type 0
IsLook reading Tells (Read x) = reading ≡ Ok x
IsLook reading Tells (Told fault made) = (reading ≡ Err fault) × IfOk made (λ written. Tells written.items)
