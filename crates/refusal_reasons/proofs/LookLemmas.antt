-- What a look at a text finds, by its JSON value or its fault.
use Rattle.std.proofs.Common.{◌≡◌, ℕ, List, Result, Ok, Err, IfOk, refl, ap, subst, ◌∙◌}
use Rattle.serde_json.specs.Data.{Data}
use Rattle.contract.specs.Collections.Answers.{◌>>=◌}
use Rattle.explanations.specs.JsonReadNames.Parts.{Reading}
use Rattle.explanations.specs.JsonReadNames.ReadsText.{json_of, json_within, of_text, of_text_within}
use Rattle.explanations.specs.JsonReadNames.declared.fault.JsonFault.{JsonFault}
use Rattle.refusal_reasons.specs.declared.looks.Look.{Look}
use Rattle.refusal_reasons.specs.LooksSupport.{IsLook}

module _ {X : Type 0} (n : ℕ) (reading : Data → Reading X) (text : List ℕ) where
  -- its value is read, or isn't
  pub by_value : (d : Data) (r : Reading X) → json_within n text ≡ Ok d → reading d ≡ r → of_text_within n reading text ≡ r
  by_value d r json reads = ap (λ (found : Reading Data). found >>= reading) json ∙ reads

  -- it has none
  pub by_fault : (fault : JsonFault) → json_within n text ≡ Err fault → of_text_within n reading text ≡ Err fault
  by_fault fault json = ap (λ (found : Reading Data). found >>= reading) json

-- a text that is no deeper than 127 levels
of_127 : {X : Type 0} (reading : Data → Reading X) (text : List ℕ) → of_text_within 127 reading text ≡ of_text reading text
unfolding json_of json_within
of_127 reading text = refl

pub flat_looks : {X E : Type 0} (reading : Data → Reading X) (text : List ℕ) (Tells : List ℕ → Type 0) (made : Result (Look X) E)
    → IfOk made (IsLook (of_text_within 127 reading text) Tells) → IfOk made (IsLook (of_text reading text) Tells)
flat_looks reading text Tells made is = subst (λ r. IfOk made (IsLook r Tells)) (of_127 reading text) is
