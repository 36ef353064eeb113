-- What a command answers, or how its refusal is explained, once a text is read or isn't.
use Rattle.std.proofs.Common.{◌≡◌, ◌⊎◌, ℕ, List, [], Result, Ok, Err, IfOk, inl, inr, refl, subst, sym}
use Rattle.std.specs.Prelude.{MatchResult}
use Rattle.std.specs.declared.vec.Vec.{Vec}
use Rattle.std.specs.declared.alloc.Global.{Global}
use Rattle.contract.specs.Collections.Answers.{◌>>=◌}
use Rattle.explanations.specs.JsonReadNames.declared.fault.JsonFault.{JsonFault}
use Rattle.explanations.specs.JsonReadNames.Parts.{Reading}
use Rattle.marlowe_explain.specs.MarloweRefusals.Faults.{read_as}
use Rattle.std.specs.declared.alloc.AllocError.{AllocError}
use Rattle.refusal_reasons.specs.declared.looks.Look.{Look}
use Rattle.refusal_reasons.specs.declared.looks.Look.TheVariants.{Read, Told}
use Rattle.refusal_reasons.specs.LooksSupport.{IsLook}
use Rattle.refusal_reasons.specs.Reasons.{ReadFirst}
use Rattle.refusal_reasons.specs.Reasoned.{IsReasoned}
use Rattle.refusal_reasons.specs.declared.reasoned.Reasoned.{Reasoned}
use Rattle.refusal_reasons.specs.declared.reasoned.Reasoned.TheVariants.{Refused}

-- what was written, or nothing
pub if_told : {E : Type 0} (Holds : List ℕ → Type 0) (written : Result (Vec ℕ Global) E) (told : Vec ℕ Global) → IfOk written (λ text. Holds text.items)
    → MatchResult written (λ text. told.items ≡ text.items) (λ _. told.items ≡ []) → (told.items ≡ []) ⊎ Holds told.items
if_told Holds (Ok text) told holds is = inr (subst Holds (sym is) holds)
if_told Holds (Err fault) told holds is = inl is

-- what a look found
module _ {X : Type 0} (r : Reading X) (Here : List ℕ → Type 0) (look : Look X) where
  pub look_read : (x : X) → look ≡ Read x → IsLook r Here look → r ≡ Ok x
  look_read x is it = subst (IsLook r Here) is it

  pub look_told : (fault : JsonFault) (written : Result (Vec ℕ Global) AllocError) → look ≡ Told fault written → IsLook r Here look
      → (r ≡ Err fault) × IfOk written (λ text. Here text.items)
  look_told fault written is it = subst (IsLook r Here) is it

module _ {X F : Type 0} (r : Reading X) (seen_as : JsonFault → F) (answer : X → Result (List ℕ) F) (Here : List ℕ → Type 0) (Behind : X → List ℕ → Type 0) where
  -- what is behind one that is read
  behind : (x : X) (made : Reasoned F) → r ≡ Ok x → IsReasoned (answer x) (λ written. Behind x written) made
      → IsReasoned (read_as seen_as r >>= answer) (λ written. ReadFirst r Here Behind written) made
  behind x made is told = subst (λ got. IsReasoned (read_as seen_as got >>= answer) (λ written. ReadFirst got Here Behind written) made) (sym is) told

  -- .. once what was read is dropped
  pub reasoned_by : {E : Type 0} (x : X) (made result : Result (Reasoned F) E) → r ≡ Ok x → IfOk made (λ m. IsReasoned (answer x) (λ written. Behind x written) m)
      → result ≡ made → IfOk result (λ m. IsReasoned (read_as seen_as r >>= answer) (λ written. ReadFirst r Here Behind written) m)
  reasoned_by {E} x made result is told same =
      subst (λ g. IfOk g (λ m. IsReasoned (read_as seen_as r >>= answer) (λ written. ReadFirst r Here Behind written) m)) (sym same) (by made told)
    where
      by : (g : Result (Reasoned F) E) → IfOk g (λ m. IsReasoned (answer x) (λ written. Behind x written) m)
          → IfOk g (λ m. IsReasoned (read_as seen_as r >>= answer) (λ written. ReadFirst r Here Behind written) m)
      by (Ok m) h = behind x m is h
      by (Err refused) h = tt {0}

  -- or the one that isn't
  pub reasoned_here : {E : Type 0} (fault : JsonFault) (f : F) (written : Result (Vec ℕ Global) E) (told : Vec ℕ Global) → f ≡ seen_as fault → r ≡ Err fault
      → IfOk written (λ text. Here text.items) → MatchResult written (λ text. told.items ≡ text.items) (λ _. told.items ≡ [])
      → IsReasoned (read_as seen_as r >>= answer) (λ text. ReadFirst r Here Behind text) (Refused f told)
  reasoned_here fault f written told named is tells made =
      subst (λ g. IsReasoned (read_as seen_as r >>= answer) (λ text. ReadFirst r Here Behind text) (Refused g told)) (sym named)
      (subst (λ got. IsReasoned (read_as seen_as got >>= answer) (λ text. ReadFirst got Here Behind text) (Refused (seen_as fault) told)) (sym is) (refl, if_told Here written told tells made))
