-- What is explained once a text is read, or isn't.
use Rattle.std.proofs.Common.{◌≡◌, ℕ, List, [], Option, Some, None, Result, Ok, Err, IfOk, inl, inr, subst, sym}
use Rattle.std.specs.Prelude.{option_map, MatchOption}
use Rattle.std.specs.declared.vec.Vec.{Vec}
use Rattle.std.specs.declared.alloc.Global.{Global}
use Rattle.refusal_reasons.specs.Reasons.{IfAny, ReadFirst}

module _ {X F : Type 0} (r : Result X F) (Here : List ℕ → Type 0) (Behind : X → List ℕ → Type 0) (written : List ℕ) where
  -- what is behind one that is read
  pub behind_read : (x : X) → r ≡ Ok x → Behind x written → ReadFirst r Here Behind written
  behind_read x is told = subst (λ got. ReadFirst got Here Behind written) (sym is) told

  -- or the one that isn't
  pub unread_here : (fault : F) → r ≡ Err fault → Here written → ReadFirst r Here Behind written
  unread_here fault is told = subst (λ got. ReadFirst got Here Behind written) (sym is) told

-- .. by what was made of it
pub unread_told : {X F E : Type 0} (r : Result X F) (Here : List ℕ → Type 0) (Behind : X → List ℕ → Type 0) (fault : F) (made : Result (Vec ℕ Global) E) → r ≡ Err fault
    → IfOk made (λ written. Here written.items) → IfOk made (λ written. ReadFirst r Here Behind written.items)
unread_told r Here Behind fault (Ok written) is told = unread_here r Here Behind written.items fault is told
unread_told r Here Behind fault (Err refused) is told = tt {0}

-- what is written of a text, or nothing
pub any_written : (Tells : Option (List ℕ) → Type 0) (found : Option (Vec ℕ Global)) (written : List ℕ) → Tells (option_map (λ text. text.items) found)
    → MatchOption found (written ≡ []) (λ text. written ≡ text.items) → IfAny Tells written
any_written Tells None written tells is = inr (is, tells)
any_written Tells (Some text) written tells is = inl (subst (λ ws. Tells (Some ws)) (sym is) tells)
