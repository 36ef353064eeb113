-- Writers that put items behind what was there, one after another.
use Rattle.std.proofs.Common.{◌≡◌, List, ◌++◌, append_assoc, sym, ◌∙◌, ap, Result, Ok, Err, OnErr}
use Rattle.eutxo.specs.ContractBytes.Writing.{AppendsFront}

-- a front of what is to be put stands behind what was there, and what is left makes it whole
abbrev pub IsPut : {X : Type 0} → List X → List X → List X → List X → Type 0
IsPut {X} whole left old now = (front : List X) × (now ≡ old ++ front) × (front ++ left ≡ whole)

-- so also after some more of it
pub put_more : {X : Type 0} {whole left later : List X} (old now more : List X) → left ≡ more ++ later → IsPut whole left old now → IsPut whole later old (now ++ more)
put_more {later = later} old now more is h = (
  h.0 ++ more,
  ap (λ xs. xs ++ more) h.1 ∙ append_assoc old h.0 more,
  append_assoc h.0 more later ∙ ap (λ xs. h.0 ++ xs) (sym is) ∙ h.2,
)

-- and after nothing
pub put_nothing : {X : Type 0} {whole left later : List X} (old now : List X) → left ≡ later → IsPut whole left old now → IsPut whole later old now
put_nothing old now is h = (h.0, h.1, ap (λ xs. h.0 ++ xs) (sym is) ∙ h.2)

-- where a put is refused that leaves what was there, a front stands behind what was there first
pub left_at : {X T E : Type 0} {whole left after : List X} (r : Result T E) (old now : List X) → after ≡ now → IsPut whole left old now → OnErr r (AppendsFront whole old after)
left_at (Ok a) old now same h = tt
left_at {left = left} (Err e) old now same h = record { front = h.0; rest = left; split = sym h.2; appended = same ∙ h.1 }
