-- Sound pasts: those of a ledger that began with key outputs, and accepted what the judgement lets pass.
use Rattle.std.specs.Prelude.{◌≡◌, ℕ, ℤ, true, List, slice_get, All, Option, Some, None}
use Rattle.roles.specs.EutxoTypes.declared.output.Output.{Output}
use Rattle.roles.specs.EutxoTypes.declared.tx.Tx.{Tx}
use Rattle.roles.specs.Eutxo.Asked.{Judges}
use Rattle.roles.specs.Eutxo.Judgement.{Moment, judge}
use Rattle.roles.specs.EutxoTypes.Parts.{is_key}
use Rattle.ledger_laws.specs.Past.{Past, before, unspent_at, is_used}

-- what the rules read after a past, where this is published under ids, at a tick
abbrev pub moment : {V : Type 0} → (List ℕ → Option V) → Past → ℤ → Moment V
moment published past tick = record { unspent = unspent_at past; published = published; is_used = is_used past.accepted; tick = tick }

-- at some tick, no rule refuses it
abbrev pub IsAdmitted : {V : Type 0} → Judges V → (List ℕ → Option V) → Past → Tx → Type 0
IsAdmitted j published past tx = (tick : ℤ) × (judge j (moment published past tick) tx ≡ None)

abbrev pub AreKeys : List Output → Type 0
AreKeys os = All (λ o. is_key o.lock ≡ true) os

pub record IsSound {V : Type 0} (j : Judges V) (published : List ℕ → Option V) (past : Past) : Type 0 where
  pub keys : AreKeys past.genesis
  -- each was admitted on what came before it
  pub admitted : (n : ℕ) (tx : Tx) → slice_get past.accepted n ≡ Some tx → IsAdmitted j published (before past n) tx

-- what was published stays published
abbrev pub IsMore : {V : Type 0} → (List ℕ → Option V) → (List ℕ → Option V) → Type 0
IsMore {V} published later = (script : List ℕ) (v : V) → published script ≡ Some v → later script ≡ Some v
