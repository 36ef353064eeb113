-- What a transaction finds on a ledger where it is accepted.
use Rattle.std.specs.Prelude.{◌≡◌, ℕ, ℤ, ◌≤ℤ◌, false, List, slice_get, All, Some}
use Rattle.builder_spec.specs.EutxoTypes.declared.tx.Tx.{Tx}
use Rattle.builder_spec.specs.EutxoTypes.Ids.{id_of}
use Rattle.builder_spec.specs.EutxoTypes.Spelling.{tx_bytes}
use Rattle.builder_spec.specs.Eutxo.Judgement.{Moment}
use Rattle.builder_spec.specs.Ledger.declared.look.Unspent.{Unspent}
use Rattle.ledger_laws.specs.Past.{Past, unspent_at}

-- no transaction of other bytes that was accepted has its id, which is the SHA-256 of its bytes
abbrev pub IsAlone : Past → Tx → Type 0
IsAlone past tx = (n : ℕ) (other : Tx) → slice_get past.accepted n ≡ Some other → id_of other ≡ id_of tx → tx_bytes other ≡ tx_bytes tx

-- after a past, what a transaction spends is unspent as it was handed in, none of other bytes has its id, and the tick lies in its interval
pub record IsOpen (past : Past) (tick : ℤ) (spent : List Unspent) (tx : Tx) : Type 0 where
  pub unspent : All (λ u. unspent_at past u.reference ≡ Some u.output) spent
  pub alone : IsAlone past tx
  pub from : tx.interval.from ≤ℤ tick
  pub to : tick ≤ℤ tx.interval.to

-- at a moment these outputs are unspent, with the contents that were handed in
abbrev pub AreUnspent : {V : Type 0} → Moment V → List Unspent → Type 0
AreUnspent m us = All (λ u. m.unspent u.reference ≡ Some u.output) us

-- what a transaction spends is unspent as it was handed in, its id is unused, and the tick lies in its interval
pub record Admits {V : Type 0} (m : Moment V) (spent : List Unspent) (tx : Tx) : Type 0 where
  pub unspent : AreUnspent m spent
  pub unused : m.is_used (id_of tx) ≡ false
  pub from : tx.interval.from ≤ℤ m.tick
  pub to : m.tick ≤ℤ tx.interval.to
