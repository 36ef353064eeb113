-- A ledger begins sound, and stays so with what it accepts.
use Rattle.std.proofs.Common.{◌≡◌, List, sym, subst, Option, Some, None, inl, inr}
use Rattle.roles.specs.EutxoTypes.declared.tx.Tx.{Tx}
use Rattle.roles.specs.Eutxo.Asked.{Judges}
use Rattle.roles.specs.Eutxo.Judgement.{judge}
use Rattle.ledger_laws.specs.Sound.{moment, IsAdmitted}
use Rattle.ledger_laws.specs.Laws.{StartIsSound, AfterIsSound}
use Rattle.ledger_laws.proofs.PlainLaws.{get_grown}

pub start_is_sound : {V : Type 0} (j : Judges V) → StartIsSound j
start_is_sound j named genesis keys = record { keys = keys; admitted = λ n tx at. let e : (let z : Option Tx = None in z) ≡ Some tx = at in cc }

pub after_is_sound : {V : Type 0} (j : Judges V) → AfterIsSound j
after_is_sound {V} j named past tick tx sound judged = record {
  keys = sound.keys;
  admitted = λ n t h.
      elim (get_grown past.accepted tx n t h) [
        | inl p ↦ subst (λ (txs : List Tx). IsAdmitted j named (record past { accepted = txs }) t) (sym p.1) (sound.admitted n t p.0)
        | inr p ↦ subst (λ (txs : List Tx). IsAdmitted j named (record past { accepted = txs }) t) (sym p.1) (tick, subst (λ (z : Tx). judge j (moment named past tick) z ≡ None) p.0 judged)
      ];
}
