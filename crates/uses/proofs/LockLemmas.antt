-- What is accepted keeps a time lock.
use Rattle.std.proofs.Common.{◌≡◌, ℕ, int_le, Bool, true, false, cond, List, refl, sym, ap, ◌∙◌, subst, Option, Some, None}
use Rattle.std.specs.Prelude.{if◌then◌else◌}
use Rattle.std.specs.Cmp.{tied_itself}
use Rattle.std.specs.Ordering.{is_eq}
use Rattle.std.specs.FinMap as map
use Rattle.std.specs.FinMap.{get-insert}
use Rattle.contract.specs.Names.Orders.{bytes_cmp}
use Rattle.contract.specs.Names.Totals.{bytes_total}
use Rattle.contract.specs.Names.declared.party.Party.TheVariants.{Address}
use Rattle.ledger_spec.proofs.FromSemantics.Integers.{true_le}
use Rattle.chain.specs.LedgerSpec.EutxoTypes.declared.fault.TxFault.{TxFault}
use Rattle.chain.specs.LedgerSpec.EutxoTypes.declared.lock.Lock.{Lock}
use Rattle.chain.specs.LedgerSpec.EutxoTypes.declared.lock.Lock.TheVariants.{Key, Payout, Contract}
use Rattle.chain.specs.LedgerSpec.EutxoTypes.declared.output.Output.{Output}
use Rattle.chain.specs.LedgerSpec.EutxoTypes.declared.spend.Spend.{Spend}
use Rattle.chain.specs.LedgerSpec.EutxoTypes.declared.tx.Tx.{Tx}
use Rattle.chain.specs.LedgerSpec.EutxoTypes.declared.verdict.Verdict.{Verdict}
use Rattle.chain.specs.LedgerSpec.EutxoTypes.declared.verdict.Verdict.TheVariants.{Accepted}
use Rattle.chain.specs.LedgerSpec.EutxoTypes.Parts.{script_in, ContractLock, contract_in}
use Rattle.chain.specs.LedgerSpec.Eutxo.declared.step_fault.StepFault.TheVariants.{NotAuthorised}
use Rattle.chain.specs.LedgerSpec.Eutxo.declared.validator.StepAnswer.TheVariants.{Takes}
use Rattle.chain.specs.LedgerSpec.Eutxo.Blocks.{answer_by, step_asked, fault_in, step_fault, step_fault_unless}
use Rattle.chain.specs.LedgerSpec.Eutxo.Faults.{or_else}
use Rattle.chain.specs.LedgerSpec.Eutxo.Found.{script_at, whole}
use Rattle.chain.specs.LedgerSpec.Eutxo.Local.{tx_fault, spent_rules, whole_fault, local, verdict_of}
use Rattle.chain.specs.LedgerSpec.Eutxo.Rules.{has_signed, digests_in, wrong_datum, steps_of}
use Rattle.ledger_spec.proofs.FromLedgerLaws.PlainLaws.{and_true}
use Rattle.ledger_spec.proofs.FromLedgerLaws.JudgedLemmas.{each_none}
use Rattle.ledger_spec.proofs.FromLedgerLaws.PairedLemmas.{step_with, step_read}
use Rattle.ledger_spec.proofs.FromLedgerLaws.FindingLemmas.{taken_at}
use Rattle.ledger_spec.proofs.FromLedgerLaws.DatumLaws.{told}
use Rattle.uses.specs.declared.other_script.TimeLock.{TimeLock}
use Rattle.uses.specs.Resolutions.{resolution_of}
use Rattle.uses.specs.TimeLocks.{may_open, time_locks, KeepsTheLock}

later_clear : {F : Type 0} (o p : Option F) → or_else o p ≡ None → p ≡ None
later_clear None p h = h
later_clear (Some x) p h = cc

none_refused : (o : Option TxFault) → verdict_of o ≡ Accepted → o ≡ None
none_refused None h = refl
none_refused (Some f) h = cc

opens : (l : TimeLock) (b : Bool) → fault_in (Takes (if b then None else Some (NotAuthorised (Address l.owner))) false 0) ≡ None → b ≡ true
opens l true h = refl
opens l false h = cc

-- the lock is what is found under its id
found_lock : (id : List ℕ) (l : TimeLock) → map.get (map.insert (map.empty {R = bytes_cmp}) id l) id ≡ Some l
found_lock id l = get-insert bytes_total map.empty id l id ∙ ap (λ (b : Bool). cond b (Some l) (map.get (map.empty {R = bytes_cmp}) id)) (ap is_eq (tied_itself bytes_total id))

-- an output of a script is a contract's
held_by : (k : Lock) (id : List ℕ) → script_in k ≡ Some id → (c : ContractLock) × (contract_in k ≡ Some c) × (c.script ≡ id)
held_by (Key a) id h = cc
held_by (Payout currency role) id h = cc
held_by (Contract script d) id h = (record { script = script; digest = d }, refl, let same : script ≡ id = cc in same)

pub keeps : (id : List ℕ) (l : TimeLock) (tx : Tx) (outputs : List (Option Output)) (v : Verdict) → v ≡ verdict_of (local time_locks tx (resolution_of outputs id l)) → KeepsTheLock id l tx outputs v
keeps id l tx outputs v h spent n x a w at s =
    let named = script_at (resolution_of outputs id l).scripts in
    let clear = none_refused (local time_locks tx (resolution_of outputs id l)) (sym h ∙ a) in
    let of_spent : whole_fault time_locks named tx (Some spent) ≡ None =
    subst (λ (o : Option (List (Spend × Output))). whole_fault time_locks named tx o ≡ None) w (later_clear (tx_fault tx) (whole_fault time_locks named tx (whole tx (resolution_of outputs id l))) clear) in
    let rules = each_none (spent_rules time_locks named tx spent) of_spent in
    let brought : wrong_datum tx spent ≡ None = rules.1.1.1.1.1.1.0 in
    let judged : step_fault time_locks named tx spent (steps_of spent tx.datums) ≡ None = ap (λ (o : Option TxFault). step_fault_unless o time_locks named tx spent) (sym brought) ∙ rules.1.1.1.1.0 in
    let c = held_by x.1.lock id s in
    let read = step_read spent tx.datums (digests_in tx.outputs) n x c.0 (told tx spent brought) at c.1 in
    let own = step_with c.0 x.0 read.datum in
    let taken = taken_at time_locks named tx spent (steps_of spent tx.datums) read.number own judged read.step in
    let of_lock : fault_in (answer_by time_locks (Some l) (step_asked tx spent taken.0 own)) ≡ None =
    subst (λ (o : Option TimeLock). fault_in (answer_by time_locks o (step_asked tx spent taken.0 own)) ≡ None) (ap named c.2 ∙ found_lock id l) taken.1 in
    let p = and_true (has_signed tx.signers l.owner) (int_le l.from tx.interval.from) (opens l (may_open l tx) of_lock) in
    (p.0, true_le l.from tx.interval.from p.1)
