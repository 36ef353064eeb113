-- What was accepted stays accepted where more is published, and threads go on where they did.
use Rattle.std.proofs.Common.{◌≡◌, ℕ, ◌+◌, Bool, true, not, cond, List, [], ◌∷◌, refl, sym, ◌∙◌, ap, subst, Option, Some, None}
use Rattle.std.specs.Prelude.{if◌then◌else◌, is_some}
use Rattle.std.specs.List.{list_all, position, position_from, slice_get}
use Rattle.std.specs.Option.{option_map}
use Rattle.std.proofs.lemmas.Iterator.Adapters.{position_from-zero}
use Rattle.roles.specs.EutxoTypes.declared.fault.TxFault.{TxFault}
use Rattle.roles.specs.EutxoTypes.declared.fault.TxFault.TheVariants.{UnknownScript, WrongStart}
use Rattle.roles.specs.EutxoTypes.declared.lock.Lock.{Lock}
use Rattle.roles.specs.EutxoTypes.declared.lock.Lock.TheVariants.{Key, Payout, Contract}
use Rattle.roles.specs.EutxoTypes.declared.output.Output.{Output}
use Rattle.roles.specs.EutxoTypes.declared.spend.Spend.{Spend}
use Rattle.roles.specs.EutxoTypes.declared.tx.Tx.{Tx}
use Rattle.roles.specs.EutxoTypes.declared.output_ref.OutputRef.{OutputRef}
use Rattle.roles.specs.EutxoTypes.Parts.{same_ref, ContractLock, contract_in, Instance, contract_at}
use Rattle.roles.specs.Machine.declared.datum.Datum.{Datum}
use Rattle.std.specs.Map.{lookup}
use Rattle.roles.specs.Eutxo.Laws.{FoundIsEnough}
use Rattle.roles.specs.Eutxo.Faults.{first_of}
use Rattle.roles.specs.Eutxo.Found.{is_known, all_known, if_known}
use Rattle.roles.specs.Eutxo.Blocks.{Block, blocks, blocks_on, goes_on_at, block_fault, step_fault, step_fault_unless}
use Rattle.roles.specs.Eutxo.BlockLaws.{BlocksStay}
use Rattle.roles.specs.Eutxo.OneContract.{AreNamed}
use Rattle.roles.specs.Eutxo.Rules.{Step, or_step, steps_of, starts_wrong, starts_wrong_at, wrong_datum}
use Rattle.roles.specs.Eutxo.Local.{spent_rules, spent_fault, whole_fault}
use Rattle.roles.specs.Eutxo.Asked.{Judges}
use Rattle.ledger_laws.specs.Past.{Past, before, after, created_by, created, created_at, unspent_at}
use Rattle.roles.specs.Eutxo.Judgement.{is_unknown, judge}
use Rattle.ledger_laws.specs.Sound.{moment, IsSound, IsMore}
use Rattle.ledger_laws.specs.Laws.{LaterIsSound, ThreadsStay}
use Rattle.ledger_laws.specs.Threads.{blocks_of, next_in, next_of}
use Rattle.ledger_laws.proofs.PlainLaws.{EachFalse, not_false, both, is_there, each_at}
use Rattle.ledger_laws.proofs.PartLaws.{lock_so, script_so, under_so}
use Rattle.ledger_laws.proofs.JudgedLemmas.{found, all_rules, local_rules, EachNone, each_none, made_known, same_places}
use Rattle.ledger_laws.proofs.ReferenceLaws.{lookup_front, created_grown}
use Rattle.ledger_laws.proofs.PairedLemmas.{Paired, paired, spent_known}
use Rattle.ledger_laws.proofs.AcceptedLaws.{passes_at, find_known, published, spent_at, spent_by, blocks_so}

first_none : {A : Type 0} (xs : List (Option A)) → EachNone xs → first_of xs ≡ None
first_none [] h = refl
first_none (None ∷ xs) h = first_none xs h.1
first_none (Some x ∷ xs) h = cc

no_position_from : {A : Type 0} (p : A → Bool) (n : ℕ) (xs : List A) → EachFalse p xs → position_from p n xs ≡ None
no_position_from p n [] h = refl
no_position_from p n (x ∷ xs) h = ap (λ b. cond b (Some n) (position_from p (n + 1) xs)) h.0 ∙ no_position_from p (n + 1) xs h.1

no_position : {A : Type 0} (p : A → Bool) (xs : List A) → EachFalse p xs → position p xs ≡ None
no_position p xs h = position_from-zero p xs ∙ no_position_from p 0 xs h

module _ {V : Type 0} (j : Judges V) (enough : FoundIsEnough j) (stay : BlocksStay j) (named later : List ℕ → Option V) (more : IsMore named later) where
  still_known : (l : Lock) → is_known named l ≡ true → is_known later l ≡ true
  still_known (Key a) h = refl
  still_known (Payout c r) h = refl
  still_known (Contract script d) h = let t = is_there (named script) h in ap is_some (more script t.0 t.1)

  known_later : (os : List Output) → EachFalse (is_unknown named) os → EachFalse (is_unknown later) os
  known_later [] h = tt
  known_later (o ∷ os) h = (ap not (still_known o.lock (not_false (is_known named o.lock) h.0)), known_later os h.1)

  same_start : (tx : Tx) → EachFalse (is_unknown named) tx.outputs → (i : ℕ) (o : Output) → slice_get tx.outputs i ≡ Some o →
      starts_wrong j later o.amount (contract_at tx i) ≡ starts_wrong j named o.amount (contract_at tx i)
  same_start tx known i o at = by (contract_at tx i) refl
    where
      by : (c : Option Instance) → contract_at tx i ≡ c → starts_wrong j later o.amount c ≡ starts_wrong j named o.amount c
      by None e = refl
      by (Some c) e =
          let z = under_so tx i c e in
          let l = lock_so (z.0).lock z.2 z.3 in
          let k = subst (λ (l : Lock). is_known named l ≡ true) l (not_false (is_known named (z.0).lock) (each_at (is_unknown named) i tx.outputs z.0 known z.1)) in
          let t = is_there (named c.script) (subst (λ (id : List ℕ). is_some (named id) ≡ true) z.4 k) in
          ap (λ v. starts_wrong_at j v c.datum o.amount) (more c.script t.0 t.1 ∙ sym t.1)

  module _ (past : Past) (sound : IsSound j named past) (n : ℕ) (tx : Tx) (at : slice_get past.accepted n ≡ Some tx) where
    -- the script of each step was published
    named_if : (xs : List Spend) (ys : List (Spend × Output)) (ds : List Datum) → Paired (unspent_at (before past n)) xs ys → AreNamed named (steps_of ys ds)
    named_if [] [] ds p = tt
    named_if [] (y ∷ ys) ds p = absurd p
    named_if (x ∷ xs) [] ds p = absurd p
    named_if (x ∷ xs) (y ∷ ys) ds p = by (contract_in y.1.lock) refl ds (λ es. named_if xs ys es p.2)
      where
        by : (l : Option ContractLock) → contract_in y.1.lock ≡ l → (es : List Datum) → ((fs : List Datum) → AreNamed named (steps_of ys fs)) → AreNamed named (or_step l y.0 es (steps_of ys))
        by None e es go = go es
        by (Some c) e [] go = tt
        by (Some c) e (d ∷ es) go = (published j enough named past sound n x.reference y.1 c.script p.1 (script_so y.1.lock c e), go es)

    same_blocks : (ys : List (Spend × Output)) → Paired (unspent_at (before past n)) tx.inputs ys → blocks j named tx ys (steps_of ys tx.datums) 0 ≡ blocks j later tx ys (steps_of ys tx.datums) 0
    same_blocks ys p = stay named later tx ys (steps_of ys tx.datums) 0 more (named_if tx.inputs ys tx.datums p)

    same_step : (ys : List (Spend × Output)) → (z : List Step) → blocks j named tx ys z 0 ≡ blocks j later tx ys z 0 → step_fault j named tx ys z ≡ None → step_fault j later tx ys z ≡ None
    same_step ys [] e h =
        ap (option_map WrongStart) (same_places (λ i (o : Output). starts_wrong j later o.amount (contract_at tx i)) (λ i (o : Output). starts_wrong j named o.amount (contract_at tx i)) tx.outputs
        (same_start tx (passes_at j enough named past sound n tx at).known)) ∙ h
    same_step ys (s ∷ ss) e h = ap (λ (bs : List Block). block_fault bs tx.outputs) (sym e) ∙ h

    same_unless : (ys : List (Spend × Output)) → Paired (unspent_at (before past n)) tx.inputs ys → (w : Option TxFault) → step_fault_unless w j named tx ys ≡ None → step_fault_unless w j later tx ys ≡ None
    same_unless ys p None h = same_step ys (steps_of ys tx.datums) (same_blocks ys p) h
    same_unless ys p (Some fault) h = refl

    same_spent : (ys : List (Spend × Output)) → Paired (unspent_at (before past n)) tx.inputs ys → spent_fault j named tx ys ≡ None → spent_fault j later tx ys ≡ None
    same_spent ys p h =
        let e = each_none (spent_rules j named tx ys) h in
        first_none (spent_rules j later tx ys) (e.0, (e.1.0, (e.1.1.0, (e.1.1.1.0, (same_unless ys p (wrong_datum tx ys) e.1.1.1.1.0, (e.1.1.1.1.1.0, (e.1.1.1.1.1.1.0, tt)))))))

    known_both : (k : List ℕ → Option V) (ys : List (Spend × Output)) → EachFalse (is_unknown k) tx.outputs → list_all (λ x. is_known k x.1.lock) ys ≡ true → all_known k tx.outputs ys ≡ true
    known_both k ys h s = both (list_all (λ o. is_known k o.lock) tx.outputs) (list_all (λ x. is_known k x.1.lock) ys) (made_known k tx.outputs h) s

    same_judge : (tick : _) → judge j (moment named (before past n) tick) tx ≡ None → judge j (moment later (before past n) tick) tx ≡ None
    same_judge tick h =
        let e = each_none (all_rules j (moment named (before past n) tick) tx) h in
        let p = passes_at j enough named past sound n tx at in
        let q = paired (unspent_at (before past n)) tx.inputs p.unspent in
        let before_known = known_both named q.0 p.known (spent_known named (unspent_at (before past n)) (find_known j enough named past sound n) tx.inputs q.0 q.2) in
        let after_known = known_both later q.0 (known_later tx.outputs p.known)
        (spent_known later (unspent_at (before past n)) (λ r o f. still_known o.lock (find_known j enough named past sound n r o f)) tx.inputs q.0 q.2) in
        let spent : spent_fault j named tx q.0 ≡ None =
        subst (λ (b : Bool). whole_fault j named tx (if b then Some q.0 else None) ≡ None) before_known
        (subst (λ (o : Option (List (Spend × Output))). whole_fault j named tx (if_known named tx.outputs o) ≡ None) q.1 p.local) in
        let now : whole_fault j later tx (if_known later tx.outputs (found (unspent_at (before past n)) tx)) ≡ None =
        subst (λ (o : Option (List (Spend × Output))). whole_fault j later tx (if_known later tx.outputs o) ≡ None) (sym q.1)
        (subst (λ (b : Bool). whole_fault j later tx (if b then Some q.0 else None) ≡ None) (sym after_known) (same_spent q.0 q.2 spent)) in
        first_none (all_rules j (moment later (before past n) tick) tx)
        (e.0, (e.1.0, (e.1.1.0, (e.1.1.1.0, (ap (option_map UnknownScript) (no_position (is_unknown later) tx.outputs (known_later tx.outputs p.known)), (enough (moment later (before past n) tick) tx ∙ first_none (local_rules j later (before past n) tx) (e.0, (now, tt)), tt))))))

    -- where a thread goes on after it stays where more is published
    same_next : (r : OutputRef) → next_of j later past r tx ≡ next_of j named past r tx
    same_next r =
        let s = spent_at j enough named past sound n tx at in
        let these : blocks_of j later past tx ≡ blocks j later tx s.ys (steps_of s.ys tx.datums) 0 = ap (blocks_on j later tx) (spent_by j enough named past sound n tx at (created_at past) (λ q o e. e)) in
        ap (λ (bs : List Block). next_in tx (goes_on_at bs r)) (these ∙ sym (same_blocks s.ys s.pairs) ∙ sym (blocks_so j enough named past sound n tx at))

    -- and where one more is accepted
    grown_next : (s : Tx) (r : OutputRef) → next_of j named (after past s) r tx ≡ next_of j named past r tx
    grown_next s r =
        let grown = created_grown past past.accepted s in
        let still : (q : OutputRef) (o : Output) → created_at past q ≡ Some o → created_at (after past s) q ≡ Some o = λ q o e. ap (lookup (same_ref q)) grown ∙ lookup_front (same_ref q) (created past) (created_by s) o e in
        let there = spent_by j enough named past sound n tx at (created_at (after past s)) still in
        let here = spent_by j enough named past sound n tx at (created_at past) (λ q o e. e) in
        ap (λ (z : Option (List (Spend × Output))). next_in tx (goes_on_at (blocks_on j named tx z) r)) (there ∙ sym here)

pub later_is_sound : {V : Type 0} (j : Judges V) → FoundIsEnough j → BlocksStay j → LaterIsSound j
later_is_sound j enough stay named later past more sound = record {
  keys = sound.keys;
  admitted = λ n tx at. let l = sound.admitted n tx at in (l.0, same_judge j enough stay named later more past sound n tx at l.0 l.1);
}

pub threads_stay : {V : Type 0} (j : Judges V) → FoundIsEnough j → BlocksStay j → ThreadsStay j
threads_stay j enough stay named later past more sound n tx at = record {
  more = same_next j enough stay named later more past sound n tx at;
  accepted = grown_next j enough stay named later more past sound n tx at;
}
