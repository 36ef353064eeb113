-- Where the contracts of a transaction go on, told by places, is where threads go on by its blocks.
use Rattle.std.proofs.Common.{◌≡◌, ℕ, zero, suc, ◌+◌, Bool, true, false, List, [], ◌∷◌, ◌++◌, map, refl, sym, ◌∙◌, ap, subst, Option, Some, None}
use Rattle.std.specs.Prelude.{if◌then◌else◌}
use Rattle.std.specs.List.{slice_get}
use Rattle.ledger_spec.specs.Machine.declared.datum.Datum.{Datum}
use Rattle.ledger_spec.specs.EutxoTypes.declared.lock.Lock.{Lock}
use Rattle.ledger_spec.specs.EutxoTypes.declared.lock.Lock.TheVariants.{Key, Payout, Contract}
use Rattle.ledger_spec.specs.EutxoTypes.declared.output.Output.{Output}
use Rattle.ledger_spec.specs.EutxoTypes.declared.output_ref.OutputRef.{OutputRef}
use Rattle.ledger_spec.specs.EutxoTypes.declared.spend.Spend.{Spend}
use Rattle.ledger_spec.specs.EutxoTypes.declared.tx.Tx.{Tx}
use Rattle.ledger_spec.specs.EutxoTypes.Digests.{datum_hash}
use Rattle.ledger_spec.specs.EutxoTypes.Parts.{same_ref, is_step, inputs_of, is_contract, ContractLock, contract_in}
use Rattle.ledger_spec.specs.Eutxo.declared.validator.StepAnswer.{StepAnswer}
use Rattle.ledger_spec.specs.Eutxo.Asked.{Judges}
use Rattle.ledger_spec.specs.Eutxo.Blocks.{Block, size, answer_by, step_asked, blocks, continues, places_in, goes_on_at}
use Rattle.ledger_spec.specs.Eutxo.BlockLaws.{AllDiffer, AreFresh}
use Rattle.ledger_spec.specs.Eutxo.Rules.{opens, digest_in, digests_in, Step, or_step, steps_of}
use Rattle.ledger_spec.specs.LedgerLaws.Threads.{next_in}
use Rattle.ledger_spec.proofs.FromLedgerLaws.PlainLaws.{EachFalse, not_false, not_both, same_some}
use Rattle.ledger_spec.proofs.FromLedgerLaws.PartLaws.{is_contract_so}
use Rattle.ledger_spec.proofs.FromLedgerLaws.PairedLemmas.{Paired, misfits, step_opens, contract_steps}
use Rattle.ledger_spec.proofs.FromLedgerLaws.ReferenceLaws.{same_ref-refl}
use Rattle.chain_index.specs.declared.moves.Move.{Move}
use Rattle.chain_index.specs.Moves.{Next, move_to, moves_by, and_move, moves_to}

first_told : (d : Datum) (ds : List Datum) (h : List ℕ) (hs : List (List ℕ)) → map datum_hash (d ∷ ds) ≡ h ∷ hs → map datum_hash ds ≡ hs
first_told d ds h hs e = cc

none_told : (h : List ℕ) (hs : List (List ℕ)) → (let l : List (List ℕ) = [] in l) ≡ h ∷ hs → ⊥
none_told h hs e = cc

-- a lock that holds no contract is none
none_holds : (l : Lock) → is_contract l ≡ true → contract_in l ≡ None → ⊥
none_holds (Key a) h e = cc
none_holds (Payout c r) h e = cc
none_holds (Contract s d) h e = cc

abbrev held_with : Option ContractLock → List (Spend × Output) → List (List ℕ) → List (List ℕ)
held_with l ys hs = (digest_in l ++ digests_in (map (λ x. x.1) ys)) ++ hs

module _ {V : Type 0} (j : Judges V) (named : List ℕ → Option V) (tx : Tx) (spent : List (Spend × Output)) where
  abbrev answer : ℕ → Step → StepAnswer
  answer i s = answer_by j (named s.script) (step_asked tx spent i s)

  abbrev first : ℕ → Step → Block
  first i s = record { «from» = i; reference = s.reference; answer = answer i s }

  -- ---- by the reference of a block its contract goes on where it does

  abbrev GoesAt : List Block → List Block → Type 0
  GoesAt all bs = (k : ℕ) (b : Block) → slice_get bs k ≡ Some b → goes_on_at all b.reference ≡ continues b.«from» b.answer

  of_step : (ss : List Step) (i k : ℕ) (b : Block) → slice_get (blocks j named tx spent ss i) k ≡ Some b → (s : Step) × (slice_get ss k ≡ Some s) × (s.reference ≡ b.reference)
  of_step [] i k b h = cc
  of_step (s ∷ ss) i zero b h = (s, refl, ap (λ (z : Block). z.reference) (same_some (first i s) b h))
  of_step (s ∷ ss) i (suc k) b h = of_step ss (i + size (answer i s)) k b h

  differ_at : (r : OutputRef) (n : ℕ) (ss : List Step) (s : Step) → AllDiffer r ss → slice_get ss n ≡ Some s → same_ref r s.reference ≡ false
  differ_at r n [] s d h = cc
  differ_at r zero (t ∷ ss) s d h = subst (λ (z : Step). same_ref r z.reference ≡ false) (same_some t s h) d.0
  differ_at r (suc n) (t ∷ ss) s d h = differ_at r n ss s d.1 h

  goes_at : (ss : List Step) (i : ℕ) → AreFresh ss → GoesAt (blocks j named tx spent ss i) (blocks j named tx spent ss i)
  goes_at [] i f k b h = cc
  goes_at (s ∷ ss) i f zero b h =
      subst (λ (z : Block). goes_on_at (blocks j named tx spent (s ∷ ss) i) z.reference ≡ continues z.«from» z.answer) (same_some (first i s) b h)
      (ap (λ (c : Bool). if c then continues i (answer i s) else goes_on_at (blocks j named tx spent ss (i + size (answer i s))) s.reference) (same_ref-refl s.reference))
  goes_at (s ∷ ss) i f (suc k) b h =
      let t = of_step ss (i + size (answer i s)) k b h in
      let other = subst (λ (r : OutputRef). same_ref s.reference r ≡ false) t.2 (differ_at s.reference k ss t.0 f.0 t.1) in
      ap (λ (c : Bool). if c then continues i (answer i s) else goes_on_at (blocks j named tx spent ss (i + size (answer i s))) b.reference) other
      ∙ goes_at ss (i + size (answer i s)) f.1 k b h

  -- ---- the moves

  abbrev by_blocks : List Block → Next
  by_blocks all r t = next_in t (goes_on_at all r)

  abbrev move_of : List Block → ℕ → Spend → OutputRef × Move
  move_of all n x = (x.reference, move_to n (next_in tx (goes_on_at all x.reference)))

  -- of these inputs the moves are alike, whatever data are left and wherever their blocks stand
  abbrev MovesAlike : List Block → ℕ → List Spend → List (Spend × Output) → List (List ℕ) → Type 0
  MovesAlike all n xs ys hs =
      (es : List Datum) (k : ℕ) → map datum_hash es ≡ digests_in (map (λ x. x.1) ys) ++ hs → GoesAt all (blocks j named tx spent (steps_of ys es) k) →
      moves_to n tx xs (places_in (blocks j named tx spent (steps_of ys es) k)) ≡ moves_by (by_blocks all) n tx xs

  moved : (all : List Block) (n : ℕ) (find : OutputRef → Option Output) (xs : List Spend) (ys : List (Spend × Output)) (ds : List Datum) (hs : List (List ℕ)) (i : ℕ) → Paired find xs ys → EachFalse misfits ys →
      map datum_hash ds ≡ digests_in (map (λ x. x.1) ys) ++ hs → GoesAt all (blocks j named tx spent (steps_of ys ds) i) →
      moves_to n tx xs (places_in (blocks j named tx spent (steps_of ys ds) i)) ≡ moves_by (by_blocks all) n tx xs
  moved all n find [] [] ds hs i p kinds told g = refl
  moved all n find [] (y ∷ ys) ds hs i p kinds told g = absurd p
  moved all n find (x ∷ xs) [] ds hs i p kinds told g = absurd p
  moved all n find (x ∷ xs) (y ∷ ys) ds hs i p kinds told g =
      by (is_step x.redeemer) (contract_in y.1.lock) refl refl ds told g (λ es k t h. moved all n find xs ys es hs k p.2 kinds.1 t h)
    where
      by : (b : Bool) (l : Option ContractLock) → is_step x.redeemer ≡ b → contract_in y.1.lock ≡ l → (es : List Datum) → map datum_hash es ≡ held_with (contract_in y.1.lock) ys hs →
          GoesAt all (blocks j named tx spent (or_step (contract_in y.1.lock) y.0 es (steps_of ys)) i) → MovesAlike all n xs ys hs →
          and_move (is_step x.redeemer) n tx x (places_in (blocks j named tx spent (or_step (contract_in y.1.lock) y.0 es (steps_of ys)) i)) (moves_to n tx xs)
          ≡ (if is_step x.redeemer then move_of all n x ∷ moves_by (by_blocks all) n tx xs else moves_by (by_blocks all) n tx xs)
      by true None e f es t g go =
          let o = step_opens y.0.redeemer y.1.lock (ap (λ (z : Spend). is_step z.redeemer) p.0 ∙ e) (not_false (opens y.0.redeemer y.1.lock) kinds.0) in
          absurd (none_holds y.1.lock o f)
      by true (Some c) e f [] t g go = absurd (none_told c.digest (digests_in (map (λ x. x.1) ys) ++ hs) (t ∙ ap (λ (z : Option ContractLock). held_with z ys hs) f))
      by true (Some c) e f (d ∷ es) t g go =
          let s : Step = record { reference = y.0.reference; script = c.script; datum = d; inputs = inputs_of y.0.redeemer } in
          let these : or_step (contract_in y.1.lock) y.0 (d ∷ es) (steps_of ys) ≡ s ∷ steps_of ys es = ap (λ (z : Option ContractLock). or_step z y.0 (d ∷ es) (steps_of ys)) f in
          let h : GoesAt all (blocks j named tx spent (s ∷ steps_of ys es) i) = subst (λ (ss : List Step). GoesAt all (blocks j named tx spent ss i)) these g in
          let rest = first_told d es c.digest (digests_in (map (λ x. x.1) ys) ++ hs) (t ∙ ap (λ (z : Option ContractLock). held_with z ys hs) f) in
          let place : continues i (answer i s) ≡ goes_on_at all x.reference = sym (h 0 (first i s) refl) ∙ ap (λ (z : Spend). goes_on_at all z.reference) p.0 in
          ap (λ (ss : List Step). and_move (is_step x.redeemer) n tx x (places_in (blocks j named tx spent ss i)) (moves_to n tx xs)) these
          ∙ ap (λ (b : Bool). and_move b n tx x (places_in (blocks j named tx spent (s ∷ steps_of ys es) i)) (moves_to n tx xs)) e
          ∙ ap (λ (q : Option ℕ). (let z : OutputRef × Move = (x.reference, move_to n (next_in tx q)) in z) ∷ moves_to n tx xs (places_in (blocks j named tx spent (steps_of ys es) (i + size (answer i s))))) place
          ∙ ap (λ (l : List (OutputRef × Move)). move_of all n x ∷ l) (go es (i + size (answer i s)) rest (λ k b a. h (suc k) b a))
          ∙ sym (ap (λ (b : Bool). if b then move_of all n x ∷ moves_by (by_blocks all) n tx xs else moves_by (by_blocks all) n tx xs) e)
      by false (Some c) e f es t g go =
          let o = contract_steps y.0.redeemer y.1.lock (is_contract_so y.1.lock c f) (not_false (opens y.0.redeemer y.1.lock) kinds.0) in
          absurd (not_both o (ap (λ (z : Spend). is_step z.redeemer) p.0 ∙ e))
      by false None e f es t g go =
          let these : or_step (contract_in y.1.lock) y.0 es (steps_of ys) ≡ steps_of ys es = ap (λ (z : Option ContractLock). or_step z y.0 es (steps_of ys)) f in
          let h = subst (λ (ss : List Step). GoesAt all (blocks j named tx spent ss i)) these g in
          ap (λ (ss : List Step). and_move (is_step x.redeemer) n tx x (places_in (blocks j named tx spent ss i)) (moves_to n tx xs)) these
          ∙ ap (λ (b : Bool). and_move b n tx x (places_in (blocks j named tx spent (steps_of ys es) i)) (moves_to n tx xs)) e
          ∙ go es i (t ∙ ap (λ (z : Option ContractLock). held_with z ys hs) f) h
          ∙ sym (ap (λ (b : Bool). if b then move_of all n x ∷ moves_by (by_blocks all) n tx xs else moves_by (by_blocks all) n tx xs) e)

  -- of a transaction that no rule refuses, whose inputs name each output once
  pub moves_by_blocks : (n : ℕ) (find : OutputRef → Option Output) (xs : List Spend) (ys : List (Spend × Output)) (ds : List Datum) (hs : List (List ℕ)) → Paired find xs ys → EachFalse misfits ys →
      map datum_hash ds ≡ digests_in (map (λ x. x.1) ys) ++ hs → AreFresh (steps_of ys ds) →
      moves_to n tx xs (places_in (blocks j named tx spent (steps_of ys ds) 0)) ≡ moves_by (by_blocks (blocks j named tx spent (steps_of ys ds) 0)) n tx xs
  moves_by_blocks n find xs ys ds hs p kinds told fresh = moved (blocks j named tx spent (steps_of ys ds) 0) n find xs ys ds hs 0 p kinds told (goes_at (steps_of ys ds) 0 fresh)
