-- Outputs of one transaction more that start threads.
use Rattle.std.proofs.Common.{◌≡◌, ℕ, zero, suc, ◌+◌, ◌≤◌, ◌<◌, arith, Bool, true, false, List, [], ◌∷◌, ◌++◌, refl, sym, ◌∙◌, ap, append_assoc, drop, length, filter}
use Rattle.std.specs.Prelude.{if◌then◌else◌}
use Rattle.std.specs.Map.{keys_of}
use Rattle.ledger_spec.specs.EutxoTypes.declared.output.Output.{Output}
use Rattle.ledger_spec.specs.EutxoTypes.declared.output_ref.OutputRef.{OutputRef}
use Rattle.ledger_spec.specs.EutxoTypes.declared.output_ref.OutputRef.TheVariants.{Made}
use Rattle.ledger_spec.specs.EutxoTypes.declared.tx.Tx.{Tx}
use Rattle.ledger_spec.specs.EutxoTypes.Ids.{id_of}
use Rattle.ledger_spec.specs.EutxoTypes.Parts.{same_ref}
use Rattle.ledger_spec.specs.LedgerLaws.Past.{with_references}
use Rattle.ledger_spec.proofs.FromLedgerLaws.PlainLaws.{both_false, no_more}
use Rattle.ledger_spec.specs.Views.{starts_in}
use Rattle.chain_index.specs.declared.naming.Naming.TheVariants as whose
use Rattle.chain_index.specs.Contents.{is_among}
use Rattle.chain_index.specs.Moves.{starts_by}
use Rattle.chain_index.specs.PartsSupport.{IsFront, one_start}
use Rattle.chain_index.proofs.FrontLemmas.{front_more}
use Rattle.chain_index.proofs.OutputLemmas.{names_differ}
use Rattle.chain_index.proofs.RefLemmas.{among_more}

-- of outputs from a place on, those that start threads
abbrev pub starting : Tx → ℕ → List Output → List OutputRef
starting tx i os = filter (λ r. starts_in r tx) (keys_of (with_references (λ j. Made (id_of tx) j) i os))

next_starts : (tx : Tx) (i k : ℕ) (os : List Output) → k < length os → starting tx i (drop k os) ≡ one_start (id_of tx) tx i ++ starting tx (i + 1) (drop (suc k) os)
next_starts tx i k [] l = absurd (none l)
  where
    none : k < 0 → ⊥
    none h = omega (arith, h)
next_starts tx i zero (o ∷ os) l = by (starts_in (Made (id_of tx) i) tx)
  where
    by : (b : Bool) → (if b then Made (id_of tx) i ∷ starting tx (i + 1) os else starting tx (i + 1) os) ≡ (if b then Made (id_of tx) i ∷ [] else []) ++ starting tx (i + 1) os
    by true = refl
    by false = refl
next_starts tx i (suc k) (o ∷ os) l = next_starts tx i k os (omega (arith, l))

-- a loop over the places of outputs
pub record AreStarting (tx : Tx) (old rs : List OutputRef) (i : ℕ) : Type 0 where
  pub entries : rs ++ starting tx i (drop i tx.outputs) ≡ old ++ starts_by tx
  pub grown : IsFront old rs
  pub unstarted : (j : ℕ) → i ≤ j → is_among rs (Made (id_of tx) j) ≡ false

still_unstarted : (tx : Tx) (rs : List OutputRef) (i j : ℕ) → i < j → is_among rs (Made (id_of tx) j) ≡ false → is_among (rs ++ one_start (id_of tx) tx i) (Made (id_of tx) j) ≡ false
still_unstarted tx rs i j l h = by (starts_in (Made (id_of tx) i) tx)
  where
    r : OutputRef
    r = Made (id_of tx) j

    by : (b : Bool) → is_among (rs ++ (if b then Made (id_of tx) i ∷ [] else [])) r ≡ false
    by true = among_more rs (Made (id_of tx) i) r ∙ both_false (is_among rs r) (same_ref (Made (id_of tx) i) r) h (names_differ (whose.Made (id_of tx)) i j l)
    by false = ap (λ (l : List OutputRef). is_among l r) (no_more rs) ∙ h

pub next_starting : (tx : Tx) (old rs more : List OutputRef) (i : ℕ) → i < length tx.outputs → more ≡ rs ++ one_start (id_of tx) tx i → AreStarting tx old rs i → AreStarting tx old more (i + 1)
next_starting tx old rs more i l m h =
    let rest = starting tx (i + 1) (drop (i + 1) tx.outputs) in
    let n : suc i ≡ i + 1 = omega arith in
    record {
      entries =
          ap (λ (x : List OutputRef). x ++ rest) m ∙ append_assoc rs (one_start (id_of tx) tx i) rest
          ∙ ap (λ (x : List OutputRef). rs ++ x) (sym (next_starts tx i i tx.outputs l ∙ ap (λ k. one_start (id_of tx) tx i ++ starting tx (i + 1) (drop k tx.outputs)) n)) ∙ h.entries;
      grown = front_more old rs more (one_start (id_of tx) tx i) h.grown m;
      unstarted = λ j k. ap (λ (x : List OutputRef). is_among x (Made (id_of tx) j)) m ∙ still_unstarted tx rs i j (omega (arith, k)) (h.unstarted j (omega (arith, k)));
    }
