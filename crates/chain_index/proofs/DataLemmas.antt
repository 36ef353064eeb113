-- Data of the contracts that one transaction more makes, and of those of a past.
use Rattle.std.proofs.Common.{◌≡◌, ℕ, zero, suc, ◌+◌, ◌≤◌, ◌<◌, arith, Bool, true, false, ◌||◌, not, cond, List, [], ◌∷◌, ◌++◌, refl, sym, ◌∙◌, ap, subst, append_assoc, drop, length, filter, map, Option, Some, None}
use Rattle.std.specs.Prelude.{if◌then◌else◌, is_some, ◌==◌}
use Rattle.std.specs.Option.{option_map}
use Rattle.std.specs.Map.{lookup, keys_of}
use Rattle.std.proofs.lemmas.Bool.{eq-eqb}
use Rattle.std.proofs.lemmas.List.{map-append}
use Rattle.std.proofs.lemmas.Map.Entries.{lookup-filter-keys}
use Rattle.std.proofs.lemmas.Map.Made.{is_some-lookup}
use Rattle.ledger_spec.specs.Machine.declared.datum.Datum.{Datum}
use Rattle.ledger_spec.specs.EutxoTypes.declared.output.Output.{Output}
use Rattle.ledger_spec.specs.EutxoTypes.declared.output_ref.OutputRef.{OutputRef}
use Rattle.ledger_spec.specs.EutxoTypes.declared.output_ref.OutputRef.TheVariants.{Genesis, Made}
use Rattle.ledger_spec.specs.EutxoTypes.declared.tx.Tx.{Tx}
use Rattle.ledger_spec.specs.EutxoTypes.Ids.{id_of}
use Rattle.ledger_spec.specs.EutxoTypes.Parts.{Instance, same_bytes, same_ref, contract_at}
use Rattle.ledger_spec.specs.Eutxo.Faults.{first_of}
use Rattle.ledger_spec.specs.LedgerLaws.Past.{with_references, created_by, is_spent, has_id}
use Rattle.ledger_spec.proofs.FromLedgerLaws.PlainLaws.{and_true, both, both_false, no_more, not_both}
use Rattle.ledger_spec.proofs.FromLedgerLaws.PartLaws.{under_so}
use Rattle.ledger_spec.proofs.FromLedgerLaws.ReferenceLaws.{same_ref_so, lookup_front, lookup_back, unspent_so, at_place, itself}
use Rattle.ledger_spec.specs.Views.{instance_in}
use Rattle.chain_index.specs.declared.naming.Naming.TheVariants as whose
use Rattle.chain_index.specs.Contents.{is_among}
use Rattle.chain_index.specs.Data.{datum_in, with_datum, data_under, data_by, data_of}
use Rattle.chain_index.specs.HolesSupport.{known}
use Rattle.chain_index.specs.Laws.{DataAlike}
use Rattle.chain_index.specs.NamingSupport.{slots}
use Rattle.chain_index.specs.PartsSupport.{IsFront, one_datum}
use Rattle.chain_index.proofs.FrontLemmas.{front_more}
use Rattle.chain_index.proofs.OutputLemmas.{names_differ}
use Rattle.chain_index.proofs.RefLemmas.{among_more, or_elim}

-- ---- what is brought for an output

-- a contract that is made stands in one of the outputs of its transaction
pub made_among : (tx : Tx) (id : List ℕ) (i : ℕ) (c : Instance) → has_id id tx ≡ true → contract_at tx i ≡ Some c → is_among (keys_of (created_by tx)) (Made id i) ≡ true
made_among tx id i c a h =
    let o = under_so tx i c h in
    let name : Made (id_of tx) i ≡ Made id i = sym (same_ref_so (Made id i) (Made (id_of tx) i) (both (same_bytes id (id_of tx)) (i == i) a (eq-eqb i i refl))) in
    subst (λ (q : OutputRef). is_among (keys_of (created_by tx)) q ≡ true) name
    (sym (is_some-lookup (same_ref (Made (id_of tx) i)) (created_by tx)) ∙ ap is_some (at_place (id_of tx) i tx.outputs ∙ o.1))

datum_among : (r : OutputRef) (tx : Tx) (d : Datum) → datum_in r tx ≡ Some d → is_among (keys_of (created_by tx)) r ≡ true
datum_among (Genesis i) tx d h = cc
datum_among (Made id i) tx d h = by (has_id id tx) refl (contract_at tx i) refl h
  where
    by : (b : Bool) → has_id id tx ≡ b → (c : Option Instance) → contract_at tx i ≡ c → option_map (λ (z : Instance). z.datum) (if b then c else None) ≡ Some d → is_among (keys_of (created_by tx)) (Made id i) ≡ true
    by true e (Some c) k h = made_among tx id i c e k
    by true e None k h = cc
    by false e c k h = cc

none_if : (b : Bool) → (let o : Option Datum = if b then None else None in o) ≡ None
none_if true = refl
none_if false = refl

lookup_under : (tx : Tx) (r : OutputRef) (rs : List OutputRef) → lookup (same_ref r) (data_under tx rs) ≡ (if is_among rs r then datum_in r tx else None)
lookup_under tx r [] = refl
lookup_under tx r (q ∷ rs) = by (same_ref r q) refl (datum_in q tx) refl (lookup_under tx r rs)
  where
    by : (b : Bool) → same_ref r q ≡ b → (o : Option Datum) → datum_in q tx ≡ o → lookup (same_ref r) (data_under tx rs) ≡ (if is_among rs r then datum_in r tx else None) →
        lookup (same_ref r) (with_datum q o (data_under tx rs)) ≡ (if b || is_among rs r then datum_in r tx else None)
    by true e None k go =
        let n : datum_in r tx ≡ None = ap (λ (z : OutputRef). datum_in z tx) (same_ref_so r q e) ∙ k in
        go ∙ ap (λ (o : Option Datum). if is_among rs r then o else None) n ∙ none_if (is_among rs r) ∙ sym n
    by true e (Some d) k go =
        ap (λ b. cond b (Some d) (lookup (same_ref r) (data_under tx rs))) e ∙ sym (ap (λ (z : OutputRef). datum_in z tx) (same_ref_so r q e) ∙ k)
    by false e None k go = go
    by false e (Some d) k go = ap (λ b. cond b (Some d) (lookup (same_ref r) (data_under tx rs))) e ∙ go

lookup_by : (tx : Tx) (r : OutputRef) → lookup (same_ref r) (data_by tx) ≡ datum_in r tx
lookup_by tx r = lookup_under tx r (keys_of (created_by tx)) ∙ by (is_among (keys_of (created_by tx)) r) refl (datum_in r tx) refl
  where
    by : (b : Bool) → is_among (keys_of (created_by tx)) r ≡ b → (o : Option Datum) → datum_in r tx ≡ o → (if b then o else None) ≡ o
    by true e o k = refl
    by false e None k = refl
    by false e (Some d) k = absurd (not_both (datum_among r tx d k) e)

lookup_of : (txs : List Tx) (r : OutputRef) → lookup (same_ref r) (data_of txs) ≡ option_map (λ (c : Instance). c.datum) (first_of (map (instance_in r) txs))
lookup_of [] r = refl
lookup_of (tx ∷ txs) r = by (instance_in r tx) refl (lookup_of txs r)
  where
    by : (o : Option Instance) → instance_in r tx ≡ o → lookup (same_ref r) (data_of txs) ≡ option_map (λ (c : Instance). c.datum) (first_of (map (instance_in r) txs)) →
        lookup (same_ref r) (data_by tx ++ data_of txs) ≡ option_map (λ (c : Instance). c.datum) (first_of (o ∷ map (instance_in r) txs))
    by None e go = lookup_back (same_ref r) (data_by tx) (data_of txs) (lookup_by tx r ∙ ap (option_map (λ (c : Instance). c.datum)) e) ∙ go
    by (Some c) e go = lookup_front (same_ref r) (data_by tx) (data_of txs) c.datum (lookup_by tx r ∙ ap (option_map (λ (c : Instance). c.datum)) e)

pub data_alike : DataAlike
data_alike ps past r o h =
    lookup-filter-keys (same_ref r) (λ q. not (is_spent past.accepted q)) (not (is_spent past.accepted r))
    (λ q k. ap (λ (s : OutputRef). not (is_spent past.accepted s)) (sym (same_ref_so r q k))) (data_of past.accepted)
    ∙ ap (λ (b : Bool). cond (not b) (lookup (same_ref r) (data_of past.accepted)) None) (unspent_so past r o h).0
    ∙ lookup_of past.accepted r

-- ---- one transaction more

pub data_after : (txs : List Tx) (tx : Tx) → data_of (txs ++ tx ∷ []) ≡ data_of txs ++ data_by tx
data_after [] tx = no_more (data_by tx)
data_after (t ∷ txs) tx = ap (λ (l : List (OutputRef × Datum)). data_by t ++ l) (data_after txs tx) ∙ sym (append_assoc (data_by t) (data_of txs) (data_by tx))

-- data of outputs that all stay
pub data_stay : (p : OutputRef → Bool) (tx : Tx) (n : List ℕ) (k : ℕ) (os : List Output) → ((i : ℕ) → p (Made n i) ≡ false) →
    filter (λ e. not (p e.0)) (data_under tx (keys_of (with_references (λ j. Made n j) k os))) ≡ data_under tx (keys_of (with_references (λ j. Made n j) k os))
data_stay p tx n k [] h = refl
data_stay p tx n k (o ∷ os) h = by (datum_in (Made n k) tx) (data_stay p tx n (k + 1) os h)
  where
    rest : List (OutputRef × Datum)
    rest = data_under tx (keys_of (with_references (λ j. Made n j) (k + 1) os))

    by : (d : Option Datum) → filter (λ e. not (p e.0)) rest ≡ rest → filter (λ e. not (p e.0)) (with_datum (Made n k) d rest) ≡ with_datum (Made n k) d rest
    by None go = go
    by (Some d) go =
        ap (λ b. cond (not b) ((Made n k, d) ∷ filter (λ e. not (p e.0)) rest) (filter (λ e. not (p e.0)) rest)) (h k)
        ∙ ap (λ (l : List (OutputRef × Datum)). (Made n k, d) ∷ l) go

pub data_known : (tx : Tx) (n : List ℕ) (k : ℕ) (os : List Output) (id : List ℕ) (i : ℕ) → is_among (known (slots (data_under tx (keys_of (with_references (λ j. Made n j) k os))))) (Made id i) ≡ true → same_bytes id n ≡ true
data_known tx n k [] id i h = cc
data_known tx n k (o ∷ os) id i h = by (datum_in (Made n k) tx) h (data_known tx n (k + 1) os id i)
  where
    rest : List (OutputRef × Datum)
    rest = data_under tx (keys_of (with_references (λ j. Made n j) (k + 1) os))

    by : (d : Option Datum) → is_among (known (slots (with_datum (Made n k) d rest))) (Made id i) ≡ true → (is_among (known (slots rest)) (Made id i) ≡ true → same_bytes id n ≡ true) → same_bytes id n ≡ true
    by None h go = go h
    by (Some d) h go = or_elim (same_ref (Made id i) (Made n k)) (is_among (known (slots rest)) (Made id i)) h (λ q. (and_true (same_bytes id n) (i == k) q).0) go

-- ---- a loop over the places of outputs

-- of outputs from a place on, the data of contracts
abbrev pub bringing : Tx → ℕ → List Output → List (OutputRef × Datum)
bringing tx i os = data_under tx (keys_of (with_references (λ j. Made (id_of tx) j) i os))

next_brought : (tx : Tx) (i k : ℕ) (os : List Output) → k < length os → bringing tx i (drop k os) ≡ one_datum (Made (id_of tx) i) (contract_at tx i) ++ bringing tx (i + 1) (drop (suc k) os)
next_brought tx i k [] l = absurd (none l)
  where
    none : k < 0 → ⊥
    none h = omega (arith, h)
next_brought tx i zero (o ∷ os) l =
    ap (λ b. with_datum (Made (id_of tx) i) (option_map (λ (c : Instance). c.datum) (if b then contract_at tx i else None)) (bringing tx (i + 1) os)) (itself (id_of tx)) ∙ by (contract_at tx i)
  where
    by : (c : Option Instance) → with_datum (Made (id_of tx) i) (option_map (λ (c : Instance). c.datum) c) (bringing tx (i + 1) os) ≡ one_datum (Made (id_of tx) i) c ++ bringing tx (i + 1) os
    by None = refl
    by (Some c) = refl
next_brought tx i (suc k) (o ∷ os) l = next_brought tx i k os (omega (arith, l))

slots_both : {V : Type 0} (xs ys : List (OutputRef × V)) → slots (xs ++ ys) ≡ slots xs ++ slots ys
slots_both [] ys = refl
slots_both {V} (x ∷ xs) ys = ap (λ (l : List (OutputRef × Option V)). (x.0, Some x.1) ∷ l) (slots_both xs ys)

pub record AreBringing (tx : Tx) (old es : List (OutputRef × Option Datum)) (i : ℕ) : Type 0 where
  pub entries : es ++ slots (bringing tx i (drop i tx.outputs)) ≡ old ++ slots (data_by tx)
  pub grown : IsFront old es
  pub absent : (j : ℕ) → i ≤ j → is_among (known es) (Made (id_of tx) j) ≡ false

still_absent : (tx : Tx) (es : List (OutputRef × Option Datum)) (i j : ℕ) → i < j → is_among (known es) (Made (id_of tx) j) ≡ false →
    is_among (known (es ++ slots (one_datum (Made (id_of tx) i) (contract_at tx i)))) (Made (id_of tx) j) ≡ false
still_absent tx es i j l h = by (contract_at tx i)
  where
    r : OutputRef
    r = Made (id_of tx) j

    by : (c : Option Instance) → is_among (known (es ++ slots (one_datum (Made (id_of tx) i) c))) r ≡ false
    by None = ap (λ (l : List (OutputRef × Option Datum)). is_among (known l) r) (no_more es) ∙ h
    by (Some c) =
        ap (λ (l : List OutputRef). is_among l r) (map-append (λ e. e.0) es ((Made (id_of tx) i, Some c.datum) ∷ []))
        ∙ among_more (known es) (Made (id_of tx) i) r
        ∙ both_false (is_among (known es) r) (same_ref (Made (id_of tx) i) r) h (names_differ (whose.Made (id_of tx)) i j l)

pub next_bringing : (tx : Tx) (old es more : List (OutputRef × Option Datum)) (i : ℕ) → i < length tx.outputs → more ≡ es ++ slots (one_datum (Made (id_of tx) i) (contract_at tx i)) → AreBringing tx old es i →
    AreBringing tx old more (i + 1)
next_bringing tx old es more i l m h =
    let one = one_datum (Made (id_of tx) i) (contract_at tx i) in
    let rest = bringing tx (i + 1) (drop (i + 1) tx.outputs) in
    let n : suc i ≡ i + 1 = omega arith in
    record {
      entries =
          ap (λ (x : List (OutputRef × Option Datum)). x ++ slots rest) m ∙ append_assoc es (slots one) (slots rest)
          ∙ ap (λ (x : List (OutputRef × Option Datum)). es ++ x)
          (sym (ap slots (next_brought tx i i tx.outputs l ∙ ap (λ k. one ++ bringing tx (i + 1) (drop k tx.outputs)) n) ∙ slots_both one rest)) ∙ h.entries;
      grown = front_more old es more (slots one) h.grown m;
      absent = λ j k. ap (λ (x : List (OutputRef × Option Datum)). is_among (known x) (Made (id_of tx) j)) m ∙ still_absent tx es i j (omega (arith, k)) (h.absent j (omega (arith, k)));
    }
