-- What a transaction decides depends on the answers of the scripts that it and the outputs that it spends name.
use Rattle.std.proofs.Common.{◌≡◌, ℕ, zero, suc, ◌+◌, Bool, true, false, not, ◌&&◌, List, [], ◌∷◌, ◌++◌, Option, Some, None, refl, ◌∙◌, ap, subst}
use Rattle.std.specs.Prelude.{if◌then◌else◌, is_some, slice_get, take}
use Rattle.std.specs.List.{list_all, AllByRecursion}
use Rattle.std.specs.Option.{option_map}
use Rattle.eutxo_types.specs.Bundle.Bundles.{Amounts}
use Rattle.eutxo_types.specs.Machine.declared.datum.Datum.{Datum}
use Rattle.eutxo_types.specs.declared.fault.TxFault.{TxFault}
use Rattle.eutxo_types.specs.declared.fault.TxFault.TheVariants.{WrongStart}
use Rattle.eutxo.specs.declared.validator.StepAnswer.{StepAnswer}
use Rattle.eutxo_types.specs.declared.lock.Lock.{Lock}
use Rattle.eutxo_types.specs.declared.lock.Lock.TheVariants.{Key, Payout, Contract}
use Rattle.eutxo_types.specs.declared.output.Output.{Output}
use Rattle.eutxo_types.specs.declared.spend.Spend.{Spend}
use Rattle.eutxo_types.specs.declared.tx.Tx.{Tx}
use Rattle.eutxo.specs.declared.resolved.Resolved.{Resolved}
use Rattle.eutxo.specs.Asked.{Judges, Stepping}
use Rattle.eutxo.specs.Found.{script_at, is_known, all_known, with_outputs, if_known}
use Rattle.eutxo.specs.Judgement.{name_in, made_names, found_names, names_of}
use Rattle.eutxo.specs.Laws.{AnswerAlike, Agree}
use Rattle.eutxo.specs.Blocks.{Block, answer_by, blocks, blocks_on, places_in, block_fault, step_fault, step_fault_unless}
use Rattle.eutxo.specs.BlockLaws.{AnswerAll}
use Rattle.eutxo.specs.Local.{spent_fault, whole_fault, tx_fault, local, places_of}
use Rattle.eutxo_types.specs.Parts.{script_in, contract_in, contract_of, contract_count, made_datums, with_datum, contract_at}
use Rattle.eutxo.specs.Faults.{first_of, or_else, first_index}
use Rattle.eutxo.specs.Rules.{Step, or_step, steps_of, starts_wrong, starts_wrong_at, not_signed, too_many_contracts, wrong_redeemer, role_missing, not_preserved, wrong_datum}
use Rattle.eutxo.proofs.AlikeLemmas.{blocks_are_alike}

pub all_append : {A : Type 0} (P : A → Type 0) (xs ys : List A) → AllByRecursion P (xs ++ ys) → AllByRecursion P xs × AllByRecursion P ys
all_append P [] ys h = (tt, h)
all_append P (x ∷ xs) ys h = let parts = all_append P xs ys h.1 in ((h.0, parts.0), parts.1)

module _ {V : Type 0} (j : Judges V) where
  some_alike : (x y : Option V) → AnswerAlike j x y → is_some x ≡ is_some y
  some_alike None None h = refl
  some_alike None (Some w) h = absurd h
  some_alike (Some v) None h = absurd h
  some_alike (Some v) (Some w) h = refl

  start_alike : (d : Datum) (held : Amounts) (x y : Option V) → AnswerAlike j x y → starts_wrong_at j x d held ≡ starts_wrong_at j y d held
  start_alike d held None None h = refl
  start_alike d held None (Some w) h = absurd h
  start_alike d held (Some v) None h = absurd h
  start_alike d held (Some v) (Some w) h = ap not (h.1 d held)

  answer_alike : (s : Stepping) (x y : Option V) → AnswerAlike j x y → answer_by j x s ≡ answer_by j y s
  answer_alike s None None h = refl
  answer_alike s None (Some w) h = absurd h
  answer_alike s (Some v) None h = absurd h
  answer_alike s (Some v) (Some w) h = h.0 s

module _ {V : Type 0} (j : Judges V) (named other : List ℕ → Option V) where
  abbrev Alike : List ℕ → Type 0
  Alike id = AnswerAlike j (named id) (other id)

  abbrev AlikeIn : Lock → Type 0
  AlikeIn l = AllByRecursion Alike (name_in (script_in l))

  abbrev AlikeMade : List Output → Type 0
  AlikeMade [] = Unit {0}
  AlikeMade (o ∷ os) = AlikeIn o.lock × AlikeMade os

  abbrev AlikeFound : List (Option Output) → Type 0
  AlikeFound [] = Unit {0}
  AlikeFound (None ∷ os) = AlikeFound os
  AlikeFound (Some o ∷ os) = AlikeIn o.lock × AlikeFound os

  abbrev AlikeSpent : List (Spend × Output) → Type 0
  AlikeSpent [] = Unit {0}
  AlikeSpent (y ∷ ys) = AlikeIn y.1.lock × AlikeSpent ys

  made_alike : (os : List Output) → AllByRecursion Alike (made_names os) → AlikeMade os
  made_alike [] h = tt
  made_alike (o ∷ os) h = let parts = all_append Alike (name_in (script_in o.lock)) (made_names os) h in (parts.0, made_alike os parts.1)

  found_alike : (os : List (Option Output)) → AllByRecursion Alike (found_names os) → AlikeFound os
  found_alike [] h = tt
  found_alike (None ∷ os) h = found_alike os h
  found_alike (Some o ∷ os) h = let parts = all_append Alike (name_in (script_in o.lock)) (found_names os) h in (parts.0, found_alike os parts.1)

  spent_alike : (xs : List Spend) (os : List (Option Output)) → AlikeFound os → (ys : List (Spend × Output)) → with_outputs xs os ≡ Some ys → AlikeSpent ys
  spent_alike [] os h [] e = tt
  spent_alike [] os h (y ∷ ys) e = cc
  spent_alike (x ∷ xs) [] h ys e = cc
  spent_alike (x ∷ xs) (None ∷ os) h ys e = cc
  spent_alike (x ∷ xs) (Some o ∷ os) h ys e = by (with_outputs xs os) refl e (spent_alike xs os h.1)
    where
      by : (r : Option (List (Spend × Output))) → with_outputs xs os ≡ r → option_map (λ zs. (x, o) ∷ zs) r ≡ Some ys → ((zs : List (Spend × Output)) → with_outputs xs os ≡ Some zs → AlikeSpent zs) → AlikeSpent ys
      by None q f go = cc
      by (Some zs) q f go = let s : (x, o) ∷ zs ≡ ys = cc in subst AlikeSpent s (h.0, go zs q)

  same_known : (l : Lock) → AlikeIn l → is_known named l ≡ is_known other l
  same_known (Key a) h = refl
  same_known (Payout c r) h = refl
  same_known (Contract script d) h = some_alike j (named script) (other script) h.0

  all_made : (os : List Output) → AlikeMade os → list_all (λ o. is_known named o.lock) os ≡ list_all (λ o. is_known other o.lock) os
  all_made [] h = refl
  all_made (o ∷ os) h = ap (λ b. b && list_all (λ o. is_known named o.lock) os) (same_known o.lock h.0) ∙ ap (λ b. is_known other o.lock && b) (all_made os h.1)

  all_spent : (ys : List (Spend × Output)) → AlikeSpent ys → list_all (λ x. is_known named x.1.lock) ys ≡ list_all (λ x. is_known other x.1.lock) ys
  all_spent [] h = refl
  all_spent (y ∷ ys) h = ap (λ b. b && list_all (λ x. is_known named x.1.lock) ys) (same_known y.1.lock h.0) ∙ ap (λ b. is_known other y.1.lock && b) (all_spent ys h.1)

  same_start : (held : Amounts) (d : Option Datum) (l : Lock) → AlikeIn l → starts_wrong j named held (with_datum (contract_in l) d) ≡ starts_wrong j other held (with_datum (contract_in l) d)
  same_start held d (Key a) h = refl
  same_start held d (Payout c r) h = refl
  same_start held None (Contract script digest) h = refl
  same_start held (Some d) (Contract script digest) h = start_alike j d held (named script) (other script) h.0

  same_at : (os : List Output) → AlikeMade os → (d : Option Datum) (i : ℕ) (held : Amounts) →
      starts_wrong j named held (with_datum (contract_of (slice_get os i)) d) ≡ starts_wrong j other held (with_datum (contract_of (slice_get os i)) d)
  same_at [] h d i held = refl
  same_at (o ∷ os) h d zero held = same_start held d o.lock h.0
  same_at (o ∷ os) h d (suc i) held = same_at os h.1 d i held

  same_places : (tx : Tx) → AlikeMade tx.outputs → (k : ℕ) (os : List Output) →
      first_index (λ i (o : Output). starts_wrong j named o.amount (contract_at tx i)) k os ≡ first_index (λ i (o : Output). starts_wrong j other o.amount (contract_at tx i)) k os
  same_places tx m k [] = refl
  same_places tx m k (o ∷ os) =
      ap (λ b. if b then Some k else first_index (λ i (o : Output). starts_wrong j named o.amount (contract_at tx i)) (k + 1) os) (same_at tx.outputs m (slice_get (made_datums tx) (contract_count (take k tx.outputs))) k o.amount)
      ∙ ap (λ r. if starts_wrong j other o.amount (contract_at tx k) then Some k else r) (same_places tx m (k + 1) os)

  all_if : (l : Lock) (x : Spend) (ds : List Datum) (later : List Datum → List Step) → AlikeIn l → ((es : List Datum) → AnswerAll j named other (later es)) → AnswerAll j named other (or_step (contract_in l) x ds later)
  all_if (Key a) x ds later h go = go ds
  all_if (Payout c r) x ds later h go = go ds
  all_if (Contract script digest) x [] later h go = tt
  all_if (Contract script digest) x (d ∷ ds) later h go = (λ s. answer_alike j s (named script) (other script) h.0, go ds)

  all_alike : (ys : List (Spend × Output)) (ds : List Datum) → AlikeSpent ys → AnswerAll j named other (steps_of ys ds)
  all_alike [] ds h = tt
  all_alike (y ∷ ys) ds h = all_if y.1.lock y.0 ds (steps_of ys) h.0 (λ es. all_alike ys es h.1)

  same_step : (tx : Tx) (ys : List (Spend × Output)) → AlikeMade tx.outputs → (zs : List Step) → AnswerAll j named other zs → step_fault j named tx ys zs ≡ step_fault j other tx ys zs
  same_step tx ys m [] h = ap (option_map WrongStart) (same_places tx m 0 tx.outputs)
  same_step tx ys m (z ∷ zs) h = ap (λ (bs : List Block). block_fault bs tx.outputs) (blocks_are_alike j named other tx ys (z ∷ zs) 0 h)

  same_unless : (tx : Tx) (ys : List (Spend × Output)) → AlikeMade tx.outputs → AlikeSpent ys → (w : Option TxFault) → step_fault_unless w j named tx ys ≡ step_fault_unless w j other tx ys
  same_unless tx ys m s None = same_step tx ys m (steps_of ys tx.datums) (all_alike ys tx.datums s)
  same_unless tx ys m s (Some fault) = refl

  same_spent : (tx : Tx) (ys : List (Spend × Output)) → AlikeMade tx.outputs → AlikeSpent ys → spent_fault j named tx ys ≡ spent_fault j other tx ys
  same_spent tx ys m s =
      ap (λ f. first_of (not_signed tx.signers ys ∷ too_many_contracts ys ∷ wrong_redeemer ys ∷ role_missing j ys ∷ f ∷ not_preserved ys tx.outputs ∷ wrong_datum tx ys ∷ [])) (same_unless tx ys m s (wrong_datum tx ys))

  -- what is read of these outputs alike is read alike where nothing is missing
  same_whole : {X : Type 0} (g h : Option (List (Spend × Output)) → X) → g None ≡ h None → ((ys : List (Spend × Output)) → AlikeSpent ys → g (Some ys) ≡ h (Some ys)) → (os : List Output) → AlikeMade os →
      (o : Option (List (Spend × Output))) → ((ys : List (Spend × Output)) → o ≡ Some ys → AlikeSpent ys) → g (if_known named os o) ≡ h (if_known other os o)
  same_whole g h n go os m None a = n
  same_whole g h n go os m (Some ys) a =
      let s = a ys refl in
      ap (λ b. g (if b then Some ys else None))
      (ap (λ b. b && list_all (λ x. is_known named x.1.lock) ys) (all_made os m) ∙ ap (λ b. list_all (λ o. is_known other o.lock) os && b) (all_spent ys s))
      ∙ by (all_known other os ys) s
    where
      by : (b : Bool) → AlikeSpent ys → g (if b then Some ys else None) ≡ h (if b then Some ys else None)
      by true s = go ys s
      by false s = n

  -- where the scripts that are named answer alike, so do the rules
  pub alike_decide : (tx : Tx) (os : List (Option Output)) → AllByRecursion Alike (names_of tx os) →
      whole_fault j named tx (if_known named tx.outputs (with_outputs tx.inputs os)) ≡ whole_fault j other tx (if_known other tx.outputs (with_outputs tx.inputs os))
  alike_decide tx os h =
      let parts = all_append Alike (made_names tx.outputs) (found_names os) h in
      let made = made_alike tx.outputs parts.0 in
      same_whole (whole_fault j named tx) (whole_fault j other tx) refl (λ ys s. same_spent tx ys made s) tx.outputs made (with_outputs tx.inputs os) (spent_alike tx.inputs os (found_alike os parts.1))

  -- and contracts go on in the same places
  pub alike_go_on : (tx : Tx) (os : List (Option Output)) → AllByRecursion Alike (names_of tx os) →
      places_in (blocks_on j named tx (if_known named tx.outputs (with_outputs tx.inputs os))) ≡ places_in (blocks_on j other tx (if_known other tx.outputs (with_outputs tx.inputs os)))
  alike_go_on tx os h =
      let parts = all_append Alike (made_names tx.outputs) (found_names os) h in
      ap places_in
      (same_whole (blocks_on j named tx) (blocks_on j other tx) refl (λ ys s. blocks_are_alike j named other tx ys (steps_of ys tx.datums) 0 (all_alike ys tx.datums s)) tx.outputs (made_alike tx.outputs parts.0) (with_outputs tx.inputs os)
      (spent_alike tx.inputs os (found_alike os parts.1)))

module _ {V : Type 0} (j : Judges V) where
  -- resolutions that agree decide alike
  pub agreeing_decide : (tx : Tx) (a b : Resolved V) → Agree j tx a b → local j tx a ≡ local j tx b
  agreeing_decide tx a b h =
      ap (or_else (tx_fault tx))
      (alike_decide j (script_at a.scripts) (script_at b.scripts) tx a.outputs h.scripts
      ∙ ap (λ os. whole_fault j (script_at b.scripts) tx (if_known (script_at b.scripts) tx.outputs (with_outputs tx.inputs os))) h.outputs)

  pub agreeing_go_on : (tx : Tx) (a b : Resolved V) → Agree j tx a b → places_of j tx a ≡ places_of j tx b
  agreeing_go_on tx a b h =
      alike_go_on j (script_at a.scripts) (script_at b.scripts) tx a.outputs h.scripts
      ∙ ap (λ os. places_in (blocks_on j (script_at b.scripts) tx (if_known (script_at b.scripts) tx.outputs (with_outputs tx.inputs os)))) h.outputs
