-- The datum that a transaction brings for a contract output that it spends is the one at which the rules read its step.
use Rattle.std.proofs.Common.{◌≡◌, ℕ, suc, Bool, true, false, ◌||◌, List, [], ◌∷◌, ◌++◌, refl, sym, ◌∙◌, ap, Option, Some, None, drop}
use Rattle.std.specs.Prelude.{map, if◌then◌else◌}
use Rattle.std.specs.List.{slice_get, list_any}
use Rattle.std.specs.Map.{lookup}
use Rattle.contract.specs.declared.input.Input.{Input}
use Rattle.roles.specs.Machine.declared.datum.Datum.{Datum}
use Rattle.roles.specs.EutxoTypes.declared.output.Output.{Output}
use Rattle.roles.specs.EutxoTypes.declared.output_ref.OutputRef.{OutputRef}
use Rattle.roles.specs.EutxoTypes.declared.spend.Spend.{Spend}
use Rattle.roles.specs.EutxoTypes.declared.tx.Tx.{Tx}
use Rattle.roles.specs.EutxoTypes.Digests.{datum_hash}
use Rattle.roles.specs.EutxoTypes.Parts.{given_to, inputs_of, ContractLock, contract_in, same_ref, is_step}
use Rattle.roles.specs.Eutxo.Laws.{FoundIsEnough}
use Rattle.roles.specs.Eutxo.Asked.{Judges}
use Rattle.roles.specs.Eutxo.Rules.{opens, digests_in, Step, or_step, steps_of}
use Rattle.ledger_laws.specs.Past.{Past, before, created, is_input_of, unspent_at}
use Rattle.ledger_laws.specs.Sound.{IsSound}
use Rattle.ledger_laws.specs.Threads.{brought_to}
use Rattle.ledger_laws.proofs.PlainLaws.{EachFalse, not_false, same_some}
use Rattle.ledger_laws.proofs.PartLaws.{contract_of_lock, is_contract_so}
use Rattle.ledger_laws.proofs.ReferenceLaws.{same_ref_so}
use Rattle.ledger_laws.proofs.DatumLaws.{told}
use Rattle.ledger_laws.proofs.PairedLemmas.{Paired, misfits, step_opens, contract_steps, first_told, none_told, held_with}
use Rattle.ledger_laws.proofs.AcceptedLaws.{spent_at, named_input}

-- a contract that is spent at a reference, at a datum, with inputs
abbrev pub step_for : OutputRef → ContractLock → Datum → List Input → Step
step_for r c d is = record { reference = r; script = c.script; datum = d; inputs = is }

-- of the contract that is spent at a reference: the datum that is brought and the inputs that are given are those of its step, and the
-- datum has the digest that is held
pub record BroughtFor (r : OutputRef) (c : ContractLock) (xs : List Spend) (ys : List (Spend × Output)) (ds : List Datum) : Type 0 where
  pub datum : Datum
  pub brought : brought_to r xs ds ≡ Some datum
  pub inputs : List Input
  pub given : given_to r xs ≡ Some inputs
  pub number : ℕ
  pub step : slice_get (steps_of ys ds) number ≡ Some (step_for r c datum inputs)
  pub digest : datum_hash datum ≡ c.digest
  pub place : ℕ
  pub there : slice_get ds place ≡ Some datum

-- what is no contract's isn't stepped
bare : (x : Spend × Output) → misfits x ≡ false → contract_in x.1.lock ≡ None → is_step x.0.redeemer ≡ false
bare x fits h = by (is_step x.0.redeemer) refl
  where
    by : (b : Bool) → is_step x.0.redeemer ≡ b → b ≡ false
    by true e =
        let c = contract_of_lock x.1.lock (step_opens x.0.redeemer x.1.lock e (not_false (opens x.0.redeemer x.1.lock) fits)) in
        let f : (let l : Option ContractLock = None in l) ≡ Some c.0 = sym h ∙ c.1 in
        cc
    by false e = refl

stepped : (x : Spend × Output) (c : ContractLock) → misfits x ≡ false → contract_in x.1.lock ≡ Some c → is_step x.0.redeemer ≡ true
stepped x c fits h = contract_steps x.0.redeemer x.1.lock (is_contract_so x.1.lock c h) (not_false (opens x.0.redeemer x.1.lock) fits)

module _ (find : OutputRef → Option Output) (r : OutputRef) (o : Output) (c : ContractLock) (finds : find r ≡ Some o) (contract : contract_in o.lock ≡ Some c) where
  -- the data for the inputs behind this one
  abbrev rest : Spend → List Datum → List Datum
  rest x ds = if is_step x.redeemer then drop 1 ds else ds

  abbrev brought_if : Bool → Spend → List Spend → List Datum → Option Datum
  brought_if b x xs ds = if b then slice_get ds 0 else brought_to r xs (rest x ds)

  abbrev given_if : Bool → Spend → List Spend → Option (List Input)
  given_if b x xs = if b then Some (inputs_of x.redeemer) else given_to r xs

  here : (x : Spend) (xs : List Spend) (y : Spend × Output) (ys : List (Spend × Output)) (ds : List Datum) (hs : List (List ℕ)) → same_ref x.reference r ≡ true → y.0 ≡ x → find x.reference ≡ Some y.1 →
      map datum_hash ds ≡ held_with (contract_in y.1.lock) ys hs → BroughtFor r c (x ∷ xs) (y ∷ ys) ds
  here x xs y ys ds hs e p f told = by ds told
    where
      name : x.reference ≡ r
      name = same_ref_so x.reference r e

      is : contract_in y.1.lock ≡ Some c
      is = ap (λ (z : Output). contract_in z.lock) (same_some y.1 o (sym f ∙ ap find name ∙ finds)) ∙ contract

      by : (ds : List Datum) → map datum_hash ds ≡ held_with (contract_in y.1.lock) ys hs → BroughtFor r c (x ∷ xs) (y ∷ ys) ds
      by [] told = absurd (none_told c.digest (digests_in (map (λ x. x.1) ys) ++ hs) (told ∙ ap (λ (l : Option ContractLock). held_with l ys hs) is))
      by (d ∷ ds) told = record {
        datum = d;
        brought = ap (λ (b : Bool). brought_if b x xs (d ∷ ds)) e;
        inputs = inputs_of x.redeemer;
        given = ap (λ (b : Bool). given_if b x xs) e;
        number = 0;
        step =
            ap (λ (l : Option ContractLock). slice_get (or_step l y.0 (d ∷ ds) (steps_of ys)) 0) is
            ∙ ap (λ (z : Spend). Some (step_for z.reference c d (inputs_of z.redeemer))) p
            ∙ ap (λ (q : OutputRef). Some (step_for q c d (inputs_of x.redeemer))) name;
        digest = (first_told d ds c.digest (digests_in (map (λ x. x.1) ys) ++ hs) (told ∙ ap (λ (l : Option ContractLock). held_with l ys hs) is)).0;
        place = 0;
        there = refl;
      }

  later : (x : Spend) (xs : List Spend) (y : Spend × Output) (ys : List (Spend × Output)) (ds : List Datum) (hs : List (List ℕ)) → same_ref x.reference r ≡ false → y.0 ≡ x → misfits y ≡ false →
      map datum_hash ds ≡ held_with (contract_in y.1.lock) ys hs → ((es : List Datum) → map datum_hash es ≡ digests_in (map (λ x. x.1) ys) ++ hs → BroughtFor r c xs ys es) → BroughtFor r c (x ∷ xs) (y ∷ ys) ds
  later x xs y ys ds hs e p fits told go = by (contract_in y.1.lock) refl ds told
    where
      others : (b : Bool) → is_step y.0.redeemer ≡ b → (ds : List Datum) → brought_to r (x ∷ xs) ds ≡ brought_to r xs (if b then drop 1 ds else ds)
      others b s ds = ap (λ (t : Bool). brought_if t x xs ds) e ∙ ap (λ (t : Bool). brought_to r xs (if t then drop 1 ds else ds)) (ap (λ (z : Spend). is_step z.redeemer) (sym p) ∙ s)

      by : (l : Option ContractLock) → contract_in y.1.lock ≡ l → (ds : List Datum) → map datum_hash ds ≡ held_with (contract_in y.1.lock) ys hs → BroughtFor r c (x ∷ xs) (y ∷ ys) ds
      by None is ds told =
          let s = go ds (told ∙ ap (λ (l : Option ContractLock). held_with l ys hs) is) in
          record {
            datum = s.datum;
            brought = others false (bare y fits is) ds ∙ s.brought;
            inputs = s.inputs;
            given = ap (λ (b : Bool). given_if b x xs) e ∙ s.given;
            number = s.number;
            step = ap (λ (l : Option ContractLock). slice_get (or_step l y.0 ds (steps_of ys)) s.number) is ∙ s.step;
            digest = s.digest;
            place = s.place;
            there = s.there;
          }
      by (Some m) is [] told = absurd (none_told m.digest (digests_in (map (λ x. x.1) ys) ++ hs) (told ∙ ap (λ (l : Option ContractLock). held_with l ys hs) is))
      by (Some m) is (d ∷ ds) told =
          let s = go ds (first_told d ds m.digest (digests_in (map (λ x. x.1) ys) ++ hs) (told ∙ ap (λ (l : Option ContractLock). held_with l ys hs) is)).1 in
          record {
            datum = s.datum;
            brought = others true (stepped y m fits is) (d ∷ ds) ∙ s.brought;
            inputs = s.inputs;
            given = ap (λ (b : Bool). given_if b x xs) e ∙ s.given;
            number = suc s.number;
            step = ap (λ (l : Option ContractLock). slice_get (or_step l y.0 (d ∷ ds) (steps_of ys)) (suc s.number)) is ∙ s.step;
            digest = s.digest;
            place = suc s.place;
            there = s.there;
          }

  brought_for : (xs : List Spend) (ys : List (Spend × Output)) (ds : List Datum) (hs : List (List ℕ)) → Paired find xs ys → EachFalse misfits ys → map datum_hash ds ≡ digests_in (map (λ x. x.1) ys) ++ hs →
      list_any (λ x. same_ref x.reference r) xs ≡ true → BroughtFor r c xs ys ds
  brought_for [] ys ds hs p kinds told named_r = cc
  brought_for (x ∷ xs) [] ds hs p kinds told named_r = absurd p
  brought_for (x ∷ xs) (y ∷ ys) ds hs p kinds told named_r = by (same_ref x.reference r) refl named_r (λ es t k. brought_for xs ys es hs p.2 kinds.1 t k)
    where
      by : (b : Bool) → same_ref x.reference r ≡ b → (b || list_any (λ z. same_ref z.reference r) xs) ≡ true →
          ((es : List Datum) → map datum_hash es ≡ digests_in (map (λ x. x.1) ys) ++ hs → list_any (λ z. same_ref z.reference r) xs ≡ true → BroughtFor r c xs ys es) → BroughtFor r c (x ∷ xs) (y ∷ ys) ds
      by true e k go = here x xs y ys ds hs e p.0 p.1 told
      by false e k go = later x xs y ys ds hs e p.0 kinds.0 told (λ es t. go es t k)

module _ {V : Type 0} (j : Judges V) (enough : FoundIsEnough j) (named : List ℕ → Option V) (past : Past) (sound : IsSound j named past) where
  -- so it is where an accepted transaction spends a contract's output
  pub brought_at : (n : ℕ) (tx : Tx) → (at : slice_get past.accepted n ≡ Some tx) → (r : OutputRef) (o : Output) (c : ContractLock) → is_input_of r tx ≡ true → lookup (same_ref r) (created past) ≡ Some o →
      contract_in o.lock ≡ Some c → BroughtFor r c tx.inputs (spent_at j enough named past sound n tx at).ys tx.datums
  brought_at n tx at r o c named_r out h =
      let s = spent_at j enough named past sound n tx at in
      let k = named_input j enough named past sound n tx at r o named_r out (is_contract_so o.lock c h) in
      let find = unspent_at (before past n) in
      brought_for find r o c (ap find (sym k.0.name) ∙ k.1.there) h tx.inputs s.ys tx.datums (digests_in tx.outputs) s.pairs s.kinds (told tx s.ys s.datums) named_r
