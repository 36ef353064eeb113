-- Inputs with the outputs that they find, and the contracts among them.
use Rattle.std.proofs.Common.{◌≡◌, ℕ, zero, suc, Bool, true, false, not, ◌||◌, List, [], ◌∷◌, ◌++◌, refl, sym, ◌∙◌, ap, Option, Some, None}
use Rattle.std.specs.Prelude.{is_none, map, if◌then◌else◌}
use Rattle.std.specs.List.{slice_get, list_any, list_all}
use Rattle.roles.specs.Machine.declared.datum.Datum.{Datum}
use Rattle.roles.specs.EutxoTypes.declared.lock.Lock.{Lock}
use Rattle.roles.specs.EutxoTypes.declared.lock.Lock.TheVariants.{Key, Payout, Contract}
use Rattle.roles.specs.EutxoTypes.declared.output.Output.{Output}
use Rattle.roles.specs.EutxoTypes.declared.output_ref.OutputRef.{OutputRef}
use Rattle.roles.specs.EutxoTypes.declared.redeemer.Redeemer.{Redeemer}
use Rattle.roles.specs.EutxoTypes.declared.redeemer.Redeemer.TheVariants as with
use Rattle.roles.specs.EutxoTypes.declared.spend.Spend.{Spend}
use Rattle.roles.specs.EutxoTypes.Digests.{datum_hash}
use Rattle.roles.specs.Eutxo.Found.{with_output, with_outputs, is_known}
use Rattle.roles.specs.Eutxo.Rules.{opens, digest_in, digests_in, Step, or_step, steps_of}
use Rattle.roles.specs.EutxoTypes.Parts.{given_to, inputs_of, is_contract, ContractLock, contract_in, same_ref, is_step}
use Rattle.ledger_laws.proofs.PlainLaws.{EachFalse, not_both, not_false, both, some_of, same_some, each_at, any_at}
use Rattle.ledger_laws.proofs.PartLaws.{is_contract_so}
use Rattle.ledger_laws.proofs.ReferenceLaws.{same_ref_so}

-- each input beside the output that it finds
abbrev pub Paired : (OutputRef → Option Output) → List Spend → List (Spend × Output) → Type 0
Paired find [] [] = Unit {0}
Paired find (x ∷ xs) (y ∷ ys) = (y.0 ≡ x) × (find x.reference ≡ Some y.1) × Paired find xs ys
Paired find [] (y ∷ ys) = ⊥
Paired find (x ∷ xs) [] = ⊥

pub paired : (find : OutputRef → Option Output) (xs : List Spend) → EachFalse (λ x. is_none (find x.reference)) xs →
    (ys : List (Spend × Output)) × (with_outputs xs (map (λ x. find x.reference) xs) ≡ Some ys) × Paired find xs ys
paired find [] h = ([], refl, tt)
paired find (x ∷ xs) h =
    let s = some_of (find x.reference) h.0 in
    let p = paired find xs h.1 in (
      (x, s.0) ∷ p.0,
      ap (λ o. with_output x o (with_outputs xs (map (λ x. find x.reference) xs))) s.1 ∙ ap (λ r. with_output x (Some s.0) r) p.1,
      (refl, s.1, p.2),
    )

pub spent_known : {V : Type 0} (named : List ℕ → Option V) (find : OutputRef → Option Output) → ((r : OutputRef) (o : Output) → find r ≡ Some o → is_known named o.lock ≡ true) →
    (xs : List Spend) (ys : List (Spend × Output)) → Paired find xs ys → list_all (λ x. is_known named x.1.lock) ys ≡ true
spent_known named find k [] [] p = refl
spent_known named find k [] (y ∷ ys) p = absurd p
spent_known named find k (x ∷ xs) [] p = absurd p
spent_known named find k (x ∷ xs) (y ∷ ys) p = both (is_known named y.1.lock) (list_all (λ x. is_known named x.1.lock) ys) (k x.reference y.1 p.1) (spent_known named find k xs ys p.2)

-- ---- by place

-- beside the input at a place stands what it finds
pub pair_at : (find : OutputRef → Option Output) (i : ℕ) (x : Spend) (xs : List Spend) (ys : List (Spend × Output)) → Paired find xs ys → slice_get xs i ≡ Some x →
    (o : Output) × (slice_get ys i ≡ Some (x, o)) × (find x.reference ≡ Some o)
pair_at find i x [] ys p h = cc
pair_at find i x (z ∷ xs) [] p h = absurd p
pair_at find zero x (z ∷ xs) (y ∷ ys) p h =
    let q : z ≡ x = same_some z x h in
    (y.1, ap (λ (w : Spend). Some (let v : Spend × Output = (w, y.1) in v)) (p.0 ∙ q), ap (λ (w : Spend). find w.reference) (sym q) ∙ p.1)
pair_at find (suc i) x (z ∷ xs) (y ∷ ys) p h = pair_at find i x xs ys p.2 h

-- and back
pub input_at : (find : OutputRef → Option Output) (i : ℕ) (y : Spend × Output) (xs : List Spend) (ys : List (Spend × Output)) → Paired find xs ys → slice_get ys i ≡ Some y →
    (slice_get xs i ≡ Some y.0) × (find y.0.reference ≡ Some y.1)
input_at find i y [] [] p h = cc
input_at find i y [] (z ∷ ys) p h = absurd p
input_at find i y (x ∷ xs) [] p h = absurd p
input_at find zero y (x ∷ xs) (z ∷ ys) p h =
    let q : z ≡ y = same_some z y h in
    let e : x ≡ y.0 = sym p.0 ∙ ap (λ (w : Spend × Output). w.0) q in
    (ap (λ (w : Spend). Some w) e, ap (λ (w : Spend). find w.reference) (sym e) ∙ p.1 ∙ ap (λ (w : Spend × Output). Some w.1) q)
input_at find (suc i) y (x ∷ xs) (z ∷ ys) p h = input_at find i y xs ys p.2 h

-- the inputs are those of the pairs
pub pairs_of : (find : OutputRef → Option Output) (xs : List Spend) (ys : List (Spend × Output)) → Paired find xs ys → xs ≡ map (λ y. y.0) ys
pairs_of find [] [] p = refl
pairs_of find [] (y ∷ ys) p = absurd p
pairs_of find (x ∷ xs) [] p = absurd p
pairs_of find (x ∷ xs) (y ∷ ys) p = ap (λ (z : Spend). z ∷ xs) (sym p.0) ∙ ap (λ (zs : List Spend). y.0 ∷ zs) (pairs_of find xs ys p.2)

-- the first input that names an output
pub record NamedAt (r : OutputRef) (xs : List Spend) : Type 0 where
  pub index : ℕ
  pub input : Spend
  pub at : slice_get xs index ≡ Some input
  pub name : input.reference ≡ r
  pub given : given_to r xs ≡ Some (inputs_of input.redeemer)

pub named_at : (r : OutputRef) (xs : List Spend) → list_any (λ x. same_ref x.reference r) xs ≡ true → NamedAt r xs
named_at r [] h = cc
named_at r (x ∷ xs) h = by (same_ref x.reference r) refl h (named_at r xs)
  where
    given : (b : Bool) → same_ref x.reference r ≡ b → given_to r (x ∷ xs) ≡ (if b then Some (inputs_of x.redeemer) else given_to r xs)
    given b e = ap (λ (c : Bool). if c then Some (inputs_of x.redeemer) else given_to r xs) e

    by : (b : Bool) → same_ref x.reference r ≡ b → (b || list_any (λ z. same_ref z.reference r) xs) ≡ true → (list_any (λ z. same_ref z.reference r) xs ≡ true → NamedAt r xs) → NamedAt r (x ∷ xs)
    by true e h go = record { index = 0; input = x; at = refl; name = same_ref_so x.reference r e; given = given true e }
    by false e h go = let n = go h in record { index = suc n.index; input = n.input; at = n.at; name = n.name; given = given false e ∙ n.given }

-- ---- the contracts among them

abbrev pub holds : Spend × Output → Bool
holds x = is_contract x.1.lock

abbrev pub misfits : Spend × Output → Bool
misfits x = not (opens x.0.redeemer x.1.lock)

-- a step opens a contract
pub step_opens : (r : Redeemer) (l : Lock) → is_step r ≡ true → opens r l ≡ true → is_contract l ≡ true
step_opens with.None l s h = cc
step_opens with.Claim l s h = cc
step_opens (with.Step xs) (Key a) s h = cc
step_opens (with.Step xs) (Payout k a) s h = cc
step_opens (with.Step xs) (Contract c d) s h = refl

-- and nothing else opens one
pub contract_steps : (r : Redeemer) (l : Lock) → is_contract l ≡ true → opens r l ≡ true → is_step r ≡ true
contract_steps r (Key a) c h = cc
contract_steps r (Payout k a) c h = cc
contract_steps with.None (Contract s d) c h = cc
contract_steps with.Claim (Contract s d) c h = cc
contract_steps (with.Step xs) (Contract s d) c h = refl

-- the step of a contract that is spent, at a datum
abbrev pub step_with : ContractLock → Spend → Datum → Step
step_with c x d = record { reference = x.reference; script = c.script; datum = d; inputs = inputs_of x.redeemer }

-- a contract that is spent is a step that the rules read, at a datum that is brought with the digest that it holds
pub record ReadStep (ys : List (Spend × Output)) (ds : List Datum) (y : Spend × Output) (c : ContractLock) : Type 0 where
  pub datum : Datum
  pub number : ℕ
  pub step : slice_get (steps_of ys ds) number ≡ Some (step_with c y.0 datum)
  pub digest : datum_hash datum ≡ c.digest
  pub place : ℕ
  pub brought : slice_get ds place ≡ Some datum

-- the digests that are held where an input finds this
abbrev pub held_with : Option ContractLock → List (Spend × Output) → List (List ℕ) → List (List ℕ)
held_with l ys hs = (digest_in l ++ digests_in (map (λ x. x.1) ys)) ++ hs

pub first_told : (d : Datum) (ds : List Datum) (h : List ℕ) (hs : List (List ℕ)) → map datum_hash (d ∷ ds) ≡ h ∷ hs → (datum_hash d ≡ h) × (map datum_hash ds ≡ hs)
first_told d ds h hs e = (cc, cc)

pub none_told : (h : List ℕ) (hs : List (List ℕ)) → (let l : List (List ℕ) = [] in l) ≡ h ∷ hs → ⊥
none_told h hs e = cc

-- where the data have the digests that are held, that is so
pub step_read : (ys : List (Spend × Output)) (ds : List Datum) (hs : List (List ℕ)) (i : ℕ) (y : Spend × Output) (c : ContractLock) → map datum_hash ds ≡ digests_in (map (λ x. x.1) ys) ++ hs →
    slice_get ys i ≡ Some y → contract_in y.1.lock ≡ Some c → ReadStep ys ds y c
step_read [] ds hs i y c told e h = cc
step_read (z ∷ ys) [] hs zero y c told e h =
    let k : contract_in z.1.lock ≡ Some c = ap (λ (w : Spend × Output). contract_in w.1.lock) (same_some z y e) ∙ h in
    absurd (none_told c.digest (digests_in (map (λ x. x.1) ys) ++ hs) (told ∙ ap (λ (l : Option ContractLock). held_with l ys hs) k))
step_read (z ∷ ys) (d ∷ ds) hs zero y c told e h =
    let q : z ≡ y = same_some z y e in
    let k : contract_in z.1.lock ≡ Some c = ap (λ (w : Spend × Output). contract_in w.1.lock) q ∙ h in
    let first = first_told d ds c.digest (digests_in (map (λ x. x.1) ys) ++ hs) (told ∙ ap (λ (l : Option ContractLock). held_with l ys hs) k) in
    record {
      datum = d;
      number = 0;
      step =
          ap (λ (l : Option ContractLock). slice_get (or_step l z.0 (d ∷ ds) (steps_of ys)) 0) k
          ∙ ap (λ (w : Spend × Output). Some (step_with c w.0 d)) q;
      digest = first.0;
      place = 0;
      brought = refl;
    }
step_read (z ∷ ys) ds hs (suc i) y c told e h = by (contract_in z.1.lock) refl ds told (λ es t. step_read ys es hs i y c t e h)
  where
    by : (l : Option ContractLock) → contract_in z.1.lock ≡ l → (es : List Datum) → map datum_hash es ≡ held_with (contract_in z.1.lock) ys hs →
        ((fs : List Datum) → map datum_hash fs ≡ digests_in (map (λ x. x.1) ys) ++ hs → ReadStep ys fs y c) → ReadStep (z ∷ ys) es y c
    by None q es t go =
        let s = go es (t ∙ ap (λ (l : Option ContractLock). held_with l ys hs) q) in
        record {
          datum = s.datum;
          number = s.number;
          step = ap (λ (l : Option ContractLock). slice_get (or_step l z.0 es (steps_of ys)) s.number) q ∙ s.step;
          digest = s.digest;
          place = s.place;
          brought = s.brought;
        }
    by (Some m) q [] t go = absurd (none_told m.digest (digests_in (map (λ x. x.1) ys) ++ hs) (t ∙ ap (λ (l : Option ContractLock). held_with l ys hs) q))
    by (Some m) q (d ∷ es) t go =
        let first = first_told d es m.digest (digests_in (map (λ x. x.1) ys) ++ hs) (t ∙ ap (λ (l : Option ContractLock). held_with l ys hs) q) in
        let s = go es first.1 in
        record {
          datum = s.datum;
          number = suc s.number;
          step = ap (λ (l : Option ContractLock). slice_get (or_step l z.0 (d ∷ es) (steps_of ys)) (suc s.number)) q ∙ s.step;
          digest = s.digest;
          place = suc s.place;
          brought = s.brought;
        }

-- each of the steps is of a contract that is spent
pub record StepThere (ys : List (Spend × Output)) (s : Step) : Type 0 where
  pub index : ℕ
  pub pair : Spend × Output
  pub at : slice_get ys index ≡ Some pair
  pub lock : ContractLock
  pub contract : contract_in pair.1.lock ≡ Some lock
  pub script : lock.script ≡ s.script
  pub reference : pair.0.reference ≡ s.reference

pub step_there : (ys : List (Spend × Output)) (ds : List Datum) (n : ℕ) (s : Step) → slice_get (steps_of ys ds) n ≡ Some s → StepThere ys s
step_there [] ds n s h = cc
step_there (y ∷ ys) ds n s h = by (contract_in y.1.lock) refl ds n h (λ es k g. step_there ys es k s g)
  where
    later : StepThere ys s → StepThere (y ∷ ys) s
    later t = record { index = suc t.index; pair = t.pair; at = t.at; lock = t.lock; contract = t.contract; script = t.script; reference = t.reference }

    by : (z : Option ContractLock) → contract_in y.1.lock ≡ z → (es : List Datum) (n : ℕ) → slice_get (or_step z y.0 es (steps_of ys)) n ≡ Some s →
        ((es : List Datum) (k : ℕ) → slice_get (steps_of ys es) k ≡ Some s → StepThere ys s) → StepThere (y ∷ ys) s
    by None e es n h go = later (go es n h)
    by (Some c) e [] n h go = cc
    by (Some c) e (d ∷ es) zero h go =
        let q : step_with c y.0 d ≡ s = same_some (step_with c y.0 d) s h in
        record { index = 0; pair = y; at = refl; lock = c; contract = e; script = ap (λ (w : Step). w.script) q; reference = ap (λ (w : Step). w.reference) q }
    by (Some c) e (d ∷ es) (suc n) h go = later (go es n h)

-- where no redeemer steps, no contract is spent
pub none_steps : (find : OutputRef → Option Output) (xs : List Spend) (ys : List (Spend × Output)) (ds : List Datum) → Paired find xs ys → EachFalse misfits ys →
    list_any (λ x. is_step x.redeemer) xs ≡ false → steps_of ys ds ≡ []
none_steps find xs ys ds p kinds h = by (steps_of ys ds) refl
  where
    by : (z : List Step) → steps_of ys ds ≡ z → z ≡ []
    by [] e = refl
    by (s ∷ later) e =
        let t = step_there ys ds 0 s (ap (λ (l : List Step). slice_get l 0) e) in
        let k =
        contract_steps t.pair.0.redeemer t.pair.1.lock (is_contract_so t.pair.1.lock t.lock t.contract) (not_false (opens t.pair.0.redeemer t.pair.1.lock) (each_at misfits t.index ys t.pair kinds t.at)) in
        absurd (not_both (any_at (λ (x : Spend). is_step x.redeemer) xs t.index t.pair.0 (input_at find t.index t.pair xs ys p t.at).0 k) h)
