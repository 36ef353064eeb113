-- The contract that was made in an output, and what is made.
use Rattle.std.proofs.Common.{◌≡◌, ℕ, zero, suc, Bool, true, false, List, [], ◌∷◌, refl, ◌∙◌, ap, Option, Some, None, map}
use Rattle.std.specs.Prelude.{if◌then◌else◌}
use Rattle.std.specs.List.{slice_get}
use Rattle.std.specs.Cmp.Lexicographic.{bytes_decides}
use Rattle.builder_spec.specs.EutxoTypes.declared.output_ref.OutputRef.{OutputRef}
use Rattle.builder_spec.specs.EutxoTypes.declared.output_ref.OutputRef.TheVariants.{Genesis, Made}
use Rattle.builder_spec.specs.EutxoTypes.declared.tx.Tx.{Tx}
use Rattle.builder_spec.specs.EutxoTypes.Ids.{id_of}
use Rattle.builder_spec.specs.EutxoTypes.Parts.{Instance, contract_at}
use Rattle.builder_spec.specs.Eutxo.Asked.{Judges}
use Rattle.builder_spec.specs.Eutxo.Faults.{first_of}
use Rattle.builder_spec.specs.Eutxo.Laws.{FoundIsEnough}
use Rattle.ledger_laws.specs.Past.{Past, has_id}
use Rattle.ledger_laws.specs.Sound.{IsSound}
use Rattle.ledger_laws.specs.Threads.{IsMade}
use Rattle.ledger_laws.proofs.MadeLaws.{made_once}
use Rattle.ledger_laws.proofs.ReferenceLaws.{itself}
use Rattle.ledger_spec.specs.Views.{instance_in, instance_at}

if_some : {A : Type 0} (b : Bool) (o : Option A) (x : A) → (if b then o else None) ≡ Some x → (b ≡ true) × (o ≡ Some x)
if_some true o x h = (refl, h)
if_some false o x h = cc

-- the first that there is stands at a place
first_at : {A B : Type 0} (f : A → Option B) (xs : List A) (y : B) → first_of (map f xs) ≡ Some y → (n : ℕ) × (x : A) × (slice_get xs n ≡ Some x) × (f x ≡ Some y)
first_at f [] y h = cc
first_at f (x ∷ xs) y h = by (f x) refl h (first_at f xs y)
  where
    by : (o : Option _) → f x ≡ o → first_of (o ∷ map f xs) ≡ Some y → (first_of (map f xs) ≡ Some y → (n : ℕ) × (z : _) × (slice_get xs n ≡ Some z) × (f z ≡ Some y)) →
        (n : ℕ) × (z : _) × (slice_get (x ∷ xs) n ≡ Some z) × (f z ≡ Some y)
    by None e h go = let q = go h in (suc q.0, q.1, q.2, q.3)
    by (Some z) e h go = (0, x, refl, e ∙ h)

-- and where there is one at a place, there is a first
some_first : {A B : Type 0} (f : A → Option B) (xs : List A) (n : ℕ) (x : A) (y : B) → slice_get xs n ≡ Some x → f x ≡ Some y → (z : B) × (first_of (map f xs) ≡ Some z)
some_first f [] n x y e h = cc
some_first f (w ∷ xs) zero x y e h = let same : w ≡ x = cc in (y, ap (λ (o : Option _). first_of (o ∷ map f xs)) (ap f same ∙ h))
some_first f (w ∷ xs) (suc n) x y e h = by (f w) (some_first f xs n x y e h)
  where
    by : (o : Option _) → (z : _) × (first_of (map f xs) ≡ Some z) → (z : _) × (first_of (o ∷ map f xs) ≡ Some z)
    by None go = go
    by (Some z) go = (z, refl)

made_by : (past : Past) (r : OutputRef) (c : Instance) (n : ℕ) (tx : Tx) → slice_get past.accepted n ≡ Some tx → instance_in r tx ≡ Some c → IsMade past r c
made_by past (Genesis i) c n tx at h = cc
made_by past (Made id i) c n tx at h =
    let p = if_some (has_id id tx) (contract_at tx i) c h in
    record { number = n; tx = tx; accepted = at; index = i; name = ap (λ (x : List ℕ). Made x i) ((bytes_decides id (id_of tx)).0 p.0); contract = p.1 }

-- what is found there was made there
pub instance_made : (past : Past) (r : OutputRef) (c : Instance) → instance_at past r ≡ Some c → IsMade past r c
instance_made past r c h = let f = first_at (instance_in r) past.accepted c h in made_by past r c f.0 f.1 f.2 f.3

made_in : (past : Past) (r : OutputRef) (c : Instance) → (m : IsMade past r c) → instance_in r m.tx ≡ Some c
made_in past r c m =
    ap (λ (q : OutputRef). instance_in q m.tx) m.name
    ∙ ap (λ (b : Bool). if b then contract_at m.tx m.index else None) (itself (id_of m.tx)) ∙ m.contract

-- and what was made is found
pub made_instance : {V : Type 0} (j : Judges V) → FoundIsEnough j → (named : List ℕ → Option V) (past : Past) → IsSound j named past →
    (r : OutputRef) (c : Instance) → IsMade past r c → instance_at past r ≡ Some c
made_instance j enough named past sound r c m =
    let f = some_first (instance_in r) past.accepted m.number m.tx c m.accepted (made_in past r c m) in
    f.1 ∙ ap (λ (d : Instance). Some d) (made_once j enough named past sound r c f.0 m (instance_made past r f.0 f.1))
