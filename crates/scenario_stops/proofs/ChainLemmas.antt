-- The fault of readings one after another, of the values behind keys and of the items of lists.
use Rattle.std.proofs.Common.{◌≡◌, ℕ, ℤ, List, [], ◌∷◌, Bool, true, false, Option, Some, None, Ok, Err, refl, sym, ap, ◌∙◌}
use Rattle.std.specs.Prelude.{codes, if◌then◌else◌}
use Rattle.serde_json.specs.Data.{Data, Items, no_items, item}
use Rattle.serde_json.specs.Find.{get}
use Rattle.contract.specs.Collections.Answers.{◌>>=◌}
use Rattle.contract.specs.declared.interval.Interval.{Interval}
use Rattle.json_read_names.specs.Forms.{has_two}
use Rattle.json_read_names.specs.Parts.{Reading, needed, reading_at, time, all_items}
use Rattle.json_read_names.specs.declared.fault.JsonFault.{JsonFault}
use Rattle.json_read_names.specs.declared.fault.JsonFault.TheVariants.{NoForm}
use Rattle.json_read_inputs.specs.ReadsInput.{interval}
use Rattle.json_read_scenarios.specs.ReadsPlan.{if_there}
use Rattle.json_forms.specs.declared.key.Key.TheVariants as keys
use Rattle.json_forms.specs.declared.sort.Sort.{Sort}
use Rattle.json_forms.specs.declared.sort.Sort.TheVariants as sorts
use Rattle.json_forms.specs.Forms.{Field, key_word}
use Rattle.json_forms.specs.Lacking.{first_or}
use Rattle.json_stops.specs.Stops.{fault_of}
use Rattle.scenario_stops.specs.There.{There, after}
use Rattle.scenario_stops.specs.Faults.{fault_in}
use Rattle.scenario_stops.specs.Parts.{single}
use Rattle.scenario_stops.specs.StopsSupport.{or_lacking, or_none, perhaps_fault, behind_fault, items_fault, list_fault, fault_by}

pub then_fault : {A B : Type 0} (r : Reading A) (g : A → Reading B) (rest : Option JsonFault) → ((a : A) → r ≡ Ok a → fault_of (g a) ≡ rest) → fault_of (r >>= g) ≡ first_or (fault_of r) rest
then_fault (Ok a) g rest h = h a refl
then_fault (Err e) g rest h = refl

pub made_fault : {A B : Type 0} (r : Reading A) (make : A → B) → fault_of (r >>= λ x. Ok (make x)) ≡ fault_of r
made_fault (Ok a) make = refl
made_fault (Err e) make = refl

-- ---- values behind keys

found_then : {A B : Type 0} (t : There) (f : Field) (o : Option Data) (reading : Data → Reading A) (g : A → Reading B) (rest : There → Option JsonFault)
    → ((e : Data) → fault_of (reading e) ≡ fault_in f.1 t e) → ((e : Data) (a : A) → reading e ≡ Ok a → fault_of (g a) ≡ rest (after f.1 t e))
    → fault_of (needed o >>= reading >>= g) ≡ or_lacking t f o rest
found_then t f None reading g rest same h = refl
found_then t f (Some e) reading g rest same h = then_fault (reading e) g (rest (after f.1 t e)) (h e) ∙ ap (λ x. first_or x (rest (after f.1 t e))) (same e)

-- the value behind a key is read, and then the others
pub key_then : {A B : Type 0} (t : There) (d : Data) (f : Field) (fs : List Field) (more : Option Field) (reading : Data → Reading A) (g : A → Reading B)
    → ((e : Data) → fault_of (reading e) ≡ fault_in f.1 t e) → ((e : Data) (a : A) → reading e ≡ Ok a → fault_of (g a) ≡ behind_fault (after f.1 t e) d fs more)
    → fault_of (reading_at reading d (key_word f.0) >>= g) ≡ behind_fault t d (f ∷ fs) more
key_then t d f fs more reading g same h = found_then t f (get (key_word f.0) d) reading g (λ u. behind_fault u d fs more) same h

-- a value that may lack
none_there : {A : Type 0} (d : Data) (key : List ℕ) (reading : Data → Reading A) → get key d ≡ None → if_there reading d key ≡ Ok None
none_there d key reading e = rw e

one_there : {A : Type 0} (d : Data) (key : List ℕ) (reading : Data → Reading A) (x : Data) → get key d ≡ Some x → if_there reading d key ≡ (reading x >>= λ y. Ok (Some y))
one_there d key reading x e = rw e

more_is : {A B : Type 0} (t : There) (d : Data) (f : Field) (reading : Data → Reading A) (make : Option A → B) (o : Option Data) → get (key_word f.0) d ≡ o
    → ((e : Data) → fault_of (reading e) ≡ fault_in f.1 t e)
    → fault_of (if_there reading d (key_word f.0) >>= λ x. Ok (make x)) ≡ or_none t f o
more_is t d f reading make None e same = ap (λ r. fault_of (r >>= λ x. Ok (make x))) (none_there d (key_word f.0) reading e)
more_is t d f reading make (Some x) e same =
    ap (λ r. fault_of (r >>= λ y. Ok (make y))) (one_there d (key_word f.0) reading x e)
    ∙ made_fault (reading x >>= λ y. Ok (Some y)) make ∙ made_fault (reading x) Some ∙ same x

pub more_then : {A B : Type 0} (t : There) (d : Data) (f : Field) (reading : Data → Reading A) (make : Option A → B) → ((e : Data) → fault_of (reading e) ≡ fault_in f.1 t e)
    → fault_of (if_there reading d (key_word f.0) >>= λ x. Ok (make x)) ≡ perhaps_fault t d (Some f)
more_then t d f reading make same = more_is t d f reading make (get (key_word f.0) d) refl same

-- ---- an interval of the value itself

abbrev made_interval : ℤ → ℤ → Interval
made_interval from to = record { from = from; to = to }

abbrev pub from_field : Field
from_field = (keys.From, sorts.Time)

abbrev pub to_field : Field
to_field = (keys.To, sorts.Time)

module _ {B : Type 0} (t : There) (g : Interval → Reading B) (rest : There → Option JsonFault) (h : (i : Interval) → fault_of (g i) ≡ rest t) where
  after_time : (r : Reading ℤ) (k : ℤ → Reading Interval) (behind : Option JsonFault) → ((a : ℤ) → fault_of (k a >>= g) ≡ behind) → fault_of (r >>= k >>= g) ≡ first_or (fault_of r) behind
  after_time (Ok a) k behind later = later a
  after_time (Err e) k behind later = refl

  second : (a : ℤ) (q : Option Data) → fault_of ((needed q >>= time >>= λ b. Ok (made_interval a b)) >>= g) ≡ or_lacking t to_field q rest
  second a None = refl
  second a (Some e) = after_time (time e) (λ b. Ok (made_interval a b)) (rest t) (λ b. h (made_interval a b))

  both : (p q : Option Data) → fault_of (needed p >>= time >>= (λ a. needed q >>= time >>= λ b. Ok (made_interval a b)) >>= g) ≡ or_lacking t from_field p (λ u. or_lacking u to_field q rest)
  both None q = refl
  both (Some e) q = after_time (time e) (λ a. needed q >>= time >>= λ b. Ok (made_interval a b)) (or_lacking t to_field q rest) (λ a. second a q)

pub interval_then : {B : Type 0} (t : There) (d : Data) (more : Option Field) (g : Interval → Reading B) → has_two (codes "from") (codes "to") d ≡ true → ((i : Interval) → fault_of (g i) ≡ perhaps_fault t d more)
    → fault_of (interval d >>= g) ≡ behind_fault t d (from_field ∷ to_field ∷ []) more
interval_then t d more g there h =
    ap (λ b. fault_of ((if b then (reading_at time d (codes "from") >>= λ x. reading_at time d (codes "to") >>= λ y. Ok (made_interval x y)) else Err NoForm) >>= g)) there
    ∙ both t g (λ u. perhaps_fault u d more) h (get (codes "from") d) (get (codes "to") d)

-- ---- what has no parts

pub single_is : (f : Option JsonFault) (t : There) (d : Data) → f ≡ fault_by (single f) t d
single_is None t d = refl
single_is (Some f) t d = refl

-- ---- lists whose items add nothing

module _ {A : Type 0} (t : There) (inner : Sort) (reading : Data → Reading A) (same : (e : Data) → fault_of (reading e) ≡ fault_in inner t e) (stays : (e : Data) → after inner t e ≡ t) where
  items_are : (ds : Items) → fault_of (all_items reading ds) ≡ items_fault t inner ds
  items_are no_items = refl
  items_are (item d ds) =
      then_fault (reading d) (λ x. all_items reading ds >>= λ xs. Ok (x ∷ xs)) (items_fault t inner ds) (λ x is. made_fault (all_items reading ds) (λ xs. x ∷ xs) ∙ items_are ds)
      ∙ ap (λ x. first_or x (items_fault t inner ds)) (same d)
      ∙ ap (λ u. first_or (fault_in inner t d) (items_fault u inner ds)) (sym (stays d))

  pub list_is : (o : Option Items) → fault_of (needed o >>= all_items reading) ≡ list_fault t inner o
  list_is None = refl
  list_is (Some ds) = items_are ds
