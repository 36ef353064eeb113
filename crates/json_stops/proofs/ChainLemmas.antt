-- The fault of readings one after another.
use Rattle.std.proofs.Common.{◌≡◌, ℕ, ℤ, pos, ◌+◌, ◌∷◌, Bool, true, false, cond, Option, Some, None, Ok, Err, refl, sym, ap, ◌∙◌}
use Rattle.std.specs.Prelude.{int_lt, if◌then◌else◌}
use Rattle.serde_json.specs.Data.{Data, Items, no_items, item}
use Rattle.contract.specs.Collections.Answers.{◌>>=◌}
use Rattle.json_read_names.specs.Parts.{Reading, needed, both_readings, of_one, all_items}
use Rattle.json_read_names.specs.declared.fault.JsonFault.{JsonFault}
use Rattle.json_read_names.specs.declared.fault.JsonFault.TheVariants.{BadState}
use Rattle.json_read_names.proofs.ListLaws.{then_two}
use Rattle.json_forms.specs.declared.sort.Numbers.{Numbers}
use Rattle.json_forms.specs.declared.sort.Numbers.TheVariants as numbers
use Rattle.json_forms.specs.declared.sort.Sort.{Sort}
use Rattle.json_forms.specs.Lacking.{first_or}
use Rattle.json_stops.specs.FormsRead.{no_keys, number, number_sort}
use Rattle.json_stops.specs.Repeats.{repeat_in}
use Rattle.json_stops.specs.Stops.{fault_of, fault_as}
use Rattle.json_stops.specs.StopsSupport.{lacking_or, fields_fault, items_fault, list_fault, pair_fault}

pub then_fault : {A B : Type 0} (r : Reading A) (f : A → Reading B) (rest : Option JsonFault) → ((a : A) → fault_of (f a) ≡ rest) → fault_of (r >>= f) ≡ first_or (fault_of r) rest
then_fault (Ok a) f rest h = h a
then_fault (Err e) f rest h = refl

-- the value behind a key is read first
pub field_then : {A B : Type 0} (sort : Sort) (o : Option Data) (reading : Data → Reading A) (f : A → Reading B) (rest : Option JsonFault)
    → ((e : Data) → fault_of (reading e) ≡ fault_as sort e) → ((a : A) → fault_of (f a) ≡ rest) → fault_of (needed o >>= reading >>= f) ≡ first_or (lacking_or sort o) rest
field_then sort None reading f rest same h = refl
field_then sort (Some e) reading f rest same h = then_fault (reading e) f rest h ∙ ap (λ x. first_or x rest) (same e)

-- the values behind two keys are
pub two_then : {A B C : Type 0} (s t : Sort) (o p : Option Data) (first : Data → Reading A) (second : Data → Reading B) (g : A → B → Reading C) (rest : Option JsonFault)
    → ((e : Data) → fault_of (first e) ≡ fault_as s e) → ((e : Data) → fault_of (second e) ≡ fault_as t e) → ((a : A) (b : B) → fault_of (g a b) ≡ rest)
    → fault_of (both_readings (needed o >>= first) (needed p >>= second) >>= λ x. g x.0 x.1) ≡ first_or (lacking_or s o) (first_or (lacking_or t p) rest)
two_then s t o p first second g rest same also h =
    ap fault_of (sym (then_two (needed o >>= first) (needed p >>= second) g))
    ∙ field_then s o first (λ a. needed p >>= second >>= g a) (first_or (lacking_or t p) rest) same (λ a. field_then t p second (g a) rest also (h a))

-- nothing inside is read
pub no_keys_fault : {A B : Type 0} (r : Reading A) (make : A → B) (d : Data) → fault_of (of_one make r) ≡ fields_fault d (no_keys r)
no_keys_fault (Ok a) make d = refl
no_keys_fault (Err e) make d = refl

pub itself_fault : {A : Type 0} (r : Reading A) (d : Data) → fault_of r ≡ fields_fault d (no_keys r)
itself_fault (Ok a) d = refl
itself_fault (Err e) d = refl

-- ---- lists

pub made_fault : {A B : Type 0} (r : Reading A) (make : A → B) → fault_of (r >>= λ x. Ok (make x)) ≡ fault_of r
made_fault (Ok a) make = refl
made_fault (Err e) make = refl

module _ {A : Type 0} (sort : Sort) (reading : Data → Reading A) (same : (e : Data) → fault_of (reading e) ≡ fault_as sort e) where
  items_are : (n : ℕ) (ds : Items) → fault_of (all_items reading ds) ≡ items_fault None sort n ds
  items_are n no_items = refl
  items_are n (item d ds) =
      then_fault (reading d) (λ x. all_items reading ds >>= λ xs. Ok (x ∷ xs)) (items_fault None sort (n + 1) ds) (λ x. made_fault (all_items reading ds) (λ xs. x ∷ xs) ∙ items_are (n + 1) ds)
      ∙ ap (λ x. first_or x (items_fault None sort (n + 1) ds)) (same d)

  -- of a sort whose items have no keys
  pub list_is : (s : Sort) → ((ds : Items) → repeat_in s ds ≡ None) → (o : Option Items) → fault_of (needed o >>= all_items reading) ≡ list_fault s sort o
  list_is s plain None = refl
  list_is s plain (Some ds) = items_are 0 ds ∙ ap (λ repeat. items_fault repeat sort 0 ds) (sym (plain ds))

-- ---- pairs

-- the first of two is read first
pub pair_then : {A B : Type 0} (s t : Sort) (r : Reading (Data × Data)) (first : Data → Reading A) (second : A → Data → Reading B)
    → ((e : Data) → fault_of (first e) ≡ fault_as s e) → ((a : A) (e : Data) → fault_of (second a e) ≡ fault_as t e)
    → fault_of (r >>= λ p. first p.0 >>= λ a. second a p.1) ≡ pair_fault s t r
pair_then s t (Ok p) first second same also =
    then_fault (first p.0) (λ a. second a p.1) (fault_as t p.1) (λ a. also a p.1) ∙ ap (λ x. first_or x (fault_as t p.1)) (same p.0)
pair_then s t (Err f) first second same also = refl

-- ---- numbers of a state

pub number_is : (ns : Numbers) (d : Data) → fault_of (number ns d) ≡ fault_as (number_sort ns) d
number_is numbers.Whole d = refl
number_is numbers.OrTexts d = refl

above_fault : {X : Type 0} (n : ℤ) (make : ℤ → X) (b : Bool) → fault_of (cond b (Ok (make n)) (Err BadState)) ≡ fault_of (cond b (Ok n) (Err BadState))
above_fault n make true = refl
above_fault n make false = refl

-- whatever is made of a number above 0
pub amount_fault : {X : Type 0} (r : Reading ℤ) (make : ℤ → X)
    → fault_of (r >>= λ n. if int_lt (pos 0) n then Ok (make n) else Err BadState) ≡ fault_of (r >>= λ n. if int_lt (pos 0) n then Ok n else Err BadState)
amount_fault (Ok n) make = above_fault n make (int_lt (pos 0) n)
amount_fault (Err f) make = refl
