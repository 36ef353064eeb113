-- The fault of a list of keys and numbers: of the first entry that isn't read, or whose key an earlier one has.
use Rattle.std.proofs.Common.{◌≡◌, ℕ, ℤ, pos, ◌+◌, ◌≤◌, Bool, true, false, cond, Option, Some, None, Ok, Err, refl, sym, ap, ◌∙◌, arith}
use Rattle.std.specs.Prelude.{is_some, int_lt, ◌==◌}
use Rattle.std.specs.declared.cmp.Ordering.{Ordering}
use Rattle.std.specs.Cmp.{IsTotalOrder, eq_by_cmp_equiv}
use Rattle.std.specs.Ordering.{is_eq, eq_by_cmp}
use Rattle.std.specs.FinMap.{FinMap, empty, contains_key, get, insert, get-empty, get-insert}
use Rattle.std.proofs.lemmas.Bool.Decides.{nat_tests}
use Rattle.serde_json.specs.Data.{Data, Items, no_items, item}
use Rattle.contract.specs.Collections.Answers.{◌>>=◌}
use Rattle.json_read_names.specs.Parts.{Reading, needed}
use Rattle.json_read_names.specs.declared.fault.JsonFault.{JsonFault}
use Rattle.json_read_names.specs.declared.fault.JsonFault.TheVariants.{BadState}
use Rattle.json_read_inputs.specs.ReadsState.{rows_into}
use Rattle.json_forms.specs.declared.sort.Sort.{Sort}
use Rattle.json_forms.specs.declared.sort.Sort.TheVariants as sorts
use Rattle.json_forms.specs.Lacking.{first_or}
use Rattle.json_stops.specs.Repeats.{Places, no_places, Repeat, placed, repeat_or, if_key, repeat_from, repeat_in, earlier}
use Rattle.json_stops.specs.Stops.{fault_of, fault_as, entry_sort}
use Rattle.json_stops.specs.StopsSupport.{items_fault, list_fault}

-- ---- what an entry is read as

pub entry_unread : (o : Option ℕ) (sort : Sort) (d : Data) (f : JsonFault) → fault_as sort d ≡ Some f → entry_sort o sort d ≡ sort
entry_unread None sort d f h = refl
entry_unread (Some first) sort d f h = ap (λ x. cond (is_some x) sort (sorts.Repeated first)) h

pub entry_again : (o : Option ℕ) (first : ℕ) (sort : Sort) (d : Data) → o ≡ Some first → fault_as sort d ≡ None → entry_sort o sort d ≡ sorts.Repeated first
entry_again o first sort d is h = ap (λ x. entry_sort x sort d) is ∙ ap (λ x. cond (is_some x) sort (sorts.Repeated first)) h

entry_once : (o : Option ℕ) (sort : Sort) (d : Data) → o ≡ None → entry_sort o sort d ≡ sort
entry_once o sort d is = ap (λ x. entry_sort x sort d) is

-- ---- at which index the first repeat is

same_number : (n : ℕ) → (n == n) ≡ true
same_number n = grind (arith, nat_tests)

other_number : (m n : ℕ) → n + 1 ≤ m → (m == n) ≡ false
other_number m n h = grind (arith, nat_tests)

module _ {K : Type 0} (cmp : K → K → Ordering) (key : Data → Reading K) where
  or_later : (n m : ℕ) (place : Option ℕ) (rest : Option Repeat) (r : Repeat) → m ≤ n → ((q : Repeat) → rest ≡ Some q → m ≤ q.0) → repeat_or n place rest ≡ Some r → m ≤ r.0
  or_later n m None rest r below later e = later r e
  or_later n m (Some first) rest r below later e = let same : n ≡ r.0 = cc in omega arith

  key_later : (m : ℕ) (k : Reading K) (search : K → Option Repeat) (r : Repeat) → ((q : K) → search q ≡ Some r → m ≤ r.0) → if_key search k ≡ Some r → m ≤ r.0
  key_later m (Ok k) search r later e = later k e
  key_later m (Err f) search r later e = cc

  -- not before the entry from which they are counted
  is_later : (places : Places K) (n m : ℕ) (ds : Items) (r : Repeat) → m ≤ n → repeat_from cmp key places n ds ≡ Some r → m ≤ r.0
  is_later places n m no_items r below e = cc
  is_later places n m (item d ds) r below e =
      key_later m (key d) (λ k. repeat_or n (places k) (repeat_from cmp key (placed cmp k n places) (n + 1) ds)) r
      (λ k h. or_later n m (places k) (repeat_from cmp key (placed cmp k n places) (n + 1) ds) r below (λ q. is_later (placed cmp k n places) (n + 1) m ds q (omega arith)) h) e

  not_yet : (n : ℕ) (o : Option Repeat) → ((r : Repeat) → o ≡ Some r → n + 1 ≤ r.0) → earlier o n ≡ None
  not_yet n None later = refl
  not_yet n (Some r) later = ap (λ b. cond b (Some r.1) None) (other_number r.0 n (later r refl))

-- ---- the fault of all

module _ {K : Type 0} {R : K → K → Ordering} (o : IsTotalOrder R) (row : Data → Reading (K × ℤ)) (key : Data → Reading K) (sort : Sort)
    (same : (e : Data) → fault_of (row e) ≡ fault_as sort e) (keyed : (e : Data) (r : K × ℤ) → row e ≡ Ok r → key e ≡ Ok r.0) where
  -- the keys of a map are those that have a place
  abbrev Agree : FinMap R ℤ → Places K → Type 0
  Agree m places = (q : K) → contains_key m q ≡ is_some (places q)

  some_if : {X Y : Type 0} (b c : Bool) (x : X) (y : Y) (p : Option X) (q : Option Y) → b ≡ c → is_some p ≡ is_some q → is_some (cond b (Some x) p) ≡ is_some (cond c (Some y) q)
  some_if true true x y p q e h = refl
  some_if false false x y p q e h = h
  some_if true false x y p q e h = cc
  some_if false true x y p q e h = cc

  agree_more : (m : FinMap R ℤ) (places : Places K) (k : K) (v : ℤ) (n : ℕ) → Agree m places → Agree (insert m k v) (placed R k n places)
  agree_more m places k v n agree q =
      ap is_some (get-insert o m k v q) ∙ some_if (eq_by_cmp R q k) (is_eq (R k q)) v n (get m q) (places q) ((eq_by_cmp_equiv o).symm q k) (agree q)

  -- the entry isn't read
  unread_entry : (n : ℕ) (d : Data) (ds : Items) (repeat : Option Repeat) (f : JsonFault) → fault_as sort d ≡ Some f → Some f ≡ items_fault repeat sort n (item d ds)
  unread_entry n d ds repeat f h =
      sym (ap (λ s. first_or (fault_as s d) (items_fault repeat sort (n + 1) ds)) (entry_unread (earlier repeat n) sort d f h) ∙ ap (λ x. first_or x (items_fault repeat sort (n + 1) ds)) h)

  -- it is, and its key has a place
  repeated_entry : (n first : ℕ) (d : Data) (ds : Items) (repeat : Option Repeat) → repeat ≡ Some (n, first) → fault_as sort d ≡ None → Some BadState ≡ items_fault repeat sort n (item d ds)
  repeated_entry n first d ds repeat is h =
      let found : earlier repeat n ≡ Some first = ap (λ r. earlier r n) is ∙ ap (λ b. cond b (Some first) None) (same_number n) in
      sym (ap (λ s. first_or (fault_as s d) (items_fault repeat sort (n + 1) ds)) (entry_again (earlier repeat n) first sort d found h))

  -- it is, and its key has none
  new_entry : (n : ℕ) (d : Data) (ds : Items) (repeat : Option Repeat) → earlier repeat n ≡ None → fault_as sort d ≡ None → items_fault repeat sort (n + 1) ds ≡ items_fault repeat sort n (item d ds)
  new_entry n d ds repeat none h =
      sym (ap (λ s. first_or (fault_as s d) (items_fault repeat sort (n + 1) ds)) (entry_once (earlier repeat n) sort d none) ∙ ap (λ x. first_or x (items_fault repeat sort (n + 1) ds)) h)

  rows_are : (m : FinMap R ℤ) (places : Places K) (n : ℕ) (ds : Items) → Agree m places → fault_of (rows_into row m ds) ≡ items_fault (repeat_from R key places n ds) sort n ds
  unfolding rows_into
  rows_are m places n no_items agree = refl
  rows_are m places n (item d ds) agree =
      let repeat = repeat_from R key places n (item d ds) in
      elim (row d) as (λ r. row d ≡ r → fault_of (r >>= λ e. cond (contains_key m e.0) (Err BadState) (rows_into row (insert m e.0 e.1) ds)) ≡ items_fault repeat sort n (item d ds)) [
        | Err f ↦ λ is. unread_entry n d ds repeat f (sym (same d) ∙ ap fault_of is)
        | Ok e ↦ λ is.
            let read : fault_as sort d ≡ None = sym (same d) ∙ ap fault_of is in
            let rest = repeat_from R key (placed R e.0 n places) (n + 1) ds in
            let at_key : repeat ≡ repeat_or n (places e.0) rest = ap (if_key (λ k. repeat_or n (places k) (repeat_from R key (placed R k n places) (n + 1) ds))) (keyed d e is) in
            elim (places e.0) as (λ place. places e.0 ≡ place → fault_of (cond (contains_key m e.0) (Err BadState) (rows_into row (insert m e.0 e.1) ds)) ≡ items_fault repeat sort n (item d ds)) [
              | Some first ↦ λ at.
                  ap (λ b. fault_of (cond b (Err BadState) (rows_into row (insert m e.0 e.1) ds))) (agree e.0 ∙ ap is_some at)
                  ∙ repeated_entry n first d ds repeat (at_key ∙ ap (λ place. repeat_or n place rest) at) read
              | None ↦ λ at.
                  let is_rest : repeat ≡ rest = at_key ∙ ap (λ place. repeat_or n place rest) at in
                  let none : earlier repeat n ≡ None =
                  ap (λ r. earlier r n) is_rest ∙ not_yet R key n rest (λ r. is_later R key (placed R e.0 n places) (n + 1) (n + 1) ds r (omega arith)) in
                  ap (λ b. fault_of (cond b (Err BadState) (rows_into row (insert m e.0 e.1) ds))) (agree e.0 ∙ ap is_some at)
                  ∙ rows_are (insert m e.0 e.1) (placed R e.0 n places) (n + 1) ds (agree_more m places e.0 e.1 n agree)
                  ∙ ap (λ r. items_fault r sort (n + 1) ds) (sym is_rest)
                  ∙ new_entry n d ds repeat none read
            ] refl
      ] refl

  -- of a list of them
  pub rows_is : (s : Sort) → ((ds : Items) → repeat_in s ds ≡ repeat_from R key no_places 0 ds) → (items : Option Items) → fault_of (needed items >>= rows_into row (empty {R = R})) ≡ list_fault s sort items
  rows_is s found None = refl
  rows_is s found (Some ds) = rows_are empty no_places 0 ds (λ q. ap is_some (get-empty R q)) ∙ ap (λ repeat. items_fault repeat sort 0 ds) (sym (found ds))

-- ---- keys of entries

module _ {K : Type 0} where
  after_key : (q : Reading K) (rest : K → Reading (K × ℤ)) (r : K × ℤ) → ((k : K) → rest k ≡ Ok r → k ≡ r.0) → (q >>= rest) ≡ Ok r → q ≡ Ok r.0
  after_key (Ok k) rest r kept e = ap Ok (kept k e)
  after_key (Err f) rest r kept e = cc

  -- an entry that is read has the key that is read of it
  pub key_is : (p : Reading (Data × Data)) (key : Data → Reading K) (rest : Data → K → Reading (K × ℤ)) (r : K × ℤ) → ((e : Data) (k : K) → rest e k ≡ Ok r → k ≡ r.0)
      → (p >>= λ x. key x.0 >>= rest x.1) ≡ Ok r → (p >>= λ x. key x.0) ≡ Ok r.0
  key_is (Ok x) key rest r kept e = after_key (key x.0) (rest x.1) r (kept x.1) e
  key_is (Err f) key rest r kept e = cc

  -- .. with its number
  pub number_kept : (q : Reading ℤ) (k : K) (r : K × ℤ) → (q >>= λ n. Ok (k, n)) ≡ Ok r → k ≡ r.0
  number_kept (Ok n) k r e = cc
  number_kept (Err f) k r e = cc

  above_kept : (b : Bool) (n : ℤ) (k : K) (r : K × ℤ) → cond b (Ok (k, n)) (Err BadState) ≡ Ok r → k ≡ r.0
  above_kept true n k r e = cc
  above_kept false n k r e = cc

  pub amount_kept : (q : Reading ℤ) (k : K) (r : K × ℤ) → (q >>= λ n. cond (int_lt (pos 0) n) (Ok (k, n)) (Err BadState)) ≡ Ok r → k ≡ r.0
  amount_kept (Ok n) k r e = above_kept (int_lt (pos 0) n) n k r e
  amount_kept (Err f) k r e = cc
