-- Laws for readers and writers of rows: a map that is read in one pass, and its keys looked at after it, is the map of its rows.
use Rattle.std.proofs.Common.{◌≡◌, ℤ, pos, ◌<ℤ◌, Bool, true, false, cond, ◌||◌, List, [], ◌∷◌, ◌++◌, length, map, Option, Some, None, Ok, Err, refl, sym, ap, subst, ◌∙◌, arith}
use Rattle.std.proofs.Math.Dec.{T}
use Rattle.std.proofs.lemmas.Int.{ints}
use Rattle.std.specs.Prelude.{is_some, int_lt}
use Rattle.std.specs.declared.cmp.Ordering.{Ordering}
use Rattle.std.specs.Cmp.{IsTotalOrder, eq_by_cmp_equiv}
use Rattle.std.specs.Ordering.{eq_by_cmp}
use Rattle.std.specs.FinMap.{FinMap, IsAntisymmetric, empty, entries, insert, contains_key, from_entries, from_sorted, find, is_sorted, entries-insert, entries-from_sorted, len-entries, len-empty, get-from_entries, get-from_sorted, from_entries_push, same_map}
use Rattle.contract.specs.Names.declared.account.Account.{Account}
use Rattle.contract.specs.Names.declared.token.Token.{Token}
use Rattle.contract.specs.Names.Orders.{account_cmp, token_cmp}
use Rattle.contract.specs.Names.Totals.{account_total, token_total}
use Rattle.contract.specs.Collections.Positive.{AllPositive}
use Rattle.contract.specs.Collections.Repeats.{has_key, has_repeat}
use Rattle.contract.proofs.FromCollections.Positive.{AllPositive-put}
use Rattle.serde_json.specs.Data.{Data, Items, no_items, item}
use Rattle.serde_json.specs.Find.{as_array}
use Rattle.serde_json.specs.View.{items_of}
use Rattle.contract.specs.Collections.Answers.{◌>>=◌}
use Rattle.json_read_names.specs.Parts.{Reading, needed, pair}
use Rattle.json_read_names.specs.ReadsNames.{token}
use Rattle.json_read_inputs.specs.ReadsState.{account, account_row_by, amount_row_by, rows_into, rows}
use Rattle.json_read_inputs.specs.Rows.{and_then, until_fault}
use Rattle.json_read_names.specs.declared.fault.JsonFault.{JsonFault}
use Rattle.json_read_names.specs.declared.fault.JsonFault.TheVariants as faults

regroup : (a b c d : Bool) → ((a || b) || (c || d)) ≡ ((a || c) || (b || d))
regroup true b c d = refl
regroup false true true d = refl
regroup false true false d = refl
regroup false false true d = refl
regroup false false false d = refl

unit_right : (a : Bool) → (a || false) ≡ a
unit_right true = refl
unit_right false = refl

is_none : {A : Type 0} (o : Option A) → is_some o ≡ false → o ≡ None
is_none None h = refl
is_none (Some x) h = cc

-- a test that fails nowhere
pub is_repeated : (b : Bool) → (b ≡ false → false ≡ true) → b ≡ true
is_repeated true h = refl
is_repeated false h = h refl

-- what the rows are in the end
abbrev pub ending : {A : Type 0} → Option JsonFault → A → Reading A
ending None m = Ok m
ending (Some fault) m = Err fault

module _ {K : Type 0} (R : K → K → Ordering) where
  is_some-find : (k : K) (es : List (K × ℤ)) → is_some (find R k es) ≡ has_key R k es
  is_some-find k [] = refl
  is_some-find k (e ∷ es) = elim (eq_by_cmp R k e.0) as (λ b. is_some (cond b (Some e.1) (find R k es)) ≡ (b || has_key R k es)) [ true ↦ refl | false ↦ is_some-find k es ]

  has_key-push : (k : K) (es : List (K × ℤ)) (e : K × ℤ) → has_key R k (es ++ e ∷ []) ≡ (has_key R k es || eq_by_cmp R k e.0)
  has_key-push k [] e = unit_right (eq_by_cmp R k e.0)
  has_key-push k (x ∷ es) e = elim (eq_by_cmp R k x.0) as (λ b. (b || has_key R k (es ++ e ∷ [])) ≡ ((b || has_key R k es) || eq_by_cmp R k e.0)) [ true ↦ refl | false ↦ has_key-push k es e ]

  module _ (o : IsTotalOrder R) where
    has_repeat-push : (es : List (K × ℤ)) (e : K × ℤ) → has_repeat R (es ++ e ∷ []) ≡ (has_repeat R es || has_key R e.0 es)
    has_repeat-push [] e = refl
    has_repeat-push (x ∷ es) e =
        (λ i. has_key-push x.0 es e i || has_repeat-push es e i)
        ∙ regroup (has_key R x.0 es) (eq_by_cmp R x.0 e.0) (has_repeat R es) (has_key R e.0 es)
        ∙ ap (λ b. (has_key R x.0 es || has_repeat R es) || (b || has_key R e.0 es)) ((eq_by_cmp_equiv o).symm x.0 e.0)

    -- rows that repeat a key go on to do so
    still_repeated : (row : Data → Reading (K × ℤ)) (before : List (K × ℤ)) (ds : Items) → has_repeat R before ≡ true → has_repeat R (until_fault row before ds).0 ≡ true
    still_repeated row before no_items h = h
    still_repeated row before (item d ds) h =
        elim (row d) as (λ r. has_repeat R (and_then before r (λ now. until_fault row now ds)).0 ≡ true) [
          | Ok e ↦ still_repeated row (before ++ e ∷ []) ds (has_repeat-push before e ∙ ap (λ b. b || has_key R e.0 before) h)
          | Err fault ↦ h
        ]

    -- what was read, once its keys were looked at
    abbrev pub looked_at : List (K × ℤ) × Option JsonFault → Reading (FinMap R ℤ)
    looked_at read = cond (has_repeat R read.0) (Err faults.BadState) (ending read.1 (from_entries read.0))

    or_true : (a b : Bool) → b ≡ true → (a || b) ≡ true
    or_true true b h = refl
    or_true false b h = h

    known : (before : List (K × ℤ)) (k : K) (b : Bool) → has_key R k before ≡ b → contains_key (from_entries {R = R} before) k ≡ b
    known before k b h = ap is_some (get-from_entries o before k) ∙ is_some-find k before ∙ h

    module _ (exact : IsAntisymmetric R) where
      pub rows_into-until_fault : (row : Data → Reading (K × ℤ)) (before : List (K × ℤ)) (ds : Items) → has_repeat R before ≡ false
          → rows_into row (from_entries {R = R} before) ds ≡ looked_at (until_fault row before ds)
      unfolding rows_into
      rows_into-until_fault row before no_items h = ap (λ b. cond b (Err faults.BadState) (Ok (from_entries before))) (sym h)
      rows_into-until_fault row before (item d ds) h =
          elim (row d) as (λ r. (r >>= λ e. cond (contains_key (from_entries {R = R} before) e.0) (Err faults.BadState) (rows_into row (insert (from_entries before) e.0 e.1) ds)) ≡ looked_at (and_then before r (λ now. until_fault row now ds))) [
            | Err fault ↦ ap (λ b. cond b (Err faults.BadState) (Err fault)) (sym h)
            | Ok e ↦ elim (has_key R e.0 before) as (λ b. has_key R e.0 before ≡ b → cond (contains_key (from_entries {R = R} before) e.0) (Err faults.BadState) (rows_into row (insert (from_entries before) e.0 e.1) ds) ≡ looked_at (until_fault row (before ++ e ∷ []) ds)) [
              | true ↦ λ is.
                  let read = until_fault row (before ++ e ∷ []) ds in
                  ap (λ b. cond b (Err faults.BadState) (rows_into row (insert (from_entries before) e.0 e.1) ds)) (known before e.0 true is)
                  ∙ ap (λ b. cond b (Err faults.BadState) (ending read.1 (from_entries read.0)))
                  (sym (still_repeated row (before ++ e ∷ []) ds (has_repeat-push before e ∙ or_true (has_repeat R before) (has_key R e.0 before) is)))
              | false ↦ λ is.
                  ap (λ b. cond b (Err faults.BadState) (rows_into row (insert (from_entries before) e.0 e.1) ds)) (known before e.0 false is)
                  ∙ ap (λ m. rows_into row m ds) (sym (from_entries_push o exact before e.0 e.1 (is_none _ (is_some-find e.0 before ∙ is))))
                  ∙ rows_into-until_fault row (before ++ e ∷ []) ds (has_repeat-push before e ∙ ap (λ b. b || has_key R e.0 before) h ∙ is)
            ] refl
          ]

      rows-until_fault : (row : Data → Reading (K × ℤ)) {V : Type 0} (json : V → Data) (d : Data) (vs : List V) (es : List (K × ℤ)) (f : Option JsonFault) → Some (items_of (map json vs)) ≡ as_array d → ◌≡◌ {A = List (K × ℤ) × Option JsonFault} (es, f) (until_fault row [] (items_of (map json vs)))
          → rows R row d ≡ looked_at (es, f)
      rows-until_fault row json d vs es f is read = rw (← is) (rows_into-until_fault row [] (items_of (map json vs)) refl ∙ ap looked_at (sym read))

      -- a key that stands twice
      pub rows-repeated : (row : Data → Reading (K × ℤ)) {V : Type 0} (json : V → Data) (d : Data) (vs : List V) (es : List (K × ℤ)) (f : Option JsonFault) → Some (items_of (map json vs)) ≡ as_array d → ◌≡◌ {A = List (K × ℤ) × Option JsonFault} (es, f) (until_fault row [] (items_of (map json vs)))
          → has_repeat R es ≡ true → rows R row d ≡ Err faults.BadState
      rows-repeated row json d vs es f is read h = rows-until_fault row json d vs es f is read ∙ ap (λ b. cond b (Err faults.BadState) (ending f (from_entries es))) h

      -- the fault of a row
      pub rows-fault : (row : Data → Reading (K × ℤ)) {V : Type 0} (json : V → Data) (d : Data) (vs : List V) (es : List (K × ℤ)) (fault : JsonFault) → Some (items_of (map json vs)) ≡ as_array d → ◌≡◌ {A = List (K × ℤ) × Option JsonFault} (es, Some fault) (until_fault row [] (items_of (map json vs)))
          → has_repeat R es ≡ false → rows R row d ≡ Err fault
      rows-fault row json d vs es fault is read h = rows-until_fault row json d vs es (Some fault) is read ∙ ap (λ b. cond b (Err faults.BadState) (Err fault)) h

      -- rows that all stand for something
      pub rows-map : (row : Data → Reading (K × ℤ)) {V : Type 0} (json : V → Data) (d : Data) (vs : List V) (es : List (K × ℤ)) (m : List (K × ℤ)) → Some (items_of (map json vs)) ≡ as_array d → ◌≡◌ {A = List (K × ℤ) × Option JsonFault} (es, None) (until_fault row [] (items_of (map json vs)))
          → has_repeat R es ≡ false → T (is_sorted R m) → ((k : K) → find R k m ≡ find R k es) → rows R row d ≡ Ok (from_sorted m)
      rows-map row json d vs es m is read h sorted same =
          rows-until_fault row json d vs es None is read ∙ ap (λ b. cond b (Err faults.BadState) (Ok (from_entries es))) h
          ∙ ap Ok (same_map o exact (from_entries es) (from_sorted m) (λ q. get-from_entries o es q ∙ sym (same q) ∙ sym (get-from_sorted R m q sorted)))

-- ---- amounts

from_Ok : {A : Type 0} (a b : A) → ◌≡◌ {A = Reading A} (Ok a) (Ok b) → a ≡ b
from_Ok a b h = cc

bind_ok : {A B : Type 0} (r : Reading A) (f : A → Reading B) (b : B) → (r >>= f) ≡ Ok b → (a : A) × (f a ≡ Ok b)
bind_ok (Ok a) f b h = (a, h)
bind_ok (Err fault) f b h = cc

module _ {K : Type 0} where
  row_positive : (k : K) (n : ℤ) (e : K × ℤ) → cond (int_lt (pos 0) n) (Ok (k, n)) (Err faults.BadState) ≡ Ok e → pos 0 <ℤ e.1
  row_positive k n e h =
      elim (int_lt (pos 0) n) as (λ b. int_lt (pos 0) n ≡ b → cond b (Ok (k, n)) (Err faults.BadState) ≡ Ok e → pos 0 <ℤ e.1) [
        | true ↦ λ is same. let above : pos 0 <ℤ n = omega (arith, ints, is) in let number : n ≡ e.1 = cc in subst (λ m. pos 0 <ℤ m) number above
        | false ↦ λ is same. cc
      ] refl h

  none_positive : (es : List (K × ℤ)) → length es ≡ 0 → AllPositive es
  none_positive [] h = tt
  none_positive (e ∷ es) h = absurd (omega arith)

  module _ (R : K → K → Ordering) where
    no_rows : AllPositive (entries (empty {X = ℤ} {R = R}))
    no_rows = none_positive (entries empty) (sym (len-entries empty) ∙ len-empty R ℤ)

    -- each row that is read has more than 0
    abbrev RowsArePositive : (Data → Reading (K × ℤ)) → Type 0
    RowsArePositive row = (d : Data) (e : K × ℤ) → row d ≡ Ok e → pos 0 <ℤ e.1

    module _ (o : IsTotalOrder R) (row : Data → Reading (K × ℤ)) (above : RowsArePositive row) where
      all_positive : (m n : FinMap R ℤ) (ds : Items) → AllPositive (entries m) → rows_into row m ds ≡ Ok n → AllPositive (entries n)
      unfolding rows_into
      all_positive m n no_items h is = subst (λ z. AllPositive (entries z)) (from_Ok _ _ is) h
      all_positive m n (item d ds) h is =
          elim (row d) as (λ r. row d ≡ r → (r >>= λ e. cond (contains_key m e.0) (Err faults.BadState) (rows_into row (insert m e.0 e.1) ds)) ≡ Ok n → AllPositive (entries n)) [
            | Err fault ↦ λ read same. cc
            | Ok e ↦ λ read. elim (contains_key m e.0) as (λ b. cond b (Err faults.BadState) (rows_into row (insert m e.0 e.1) ds) ≡ Ok n → AllPositive (entries n)) [
              | true ↦ λ same. cc
              | false ↦ λ same. all_positive (insert m e.0 e.1) n ds (subst AllPositive (sym (entries-insert o m e.0 e.1)) (AllPositive-put R e.0 e.1 (entries m) (above d e read) h)) same
            ]
          ] refl is

      -- all rows that are read have more than 0
      rows-positive : (d : Data) (es : List (K × ℤ)) → T (is_sorted R es) → rows R row d ≡ Ok (from_sorted es) → AllPositive es
      rows-positive d es sorted h =
          let needed = bind_ok (needed (as_array d)) _ _ h in
          subst AllPositive (entries-from_sorted R es sorted) (all_positive empty (from_sorted es) needed.0 no_rows needed.1)

-- an account that is read has more than 0
account_row-positive : (number : Data → Reading ℤ) (d : Data) (e : Account × ℤ) → account_row_by number d ≡ Ok e → pos 0 <ℤ e.1
unfolding account_row_by
account_row-positive number d e h =
    let p = bind_ok (pair d) _ e h in
    let a = bind_ok (account p.0.0) _ e p.1 in
    let n = bind_ok (number p.0.1) _ e a.1 in
    row_positive a.0 n.0 e n.1

-- and so has an amount
amount_row-positive : (number : Data → Reading ℤ) (d : Data) (e : Token × ℤ) → amount_row_by number d ≡ Ok e → pos 0 <ℤ e.1
unfolding amount_row_by
amount_row-positive number d e h =
    let p = bind_ok (pair d) _ e h in
    let t = bind_ok (token p.0.0) _ e p.1 in
    let n = bind_ok (number p.0.1) _ e t.1 in
    row_positive t.0 n.0 e n.1

pub accounts_positive : (number : Data → Reading ℤ) (d : Data) (es : List (Account × ℤ)) → T (is_sorted account_cmp es) → rows account_cmp (account_row_by number) d ≡ Ok (from_sorted es) → AllPositive es
accounts_positive number = rows-positive account_cmp account_total (account_row_by number) (account_row-positive number)

pub amounts_positive : (number : Data → Reading ℤ) (d : Data) (es : List (Token × ℤ)) → T (is_sorted token_cmp es) → rows token_cmp (amount_row_by number) d ≡ Ok (from_sorted es) → AllPositive es
amounts_positive number = rows-positive token_cmp token_total (amount_row_by number) (amount_row-positive number)
