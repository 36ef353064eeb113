-- A map that was written is read as it was, and so is a state.
use Rattle.std.proofs.Common.{◌≡◌, ℤ, pos, ◌<ℤ◌, Bool, true, false, cond, ◌&&◌, ◌||◌, List, [], ◌∷◌, ◌++◌, ℕ, map, Option, None, Ok, Err, FitsSigned, refl, sym, ap, ◌∙◌, append_assoc, append-nil, arith}
use Rattle.std.proofs.lemmas.Int.{ints}
use Rattle.std.specs.Prelude.{codes, int_lt}
use Rattle.std.specs.Int.{w128}
use Rattle.std.specs.List.{list_all, All, AllByRecursion}
use Rattle.std.proofs.lemmas.List.Elements.{recursion_from_All}
use Rattle.std.proofs.Math.Dec.{T}
use Rattle.std.specs.declared.cmp.Ordering.{Ordering}
use Rattle.std.specs.declared.cmp.Ordering.TheVariants.{Less, Equal, Greater}
use Rattle.std.specs.Ordering.{is_lt, is_eq}
use Rattle.std.specs.FinMap.Entries.{below_all, is_sorted}
use Rattle.std.specs.Cmp.{IsTotalOrder}
use Rattle.std.specs.FinMap.{FinMap, IsAntisymmetric, empty, entries, entries_sorted, from_entries, get-entries, get-from_entries, same_map}
use Rattle.contract.specs.Names.declared.account.Account.{Account}
use Rattle.contract.specs.Names.Orders.{bytes_cmp, account_cmp, choice_id_cmp}
use Rattle.contract.specs.Names.Totals.{bytes_total, account_total, choice_id_total}
use Rattle.contract.proofs.FromNames.Exact.{bytes_exact, account_exact, choice_id_exact}
use Rattle.contract.specs.States.States.{StateMaps, AllPositive}
use Rattle.contract.specs.Collections.Repeats.{has_key, has_repeat}
use Rattle.std.specs.Fmt.{signed_decimal}
use Rattle.serde_json.specs.Data.{Data, string, Items, no_items, item}
use Rattle.serde_json.specs.Find.{as_array}
use Rattle.contract.specs.Collections.Answers.{◌>>=◌}
use Rattle.json_read_names.specs.Parts.{Reading, needed, all_items, list, time}
use Rattle.json_read_inputs.specs.ReadsState.{account_row_by, choice_row_by, bound_row_by, rows_into, rows, state_by, state, state_with_texts}
use Rattle.json_read_inputs.specs.ReadsNumber.{number_or_text}
use Rattle.json_read_inputs.specs.Rows.{and_then, until_fault}
use Rattle.contract.specs.Names.declared.choice_id.ChoiceId.{ChoiceId}
use Rattle.serde_json.specs.Data.{array}
use Rattle.serde_json.specs.View.{items_of}
use Rattle.json_read_names.specs.Parts.{text, whole_number}
use Rattle.json_read_names.specs.ReadsNames.{party, token, choice_id}
use Rattle.json_write_contracts.specs.WrittenNames.{four, pair_json, number_json, wide_json, party_json, token_json, choice_id_json, number_fits, time_fits}
use Rattle.json_write_outcomes.specs.Each.{Each, HasBytes}
use Rattle.json_write_outcomes.specs.WrittenOutcome.{account_row_json, choice_row_json, bound_row_json, state_json, state_fits}
use Rattle.contract_json.specs.Readable.{HasBits}
use Rattle.contract_json.proofs.Hexes.{token-token_json}
use Rattle.contract_json.proofs.ReturnsNames.{time-number_json, whole-number_json, party-party_json, choice_id-choice_id_json}
use Rattle.json_read_names.specs.declared.fault.JsonFault.{JsonFault}
use Rattle.json_read_names.specs.declared.fault.JsonFault.TheVariants.{BadState}
use Rattle.json_read_inputs.proofs.DigitLaws.{text-written}
use Rattle.json_read_inputs.proofs.RowLaws.{looked_at, rows_into-until_fault}

both : (a b : Bool) → (a && b) ≡ true → (a ≡ true) × (b ≡ true)
both true b h = (refl, h)
both false b h = cc

-- rows that all stand for something are read to their end
until_fault-all : {E : Type 0} (row : Data → Reading E) (ds : Items) (before es : List E) → all_items row ds ≡ Ok es → ◌≡◌ {A = List E × Option JsonFault} (until_fault row before ds) (before ++ es, None)
until_fault-all row no_items before es h = let none : [] ≡ es = cc in λ i. ((sym (append-nil before) ∙ ap (λ xs. before ++ xs) none) i, None)
until_fault-all {E = E} row (item d ds) before es h =
    elim (row d) as (λ r. (r >>= λ x. all_items row ds >>= λ xs. Ok (x ∷ xs)) ≡ Ok es → ◌≡◌ {A = List E × Option JsonFault} (and_then before r (λ now. until_fault row now ds)) (before ++ es, None)) [
      | Err fault ↦ λ is. cc
      | Ok e ↦ elim (all_items row ds) as (λ r. all_items row ds ≡ r → (r >>= λ xs. Ok (e ∷ xs)) ≡ Ok es → ◌≡◌ {A = List E × Option JsonFault} (until_fault row (before ++ e ∷ []) ds) (before ++ es, None)) [
        | Err fault ↦ λ rest is. cc
        | Ok xs ↦ λ rest is. let all : e ∷ xs ≡ es = cc in
            until_fault-all row ds (before ++ e ∷ []) xs rest ∙ (λ i. ((append_assoc before (e ∷ []) xs ∙ ap (λ ys. before ++ ys) all) i, None))
      ] refl
    ] h

parts_of : (a b : Bool) → T (a && b) → T a × T b
parts_of true b h = (tt, h)
parts_of false b h = absurd h

less_apart : (r : Ordering) → T (is_lt r) → is_eq r ≡ false
less_apart Less h = refl
less_apart Equal h = absurd h
less_apart Greater h = absurd h

module _ {K : Type 0} (R : K → K → Ordering) where
  below_apart : (k : K) (es : List (K × ℤ)) → T (below_all R k es) → has_key R k es ≡ false
  below_apart k [] h = refl
  below_apart k (e ∷ es) h =
      let p = parts_of (is_lt (R k e.0)) (below_all R k es) h in
      λ i. less_apart (R k e.0) p.0 i || below_apart k es p.1 i

  -- where the keys rise, none is repeated
  rising_apart : (es : List (K × ℤ)) → T (is_sorted R es) → has_repeat R es ≡ false
  rising_apart [] h = refl
  rising_apart (e ∷ es) h =
      let p = parts_of (below_all R e.0 es) (is_sorted R es) h in
      λ i. below_apart e.0 es p.0 i || rising_apart es p.1 i

module _ {K : Type 0} (R : K → K → Ordering) (o : IsTotalOrder R) (exact : IsAntisymmetric R) where
  rows_into-entries : (row : Data → Reading (K × ℤ)) (ds : Items) (m : FinMap R ℤ) → all_items row ds ≡ Ok (entries m) → rows_into row (empty {R = R}) ds ≡ Ok m
  rows_into-entries row ds m h =
      rows_into-until_fault R o exact row [] ds refl ∙ ap (looked_at R o) (until_fault-all row ds [] (entries m) h)
      ∙ ap (λ b. cond b (Err BadState) (Ok (from_entries (entries m)))) (rising_apart R (entries m) (entries_sorted m))
      ∙ ap Ok (same_map o exact (from_entries (entries m)) m (λ q. get-from_entries o (entries m) q ∙ sym (get-entries m q)))

  either_way : (row : Data → Reading (K × ℤ)) (r : Reading Items) (m : FinMap R ℤ) → (r >>= all_items row) ≡ Ok (entries m) → (r >>= rows_into row (empty {R = R})) ≡ Ok m
  either_way row (Ok ds) m h = rows_into-entries row ds m h
  either_way row (Err fault) m h = cc

  -- a list of a map's rows stands for the map
  pub rows-list : (row : Data → Reading (K × ℤ)) (d : Data) (m : FinMap R ℤ) → list row d ≡ Ok (entries m) → rows R row d ≡ Ok m
  rows-list row d m h = either_way row (needed (as_array d)) m h

above : (n : ℤ) → pos 0 <ℤ n → int_lt (pos 0) n ≡ true
above n h = elim (int_lt (pos 0) n) as (λ b. int_lt (pos 0) n ≡ b → b ≡ true) [ true ↦ λ is. refl | false ↦ λ is. absurd (omega (arith, ints, is)) ] refl

-- the reading of a number reads what was written for an entry's
abbrev IsReadBack : {K : Type 0} → (Data → Reading ℤ) → K × ℤ → Type 0
IsReadBack number e = number (wide_json e.1) ≡ Ok e.1

wide-back : (n : ℤ) → number_fits n ≡ true → whole_number (wide_json n) ≡ Ok n
wide-back n h = ap (λ b. whole_number (cond b (number_json n) (string (signed_decimal n)))) h ∙ whole-number_json n

-- as whole numbers, where JSON has them
fitting-back : {K : Type 0} (es : List (K × ℤ)) → list_all (λ e. number_fits e.1) es ≡ true → Each (IsReadBack whole_number) es
fitting-back [] h = tt
fitting-back (e ∷ es) h = let p = both (number_fits e.1) (list_all (λ x. number_fits x.1) es) h in (wide-back e.1 p.0, fitting-back es p.1)

wide-text-back : (n : ℤ) → FitsSigned w128 n → number_or_text (wide_json n) ≡ Ok n
wide-text-back n h =
    elim (number_fits n) as (λ b. number_or_text (cond b (number_json n) (string (signed_decimal n))) ≡ Ok n) [ true ↦ whole-number_json n | false ↦ text-written n h ]

-- and as texts, where they have 128 bits
texts-back : {K : Type 0} (es : List (K × ℤ)) → Each HasBits es → Each (IsReadBack number_or_text) es
texts-back [] h = tt
texts-back (e ∷ es) h = (wide-text-back e.1 h.0, texts-back es h.1)

module _ (number : Data → Reading ℤ) where
  account-pair : (o t n : Data) (e : Account × ℤ) → party o ≡ Ok e.0.owner → token t ≡ Ok e.0.token → number n ≡ Ok e.1 → int_lt (pos 0) e.1 ≡ true → account_row_by number (pair_json (pair_json o t) n) ≡ Ok e
  unfolding account_row_by
  account-pair o t n e h k l m = rw (h, k, l, m) refl

  choice-pair : (i n : Data) (e : ChoiceId × ℤ) → choice_id i ≡ Ok e.0 → number n ≡ Ok e.1 → choice_row_by number (pair_json i n) ≡ Ok e
  unfolding choice_row_by
  choice-pair i n e h k = rw (h, k) refl

  bound-pair : (t n : Data) (e : List ℕ × ℤ) → text t ≡ Ok e.0 → number n ≡ Ok e.1 → bound_row_by number (pair_json t n) ≡ Ok e
  unfolding bound_row_by
  bound-pair t n e h k = rw (h, k) refl

-- a list that was written is read as it was, where its items are
each-back : {X : Type 0} (reading : Data → Reading X) (json : X → Data) (x : X) (xs : List X) → reading (json x) ≡ Ok x → all_items reading (items_of (map json xs)) ≡ Ok xs → all_items reading (items_of (map json (x ∷ xs))) ≡ Ok (x ∷ xs)
each-back reading json x xs h i = rw (h, i) refl

module _ (number : Data → Reading ℤ) where
  accounts-back : (es : List (Account × ℤ)) → Each HasBytes es → AllPositive es → Each (IsReadBack number) es → list (account_row_by number) (array (items_of (map account_row_json es))) ≡ Ok es
  accounts-back [] s p h = refl
  accounts-back (e ∷ es) s p h =
      each-back (account_row_by number) account_row_json e es
      (account-pair number (party_json e.0.owner) (token_json e.0.token) (wide_json e.1) e (party-party_json e.0.owner) (token-token_json (token_json e.0.token) e.0.token refl s.0) h.0 (above e.1 p.0))
      (accounts-back es s.1 p.1 h.1)

  choices-back : (es : List (ChoiceId × ℤ)) → Each (IsReadBack number) es → list (choice_row_by number) (array (items_of (map choice_row_json es))) ≡ Ok es
  choices-back [] h = refl
  choices-back (e ∷ es) h = each-back (choice_row_by number) choice_row_json e es (choice-pair number (choice_id_json e.0) (wide_json e.1) e (choice_id-choice_id_json e.0) h.0) (choices-back es h.1)

  bounds-back : (es : List (List ℕ × ℤ)) → Each (IsReadBack number) es → list (bound_row_by number) (array (items_of (map bound_row_json es))) ≡ Ok es
  bounds-back [] h = refl
  bounds-back (e ∷ es) h = each-back (bound_row_by number) bound_row_json e es (bound-pair number (string e.0) (wide_json e.1) e refl h.0) (bounds-back es h.1)

  state-four : (a b c t : Data) (s : StateMaps) → rows account_cmp (account_row_by number) a ≡ Ok s.accounts → rows choice_id_cmp (choice_row_by number) c ≡ Ok s.choices → rows bytes_cmp (bound_row_by number) b ≡ Ok s.bound_values → time t ≡ Ok s.min_time
      → state_by number (four (codes "accounts") a (codes "boundValues") b (codes "choices") c (codes "minTime") t) ≡ Ok s
  state-four a b c t s h i j k = rw (h, i, j, k) refl

  -- a state that was written is read as it was, where its numbers are
  state_by-back : (s : StateMaps) → Each HasBytes (entries s.accounts) → AllPositive (entries s.accounts) → time_fits s.min_time ≡ true
      → Each (IsReadBack number) (entries s.accounts) → Each (IsReadBack number) (entries s.choices) → Each (IsReadBack number) (entries s.bound_values) → state_by number (state_json s) ≡ Ok s
  state_by-back s bytes positive time accounts choices bounds =
      state-four (array (items_of (map account_row_json (entries s.accounts)))) (array (items_of (map bound_row_json (entries s.bound_values)))) (array (items_of (map choice_row_json (entries s.choices)))) (number_json s.min_time) s
      (rows-list account_cmp account_total account_exact (account_row_by number) (array (items_of (map account_row_json (entries s.accounts)))) s.accounts (accounts-back (entries s.accounts) bytes positive accounts))
      (rows-list choice_id_cmp choice_id_total choice_id_exact (choice_row_by number) (array (items_of (map choice_row_json (entries s.choices)))) s.choices (choices-back (entries s.choices) choices))
      (rows-list bytes_cmp bytes_total bytes_exact (bound_row_by number) (array (items_of (map bound_row_json (entries s.bound_values)))) s.bound_values (bounds-back (entries s.bound_values) bounds))
      (time-number_json s.min_time time)

-- a state that was written is read as it was, where JSON has its numbers
pub state-back : (s : StateMaps) → Each HasBytes (entries s.accounts) → AllPositive (entries s.accounts) → time_fits s.min_time ≡ true → state_fits s ≡ true → state (state_json s) ≡ Ok s
state-back s bytes positive time fits =
    let parts = both (list_all (λ e. number_fits e.1) (entries s.accounts)) _ fits in
    let others = both (list_all (λ e. number_fits e.1) (entries s.choices)) (list_all (λ e. number_fits e.1) (entries s.bound_values)) parts.1 in
    state_by-back whole_number s bytes positive time (fitting-back (entries s.accounts) parts.0) (fitting-back (entries s.choices) others.0) (fitting-back (entries s.bound_values) others.1)

each-of : {X : Type 0} (P : X → Type 0) (xs : List X) → AllByRecursion P xs → Each P xs
each-of P [] h = tt
each-of P (x ∷ xs) h = (h.0, each-of P xs h.1)

each-of-all : {X : Type 0} (P : X → Type 0) (xs : List X) → All P xs → Each P xs
each-of-all P xs h = each-of P xs (recursion_from_All P xs h)

-- any state that was written is read as it was, where texts may be numbers
pub state-texts-back : (s : StateMaps) → All HasBytes (entries s.accounts) → AllPositive (entries s.accounts) → time_fits s.min_time ≡ true
    → All HasBits (entries s.accounts) → All HasBits (entries s.choices) → All HasBits (entries s.bound_values) → state_with_texts (state_json s) ≡ Ok s
state-texts-back s bytes positive time accounts choices bounds =
    state_by-back number_or_text s (each-of-all HasBytes (entries s.accounts) bytes) positive time
    (texts-back (entries s.accounts) (each-of-all HasBits (entries s.accounts) accounts))
    (texts-back (entries s.choices) (each-of-all HasBits (entries s.choices) choices))
    (texts-back (entries s.bound_values) (each-of-all HasBits (entries s.bound_values) bounds))
