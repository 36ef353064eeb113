-- Which entry of a list is the first whose key an earlier one has.
use Rattle.std.specs.Prelude.{ℕ, ◌+◌, ◌==◌, cond, Option, Some, None, Ok, Err, if◌then◌else◌}
use Rattle.std.specs.declared.cmp.Ordering.{Ordering}
use Rattle.std.specs.Ordering.{is_eq}
use Rattle.serde_json.specs.Data.{Data, Items, no_items, item}
use Rattle.contract.specs.Names.Orders.{bytes_cmp, account_cmp, choice_id_cmp, token_cmp}
use Rattle.contract.specs.Collections.Answers.{◌>>=◌}
use Rattle.json_read_names.specs.Parts.{Reading, pair, text}
use Rattle.json_read_names.specs.ReadsNames.{choice_id, token}
use Rattle.json_read_inputs.specs.ReadsState.{account}
use Rattle.json_forms.specs.declared.sort.Sort.{Sort}
use Rattle.json_forms.specs.declared.sort.Sort.TheVariants as sorts

-- the key of an entry, which is a list of the two
abbrev pub entry_key : {K : Type 0} → (Data → Reading K) → Data → Reading K
entry_key key d = pair d >>= λ p. key p.0

-- where each key stands, among the entries so far
abbrev pub Places : Type 0 → Type 0
Places K = K → Option ℕ

abbrev pub no_places : {K : Type 0} → Places K
no_places k = None

-- the index of an entry, and that of the earlier one that has its key
abbrev pub Repeat : Type 0
Repeat = ℕ × ℕ

abbrev pub repeat_or : ℕ → Option ℕ → Option Repeat → Option Repeat
repeat_or n (Some first) rest = Some (n, first)
repeat_or n None rest = rest

-- an entry without a key ends the search
abbrev pub if_key : {K : Type 0} → (K → Option Repeat) → Reading K → Option Repeat
if_key search (Ok k) = search k
if_key search (Err fault) = None

module _ {K : Type 0} (cmp : K → K → Ordering) where
  -- one key more, at an index
  abbrev pub placed : K → ℕ → Places K → Places K
  placed k n places q = cond (is_eq (cmp k q)) (Some n) (places q)

  -- the first whose key has a place already, counted from a number on
  abbrev pub repeat_from : (Data → Reading K) → Places K → ℕ → Items → Option Repeat
  repeat_from key places n no_items = None
  repeat_from key places n (item d ds) = if_key (λ k. repeat_or n (places k) (repeat_from key (placed k n places) (n + 1) ds)) (key d)

-- the first of a list of a sort; what isn't a list of keys and numbers has none
abbrev pub repeat_in : Sort → Items → Option Repeat
repeat_in (sorts.Accounts numbers) ds = repeat_from account_cmp (entry_key account) no_places 0 ds
repeat_in (sorts.Choices numbers) ds = repeat_from choice_id_cmp (entry_key choice_id) no_places 0 ds
repeat_in (sorts.BoundValues numbers) ds = repeat_from bytes_cmp (entry_key text) no_places 0 ds
repeat_in sorts.Amounts ds = repeat_from token_cmp (entry_key token) no_places 0 ds
repeat_in other ds = None

-- the index of the earlier one, where the entry at an index is the one that repeats its key
abbrev pub earlier : Option Repeat → ℕ → Option ℕ
earlier None n = None
earlier (Some repeat) n = if repeat.0 == n then Some repeat.1 else None
