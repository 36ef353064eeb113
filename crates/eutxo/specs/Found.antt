-- The resolution of a transaction: the outputs of its inputs, and the scripts that it names, as far as they were found.
use Rattle.std.specs.Prelude.{◌≡◌, ℕ, Bool, true, ◌&&◌, if◌then◌else◌, List, [], ◌∷◌, Option, Some, None, is_some, option_map}
use Rattle.std.specs.Cmp.Lexicographic.{pointwise}
use Rattle.std.specs.List.{list_all}
use Rattle.std.specs.FinMap as map
use Rattle.std.specs.FinMap.{FinMap}
use Rattle.contract.specs.Names.Orders.{bytes_cmp}
use Rattle.eutxo_types.specs.declared.lock.Lock.{Lock}
use Rattle.eutxo_types.specs.declared.lock.Lock.TheVariants.{Key, Payout, Contract}
use Rattle.eutxo_types.specs.declared.output.Output.{Output}
use Rattle.eutxo_types.specs.declared.spend.Spend.{Spend}
use Rattle.eutxo_types.specs.declared.tx.Tx.{Tx}
use Rattle.eutxo.specs.declared.resolved.Resolved.{Resolved}
use Rattle.eutxo_types.specs.Parts.{same_bytes}

-- each input with its output, where none is missing
abbrev pub with_output : Spend → Option Output → Option (List (Spend × Output)) → Option (List (Spend × Output))
with_output x None rest = None
with_output x (Some o) rest = option_map (λ ys. (x, o) ∷ ys) rest

abbrev pub with_outputs : List Spend → List (Option Output) → Option (List (Spend × Output))
with_outputs [] os = Some []
with_outputs (x ∷ xs) [] = None
with_outputs (x ∷ xs) (o ∷ os) = with_output x o (with_outputs xs os)

-- the script with this id
abbrev pub script_at : {V : Type 0} → FinMap bytes_cmp V → List ℕ → Option V
script_at scripts id = map.get scripts id

-- whether the script that a lock names was found
abbrev pub is_known : {V : Type 0} → (List ℕ → Option V) → Lock → Bool
is_known named (Key a) = true
is_known named (Payout currency role) = true
is_known named (Contract script d) = is_some (named script)

-- whether those of all outputs, made and spent, were
abbrev pub all_known : {V : Type 0} → (List ℕ → Option V) → List Output → List (Spend × Output) → Bool
all_known named made spent = list_all (λ o. is_known named o.lock) made && list_all (λ x. is_known named x.1.lock) spent

abbrev pub if_known : {V : Type 0} → (List ℕ → Option V) → List Output → Option (List (Spend × Output)) → Option (List (Spend × Output))
if_known named made None = None
if_known named made (Some spent) = if all_known named made spent then Some spent else None

-- each input with its output, where nothing is missing
abbrev pub whole : {V : Type 0} → Tx → Resolved V → Option (List (Spend × Output))
whole tx found = if_known (script_at found.scripts) tx.outputs (with_outputs tx.inputs found.outputs)

-- whether both have the same ids, and under each of them scripts that a test takes for equal
abbrev pub same_entries : {V : Type 0} → (V → V → Bool) → List (List ℕ × V) → List (List ℕ × V) → Bool
same_entries eq = pointwise (λ x y. same_bytes x.0 y.0 && eq x.1 y.1)

abbrev pub same_scripts : {V : Type 0} → (V → V → Bool) → FinMap bytes_cmp V → FinMap bytes_cmp V → Bool
same_scripts eq a b = same_entries eq (map.entries a) (map.entries b)

-- both have the same outputs and equal scripts
abbrev pub AreEqual : {V : Type 0} → (V → V → Bool) → Resolved V → Resolved V → Type 0
AreEqual eq a b = (a.outputs ≡ b.outputs) × (same_scripts eq a.scripts b.scripts ≡ true)
