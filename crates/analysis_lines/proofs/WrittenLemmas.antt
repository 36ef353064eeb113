-- The numbers that JSON has.
use Rattle.std.proofs.Common.{◌≡◌, ℤ, pos, negsuc, ◌≤ℤ◌, ◌^◌, ◌-◌, ◌&&◌, Bool, true, List, [], ◌∷◌, refl, sym, Option, Some, None, IfSome, arith}
use Rattle.std.proofs.lemmas.Int.{ints}
use Rattle.std.specs.Prelude.{◌↔◌, IsTrue, All}
use Rattle.std.specs.List.{AllByRecursion, list_all}
use Rattle.std.proofs.lemmas.List.Elements.{All-weaker, recursion_from_All}
use Rattle.std.proofs.lemmas.Bool.{ltb_from_iff}
use Rattle.contract.specs.declared.input.Input.{Input}
use Rattle.contract.specs.declared.input.Input.TheVariants.{Deposit, Choice, Notify}
use Rattle.contract.specs.declared.transaction.Transaction.{Transaction}
use Rattle.json_write_contracts.specs.WrittenNames.{number_fits}
use Rattle.contract_json.specs.WrittenInput.{input_fits, transaction_fits}
use Rattle.bound_runs.specs.Told.{HasNumber, HasNumbers}
use Rattle.analysis_lines.specs.ToldLines.{RunFits}

fits_so : (n : ℤ) (b : Bool) → (IsTrue b ↔ ((negsuc (2 ^ 63 - 1) ≤ℤ n) × (n ≤ℤ pos (2 ^ 64 - 1)))) → b ≡ number_fits n
fits_so (pos n) b h = ltb_from_iff (λ t. let p = h.0 t in omega (arith, ints, p.1), λ l. h.1 (omega (arith, ints), omega (arith, ints, l)))
fits_so (negsuc n) b h = ltb_from_iff (λ t. let p = h.0 t in omega (arith, ints, p.0), λ l. h.1 (omega (arith, ints, l), omega (arith, ints)))

-- ---- runs that reach bounds

number_so : (n : ℤ) → (negsuc (2 ^ 63 - 1) ≤ℤ n) × (n ≤ℤ pos (2 ^ 64 - 1)) → number_fits n ≡ true
number_so n h = sym (fits_so n true (λ _. h, λ _. refl))

input_so : (x : Input) → HasNumber x → input_fits x ≡ true
input_so (Deposit a p t n) h = number_so n h
input_so (Choice id n) h = number_so n h
input_so Notify h = refl

inputs_so : (xs : List Input) → AllByRecursion HasNumber xs → list_all input_fits xs ≡ true
inputs_so [] h = refl
inputs_so (x ∷ xs) h = by (input_fits x) (list_all input_fits xs) (input_so x h.0) (inputs_so xs h.1)
  where
    by : (b c : Bool) → b ≡ true → c ≡ true → b && c ≡ true
    by true c e f = f
    by Bool.false c e f = absurd (cc)

transaction_so : (t : Transaction) → All HasNumber t.inputs → transaction_fits t ≡ true
transaction_so t h = inputs_so t.inputs (recursion_from_All HasNumber t.inputs h)

run_fits : (ts : List Transaction) → HasNumbers ts → RunFits ts
run_fits ts h = All-weaker (λ (t : Transaction). All HasNumber t.inputs) (λ t. transaction_fits t ≡ true) transaction_so ts h

pub runs_fit : (o : Option (List Transaction)) → IfSome o HasNumbers → IfSome o RunFits
runs_fit (Some ts) h = run_fits ts h
runs_fit None h = tt
