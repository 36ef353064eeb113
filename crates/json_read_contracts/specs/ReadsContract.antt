-- What a JSON value stands for as a case and as a contract (Marlowe specification version 3, "Contracts").
use Rattle.std.specs.Prelude.{ℕ, List, [], ◌∷◌, Ok, Err, codes}
use Rattle.std.specs.Ordering.{nat_cmp, match_ordering}
use Rattle.std.specs.Cmp.Lexicographic.{slice_cmp}
use Rattle.serde_json.specs.Data.{Data, array, object, Items, no_items, item, Members, no_members, member}
use Rattle.contract.specs.declared.tree.Case.{Case}
use Rattle.contract.specs.declared.tree.Contract.{Contract}
use Rattle.contract.specs.declared.tree.Contract as contracts
use Rattle.json_read_names.specs.Forms.{contract_form, case_form}
use Rattle.contract.specs.Collections.Answers.{◌>>=◌}
use Rattle.json_read_names.specs.Parts.{Reading, ByKey, reading_at, both_readings, nowhere, text, time, list}
use Rattle.json_read_names.specs.ReadsNames.{party, token, payee}
use Rattle.json_read_values.specs.ReadsValue.{value, observation}
use Rattle.json_read_values.specs.ReadsAction.{action}
use Rattle.json_read_names.specs.declared.fault.JsonFault.TheVariants.{NoForm, Merkleized}
use Rattle.json_read_names.specs.declared.forms.ContractForm.{ContractForm}
use Rattle.json_read_names.specs.declared.forms.ContractForm.TheVariants as contract_forms
use Rattle.json_read_names.specs.declared.forms.CaseForm.{CaseForm}
use Rattle.json_read_names.specs.declared.forms.CaseForm.TheVariants as case_forms

-- A contract of each form, from what the members stand for.
unfoldable pub contract_by : ContractForm → Data → ByKey Contract → ByKey (List Case) → Reading Contract
contract_by contract_forms.Close d contract cases = Ok contracts.Close
contract_by contract_forms.Pay d contract cases = do
  amount ← reading_at value d (codes "pay")
  token ← reading_at token d (codes "token")
  account ← reading_at party d (codes "from_account")
  payee ← reading_at payee d (codes "to")
  then ← contract (codes "then")
  Ok (contracts.Pay account payee token amount then)
contract_by contract_forms.If d contract cases = do
  holds ← reading_at observation d (codes "if")
  branches ← both_readings (contract (codes "then")) (contract (codes "else"))
  Ok (contracts.If holds branches.0 branches.1)
contract_by contract_forms.When d contract cases = do
  list ← cases (codes "when")
  timeout ← reading_at time d (codes "timeout")
  then ← contract (codes "timeout_continuation")
  Ok (contracts.When list timeout then)
contract_by contract_forms.Let d contract cases = do
  name ← reading_at text d (codes "let")
  value ← reading_at value d (codes "be")
  then ← contract (codes "then")
  Ok (contracts.Let name value then)
contract_by contract_forms.Assert d contract cases = do
  holds ← reading_at observation d (codes "assert")
  then ← contract (codes "then")
  Ok (contracts.Assert holds then)
contract_by contract_forms.Nothing d contract cases = Err NoForm

-- A case of each form, from what the members stand for.
unfoldable pub case_by : CaseForm → Data → ByKey Contract → Reading Case
case_by case_forms.Plain d contract = do
  action ← reading_at action d (codes "case")
  then ← contract (codes "then")
  Ok (record { action = action; then = then })
case_by case_forms.Merkleized d contract = Err Merkleized
case_by case_forms.Nothing d contract = Err NoForm

-- The reading of a contract and of a case: that of its form, where what the members stand for is `reading_at contract d` and
-- `reading_at (list case) d` (the law `contracts_are_read_by_form`). The block says it as a recursion down the value, in which `_in`
-- goes down the members to the key; a reader may skip it.
unfoldable mutual
  pub contract : Data → Reading Contract
  contract (object ms) = contract_by (contract_form (object ms)) (object ms) (λ key. contract_in key ms) (λ key. cases_in key ms)
  contract d = contract_by (contract_form d) d nowhere nowhere

  pub contract_in : List ℕ → Members → Reading Contract
  contract_in key no_members = Err NoForm
  contract_in key (member k d ms) = match_ordering (slice_cmp nat_cmp key k) (contract_in key ms) (contract d) (contract_in key ms)

  pub case : Data → Reading Case
  case (object ms) = case_by (case_form (object ms)) (object ms) (λ key. contract_in key ms)
  case d = case_by (case_form d) d nowhere

  pub cases : Data → Reading (List Case)
  cases (array ds) = all_cases ds
  cases d = Err NoForm

  pub all_cases : Items → Reading (List Case)
  all_cases no_items = Ok []
  all_cases (item d ds) = case d >>= λ k. all_cases ds >>= λ ks. Ok (k ∷ ks)

  pub cases_in : List ℕ → Members → Reading (List Case)
  cases_in key no_members = Err NoForm
  cases_in key (member k d ms) = match_ordering (slice_cmp nat_cmp key k) (cases_in key ms) (cases d) (cases_in key ms)

-- by its form
abbrev pub contract_as : ContractForm → Data → Reading Contract
contract_as form d = contract_by form d (reading_at contract d) (reading_at (list case) d)
