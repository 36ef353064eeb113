-- One step of reading a contract, by what the members stand for.
use Rattle.std.proofs.Common.{◌≡◌, ℕ, List, ◌∷◌, Ok, refl, ap, ◌∙◌}
use Rattle.std.specs.Prelude.{codes}
use Rattle.std.specs.Ordering.{nat_cmp}
use Rattle.std.specs.Cmp.Lexicographic.{slice_cmp}
use Rattle.serde_json.specs.Data.{Data, null, boolean, number, string, array, object, Items, no_items, item, Members, no_members, member}
use Rattle.serde_json.specs.Find.{get_member}
use Rattle.json_read_names.specs.Forms.{contract_form, case_form}
use Rattle.contract.specs.Collections.Answers.{◌>>=◌}
use Rattle.json_read_names.specs.Parts.{Reading, ByKey, both_readings, needed, reading_at, time, list, all_items}
use Rattle.json_read_names.specs.ReadsNames.{party, payee, token}
use Rattle.json_read_values.specs.ReadsValue.{value}
use Rattle.json_read_contracts.specs.ReadsContract.{contract_by, case_by, contract, contract_in, case, cases, all_cases, cases_in}
use Rattle.json_read_names.proofs.ListLaws.{read_found, then_two}
use Rattle.json_read_names.specs.declared.forms.ContractForm.TheVariants.{Pay, When}
use Rattle.contract.specs.declared.tree.Case.{Case}
use Rattle.contract.specs.declared.tree.Contract.{Contract}
use Rattle.contract.specs.declared.tree.Contract as contracts

contract_in-found : (key : List ℕ) (ms : Members) → contract_in key ms ≡ (needed (get_member key ms) >>= contract)
unfolding contract
contract_in-found key no_members = refl
contract_in-found key (member k d ms) = read_found (slice_cmp nat_cmp key k) (contract_in key ms) (get_member key ms) d contract (contract_in-found key ms)

cases_in-found : (key : List ℕ) (ms : Members) → cases_in key ms ≡ (needed (get_member key ms) >>= cases)
unfolding contract
cases_in-found key no_members = refl
cases_in-found key (member k d ms) = read_found (slice_cmp nat_cmp key k) (cases_in key ms) (get_member key ms) d cases (cases_in-found key ms)

all_cases-items : (ds : Items) → all_cases ds ≡ all_items case ds
unfolding contract
all_cases-items no_items = refl
all_cases-items (item d ds) = ap (λ r. case d >>= λ x. r >>= λ xs. Ok (x ∷ xs)) (all_cases-items ds)

cases-list : (d : Data) → cases d ≡ list case d
unfolding contract
cases-list null = refl
cases-list (boolean b) = refl
cases-list (number n) = refl
cases-list (string s) = refl
cases-list (array ds) = all_cases-items ds
cases-list (object ms) = refl

cases_in-list : (key : List ℕ) (ms : Members) → cases_in key ms ≡ (needed (get_member key ms) >>= list case)
cases_in-list key ms = cases_in-found key ms ∙ ap (λ (f : Data → Reading (List Case)). needed (get_member key ms) >>= f) (λ i d. cases-list d i)

pub contract-step : (d : Data) → contract d ≡ contract_by (contract_form d) d (reading_at contract d) (reading_at (list case) d)
unfolding contract
contract-step null = refl
contract-step (boolean b) = refl
contract-step (number n) = refl
contract-step (string s) = refl
contract-step (array ds) = refl
contract-step (object ms) = λ i. contract_by (contract_form (object ms)) (object ms) (λ key. contract_in-found key ms i) (λ key. cases_in-list key ms i)

pub case-step : (d : Data) → case d ≡ case_by (case_form d) d (reading_at contract d)
unfolding contract
case-step null = refl
case-step (boolean b) = refl
case-step (number n) = refl
case-step (string s) = refl
case-step (array ds) = refl
case-step (object ms) = λ i. case_by (case_form (object ms)) (object ms) (λ key. contract_in-found key ms i)

-- a Pay, by what its members stand for two by two
pub pay-step : (d : Data) (then : ByKey Contract) (cases : ByKey (List Case)) → contract_by Pay d then cases
    ≡ (both_readings (both_readings (reading_at value d (codes "pay")) (reading_at token d (codes "token"))) (both_readings (reading_at party d (codes "from_account")) (reading_at payee d (codes "to"))) >>= λ p.
    then (codes "then") >>= λ c. Ok (contracts.Pay p.1.0 p.1.1 p.0.1 p.0.0 c))
unfolding contract_by
pay-step d then _ =
    then_two (reading_at value d (codes "pay")) (reading_at token d (codes "token"))
    (λ v t. reading_at party d (codes "from_account") >>= λ a. reading_at payee d (codes "to") >>= λ q. then (codes "then") >>= λ c. Ok (contracts.Pay a q t v c))
    ∙ (λ i. both_readings (reading_at value d (codes "pay")) (reading_at token d (codes "token")) >>= λ p.
    then_two (reading_at party d (codes "from_account")) (reading_at payee d (codes "to")) (λ a q. then (codes "then") >>= λ c. Ok (contracts.Pay a q p.1 p.0 c)) i)
    ∙ then_two (both_readings (reading_at value d (codes "pay")) (reading_at token d (codes "token"))) (both_readings (reading_at party d (codes "from_account")) (reading_at payee d (codes "to")))
    (λ p q. then (codes "then") >>= λ c. Ok (contracts.Pay q.0 q.1 p.1 p.0 c))

-- a When, by its cases and what its other members stand for together
pub when-step : (d : Data) (then : ByKey Contract) (cases : ByKey (List Case)) → contract_by When d then cases
    ≡ (cases (codes "when") >>= λ ks. both_readings (reading_at time d (codes "timeout")) (then (codes "timeout_continuation")) >>= λ p. Ok (contracts.When ks p.0 p.1))
unfolding contract_by
when-step d then cases = λ i. cases (codes "when") >>= λ ks.
    then_two (reading_at time d (codes "timeout")) (then (codes "timeout_continuation")) (λ t c. Ok (contracts.When ks t c)) i

pub ruleset contract_steps = (contract-step, case-step)

pub ruleset pay_steps = pay-step

pub ruleset when_steps = when-step
