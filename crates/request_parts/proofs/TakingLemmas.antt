-- Transactions that are read behind none.
use Rattle.std.proofs.Common.{◌≡◌, ℕ, List, [], ◌++◌, Result, Ok, Err, refl, sym, ap, ◌∙◌, append-nil}
use Rattle.contract.specs.Collections.Answers.{◌>>=◌}
use Rattle.contract.specs.declared.transaction.Transaction.{Transaction}
use Rattle.marlowe_run.specs.JsonReadNames.Parts.{Reading}
use Rattle.json_read_transactions.specs.ReadsTransactions.{taken}
use Rattle.json_read_transactions.specs.TakingSupport.{going_on}
use Rattle.json_read_transactions.specs.declared.fault.ReadFault.{ReadFault}

as_read : (r : Result (List Transaction) ReadFault) → (r >>= λ ts. Ok ([] ++ ts)) ≡ r
as_read (Ok ts) = refl
as_read (Err fault) = refl

-- all are read
pub all_taken : (readings : List (Reading Transaction)) (old now : List Transaction) → old ≡ [] → ((more : List (Reading Transaction)) → going_on old (readings ++ more) ≡ going_on now more) → taken 0 readings ≡ Ok now
all_taken readings old now none h =
    sym (as_read (taken 0 readings)) ∙ (ap (λ rs. going_on [] rs) (sym (append-nil readings)) ∙ (ap (λ ts. going_on ts (readings ++ [])) (sym none) ∙ (h [] ∙ ap Ok (append-nil now))))

-- one has a fault
pub fault_taken : (readings : List (Reading Transaction)) (old : List Transaction) (fault : ReadFault) → old ≡ [] → ((more : List (Reading Transaction)) → going_on old (readings ++ more) ≡ Err fault) → taken 0 readings ≡ Err fault
fault_taken readings old fault none h =
    sym (as_read (taken 0 readings)) ∙ (ap (λ rs. going_on [] rs) (sym (append-nil readings)) ∙ (ap (λ ts. going_on ts (readings ++ [])) (sym none) ∙ h []))
