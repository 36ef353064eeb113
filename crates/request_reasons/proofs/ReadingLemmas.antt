-- What is told once a part of a request is read, or isn't.
use Rattle.std.proofs.Common.{◌≡◌, ℕ, List, Result, Ok, Err, IfOk, subst, sym}
use Rattle.std.proofs.lemmas.Result.{IfOk-weaker}
use Rattle.std.specs.declared.vec.Vec.{Vec}
use Rattle.std.specs.declared.alloc.Global.{Global}
use Rattle.contract.specs.declared.tree.Contract.{Contract}
use Rattle.contract.specs.declared.transaction.Transaction.{Transaction}
use Rattle.contract.specs.Tree.{ContractTree, contract_tree}
use Rattle.serde_json.specs.Data.{Data}
use Rattle.refusal_reasons.specs.Reasons.{ReadFirst}
use Rattle.request_parts.specs.declared.refusal.Refusal.{Refusal}
use Rattle.request_reasons.specs.Parts.{TellsAny}
use Rattle.request_reasons.specs.Reasons.{TellsThese, unread}
use Rattle.refusal_reasons.specs.JsonForms.declared.sort.Sort.TheVariants as sorts

module _ {X F : Type 0} (r : Result X F) (Here : List ℕ → Type 0) (Behind : X → List ℕ → Type 0) (written : List ℕ) where
  -- what is behind one that is read
  pub behind_read : (x : X) → r ≡ Ok x → Behind x written → ReadFirst r Here Behind written
  behind_read x is told = subst (λ got. ReadFirst got Here Behind written) (sym is) told

  -- or the one that isn't
  pub unread_here : (fault : F) → r ≡ Err fault → Here written → ReadFirst r Here Behind written
  unread_here fault is told = subst (λ got. ReadFirst got Here Behind written) (sym is) told

-- a contract that is read is told by its tree
pub contract_by : {F : Type 0} (r : Result Contract Refusal) (Here : List ℕ → Type 0) (Behind : ContractTree → List ℕ → Type 0) (c d : Contract) (made result : Result (Vec ℕ Global) F)
    → r ≡ Ok c → d ≡ c → IfOk made (λ written. Behind (contract_tree d) written.items) → result ≡ made → IfOk result (λ written. ReadFirst r Here (λ c. Behind (contract_tree c)) written.items)
contract_by r Here Behind c d made result is same told gives =
    let there : IfOk made (λ written. Behind (contract_tree c) written.items) = subst (λ (e : Contract). IfOk made (λ written. Behind (contract_tree e) written.items)) same told in
    subst (λ m. IfOk m (λ written. ReadFirst r Here (λ c. Behind (contract_tree c)) written.items)) (sym gives)
    (IfOk-weaker made _ _ (λ written. behind_read r Here (λ c. Behind (contract_tree c)) written.items c is) there)

-- transactions
module _ (key : List ℕ) (body : Data) (Behind : List Transaction → List ℕ → Type 0) (written : List ℕ) (r : Result (List Transaction) Refusal) where
  pub these_told : (txs : List Transaction) → r ≡ Ok txs → Behind txs written → TellsThese key body Behind written r
  these_told txs is told = subst (TellsThese key body Behind written) (sym is) told

  pub these_unread : (refusal : Refusal) → r ≡ Err refusal → TellsAny sorts.Transaction (unread refusal key body) written → TellsThese key body Behind written r
  these_unread refusal is told = subst (TellsThese key body Behind written) (sym is) told

-- a list of them that is read
pub list_by : {F : Type 0} (key : List ℕ) (body : Data) (Behind : List Transaction → List ℕ → Type 0) (r : Result (List Transaction) Refusal) (txs ts : List Transaction)
    (made result : Result (Vec ℕ Global) F) → r ≡ Ok txs → ts ≡ txs → IfOk made (λ written. Behind ts written.items) → result ≡ made
    → IfOk result (λ written. TellsThese key body Behind written.items r)
list_by key body Behind r txs ts made result is same told gives =
    let there : IfOk made (λ written. Behind txs written.items) = subst (λ (us : List Transaction). IfOk made (λ written. Behind us written.items)) same told in
    subst (λ m. IfOk m (λ written. TellsThese key body Behind written.items r)) (sym gives)
    (IfOk-weaker made _ _ (λ written. these_told key body Behind written.items r txs is) there)
