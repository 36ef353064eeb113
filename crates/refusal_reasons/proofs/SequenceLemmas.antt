-- What is explained of transactions one after another.
use Rattle.std.proofs.Common.{◌≡◌, ℕ, List, [], Option, Some, Result, Ok, Err, IfOk, inl, inr, subst, sym}
use Rattle.std.specs.Prelude.{take, slice_get}
use Rattle.std.specs.declared.vec.Vec.{Vec}
use Rattle.std.specs.declared.alloc.Global.{Global}
use Rattle.contract.specs.declared.transaction.Transaction.{Transaction}
use Rattle.contract.specs.Tree.{contract_tree}
use Rattle.marlowe_explain.specs.Semantics.Walk.{Standing, standing}
use Rattle.marlowe_explain.specs.AnalysisSpec.declared.path.PathStep.{PathStep}
use Rattle.marlowe_explain.specs.AnalysisSpec.Marks.{leads_after}
use Rattle.marlowe_explain.specs.Trace.Traces.{left_by}
use Rattle.marlowe_explain.specs.Trace.declared.sequence.Left.{Left}
use Rattle.explanations.specs.JsonMembers.declared.spelling.Spelling.{Spelling}
use Rattle.refusal_reasons.specs.declared.source.Over.{Over}
use Rattle.marlowe_explain.specs.JsonReadTransactions.declared.fault.ReadFault.{ReadFault}
use Rattle.refusal_reasons.specs.declared.source.Sources.{Sources}
use Rattle.refusal_reasons.specs.Reasons.{TellsTransaction, TellsRefused, TellsOver, TellsRead, TellsThese, TellsUnread}

-- a transaction at an index, from where those before it lead
pub refused_told : (w : Spelling) (a : Standing) (txs : List Transaction) (index : ℕ) (tx : Transaction) (there : Standing) (path : List PathStep) (written : List ℕ)
    → slice_get txs index ≡ Some tx → left_by 0 a (take index txs) ≡ Ok there → path ≡ leads_after [] a (take index txs)
    → TellsTransaction w a.contract path there tx written → TellsRefused w a txs written
refused_told w a txs index tx there path written at leads way told =
    let tells = subst (λ p. TellsTransaction w a.contract p there tx written) way told in
    record { index = index; refused = tx; is_there = at; tells = record { there = there; leads = leads; holds = tells } }

if_refused : {F : Type 0} (w : Spelling) (a : Standing) (txs : List Transaction) (index : ℕ) (tx : Transaction) (there : Standing) (path : List PathStep) (made : Result (Vec ℕ Global) F)
    → slice_get txs index ≡ Some tx → left_by 0 a (take index txs) ≡ Ok there → path ≡ leads_after [] a (take index txs)
    → IfOk made (λ written. TellsTransaction w a.contract path there tx written.items) → IfOk made (λ written. TellsRefused w a txs written.items)
if_refused w a txs index tx there path (Ok written) at leads way told = refused_told w a txs index tx there path written.items at leads way told
if_refused w a txs index tx there path (Err fault) at leads way told = tt

pub refused_by : {F : Type 0} (w : Spelling) (a : Standing) (txs : List Transaction) (index : ℕ) (tx : Transaction) (there : Standing) (path : List PathStep)
    (made result : Result (Vec ℕ Global) F) → slice_get txs index ≡ Some tx → left_by 0 a (take index txs) ≡ Ok there → path ≡ leads_after [] a (take index txs)
    → IfOk made (λ written. TellsTransaction w a.contract path there tx written.items) → result ≡ made
    → IfOk result (λ written. TellsRefused w a txs written.items)
refused_by w a txs index tx there path made result at leads way told is =
    subst (λ r. IfOk r (λ written. TellsRefused w a txs written.items)) (sym is) (if_refused w a txs index tx there path made at leads way told)

-- what is asked about, behind all
pub over_told : (w : Spelling) (a : Standing) (txs : List Transaction) (over : Option Over) (left : Left) (written : List ℕ)
    → left_by 0 a txs ≡ Ok (standing left.state (contract_tree left.contract.now)) → left.path ≡ leads_after [] a txs
    → TellsOver w a.contract over written left.path (standing left.state (contract_tree left.contract.now)) → TellsRead w over a txs written
over_told w a txs over left written leads way told =
    let there = standing left.state (contract_tree left.contract.now) in
    inr (record { there = there; leads = leads; holds = subst (λ p. TellsOver w a.contract over written p there) way told })

-- the first that is refused
pub read_refused : (w : Spelling) (over : Option Over) (a : Standing) (txs : List Transaction) (written : List ℕ) → TellsRefused w a txs written → TellsRead w over a txs written
read_refused w over a txs written told = inl told

-- once they are read, or aren't
module _ (w : Spelling) (over : Option Over) (a : Standing) (ts : Sources) (written : List ℕ) (r : Result (List Transaction) ReadFault) where
  pub these_told : (txs : List Transaction) → r ≡ Ok txs → TellsRead w over a txs written → TellsThese w over a ts written r
  these_told txs is told = subst (TellsThese w over a ts written) (sym is) told

  pub these_unread : (fault : ReadFault) → r ≡ Err fault → TellsUnread w ts fault written → TellsThese w over a ts written r
  these_unread fault is told = subst (TellsThese w over a ts written) (sym is) told

if_over : {F : Type 0} (w : Spelling) (a : Standing) (txs : List Transaction) (over : Option Over) (left : Left) (made : Result (Vec ℕ Global) F)
    → left_by 0 a txs ≡ Ok (standing left.state (contract_tree left.contract.now)) → left.path ≡ leads_after [] a txs
    → IfOk made (λ written. TellsOver w a.contract over written.items left.path (standing left.state (contract_tree left.contract.now)))
    → IfOk made (λ written. TellsRead w over a txs written.items)
if_over w a txs over left (Ok written) leads way told = over_told w a txs over left written.items leads way told
if_over w a txs over left (Err fault) leads way told = tt

pub over_by : {F : Type 0} (w : Spelling) (a : Standing) (txs : List Transaction) (over : Option Over) (left : Left) (made result : Result (Vec ℕ Global) F)
    → left_by 0 a txs ≡ Ok (standing left.state (contract_tree left.contract.now)) → left.path ≡ leads_after [] a txs
    → IfOk made (λ written. TellsOver w a.contract over written.items left.path (standing left.state (contract_tree left.contract.now)))
    → result ≡ made → IfOk result (λ written. TellsRead w over a txs written.items)
over_by w a txs over left made result leads way told is =
    subst (λ r. IfOk r (λ written. TellsRead w over a txs written.items)) (sym is) (if_over w a txs over left made leads way told)
