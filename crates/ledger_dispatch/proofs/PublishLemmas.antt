-- What a publication answers.
use Rattle.std.proofs.Common.{◌≡◌, ℕ, List, sym, ap, Option, Some, None, ◌⊎◌, inl, inr, Result, Ok, Err}
use Rattle.std.specs.Prelude.{MatchOption}
use Rattle.std.specs.Result.{IsOkUnless}
use Rattle.contract.specs.declared.tree.Contract.{Contract}
use Rattle.contract.specs.Tree.{ContractTree, contract_tree}
use Rattle.ledger_views.specs.Compiler.declared.fault.CompileFault.{CompileFault}
use Rattle.ledger_views.specs.Compiler.declared.fault.CompileFault.TheVariants as faults
use Rattle.ledger_views.specs.Compiler.Limits.{compile_fault}
use Rattle.ledger_views.specs.Roles.declared.published.Published.{Published}
use Rattle.ledger_views.specs.Roles.Publications.{published_of}
use Rattle.ledger_views.specs.LedgerSpec.Replay.{if_compiled, publication}

ok_by : (c : ContractTree) (currency : List ℕ) (p : Published) (f : Option CompileFault) →
    MatchOption f (IsOkUnless (let r : Result Published CompileFault = Ok p in r) faults.Memory) (λ e. (let r : Result Published CompileFault = Ok p in r) ≡ Err e) →
    p ≡ published_of c currency → if_compiled c currency f ≡ Ok p
ok_by c currency p None h e = ap (λ (q : Published). let r : Result Published CompileFault = Ok q in r) (sym e)
ok_by c currency p (Some f) h e = cc

pub compiled : (c : Contract) (currency : List ℕ) (p : Published) →
    MatchOption (compile_fault (contract_tree c)) (IsOkUnless (let r : Result Published CompileFault = Ok p in r) faults.Memory) (λ e. (let r : Result Published CompileFault = Ok p in r) ≡ Err e) →
    p ≡ published_of (contract_tree c) currency → publication c currency ≡ Ok p
compiled c currency p h e = ok_by (contract_tree c) currency p (compile_fault (contract_tree c)) h e

err_by : (c : ContractTree) (currency : List ℕ) (g : CompileFault) (f : Option CompileFault) →
    MatchOption f (IsOkUnless (let r : Result Published CompileFault = Err g in r) faults.Memory) (λ e. (let r : Result Published CompileFault = Err g in r) ≡ Err e) →
    (g ≡ faults.Memory) ⊎ (if_compiled c currency f ≡ Err g)
err_by c currency g None h = inl h
err_by c currency g (Some f) h = let e : g ≡ f = cc in inr (ap (λ (x : CompileFault). let r : Result Published CompileFault = Err x in r) (sym e))

pub not_compiled : (c : Contract) (currency : List ℕ) (g : CompileFault) →
    MatchOption (compile_fault (contract_tree c)) (IsOkUnless (let r : Result Published CompileFault = Err g in r) faults.Memory) (λ e. (let r : Result Published CompileFault = Err g in r) ≡ Err e) →
    (g ≡ faults.Memory) ⊎ (publication c currency ≡ Err g)
not_compiled c currency g h = err_by (contract_tree c) currency g (compile_fault (contract_tree c)) h
