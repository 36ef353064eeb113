-- The run of a thread is one of the contract that an entry published.
use Rattle.std.proofs.Common.{◌≡◌, ℕ, List, subst, Option, Some}
use Rattle.contract.specs.Tree.{ContractTree}
use Rattle.ledger_views.specs.EutxoTypes.declared.output_ref.OutputRef.{OutputRef}
use Rattle.ledger_views.specs.Roles.declared.published.Published.{Published}
use Rattle.ledger_views.specs.Roles.Steps.{marlowe}
use Rattle.ledger_views.specs.Ledger.declared.call.Entry.{Entry}
use Rattle.ledger_views.specs.LedgerLaws.Laws.{EachIsARun, IsOneRun}
use Rattle.ledger_views.specs.LedgerLaws.Past.{Past}
use Rattle.ledger_views.specs.LedgerLaws.Threads.{BringsWhatWasMade}
use Rattle.ledger_views.specs.LedgerSpec.Headline.{EachIsARunOfItsContract, EachIsJustOneRun}
use Rattle.ledger_views.specs.LedgerSpec.Publishing.{IsPublication}

-- what the root stands for is the entry's contract
pub runs_of_contracts : (es : List Entry) (known : List ℕ → Option Published) (past : Past) → ((id : List ℕ) (p : Published) → known id ≡ Some p → IsPublication es id p) → EachIsARun known past → EachIsARunOfItsContract es known past
runs_of_contracts es known past published runs r i start =
    let a = runs r i start in
    let x = published i.script a.0 a.1 in
    (a.0, a.1, x, subst (λ (c : ContractTree). IsOneRun known past r i a.0 c) x.tree a.2)

-- and, where each thread brings what was made, the one list of members that it carries is a run
pub just_one_run : (es : List Entry) (known : List ℕ → Option Published) (past : Past) → EachIsARunOfItsContract es known past → ((r : OutputRef) → BringsWhatWasMade marlowe known past r) → EachIsJustOneRun es known past
just_one_run es known past runs brings r i start =
    let a = runs r i start in
    let one = a.3 in
    (a.0, a.1, a.2, (one.carried.0, (one.run (brings r), one.carried.1), λ y h. one.carried.2 y h.1))
