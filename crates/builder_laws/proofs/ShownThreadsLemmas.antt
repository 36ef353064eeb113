-- A thread that a ledger shows stands.
use Rattle.std.proofs.Common.{◌≡◌, true, ◌&&◌, sym, ap, ◌∙◌, subst, Option, Some, None}
use Rattle.std.specs.Prelude.{if◌then◌else◌}
use Rattle.std.specs.Cmp.Lexicographic.{bytes_decides}
use Rattle.contract.proofs.FromCollections.SameLaws.{same_by_decides}
use Rattle.ledger_spec.specs.Bundle.contracts.bundle.Bundle as bundles
use Rattle.ledger_spec.specs.Machine.declared.datum.Datum.{Datum}
use Rattle.ledger_spec.specs.EutxoTypes.Digests.{datum_hash}
use Rattle.ledger_spec.specs.EutxoTypes.Parts.{same_bytes, is_contract, ContractLock, Instance, lock_of}
use Rattle.ledger_spec.specs.Eutxo.Laws.{FoundIsEnough}
use Rattle.ledger_spec.specs.Roles.Sums.{sums_of}
use Rattle.ledger_spec.specs.Roles.Steps.{same_amounts, marlowe}
use Rattle.ledger_spec.specs.Roles.Terms.{terms_of}
use Rattle.ledger_spec.specs.BuilderSpec.Steps.{Thread, is_current, thread_in, thread_of}
use Rattle.ledger_spec.specs.LedgerLaws.Laws.{ContractsAreFunded, ContractsAreOfTables}
use Rattle.ledger_spec.specs.LedgerLaws.Threads.{IsMade}
use Rattle.ledger_spec.proofs.FromLedgerLaws.MadeLaws.{made_once}
use Rattle.ledger_spec.proofs.FromLedgerLaws.PartLaws.{is_contract_so}
use Rattle.builder_laws.specs.ShownThreads.{ShownThreadsAreCurrent}
use Rattle.builder_laws.proofs.TestLemmas.{together}

same_some : {A : Type 0} (a b : A) → ◌≡◌ {A = Option A} (Some a) (Some b) → a ≡ b
same_some a b e = cc

pub shown_threads_stand : FoundIsEnough marlowe → ContractsAreFunded → ContractsAreOfTables → ShownThreadsAreCurrent
shown_threads_stand enough funded numbered published past look t tables ids sound shown h =
    let c : ContractLock = h.lock in
    let d : Datum = t.datum in
    let is : is_contract t.output.lock ≡ true = is_contract_so t.output.lock c h.contract in
    let sums = funded published past sound t.reference t.output h.unspent is in
    let number = numbered published past tables sound t.reference t.output h.unspent is in
    let once : (i : Instance) → IsMade past t.reference i → i.datum ≡ d = λ i made. ap (λ (z : Instance). z.datum) (made_once marlowe enough published past sound t.reference h.instance i h.made made) ∙ h.datum in
    let there : sums.0.datum ≡ d = once sums.0 sums.1 in
    let lock : lock_of sums.0 ≡ c = same_some (lock_of sums.0) c (sym sums.2 ∙ h.contract) in
    let digest : datum_hash d ≡ c.digest = ap datum_hash (sym there) ∙ ap (λ (z : ContractLock). z.digest) lock in
    let under : lock_of number.0 ≡ c = same_some (lock_of number.0) c (sym number.2 ∙ h.contract) in
    let object : number.3.0 ≡ t.published = same_some number.3.0 t.published (sym number.3.1 ∙ ap (λ (z : ContractLock). published z.script) under ∙ h.named) in
    let has : (terms_of t.published).has d.cont ≡ true = subst (λ p. (terms_of p).has d.cont ≡ true) object (subst (λ (z : Datum). (terms_of number.3.0).has z.cont ≡ true) (once number.0 number.1) number.3.2) in
    let holds : same_amounts t.output.amount (sums_of d.state) ≡ true = (same_by_decides bundles.the_row.coded t.output.amount (sums_of d.state)).1 (sums.3 ∙ ap (λ (z : Datum). sums_of z.state) there) in
    let well : is_current t c ≡ true =
    together (same_bytes c.script t.published.id) (same_bytes (datum_hash d) c.digest && ((terms_of t.published).has d.cont && same_amounts t.output.amount (sums_of d.state)))
    ((bytes_decides c.script t.published.id).1 (sym (ids c.script t.published h.named)))
    (together (same_bytes (datum_hash d) c.digest) ((terms_of t.published).has d.cont && same_amounts t.output.amount (sums_of d.state)) ((bytes_decides (datum_hash d) c.digest).1 digest)
    (together ((terms_of t.published).has d.cont) (same_amounts t.output.amount (sums_of d.state)) has holds)) in
    ap thread_of shown ∙ ap (thread_in t) h.contract ∙ ap (λ b. if b then (let e : Thread = record { shown = t; datum = d } in Some e) else None) well
