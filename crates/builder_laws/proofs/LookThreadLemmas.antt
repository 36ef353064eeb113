-- The thread that a look shows.
use Rattle.std.proofs.Common.{◌≡◌, Bool, true, false, ◌&&◌, refl, sym, ap, ◌∙◌, subst, Option, Some, None}
use Rattle.std.specs.Prelude.{if◌then◌else◌}
use Rattle.std.specs.Cmp.Lexicographic.{bytes_decides}
use Rattle.contract.proofs.FromCollections.SameLaws.{same_by_decides}
use Rattle.ledger_spec.specs.Bundle.contracts.bundle.Bundle as bundles
use Rattle.ledger_spec.specs.EutxoTypes.declared.lock.Lock.TheVariants.{Contract}
use Rattle.ledger_spec.specs.EutxoTypes.Digests.{datum_hash}
use Rattle.ledger_spec.specs.EutxoTypes.Parts.{same_bytes, ContractLock, contract_in}
use Rattle.ledger_spec.specs.Roles.Sums.{sums_of}
use Rattle.ledger_spec.specs.Roles.Terms.{terms_of}
use Rattle.ledger_spec.specs.Roles.Steps.{same_amounts}
use Rattle.ledger_spec.specs.Ledger.declared.look.Look.{Look}
use Rattle.ledger_spec.specs.Ledger.declared.look.ThreadOutput.{ThreadOutput}
use Rattle.ledger_spec.specs.BuilderSpec.Steps.{Thread, thread_terms, is_current, thread_in, thread_of, look_thread}
use Rattle.ledger_spec.proofs.FromLedgerLaws.PartLaws.{lock_so}
use Rattle.builder_laws.proofs.TestLemmas.{both}

-- it has the lock of what is published, with the datum's digest, stands at a number of the table, and holds the sums of its accounts
pub record IsThread (e : Thread) : Type 0 where
  pub lock : e.shown.output.lock ≡ Contract e.shown.published.id (datum_hash e.datum)
  pub number : (thread_terms e).has e.datum.cont ≡ true
  pub sums : e.shown.output.amount ≡ sums_of e.datum.state

stands_so : (t : ThreadOutput) (c : ContractLock) → contract_in t.output.lock ≡ Some c → is_current t c ≡ true → IsThread (record { shown = t; datum = t.datum })
stands_so t c h s =
    let d = t.datum in
    let one = both (same_bytes c.script t.published.id) (same_bytes (datum_hash d) c.digest && ((terms_of t.published).has d.cont && same_amounts t.output.amount (sums_of d.state))) s in
    let two = both (same_bytes (datum_hash d) c.digest) ((terms_of t.published).has d.cont && same_amounts t.output.amount (sums_of d.state)) one.1 in
    let three = both ((terms_of t.published).has d.cont) (same_amounts t.output.amount (sums_of d.state)) two.1 in
    let id : c.script ≡ t.published.id = (bytes_decides c.script t.published.id).0 one.0 in
    let digest : datum_hash d ≡ c.digest = (bytes_decides (datum_hash d) c.digest).0 two.0 in
    record {
      lock = lock_so t.output.lock c h ∙ ap (λ script. Contract script c.digest) id ∙ ap (Contract t.published.id) (sym digest);
      number = three.0;
      sums = (same_by_decides bundles.the_row.coded t.output.amount (sums_of d.state)).0 three.1;
    }

in_so : (t : ThreadOutput) (o : Option ContractLock) (e : Thread) → contract_in t.output.lock ≡ o → thread_in t o ≡ Some e → IsThread e
in_so t None e q h = cc
in_so t (Some c) e q h = by (is_current t c) refl h
  where
    by : (b : Bool) → is_current t c ≡ b → (if b then (let z : Thread = record { shown = t; datum = t.datum } in Some z) else None) ≡ Some e → IsThread e
    by true s k =
        let same : (let z : Thread = record { shown = t; datum = t.datum } in z) ≡ e = cc in
        subst IsThread same (stands_so t c q s)
    by false s k = cc

of_so : (o : Option ThreadOutput) (e : Thread) → thread_of o ≡ Some e → IsThread e
of_so None e h = cc
of_so (Some t) e h = in_so t (contract_in t.output.lock) e refl h

pub thread_so : (look : Look) (e : Thread) → look_thread look ≡ Some e → IsThread e
thread_so look e h = of_so look.thread e h
