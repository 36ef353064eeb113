use Rattle.std.proofs.Common.{◌≡◌, ◌∙◌, ◌||◌, sym, ap, refl, Some, is_some}
use Rattle.std.specs.Map.{lookup}
use Rattle.std.proofs.lemmas.Result.{on_ok_weaker, on_err_weaker}
use Rattle.ledger_spec.specs.EutxoTypes.declared.output_ref.OutputRef.{OutputRef}
use Rattle.ledger_spec.specs.EutxoTypes.Parts.{same_ref}
use Rattle.chain_index.specs.Contents.{is_among}
use Rattle.chain_index.specs.LocksSupport.{refs_in, is_listed}
use Rattle.chain_index.proofs.LockLemmas.{name_same, told_under, noted}
use Rattle.chain_index.proofs.by_lock.list_under.Goals as goal

-- the references that are lent are those under the name
lent : (c : goal.Joined-name) (r : OutputRef) → is_among c.in-Some.refs.now.keys r ≡ is_listed c.args.by_lock.now.entries c.args.name r
lent c r = ap (λ o. is_among (refs_in o) r) (c.in-Some.ensures.value ∙ ap (λ e. lookup (e c.args.name) c.args.by_lock.now.entries) name_same)

pub returns-in-Some-clause-ok : goal.returns-in-Some-clause-ok
returns-in-Some-clause-ok c =
    let old = c.args.by_lock.now in
    let q = c.args.reference in
    let w = c.note.new.set in
    let updates = (c.get_mut.follows.holds w).3 (sym (ap is_some c.in-Some.ensures.value)) in
    on_ok_weaker c.note.result
    (λ e. told_under old.entries (c.get_mut.follows.lender w).entries c.args.name (Some w) updates.0 (λ hit was. hit || was) q (λ b. refl)
    (λ r. noted q c.in-Some.refs.now.keys w.keys e r ∙ ap (λ b. same_ref q r || b) (lent c r)))
    c.note.ensures.ok

pub returns-in-Some-clause-err : goal.returns-in-Some-clause-err
returns-in-Some-clause-err c =
    let old = c.args.by_lock.now in
    let w = c.note.new.set in
    let updates = (c.get_mut.follows.holds w).3 (sym (ap is_some c.in-Some.ensures.value)) in
    on_err_weaker c.note.result
    (λ e. told_under old.entries (c.get_mut.follows.lender w).entries c.args.name (Some w) updates.0 (λ hit was. was) c.args.reference (λ b. refl)
    (λ r. ap (λ rs. is_among rs r) e ∙ lent c r))
    c.note.ensures.err
