-- The steps of a transaction whose inputs name each output once, and which spends what they find.
use Rattle.std.proofs.Common.{◌≡◌, false, List, [], ◌∷◌, refl, sym, ◌∙◌, ap, subst, Option, Some, None}
use Rattle.std.specs.Prelude.{map}
use Rattle.roles.specs.Machine.declared.datum.Datum.{Datum}
use Rattle.roles.specs.EutxoTypes.declared.output.Output.{Output}
use Rattle.roles.specs.EutxoTypes.declared.output_ref.OutputRef.{OutputRef}
use Rattle.roles.specs.EutxoTypes.declared.spend.Spend.{Spend}
use Rattle.roles.specs.EutxoTypes.Parts.{same_ref, ContractLock, contract_in}
use Rattle.roles.specs.Eutxo.BlockLaws.{AllDiffer, AreFresh}
use Rattle.roles.specs.Eutxo.Found.{with_output, with_outputs}
use Rattle.roles.specs.Eutxo.Rules.{or_step, steps_of}
use Rattle.ledger_laws.proofs.PlainLaws.{EachFalse}
use Rattle.ledger_laws.proofs.FreshLemmas.{Fresh}
use Rattle.ledger_laws.proofs.PairedLemmas.{Paired}

-- where no two inputs name one output, no two steps do
differ : (r : OutputRef) (find : OutputRef → Option Output) (xs : List Spend) (ys : List (Spend × Output)) (ds : List Datum) → Paired find xs ys → EachFalse (λ y. same_ref r y.reference) xs → AllDiffer r (steps_of ys ds)
differ r find [] [] ds p h = tt
differ r find [] (y ∷ ys) ds p h = absurd p
differ r find (x ∷ xs) [] ds p h = absurd p
differ r find (x ∷ xs) (y ∷ ys) ds p h = by (contract_in y.1.lock) ds (λ es. differ r find xs ys es p.2 h.1)
  where
    by : (l : Option ContractLock) (es : List Datum) → ((fs : List Datum) → AllDiffer r (steps_of ys fs)) → AllDiffer r (or_step l y.0 es (steps_of ys))
    by None es go = go es
    by (Some c) [] go = tt
    by (Some c) (d ∷ es) go = (subst (λ (z : Spend). same_ref r z.reference ≡ false) (sym p.0) h.0, go es)

pub fresh_steps : (find : OutputRef → Option Output) (xs : List Spend) (ys : List (Spend × Output)) (ds : List Datum) → Paired find xs ys → Fresh xs → AreFresh (steps_of ys ds)
fresh_steps find [] [] ds p h = tt
fresh_steps find [] (y ∷ ys) ds p h = absurd p
fresh_steps find (x ∷ xs) [] ds p h = absurd p
fresh_steps find (x ∷ xs) (y ∷ ys) ds p h = by (contract_in y.1.lock) ds (λ es. fresh_steps find xs ys es p.2 h.1) (λ es. differ x.reference find xs ys es p.2 h.0)
  where
    by : (l : Option ContractLock) (es : List Datum) → ((fs : List Datum) → AreFresh (steps_of ys fs)) → ((fs : List Datum) → AllDiffer x.reference (steps_of ys fs)) → AreFresh (or_step l y.0 es (steps_of ys))
    by None es go apart = go es
    by (Some c) [] go apart = tt
    by (Some c) (d ∷ es) go apart = (subst (λ (z : Spend). AllDiffer z.reference (steps_of ys es)) (sym p.0) (apart es), go es)

-- what is spent is the same by every look-up that finds as much
pub pairs_by : (find f : OutputRef → Option Output) → ((r : OutputRef) (o : Output) → find r ≡ Some o → f r ≡ Some o) → (xs : List Spend) (ys : List (Spend × Output)) → Paired find xs ys →
    with_outputs xs (map (λ x. f x.reference) xs) ≡ Some ys
pairs_by find f k [] [] p = refl
pairs_by find f k [] (y ∷ ys) p = absurd p
pairs_by find f k (x ∷ xs) [] p = absurd p
pairs_by find f k (x ∷ xs) (y ∷ ys) p =
    ap (λ (o : Option Output). with_output x o (with_outputs xs (map (λ x. f x.reference) xs))) (k x.reference y.1 p.1)
    ∙ ap (with_output x (Some y.1)) (pairs_by find f k xs ys p.2)
    ∙ ap (λ (z : Spend). Some (let w : Spend × Output = (z, y.1) in w ∷ ys)) (sym p.0)
