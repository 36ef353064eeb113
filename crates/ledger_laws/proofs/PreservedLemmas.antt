-- Each token is preserved over the whole past.
use Rattle.std.proofs.Common.{◌≡◌, ℕ, zero, suc, false, not, ℤ, ◌+ℤ◌, List, [], ◌∷◌, ◌++◌, refl, sym, ◌∙◌, ap, subst, arith, Option, Some, None, take, length}
use Rattle.std.specs.Prelude.{filter}
use Rattle.std.specs.List.{list_any, slice_get}
use Rattle.std.specs.FinMap.Entries.{find}
use Rattle.contract.specs.Collections.Total.{total}
use Rattle.contract.specs.Names.declared.token.Token.{Token}
use Rattle.roles.specs.Bundle.Bundles.{amount_of}
use Rattle.roles.specs.EutxoTypes.declared.output.Output.{Output}
use Rattle.roles.specs.EutxoTypes.declared.output_ref.OutputRef.{OutputRef}
use Rattle.roles.specs.EutxoTypes.declared.output_ref.OutputRef.TheVariants.{Genesis}
use Rattle.roles.specs.EutxoTypes.declared.spend.Spend.{Spend}
use Rattle.roles.specs.EutxoTypes.declared.tx.Tx.{Tx}
use Rattle.roles.specs.EutxoTypes.Ids.{id_of}
use Rattle.roles.specs.Eutxo.Laws.{FoundIsEnough, SumsAreTheSame}
use Rattle.roles.specs.Eutxo.Asked.{Judges}
use Rattle.ledger_laws.specs.Past.{Past, before, with_references, is_spent, unspent, unspent_at, has_id}
use Rattle.ledger_laws.specs.Sound.{IsSound}
use Rattle.ledger_laws.specs.Laws.{TokensArePreserved}
use Rattle.ledger_laws.proofs.PlainLaws.{no_more, take_none, take_some, take_whole, take_twice, taken_at}
use Rattle.ledger_laws.proofs.ReferenceLaws.{created_grown}
use Rattle.ledger_laws.proofs.PairedLemmas.{Paired}
use Rattle.ledger_laws.proofs.AcceptedLaws.{spent_at, passes_at, still_there}
use Rattle.ledger_laws.proofs.ConservedLemmas.{IdsApart, ids_apart, worth_of, amount_in, preserved_so, sum_new}

-- ---- what inputs find

found_sums : (worth : Output → ℤ) (find : OutputRef → Option Output) (xs : List Spend) (ys : List (Spend × Output)) → Paired find xs ys → total (λ x. worth_of worth (find x.reference)) xs ≡ total (λ y. worth y.1) ys
found_sums worth find [] [] p = refl
found_sums worth find [] (y ∷ ys) p = absurd p
found_sums worth find (x ∷ xs) [] p = absurd p
found_sums worth find (x ∷ xs) (y ∷ ys) p =
    ap (λ o. worth_of worth o +ℤ total (λ x. worth_of worth (find x.reference)) xs) p.1 ∙ ap (λ n. worth y.1 +ℤ n) (found_sums worth find xs ys p.2)

module _ {V : Type 0} (j : Judges V) (enough : FoundIsEnough j) (same_totals : SumsAreTheSame) (named : List ℕ → Option V) (past : Past) (sound : IsSound j named past) where
  apart_at : (n : ℕ) → IdsApart (take n past.accepted)
  apart_at n = ids_apart (take n past.accepted) (λ m t e.
      let q = taken_at n m past.accepted t e in
      let l = q.1 in
      subst (λ txs. list_any (has_id (id_of t)) txs ≡ false) (sym (take_twice m n past.accepted (omega (arith, l)))) (passes_at j enough named past sound m t q.0).fresh)

  module _ (t : Token) where
    abbrev worth : Output → ℤ
    worth o = amount_of o.amount t

    abbrev left_of : List Tx → ℤ
    left_of txs = total (amount_in worth) (unspent (record past { accepted = txs }))

    preserved_at : (n : ℕ) → left_of (take n past.accepted) ≡ total worth past.genesis
    preserved_at zero =
        ap (λ l. total (amount_in worth) (filter (λ e. not (is_spent [] e.0)) l)) (no_more (with_references (λ j. Genesis j) 0 past.genesis))
        ∙ sum_new worth (λ j. Genesis j) (λ r. false) (λ i. refl) 0 past.genesis
    preserved_at (suc n) = by (slice_get past.accepted n) refl (preserved_at n)
      where
        by : (o : Option Tx) → slice_get past.accepted n ≡ o → left_of (take n past.accepted) ≡ total worth past.genesis → left_of (take (suc n) past.accepted) ≡ total worth past.genesis
        by None e go = ap left_of (take_none n past.accepted e) ∙ go
        by (Some tx) e go =
            let s = spent_at j enough named past sound n tx e in
            ap left_of (take_some n past.accepted tx e)
            ∙ ap (λ l. total (amount_in worth) (filter (λ e. not (is_spent (take n past.accepted ++ tx ∷ []) e.0)) l)) (created_grown past (take n past.accepted) tx)
            ∙ preserved_so worth (before past n) tx (apart_at n) (passes_at j enough named past sound n tx e).alone
            (found_sums worth (unspent_at (before past n)) tx.inputs s.ys s.pairs ∙ same_totals s.ys tx.outputs s.sums t) (still_there j enough named past sound n tx e)
            ∙ go

    pub preserved : left_of past.accepted ≡ total worth past.genesis
    preserved = ap left_of (sym (take_whole past.accepted)) ∙ preserved_at (length past.accepted)

pub tokens_are_preserved : {V : Type 0} (j : Judges V) → FoundIsEnough j → SumsAreTheSame → TokensArePreserved j
tokens_are_preserved j enough sums named past sound t = preserved j enough sums named past sound t
