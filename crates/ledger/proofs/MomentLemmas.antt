-- Rules that read the ledger, read off what was found there, and before other rules.
use Rattle.std.proofs.Common.{◌≡◌, ◌+◌, Bool, cond, not, List, [], ◌∷◌, ◌++◌, length, map, refl, sym, ◌∙◌, ap, Option, Some, None}
use Rattle.std.specs.Prelude.{nat_lt, is_none, option_map}
use Rattle.std.specs.List.{position, position_or_len}
use Rattle.std.proofs.lemmas.List.{length-map}
use Rattle.roles.specs.EutxoTypes.declared.fault.TxFault.{TxFault}
use Rattle.roles.specs.EutxoTypes.declared.fault.TxFault.TheVariants.{NotUnspent}
use Rattle.roles.specs.EutxoTypes.declared.output.Output.{Output}
use Rattle.roles.specs.EutxoTypes.declared.spend.Spend.{Spend}
use Rattle.roles.specs.EutxoTypes.declared.tx.Tx.{Tx}
use Rattle.roles.specs.Eutxo.Asked.{Judges}
use Rattle.roles.specs.Eutxo.Faults.{first_of, fault_at}
use Rattle.roles.specs.Eutxo.declared.judged.Judged.{Judged}
use Rattle.roles.specs.Eutxo.Local.{tx_fault, local, places_of, judged_as, judged}
use Rattle.roles.specs.Eutxo.Judgement.{Moment, not_unspent, id_in_use, outside_interval, unknown_script, outputs_found, found, judge, judgement}
use Rattle.ledger.specs.ResolveSupport.{moment_fault}

-- the place where a test holds, of elements or of what a function makes of them
same_first : {A B : Type 0} (test : B → Bool) (f : A → B) (xs : List A) → position_or_len test (map f xs) ≡ position_or_len (λ x. test (f x)) xs
same_first test f [] = refl
same_first test f (x ∷ xs) = ap (λ n. cond (not (test (f x))) (1 + n) 0) (same_first test f xs)

same_place : {A B : Type 0} (test : B → Bool) (f : A → B) (xs : List A) → position test (map f xs) ≡ position (λ x. test (f x)) xs
same_place test f xs =
    ap (λ n. cond (nat_lt n (length (map f xs))) (Some n) None) (same_first test f xs)
    ∙ ap (λ n. cond (nat_lt (position_or_len (λ x. test (f x)) xs) n) (Some (position_or_len (λ x. test (f x)) xs)) None) (length-map xs f)

-- rule 4, by what was found of the inputs
pub unspent_so : {V : Type 0} (m : Moment V) (tx : Tx) (outputs : List (Option Output)) → outputs ≡ outputs_found m tx → fault_at NotUnspent is_none outputs ≡ not_unspent m tx
unspent_so m tx outputs h =
    ap (λ (os : List (Option Output)). fault_at NotUnspent is_none os) h
    ∙ ap (option_map NotUnspent) (same_place is_none (λ (x : Spend). m.unspent x.reference) tx.inputs)

-- ---- rules in a row

some_before : {A : Type 0} (xs ys : List (Option A)) (x : A) → first_of xs ≡ Some x → first_of (xs ++ ys) ≡ Some x
some_before [] ys x h = cc
some_before (None ∷ xs) ys x h = some_before xs ys x h
some_before (Some y ∷ xs) ys x h = h

none_before : {A : Type 0} (xs ys : List (Option A)) → first_of xs ≡ None → first_of (xs ++ ys) ≡ first_of ys
none_before [] ys h = refl
none_before (None ∷ xs) ys h = none_before xs ys h
none_before (Some y ∷ xs) ys h = cc

alone : {A : Type 0} (o : Option A) → first_of (o ∷ []) ≡ o
alone None = refl
alone (Some x) = refl

module _ {V : Type 0} (j : Judges V) (m : Moment V) (tx : Tx) where
  refused_so : (f : TxFault) → judge j m tx ≡ Some f → ◌≡◌ {A = Judged} (record { fault = Some f; places = [] }) (judgement j m tx)
  refused_so f h = ap (λ (z : Option TxFault). judged_as z (places_of j tx (found m tx))) (sym h)

  -- where one of rules 1 to 3 refuses, that is the judgement
  pub judged_first : (f : TxFault) → tx_fault tx ≡ Some f → ◌≡◌ {A = Judged} (record { fault = Some f; places = [] }) (judgement j m tx)
  judged_first f h =
      refused_so f (ap (λ (o : Option TxFault). first_of (o ∷ not_unspent m tx ∷ id_in_use m tx ∷ outside_interval m tx ∷ unknown_script m tx ∷ local j tx (found m tx) ∷ [])) h)

  -- where they don't and one of 4 to 7 does, that is the judgement
  pub judged_before : (f : TxFault) → tx_fault tx ≡ None → moment_fault m tx ≡ Some f → ◌≡◌ {A = Judged} (record { fault = Some f; places = [] }) (judgement j m tx)
  judged_before f none h =
      let rules : List (Option TxFault) = not_unspent m tx ∷ id_in_use m tx ∷ outside_interval m tx ∷ unknown_script m tx ∷ [] in
      let last : List (Option TxFault) = local j tx (found m tx) ∷ [] in
      refused_so f (ap (λ o. first_of (o ∷ rules ++ last)) none ∙ some_before rules last f h)

  -- and where none of 1 to 7 does, it is the local judgement
  pub judged_last : tx_fault tx ≡ None → moment_fault m tx ≡ None → judged j tx (found m tx) ≡ judgement j m tx
  judged_last none h =
      let rules : List (Option TxFault) = not_unspent m tx ∷ id_in_use m tx ∷ outside_interval m tx ∷ unknown_script m tx ∷ [] in
      let last : List (Option TxFault) = local j tx (found m tx) ∷ [] in
      ap (λ (z : Option TxFault). judged_as z (places_of j tx (found m tx))) (sym (ap (λ o. first_of (o ∷ rules ++ last)) none ∙ none_before rules last h ∙ alone (local j tx (found m tx))))
