-- From what a transaction spends to the judgement.
use Rattle.std.proofs.Common.{◌≡◌, ℕ, ℤ, ◌≤ℤ◌, int_le, Bool, true, false, not, ◌&&◌, List, [], ◌∷◌, map, refl, ap, ◌∙◌, Option, Some, None, arith}
use Rattle.std.proofs.lemmas.Int.{ints}
use Rattle.std.specs.Prelude.{is_some, is_none, if◌then◌else◌}
use Rattle.std.specs.List.{list_all, AllByRecursion}
use Rattle.ledger_spec.specs.EutxoTypes.declared.fault.TxFault.TheVariants.{NotUnspent, IdInUse, OutsideInterval, UnknownScript}
use Rattle.ledger_spec.specs.EutxoTypes.declared.output.Output.{Output}
use Rattle.ledger_spec.specs.EutxoTypes.declared.output_ref.OutputRef.{OutputRef}
use Rattle.ledger_spec.specs.EutxoTypes.declared.spend.Spend.{Spend}
use Rattle.ledger_spec.specs.EutxoTypes.declared.tx.Tx.{Tx}
use Rattle.ledger_spec.specs.EutxoTypes.Ids.{id_of}
use Rattle.ledger_spec.specs.Eutxo.declared.resolved.Resolved.{Resolved}
use Rattle.ledger_spec.specs.Eutxo.Found.{script_at, is_known, all_known, with_output, with_outputs, if_known, whole}
use Rattle.ledger_spec.specs.Eutxo.Judgement.{Moment, not_unspent, id_in_use, outside_interval, is_unknown, unknown_script, outputs_found, found, judge}
use Rattle.ledger_spec.specs.Eutxo.Laws.{FoundIsEnough}
use Rattle.ledger_spec.specs.Eutxo.Local.{tx_fault, spent_fault, whole_fault, local}
use Rattle.ledger_spec.specs.Eutxo.Faults.{or_else}
use Rattle.ledger_spec.specs.Roles.declared.published.Published.{Published}
use Rattle.ledger_spec.specs.Ledger.declared.look.Unspent.{Unspent}
use Rattle.ledger_spec.specs.Roles.Steps.{marlowe}
use Rattle.builder_laws.specs.Accepting.{contents, Passes}
use Rattle.ledger_spec.specs.Open.{Admits}
use Rattle.builder_laws.proofs.TestLemmas.{Nowhere, both, by_recursion, all_everywhere, no_fault, none_of, if_not}
use Rattle.builder_laws.proofs.NamedLemmas.{refs}
use Rattle.builder_laws.proofs.PairLemmas.{names}

-- a transaction spends these, and none of its own rules refuses it, where this is published under ids
pub record IsClean (named : List ℕ → Option Published) (tx : Tx) (spent : List Unspent) (ys : List (Spend × Output)) : Type 0 where
  pub first : tx_fault tx ≡ None
  pub names : refs tx.inputs ≡ names spent
  pub pairs : with_outputs tx.inputs (contents spent) ≡ Some ys
  pub known : all_known named tx.outputs ys ≡ true
  pub rules : spent_fault marlowe named tx ys ≡ None

if_all : {A : Type 0} (b : Bool) (x : A) → b ≡ true → (if b then Some x else None) ≡ Some x
if_all b x h = ap (λ c. if c then Some x else None) h

module _ (named : List ℕ → Option Published) (tx : Tx) (spent : List Unspent) (ys : List (Spend × Output)) (h : IsClean named tx spent ys) where
  abbrev is_whole : Type 0
  is_whole = if_known named tx.outputs (with_outputs tx.inputs (contents spent)) ≡ Some ys

  its_whole : is_whole
  its_whole = ap (if_known named tx.outputs) h.pairs ∙ if_all (all_known named tx.outputs ys) ys h.known

-- on each resolution with these outputs
pub passes : (tx : Tx) (found : Resolved Published) (spent : List Unspent) (ys : List (Spend × Output)) → IsClean (script_at found.scripts) tx spent ys → found.outputs ≡ contents spent → Passes tx found
passes tx found spent ys h e =
    let all : whole tx found ≡ Some ys = ap (λ os. if_known (script_at found.scripts) tx.outputs (with_outputs tx.inputs os)) e ∙ its_whole (script_at found.scripts) tx spent ys h in (
      ap is_some all,
      ap (or_else (tx_fault tx)) (ap (whole_fault marlowe (script_at found.scripts) tx) all ∙ h.rules) ∙ ap (λ f. or_else f None) h.first,
    )

-- ---- on a ledger

each_missing : (f : Spend → Option Output) (xs : List Spend) (ys : List (Spend × Output)) → with_outputs xs (map f xs) ≡ Some ys → Nowhere (λ x. is_none (f x)) xs
each_missing f [] ys h = tt
each_missing f (x ∷ xs) ys h = by (f x) (with_outputs xs (map f xs)) h (each_missing f xs)
  where
    by : (o : Option Output) (rest : Option (List (Spend × Output))) → with_output x o rest ≡ Some ys → ((zs : List (Spend × Output)) → rest ≡ Some zs → Nowhere (λ x. is_none (f x)) xs) → (is_none o ≡ false) × Nowhere (λ x. is_none (f x)) xs
    by None rest e go = cc
    by (Some o) None e go = cc
    by (Some o) (Some zs) e go = (refl, go zs refl)

each_found : (f : OutputRef → Option Output) (us : List Unspent) → AllByRecursion (λ u. f u.reference ≡ Some u.output) us → map f (names us) ≡ contents us
each_found f [] h = refl
each_found f (u ∷ us) h = ap (λ o. o ∷ map f (names us)) h.0 ∙ ap (λ os. Some u.output ∷ os) (each_found f us h.1)

map_refs : (f : OutputRef → Option Output) (xs : List Spend) → map (λ x. f x.reference) xs ≡ map f (refs xs)
map_refs f [] = refl
map_refs f (x ∷ xs) = ap (λ os. f x.reference ∷ os) (map_refs f xs)

le_is : (a b : ℤ) → a ≤ℤ b → int_le a b ≡ true
le_is a b h = grind (arith, ints)

and_two : (a b : Bool) → a ≡ true → b ≡ true → not (a && b) ≡ false
and_two true b h k = ap not k
and_two false b h k = cc

all_named : (named : List ℕ → Option Published) (os : List Output) → AllByRecursion (λ (o : Output). is_known named o.lock ≡ true) os → Nowhere (is_unknown named) os
all_named named [] h = tt
all_named named (o ∷ os) h = (ap not h.0, all_named named os h.1)

pub judged : FoundIsEnough marlowe → (m : Moment Published) (tx : Tx) (spent : List Unspent) (ys : List (Spend × Output)) → IsClean m.published tx spent ys → Admits m spent tx → judge marlowe m tx ≡ None
judged enough m tx spent ys h a =
    let there : outputs_found m tx ≡ contents spent =
    map_refs m.unspent tx.inputs ∙ ap (map m.unspent) h.names ∙ each_found m.unspent spent (by_recursion (λ u. m.unspent u.reference ≡ Some u.output) spent a.unspent) in
    let all : if_known m.published tx.outputs (with_outputs tx.inputs (outputs_found m tx)) ≡ Some ys =
    ap (λ os. if_known m.published tx.outputs (with_outputs tx.inputs os)) there ∙ its_whole m.published tx spent ys h in
    none_of (tx_fault tx ∷ not_unspent m tx ∷ id_in_use m tx ∷ outside_interval m tx ∷ unknown_script m tx ∷ local marlowe tx (found m tx) ∷ []) (
      h.first,
      (
        no_fault NotUnspent (λ (x : Spend). is_none (m.unspent x.reference)) tx.inputs (each_missing (λ (x : Spend). m.unspent x.reference) tx.inputs ys (ap (with_outputs tx.inputs) there ∙ h.pairs)),
        (
          if_not (m.is_used (id_of tx)) IdInUse a.unused,
          (
            if_not (not (int_le tx.interval.from m.tick && int_le m.tick tx.interval.to)) OutsideInterval (and_two (int_le tx.interval.from m.tick) (int_le m.tick tx.interval.to) (le_is tx.interval.from m.tick a.from) (le_is m.tick tx.interval.to a.to)),
            (
              no_fault UnknownScript (is_unknown m.published) tx.outputs (all_named m.published tx.outputs (all_everywhere (λ (o : Output). is_known m.published o.lock) tx.outputs
                  (both (list_all (λ (o : Output). is_known m.published o.lock) tx.outputs) (list_all (λ (x : Spend × Output). is_known m.published x.1.lock) ys) h.known).0)),
              (
                enough m tx ∙ none_of (tx_fault tx ∷ whole_fault marlowe m.published tx (if_known m.published tx.outputs (with_outputs tx.inputs (outputs_found m tx))) ∷ []) (h.first, (ap (whole_fault marlowe m.published tx) all ∙ h.rules, tt)),
                tt,
              ),
            ),
          ),
        ),
      ),
    )
