-- The rules that are judged where nothing is missing.
use Rattle.std.proofs.Common.{◌≡◌, ℕ, List, sym, subst, Option, Some, Result}
use Rattle.std.specs.Prelude.{IfOk}
use Rattle.eutxo_types.specs.declared.output.Output.{Output}
use Rattle.eutxo_types.specs.declared.spend.Spend.{Spend}
use Rattle.eutxo_types.specs.declared.tx.Tx.{Tx}
use Rattle.eutxo.specs.declared.judged.Judged.{Judged}
use Rattle.eutxo.specs.Asked.{Judges}
use Rattle.eutxo.specs.Blocks.{blocks_on, places_in}
use Rattle.eutxo.specs.Local.{spent_fault, whole_fault, judged_as}

pub whole_so : {V E : Type 0} (j : Judges V) (named : List ℕ → Option V) (tx : Tx) (o : Option (List (Spend × Output))) (ys : List (Spend × Output)) (r : Result Judged E) → o ≡ Some ys →
    IfOk r (λ a. a ≡ judged_as (spent_fault j named tx ys) (places_in (blocks_on j named tx (Some ys)))) → IfOk r (λ a. a ≡ judged_as (whole_fault j named tx o) (places_in (blocks_on j named tx o)))
whole_so j named tx o ys r e h = subst (λ (z : Option (List (Spend × Output))). IfOk r (λ a. a ≡ judged_as (whole_fault j named tx z) (places_in (blocks_on j named tx z)))) (sym e) h
