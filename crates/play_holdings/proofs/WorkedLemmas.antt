-- The worked rows.
use Rattle.std.proofs.Common.{◌≡◌, ℤ, pos, ◌+ℤ◌, Bool, true, false, cond, List, [], ◌∷◌, codes, refl, arith}
use Rattle.std.proofs.lemmas.Int.{ints}
use Rattle.std.specs.Fmt.{digits}
use Rattle.json.proofs.OnLiterals.{json_on_literals}
use Rattle.hex.proofs.OnLiterals.{hex_on_literals}
use Rattle.eutxo.specs.Names.Equal.{ada}
use Rattle.play_holdings.specs.declared.holder.Holder.TheVariants.{Address, Payout}
use Rattle.play_holdings.specs.Rows.{gold, KindsStandInOrder, EachKindStandsInOrder, LocksTellHolders, OutputsAreSummed, HoldingsArePrinted}

pub kinds_stand_in_order : KindsStandInOrder
kinds_stand_in_order = (refl, refl, refl)

pub each_kind_stands_in_order : EachKindStandsInOrder
each_kind_stands_in_order = (refl, refl, refl, refl, refl, refl)

pub locks_tell_holders : LocksTellHolders
locks_tell_holders digest = (refl, refl, refl, refl)

first : (x y z : ℤ) → pos 75 +ℤ (x +ℤ (y +ℤ (z +ℤ pos 0))) ≡ z +ℤ (pos 30 +ℤ (x +ℤ (y +ℤ (pos 45 +ℤ pos 0))))
first x y z = omega (arith, ints)

others : (x y z : ℤ) → pos 0 +ℤ (x +ℤ (y +ℤ (z +ℤ pos 0))) ≡ z +ℤ (pos 0 +ℤ (x +ℤ (y +ℤ (pos 0 +ℤ pos 0))))
others x y z = omega (arith, ints)

-- of four that are asked for or not, the second's two amounts are one
same_sums : (a b c d : Bool) → cond a (pos 75) (pos 0) +ℤ (cond b (pos 1) (pos 0) +ℤ (cond c (pos 10) (pos 0) +ℤ (cond d (pos 50) (pos 0) +ℤ pos 0)))
    ≡ cond d (pos 50) (pos 0) +ℤ (cond a (pos 30) (pos 0) +ℤ (cond b (pos 1) (pos 0) +ℤ (cond c (pos 10) (pos 0) +ℤ (cond a (pos 45) (pos 0) +ℤ pos 0))))
same_sums a b c d =
    let x = cond b (pos 1) (pos 0) in
    let y = cond c (pos 10) (pos 0) in
    let z = cond d (pos 50) (pos 0) in
    elim a as (λ e. cond e (pos 75) (pos 0) +ℤ (x +ℤ (y +ℤ (z +ℤ pos 0))) ≡ z +ℤ (cond e (pos 30) (pos 0) +ℤ (x +ℤ (y +ℤ (cond e (pos 45) (pos 0) +ℤ pos 0))))) [
      | true ↦ first x y z
      | false ↦ others x y z
    ]

pub outputs_are_summed : OutputsAreSummed
outputs_are_summed = record {
  ascend = ((refl, (refl, (refl, tt))), ((refl, (refl, tt)), ((refl, tt), (tt, tt))));
  above = (omega (arith, ints), (omega (arith, ints), (omega (arith, ints), (omega (arith, ints), tt))));
  same = λ asked. same_sums (asked (Address (codes "ann")) ada) (asked (Address (codes "ann")) gold) (asked (Address (codes "bank")) ada) (asked (Payout (0xaa ∷ []) (codes "b")) ada);
}

pub holdings_are_printed : HoldingsArePrinted
unfolding digits json_on_literals hex_on_literals
holdings_are_printed first second name = rw name refl
