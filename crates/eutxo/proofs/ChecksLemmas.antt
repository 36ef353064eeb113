-- What a check keeps is the judgement of its transaction with any equal resolution.
use Rattle.std.proofs.Common.{◌≡◌, ℕ, Bool, List, Option, Some, None, refl, sym, ap, ◌∙◌}
use Rattle.eutxo_types.specs.declared.fault.TxFault.{TxFault}
use Rattle.eutxo_types.specs.declared.tx.Tx.{Tx}
use Rattle.eutxo.specs.declared.judged.Judged.{Judged}
use Rattle.eutxo.specs.declared.resolved.Resolved.{Resolved}
use Rattle.eutxo.specs.Asked.{Judges}
use Rattle.eutxo.specs.Checks.{CheckOf, IsCheck, IsOf}
use Rattle.eutxo.specs.Local.{local, places_of, unless_refused, judged_as, judged, verdict_of}
use Rattle.eutxo.specs.Laws.{EqualResolutionsDecideAlike, EqualResolutionsGoOnAlike}

one_fault : (f g : Option TxFault) → verdict_of f ≡ verdict_of g → f ≡ g
one_fault None None e = refl
one_fault None (Some g) e = cc
one_fault (Some f) None e = cc
one_fault (Some f) (Some g) e = let d : f ≡ g = cc in ap (λ (z : TxFault). Some z) d

module _ {V : Type 0} (j : Judges V) (eq : V → V → Bool) (tx : Tx) (found : Resolved V) (c : CheckOf V) where
  same_local : EqualResolutionsDecideAlike j eq → IsOf eq tx found c → local j c.tx c.found ≡ local j tx found
  same_local alike of = alike c.tx c.found found of.1 ∙ ap (λ t. local j t found) of.0

  pub same_verdict : EqualResolutionsDecideAlike j eq → IsCheck j c → IsOf eq tx found c → c.verdict ≡ verdict_of (local j tx found)
  same_verdict alike check of = ap (λ (k : CheckOf _). k.verdict) check ∙ ap verdict_of (same_local alike of)

  same_places : EqualResolutionsDecideAlike j eq → EqualResolutionsGoOnAlike j eq → IsCheck j c → IsOf eq tx found c → c.places ≡ (judged j tx found).places
  same_places alike go check of =
      ap (λ (k : CheckOf _). k.places) check
      ∙ ap (λ (f : Option TxFault). unless_refused f (places_of j c.tx c.found)) (same_local alike of)
      ∙ ap (unless_refused (local j tx found)) (go c.tx c.found found of.1 ∙ ap (λ t. places_of j t found) of.0)

  pub same_judged : (fault : Option TxFault) → EqualResolutionsDecideAlike j eq → EqualResolutionsGoOnAlike j eq → IsCheck j c → IsOf eq tx found c → c.verdict ≡ verdict_of fault →
      ◌≡◌ {A = Judged} (record { fault = fault; places = c.places }) (judged j tx found)
  same_judged fault alike go check of v =
      ap (λ (f : Option TxFault). let a : Judged = record { fault = f; places = c.places } in a) (one_fault fault (local j tx found) (sym v ∙ same_verdict alike check of))
      ∙ ap (λ (ps : List (Option ℕ)). let a : Judged = record { fault = local j tx found; places = ps } in a) (same_places alike go check of)
