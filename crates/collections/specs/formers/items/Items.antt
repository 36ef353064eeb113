-- How `Items` keeps what it holds, so that a type may hold an `Items` of itself. No reader needs this file: the prover asks for it.
use mathlib.Core.Path.{◌≡◌, refl, sym}
use mathlib.Core.List.{List, []}
use mathlib.Core.Former.{Former, this, list, via, children}
use base.Stored.{code_map}
use denote.RattleType.{RattleType}
use denote.HoleLaws.{Alike}
use denote.HolePlaces.{Recodes, struct_places, laid}
use denote.Hole.Carrier.{listed, list-listed}
use denote.Hole.Fix.{over}
use denote.Model.Placed.{view_places}
use denote.Param.Weighed.{Weighed, w_list}
use Rattle.std.specs.declared.alloc.Global.{Global}
use Rattle.std.specs.contracts.alloc.Global as global
use Rattle.std.specs.contracts.impls.GlobalAllocator.TheImpl.{ghosts}
use Rattle.std.specs.formers.vec.Vec as vec
use Rattle.collections.specs.declared.items.Items.TheInside.{Inside}
use Rattle.collections.specs.declared.items.Items.TheView.{view, invariant}
use Rattle.collections.specs.contracts.items.Items as seen
use Rattle.collections.specs.contracts.items.Items.TheInside as kept

-- what clauses see: a list
abbrev pub the_former : Former {0} → Former {0}
the_former = list

-- a list weighs what its items weigh
abbrev pub the_weighed : {element : Former {0}} → Weighed element → Weighed (the_former element)
the_weighed = w_list

-- the list with no item
pub the_empty : List ⊥
the_empty = []

-- the items of a list
abbrev pub the_items : (X : Type 0) → List X → List X
the_items X xs = xs

-- the children of a list are its items
pub the_items_listed : (X : Type 0) (xs : List X) → listed _ (children (the_former this) X xs) ≡ the_items X xs
the_items_listed = list-listed

-- what the fields are: a vector
abbrev vector : Former {0}
vector = via (vec.the_former this Global) Inside (λ X own. own.vec) (λ X v. record { vec = v }) (λ X own. refl) (λ X v. refl)

module _ (A B : RattleType) (f : A.Denot → B.Denot) where
  -- the fields of an `Items` of B's are laid out, own and lend as those of an `Items` of A's, item by item
  fields_alike : Alike A B f → Alike (kept.the_row A) (kept.the_row B) (vector.map A.Denot B.Denot f)
  fields_alike same =
      let inner : Alike _ _ (vec.mapped f) = vec.the_places global.the_row ghosts A B f same in
      struct_places (kept.the_type A) (kept.the_type B) (vec.mapped f, tt) _ (λ own. refl) refl (laid _ _ _ inner, tt)

  -- and so is the struct, seen as the list
  pub the_places : Alike A B f → Alike (seen.the_row A) (seen.the_row B) ((the_former this).map A.Denot B.Denot f)
  the_places same = view_places vector (list this) view (λ X Y g own. refl) (λ X own. refl)
      A.Denot B.Denot f (seen.the_row A).coded (seen.the_row B).coded
      (invariant A.Denot) (invariant B.Denot) (λ own p q. refl) (λ own p q. refl) (λ own p. tt) (λ own p. tt)
      (over (kept.the_row A)) (over (kept.the_row B)) (fields_alike same)

  -- codes go along item by item
  pub the_codes_placed : Recodes A B f → Recodes (seen.the_row A) (seen.the_row B) ((the_former this).map A.Denot B.Denot f)
  the_codes_placed same xs = sym (code_map A.coded.code B.coded.code f (λ x. sym (same x)) xs)
